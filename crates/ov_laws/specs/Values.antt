-- Settled values that agree.
use Rattle.std.specs.Prelude.{◌≡◌}
use Rattle.ov_functor.specs.declared.item.Valued.{Valued}
use Rattle.ov_history.specs.Past.{History}
use Rattle.ov_laws.specs.Entries.{IsSettled}

-- two settled values of one version and key are equal, whichever settlers settled them
abbrev pub SettledAlike : History → Type 0
SettledAlike h = (x y : Valued) → IsSettled h x → IsSettled h y → x.version ≡ y.version → x.key ≡ y.key → x.value ≡ y.value
