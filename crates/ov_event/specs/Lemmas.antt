-- Lemmas that the code cites for the laws of its types. Each is proved, and nothing here has to be believed.
use Rattle.std.specs.Prelude.{◌≡◌, false, ◌⊎◌}
use Rattle.ov_base.specs.Lemmas.{fails_or_same}
use Rattle.ov_event.specs.declared.kind.Kind.{Kind}
use Rattle.ov_event.specs.contracts.kind.KindPartialEq.TheImpl.{ghosts}
use Rattle.ov_event.specs.contracts.kind.KindPlain.TheImpl.Laws.{exact-law}

-- a test of kinds fails, or the two are the same, in the form that `grind` applies by itself
pub kind-cases : (x y : Kind) → (ghosts.eq x y ≡ false) ⊎ (x ≡ y)
kind-cases x y = fails_or_same (ghosts.eq x y) (exact-law x y)
