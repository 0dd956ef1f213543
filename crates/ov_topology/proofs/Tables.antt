-- A table as the code keeps it, and as contracts see it.
use Rattle.std.proofs.Common.{◌≡◌, ℕ, ℤ, List, [], ◌∷◌, length, Option, Some, None, refl, ap, arith, String, Global, IsUtf8, inl, inr}
use Rattle.std.specs.Str.{is_utf8}
use Rattle.std.proofs.lemmas.Str.{is_utf8-from_IsUtf8, IsUtf8-from_is_utf8}
use Rattle.std.proofs.lemmas.Bool.{cases_Bool}
use Rattle.toml.specs.Data.{as_integer}
use Rattle.toml.specs.Parse.{parse_document}
use Rattle.toml.specs.Errors.{IsMemory}
use Rattle.toml.specs.View.{view, members_view, items_view}
use Rattle.toml.specs.declared.value.Value.{Value}
use Rattle.toml.specs.declared.de.error.Error.{Error}
use Rattle.ov_base.specs.Split.{all_of}
use Rattle.ov_base.specs.Word.{◌>>=◌}
use Rattle.ov_topology.specs.Read.{count_members, integers, integer_at, document, table_of, Fails, IsCause}
use Rattle.ov_topology.specs.declared.fault.TopologyError.{TopologyError}
use Rattle.ov_topology.specs.declared.fault.TopologyError.TheVariants as fault

pub count_members-view : (es : List (String Global × Value)) → count_members (members_view es) ≡ length es
count_members-view [] = refl
count_members-view (e ∷ es) = let h = count_members-view es in omega (arith, h)

pub integers-view : (vs : List Value) → integers (items_view vs) ≡ all_of integer_at vs
integers-view [] = refl
integers-view (v ∷ vs) = ap (λ (o : Option (List ℤ)). as_integer (view v) >>= λ z. o >>= λ zs. Some (z ∷ zs)) (integers-view vs)

pub no_document : (bytes : List ℕ) → (IsUtf8 bytes → parse_document bytes ≡ None) → document bytes ≡ None
no_document bytes h =
    elim (cases_Bool (is_utf8 bytes)) [
      | inl text ↦ rw text (h (IsUtf8-from_is_utf8 bytes text))
      | inr other ↦ rw other refl
    ]

pub the_document : (bytes : List ℕ) → IsUtf8 bytes → document bytes ≡ parse_document bytes
the_document bytes text = rw (is_utf8-from_IsUtf8 bytes text) refl

-- why there is no table
pub fails_by : (e : Error) (f : TopologyError) (bytes : List ℕ) → IsCause e f → ((IsMemory e → ⊥) → document bytes ≡ None) → Fails f (table_of bytes)
fails_by e fault.Memory bytes h k = tt
fails_by e fault.NotToml bytes h k = rw (k h) refl
fails_by e (fault.Missing n) bytes h k = absurd h
fails_by e fault.Unknown bytes h k = absurd h
fails_by e (fault.Kind n) bytes h k = absurd h
fails_by e (fault.Range n) bytes h k = absurd h
fails_by e (fault.Quorum w r d) bytes h k = absurd h
