-- A mark that a gateway publishes of its own versions is not smaller than any that an actor knows of it.
use Rattle.std.proofs.Common.{◌≡◌, ℕ, ◌+◌, ◌≤◌, Bool, true, false, Option, Some, None, List, [], ◌∷◌, refl, ap, ◌∙◌, inl, inr, ltb, arith}
use Rattle.std.proofs.lemmas.Grind.{common_steps}
use Rattle.std.proofs.lemmas.Bool.{cases_Bool, ltb-true, ltb-false}
use Rattle.ov_base.specs.Version.{number}
use Rattle.ov_gossip.specs.Marks.{mark_at}
use Rattle.ov_gossip.specs.declared.marks.Marks.{Marks}
use Rattle.ov_topology.specs.declared.actor.Actor.{Actor}
use Rattle.ov_history.specs.Past.{History}
use Rattle.ov_history.specs.Draws.{Drawn, draw_of, last}
use Rattle.ov_laws.specs.Draws.{Drew}
use Rattle.ov_history.specs.Marks.{mark, lowest, lowered}
use Rattle.ov_history.specs.May.{Setting, Lawful, MayPublish}
use Rattle.ov_laws.proofs.Watermarks.Known.{IsMark, Good, marks_good}

-- the least mark is not below what is not above its start and any version that is held down
lowest_above : (g : ℕ) (held : Drawn → Bool) (top least : ℕ) (h : History) → least ≤ top
    → ((drawn : Drawn) → Drew g drawn h → held drawn ≡ true → least ≤ drawn.version) → least ≤ lowest g held top h
lowest_above g held top least [] under each = under
lowest_above g held top least (e ∷ h) under each =
    by (draw_of g e) refl (lowest_above g held top least h under (λ drawn drew. each drawn (inr drew)))
  where
    by : (o : Option Drawn) → draw_of g e ≡ o → least ≤ lowest g held top h → least ≤ lowered held o (lowest g held top h)
    by None is rest = rest
    by (Some drawn) is rest = elim (cases_Bool (held drawn)) [
      | inl down ↦ let here : least ≤ drawn.version = each drawn (inl is) down in grind (arith, common_steps)
      | inr clear ↦ grind (arith, common_steps)
    ]

-- a mark that is published is not smaller than any that is known
pub own_grows : {lacks : ℕ → History → Drawn → Bool} {which : Marks → ℕ} (t : Setting) → IsMark t.topology which lacks → (h : History) → Lawful t h
    → (a : Actor) (g time : ℕ) (vector : List Marks) → MayPublish t.topology h g time vector → mark which a g h ≤ which (mark_at vector g)
own_grows {lacks} {which} t is h lawful a g time vector may =
    let published : which (mark_at vector g) ≡ lowest g (lacks g h) (number time g) h = ap which may.own ∙ is.published g time h in
    let late : last g h + 1 ≤ time = omega (arith, may.at.later) in
    let above : mark which a g h ≤ lowest g (lacks g h) (number time g) h =
    lowest_above g (lacks g h) (number time g) (mark which a g h) h (omega (arith, good.bounded, late)) each in
    omega (arith, above, published)
  where
    good : Good lacks h g (mark which a g h)
    good = marks_good t is h lawful a g

    each : (drawn : Drawn) → Drew g drawn h → lacks g h drawn ≡ true → mark which a g h ≤ drawn.version
    each drawn drew down = elim (cases_Bool (ltb drawn.version (mark which a g h))) [
      | inl less ↦ let clear : lacks g h drawn ≡ false = good.clear drawn drew (ltb-true drawn.version (mark which a g h) less) in absurd (cc)
      | inr over ↦ ltb-false drawn.version (mark which a g h) over
    ]
