use Rattle.std.proofs.Common.{◌≡◌, None, Some, get_or, refl, sym, ap, ◌∙◌}
use Rattle.ov_gate.proofs.gate.GateCore.note_reply.Goals as goal

pub returns-in-None : goal.returns-in-None
returns-in-None c =
    let none : get_or c.self.inside.latest.items c.args.session None ≡ None = ap (λ xs. get_or xs c.args.session None) (sym c.as_slice.ensures.value) ∙ (sym c.latest_of.ensures ∙ c.in-None.is) in
    rw (← c.self.view_is) (record {
      rest = refl;
      sessions_are = c.replied.ensures.meaning;
      tracked_are = λ rises. rw none refl;
    })

pub returns-in-Some : goal.returns-in-Some
returns-in-Some c =
    let some : get_or c.self.inside.latest.items c.args.session None ≡ Some c.in-Some.version = ap (λ xs. get_or xs c.args.session None) (sym c.as_slice.ensures.value) ∙ (sym c.latest_of.ensures ∙ c.in-Some.is) in
    rw (← c.self.view_is) (record {
      rest = refl;
      sessions_are = c.replied.ensures.meaning;
      tracked_are = λ rises. rw some (c.take_reply.ensures rises);
    })
