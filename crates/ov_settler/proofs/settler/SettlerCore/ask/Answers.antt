use Rattle.std.proofs.Common.{◌≡◌, ◌+◌, ◌^◌, arith}
use Rattle.std.specs.Prelude.{nat_lt}
use Rattle.std.proofs.lemmas.Bool.{and_parts, ltb-true}
use Rattle.ov_settler.specs.Calls.{upper_of}
use Rattle.ov_settler.proofs.Asks.{ask_none, ask_steps}
use Rattle.ov_settler.proofs.settler.SettlerCore.ask.Goals as goal
use Rattle.ov_settler.proofs.settler.SettlerCore.ask.Goals.{then-self-via-then-self, then-self-via-else-self+then-self-2, then-self-via-else-self+else-self-2+then-below-from}

pub returns-then-self-clause-steps : goal.returns-then-self-clause-steps
returns-then-self-clause-steps c = rw (← c.self.view_is) (λ t h actor is.
    ask_none t h actor _ c.args.mode is (λ running can.
    let parts = and_parts (nat_lt (c.self.inside.rounds + 1) (2 ^ 64)) (nat_lt c.self.inside.settled (upper_of c.self.inside.vector c.args.mode)) can in
    let made : c.upper-below.result ≡ upper_of c.self.inside.vector c.args.mode = rw (← c.self.view_is) at c.upper-below.ensures in
    elim c.then-self.branch [
      | then-self-via-then-self w ↦ let a = w.if-self.true in absurd cc
      | then-self-via-else-self+then-self-2 w ↦ absurd (omega (arith, w.if-self-2.true, ltb-true (c.self.inside.rounds + 1) (2 ^ 64) parts.0))
      | then-self-via-else-self+else-self-2+then-below-from w ↦ absurd (omega (arith, w.if-below-from.true, made, ltb-true c.self.inside.settled (upper_of c.self.inside.vector c.args.mode) parts.1))
    ]))

pub returns-clause-steps : goal.returns-clause-steps
returns-clause-steps c = rw (← c.self.view_is, c.entry.ensures, c.in_ok-new.ensures) (λ t h actor is.
    ask_steps t h actor _ c.args.mode c.upper-below.result is c.if-self.false (rw (← c.self.view_is) at c.upper-below.ensures) (omega (arith, c.self.ranges, c.if-self-2.false)) (omega (arith, c.if-below-from.false)))
