use Rattle.std.proofs.Common.{map, sym, ◌∙◌, arith}
use Rattle.ov_world.specs.Acts.{line_in}
use Rattle.ov_world.specs.World.{setting_of}
use Rattle.ov_step.proofs.Storing.{below_untouched, count_touched, count_untouched, lines_touched}
use Rattle.ov_step.proofs.store.list_writes.Goals as goal
use Rattle.ov_step.proofs.store.list_writes.Goals.{then-has+in_ok-list_write, else-has}

pub loop-part-preserved : goal.loop-part-preserved
loop-part-preserved c =
    elim c.if-has.branch [
      | then-has+in_ok-list_write w ↦
          let is = rw (c.topology-topology.ensures) at (sym (c.touched_parts-touched.ensures c.loop-part.part) ∙ (sym c.has.ensures ∙ w.if-has.true)) in
          record {
            letter = omega (arith, w.letter-is, c.loop-part.invariant.letter, count_touched c.args.world.now.topology c.args.parts.now c.loop-part.part is);
            few = omega (arith, w.letter-is, c.loop-part.invariant.few);
            lines = λ version. lines_touched (setting_of c.args.world.now) c.args.world.now.history c.args.number c.loop-part.letter version c.args.parts.now c.loop-part.part
                (map line_in c.args.lines.now.items) (map line_in c.loop-part.lines.items) (map line_in c.if-has.lines.items) is c.loop-part.invariant.letter
                (c.loop-part.invariant.lines version) (rw w.lines-is w.in_ok-list_write.ensures);
          }
      | else-has w ↦
          let not = rw (c.topology-topology.ensures) at (sym (c.touched_parts-touched.ensures c.loop-part.part) ∙ (sym c.has.ensures ∙ w.if-has.false)) in
          record {
            letter = omega (arith, w.letter-is, c.loop-part.invariant.letter, count_untouched c.args.world.now.topology c.args.parts.now c.loop-part.part not);
            few = omega (arith, w.letter-is, c.loop-part.invariant.few);
            lines = λ version. rw (w.lines-is, below_untouched (setting_of c.args.world.now) c.args.world.now.history c.args.number version c.args.parts.now c.loop-part.part not)
                (c.loop-part.invariant.lines version);
          }
    ]
