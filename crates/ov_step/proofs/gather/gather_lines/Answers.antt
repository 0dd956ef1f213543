use Rattle.std.proofs.Common.{◌≡◌, length, map, sym, ◌∙◌, arith}
use Rattle.std.proofs.lemmas.Bool.{eqb-true}
use Rattle.std.specs.Prelude.{vec_len}
use Rattle.ov_world.specs.Acts.{line_in}
use Rattle.ov_world.specs.World.{setting_of}
use Rattle.ov_step.proofs.Gathering.{clear_to, gather_more, nothing_first}
use Rattle.ov_step.proofs.gather.gather_lines.Goals as goal
use Rattle.ov_step.proofs.gather.gather_lines.Goals.{then-is_empty, else-is_empty}

pub loop-place-init : goal.loop-place-init
loop-place-init g c =
    let h = c.args.world.now.history in
    let f = g.P.EntryPass.lister (setting_of c.args.world.now) h in
    record {
      lines = rw (c.new-lines.ensures.items, c.entries-entries.ensures.entries) (sym (nothing_first f c.args.clear.now h c.requires.clear.nothing));
      clear = c.requires.clear;
    }

pub loop-place-preserved : goal.loop-place-preserved
loop-place-preserved g c =
    let t = setting_of c.args.world.now in
    let h = c.args.world.now.history in
    let gathered = gather_more (g.P.EntryPass.lister t h) c.entries-entries.result.now c.loop-place.place c.index-entries-place.result (map line_in c.loop-place.lines.items)
    (map line_in c.list.new.lines.items) c.loop-place-test.true c.index-entries-place.is c.loop-place.invariant.lines c.in_ok-list.ensures in
    record {
      lines = gathered;
      clear = elim c.if-is_empty.branch [
        | then-is_empty w ↦
            let none : length c.list.new.lines.items ≡ 0 = omega (arith, eqb-true (vec_len c.list.new.lines) 0 (sym c.is_empty.ensures ∙ w.if-is_empty.true), c.list.new.lines.ok.0) in
            rw w.clear-is (clear_to line_in g.P.EntryPass.lister t h c.entries-entries.result.now c.loop-place.place c.list.new.lines.items c.entries-entries.ensures.entries
            c.loop-place-test.true gathered none)
        | else-is_empty w ↦ rw w.clear-is c.loop-place.invariant.clear
      ];
    }
