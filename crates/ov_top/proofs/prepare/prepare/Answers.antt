use Rattle.std.proofs.Common.{Ok, Err}
use Rattle.std.proofs.lemmas.Result.{err_from_is_err_and}
use Rattle.ov_topology.proofs.Ranges.{topology_is}
use Rattle.ov_top.specs.Form.{accept_script, accept_third}
use Rattle.ov_top.specs.Names.{names_seen, third_word}
use Rattle.ov_top.specs.declared.refusal.FileWord.TheVariants as word
use Rattle.ov_top.proofs.Endings.{all_read, none_fell_twice, reads_from, same_twice, script_stops, third_read, third_stops, topology_stops}
use Rattle.ov_top.proofs.Forms.{script_says, third_fits, topology_takes}
use Rattle.ov_top.proofs.Replies.{right_empty}
use Rattle.ov_top.proofs.prepare.prepare.Goals as goal

pub returns-in_err-topology-clause-prepared : goal.returns-in_err-topology-clause-prepared
returns-in_err-topology-clause-prepared g c =
    let p = err_from_is_err_and c.from_residual.result c.from_residual.ensures.1 in
    rw (p.1, p.2, c.requires) (topology_stops (g.F.Shelf.told c.args.shelf.now) (g.F.Shelf.faults c.args.shelf.now) (g.F.Shelf.faults c.read_topology.new.shelf)
    (names_seen c.args.names.now) c.in_err-topology.field-0.0 c.in_err-topology.ensures.reads)

pub returns-in-Err-clause-prepared : goal.returns-in-Err-clause-prepared
returns-in-Err-clause-prepared g c =
    let told = g.F.Shelf.told c.args.shelf.now in
    let counts = g.F.Shelf.faults c.args.shelf.now in
    let names = names_seen c.args.names.now in
    let reads = reads_from told (g.F.Shelf.told c.read_topology.new.shelf) counts (g.F.Shelf.faults c.read_topology.new.shelf) (g.F.Shelf.faults c.read_script.new.shelf) names word.Script
    (accept_script c.gateways.result) (Err c.in-Err.refusal) c.read_topology.ensures.same c.read_topology.ensures.later c.in-Err.ensures.reads in
    rw c.requires (script_stops told counts (g.F.Shelf.faults c.read_script.new.shelf) names c.in_ok-topology.topology c.in-Err.refusal c.in_ok-topology.ensures.reads
    (rw c.gateways.ensures.value at reads))

pub returns-in-Ok-read_third-clause-prepared : goal.returns-in-Ok-read_third-clause-prepared
returns-in-Ok-read_third-clause-prepared g c =
    let told = g.F.Shelf.told c.args.shelf.now in
    let counts = g.F.Shelf.faults c.args.shelf.now in
    let names = names_seen c.args.names.now in
    let middle = g.F.Shelf.told c.read_topology.new.shelf in
    let fell = g.F.Shelf.faults c.read_topology.new.shelf in
    let second = reads_from told middle counts fell (g.F.Shelf.faults c.read_script.new.shelf) names word.Script
    (accept_script c.gateways.result) (Ok c.in-Ok.script) c.read_topology.ensures.same c.read_topology.ensures.later c.in-Ok.ensures.reads in
    let third = reads_from told (g.F.Shelf.told c.read_script.new.shelf) counts (g.F.Shelf.faults c.read_script.new.shelf) (g.F.Shelf.faults c.read_third.new.shelf) names (third_word c.args.names.now.task)
    (accept_third c.args.names.now.task) (Ok c.in-Ok-read_third.third) (same_twice told middle (g.F.Shelf.told c.read_script.new.shelf) c.read_topology.ensures.same c.read_script.ensures.same)
    (none_fell_twice counts fell (g.F.Shelf.faults c.read_script.new.shelf) c.read_topology.ensures.later c.read_script.ensures.later) c.in-Ok-read_third.ensures.reads in
    rw c.requires (all_read told counts (g.F.Shelf.faults c.read_third.new.shelf) names _ c.in_ok-topology.ensures.reads (rw c.gateways.ensures.value at second) (third_read told counts (g.F.Shelf.faults c.read_third.new.shelf) names (Ok c.in-Ok-read_third.third) third))

pub returns-in-Err-read_third-clause-prepared : goal.returns-in-Err-read_third-clause-prepared
returns-in-Err-read_third-clause-prepared g c =
    let told = g.F.Shelf.told c.args.shelf.now in
    let counts = g.F.Shelf.faults c.args.shelf.now in
    let names = names_seen c.args.names.now in
    let middle = g.F.Shelf.told c.read_topology.new.shelf in
    let fell = g.F.Shelf.faults c.read_topology.new.shelf in
    let second = reads_from told middle counts fell (g.F.Shelf.faults c.read_script.new.shelf) names word.Script
    (accept_script c.gateways.result) (Ok c.in-Ok.script) c.read_topology.ensures.same c.read_topology.ensures.later c.in-Ok.ensures.reads in
    let third = reads_from told (g.F.Shelf.told c.read_script.new.shelf) counts (g.F.Shelf.faults c.read_script.new.shelf) (g.F.Shelf.faults c.read_third.new.shelf) names (third_word c.args.names.now.task)
    (accept_third c.args.names.now.task) (Err c.in-Err-read_third.refusal) (same_twice told middle (g.F.Shelf.told c.read_script.new.shelf) c.read_topology.ensures.same c.read_script.ensures.same)
    (none_fell_twice counts fell (g.F.Shelf.faults c.read_script.new.shelf) c.read_topology.ensures.later c.read_script.ensures.later) c.in-Err-read_third.ensures.reads in
    rw c.requires (third_stops told counts (g.F.Shelf.faults c.read_third.new.shelf) names c.in_ok-topology.topology c.in-Ok.script c.in-Err-read_third.refusal
    c.in_ok-topology.ensures.reads (rw c.gateways.ensures.value at second) (third_read told counts (g.F.Shelf.faults c.read_third.new.shelf) names (Err c.in-Err-read_third.refusal) third))

pub returns-in-Ok-read_third-clause-form : goal.returns-in-Ok-read_third-clause-form
returns-in-Ok-read_third-clause-form g c =
    (script_says c.gateways.result c.in-Ok.ensures.reads.bytes c.in-Ok.script c.in-Ok.ensures.reads.becomes).form

pub returns-in-Err-read_third-clause-right : goal.returns-in-Err-read_third-clause-right
returns-in-Err-read_third-clause-right g c =
    let read = c.in_ok-topology.ensures.reads in
    rw c.requires (right_empty c.in_ok-topology.topology c.in-Ok.script (topology_is read.bytes c.in_ok-topology.topology (topology_takes read.bytes c.in_ok-topology.topology read.becomes)))

pub returns-in-Ok-read_third-clause-shape : goal.returns-in-Ok-read_third-clause-shape
returns-in-Ok-read_third-clause-shape g c =
    let read = c.in_ok-topology.ensures.reads in
    topology_is read.bytes c.in_ok-topology.topology (topology_takes read.bytes c.in_ok-topology.topology read.becomes)

pub returns-in-Ok-read_third-clause-fits : goal.returns-in-Ok-read_third-clause-fits
returns-in-Ok-read_third-clause-fits g c =
    let read = c.in-Ok-read_third.ensures.reads in
    third_fits c.args.names.now.task read.bytes c.in-Ok-read_third.third read.becomes
