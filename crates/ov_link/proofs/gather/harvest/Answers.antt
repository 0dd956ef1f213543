use Rattle.std.proofs.Common.{◌≡◌, ◌<◌, sym, subst, arith}
use Rattle.ov_topology.specs.Shape.{Shape}
use Rattle.ov_window.specs.Harvest.{Gathered, IsMarked}
use Rattle.ov_link.specs.Progress.{HasCome, Seen, seen_of}
use Rattle.ov_link.proofs.Partitions.{at_start, stops_here}
use Rattle.ov_link.proofs.Standing.{is_complete}
use Rattle.ov_link.proofs.gather.harvest.Goals as goal

pub loop-part-init : goal.loop-part-init
loop-part-init g c =
    let seen : Seen = seen_of (g.L.Link.told c.args.link.now) (g.L.Link.faults c.args.link.now) (g.L.Link.book c.args.link.now) (g.L.Link.asked c.args.link.now) in
    let first = c.centres_of-first.result.0 in
    subst (λ (h : Gathered). HasCome c.args.topology.now c.args.round.now seen seen h first first 0 0) (sym c.in-Ok.ensures) (at_start c.args.topology.now c.args.round.now seen first)

pub returns-clause-whole : goal.returns-clause-whole
returns-clause-whole g c =
    let come = c.loop-part.invariant in
    let stands = come.stands in
    let past = c.loop-part-test.false in
    let count = c.partitions-part-end.ensures.value in (
      stands.topology_is,
      stands.round_is,
      subst (λ (t : Shape). IsMarked t c.loop-part.harvest.answered) (sym stands.topology_is) stands.marked,
      λ p less.
          let under : p < c.args.topology.now.partitions = subst (λ (t : Shape). p < t.partitions) stands.topology_is less in
          is_complete c.args.topology.now c.args.round.now _ _ c.loop-part.harvest come.calls stands p under (come.at.earlier p (omega (arith, under, past, count))),
    )

pub returns-clause-items : goal.returns-clause-items
returns-clause-items g c =
    let stands = c.loop-part.invariant.stands in (
      stands.inside,
      stands.booked,
      λ one other here there version_is key_is. g.met.L.Link.alike c.loop-part.link one other (stands.booked one here) (stands.booked other there) version_is key_is,
    )

pub returns-in-Err-clause-cause : goal.returns-in-Err-clause-cause
returns-in-Err-clause-cause g c =
    let come = c.loop-part.invariant in
    let start : Seen = seen_of (g.L.Link.told c.args.link.now) (g.L.Link.faults c.args.link.now) (g.L.Link.book c.args.link.now) (g.L.Link.asked c.args.link.now) in
    let before : Seen = seen_of (g.L.Link.told c.loop-part.link) (g.L.Link.faults c.loop-part.link) (g.L.Link.book c.loop-part.link) (g.L.Link.asked c.loop-part.link) in
    let now : Seen = seen_of (g.L.Link.told c.gather.new.link) (g.L.Link.faults c.gather.new.link) (g.L.Link.book c.gather.new.link) (g.L.Link.asked c.gather.new.link) in
    stops_here c.args.topology.now c.loop-part.harvest.topology c.args.round.now start before now c.loop-part.harvest c.centres_of-first.result.0 c.loop-part.part c.in-Err.error come.stands.topology_is come c.in-Err.ensures.cause

pub returns-in-Err-clause-grows : goal.returns-in-Err-clause-grows
returns-in-Err-clause-grows g c = λ item among. c.gather.ensures.later.grows item (c.loop-part.invariant.stands.since.grows item among)
