use Rattle.std.proofs.Common.{Option, subst, sym}
use Rattle.ov_topology.specs.declared.actor.Actor.{Actor}
use Rattle.ov_base.specs.Word.{Reads}
use Rattle.ov_topology.specs.Actor.{actor_of, actor_text, IsActor}
use Rattle.ov_base.proofs.Readers.{reads_by_laws}
use Rattle.ov_topology.proofs.Actors.{actor_again, actor_takes}
use Rattle.ov_topology.proofs.actor.Actor.parse.Goals as goal

pub returns-clause-reads : goal.returns-clause-reads
returns-clause-reads c =
    subst (λ (r : Option Actor). Reads actor_text IsActor c.args.text.now r) (sym c.actor_read.ensures)
    (reads_by_laws actor_of actor_text IsActor actor_again actor_takes c.args.text.now)
