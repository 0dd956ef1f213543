use Rattle.std.proofs.Common.{Option, subst, sym}
use Rattle.ov_topology.specs.declared.place.Place.{Place}
use Rattle.ov_base.specs.Word.{Reads}
use Rattle.ov_topology.specs.Place.{place_of, place_text, IsPlace}
use Rattle.ov_base.proofs.Readers.{reads_by_laws}
use Rattle.ov_topology.proofs.Places.{place_again, place_takes}
use Rattle.ov_topology.proofs.place.Place.parse.Goals as goal

pub returns-clause-reads : goal.returns-clause-reads
returns-clause-reads c =
    subst (λ (r : Option Place). Reads place_text IsPlace c.args.text.now r) (sym c.place_read.ensures)
    (reads_by_laws place_of place_text IsPlace place_again place_takes c.args.text.now)
