-- Which kinds of entries, and which letters, only nodes make, and which only settlers.
use Rattle.std.specs.Prelude.{Bool, true, false}
use Rattle.ov_event.specs.declared.kind.Kind.{Kind}
use Rattle.ov_event.specs.declared.kind.Kind.TheVariants as kinds
use Rattle.ov_event.specs.declared.letter.Letter.{Letter}
use Rattle.ov_event.specs.declared.letter.Letter.TheVariants as letters

-- whether only a node makes entries of this kind
abbrev pub of_node : Kind → Bool
of_node (kinds.Stored place version items) = true
of_node (kinds.Answered place settler round items) = true
of_node kind = false

-- whether only a settler makes entries of this kind
abbrev pub of_settler : Kind → Bool
of_settler (kinds.Asked round mode from below) = true
of_settler (kinds.Taken place round centre part items) = true
of_settler (kinds.Settled values) = true
of_settler (kinds.Resulted place session seq gate reply) = true
of_settler kind = false

-- whether only a node writes such a letter
abbrev pub from_node : Letter → Bool
from_node (letters.Ack version centre part) = true
from_node (letters.Answer settler round centre part items) = true
from_node letter = false

-- whether only a settler writes such a letter
abbrev pub from_settler : Letter → Bool
from_settler (letters.Ask settler round mode from below) = true
from_settler (letters.Result session seq gate reply) = true
from_settler letter = false
