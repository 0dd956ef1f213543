-- The line of an entry piece by piece, as it is written: what stands behind the word of the actor.
use Rattle.std.specs.Prelude.{ℕ, List, [], ◌∷◌, ◌++◌, codes}
use Rattle.std.specs.List.{flat_map}
use Rattle.std.specs.Fmt.{decimal}
use Rattle.ov_base.specs.Split.{joined}
use Rattle.ov_base.specs.Version.{version_text}
use Rattle.ov_event.specs.ItemWords.{items_text}
use Rattle.ov_event.specs.declared.kind.Kind.{Kind}
use Rattle.ov_event.specs.declared.kind.Kind.TheVariants.{Began, Stored, Acked, Published, Heard, Asked, Answered, Taken, Settled, Resulted, Replied, Told, Stopped}
use Rattle.ov_event.specs.declared.start.Start.{Start}
use Rattle.ov_event.specs.declared.start.Start.TheVariants.{Draw, Look}
use Rattle.ov_functor.specs.Reply.{reply_text}
use Rattle.ov_functor.specs.Words.{parts_text}
use Rattle.ov_functor.specs.declared.item.Valued.{Valued}
use Rattle.ov_gossip.specs.declared.marks.Marks.{Marks}
use Rattle.ov_topology.specs.Actor.{gate_text, node_text, settler_text}
use Rattle.ov_topology.specs.Mode.{mode_text}
use Rattle.ov_journal.specs.Line.{commanded, marks_words, placed, valued_words}

-- the marks of a gateway behind ` ; `
abbrev pub marks_text : Marks → List ℕ
marks_text marks = codes " ; " ++ joined 32 (marks_words marks)

-- the marks of all gateways, each behind ` ; `
abbrev pub vector_text : List Marks → List ℕ
vector_text vector = flat_map marks_text vector

-- a settled value behind ` ; `
abbrev pub valued_text : Valued → List ℕ
valued_text valued = codes " ; " ++ joined 32 (valued_words valued)

-- settled values, each behind ` ; `
abbrev pub values_text : List Valued → List ℕ
values_text values = flat_map valued_text values

-- a key behind a space
abbrev pub key_text : List ℕ → List ℕ
key_text key = 32 ∷ key

-- how a command begins
abbrev pub start_text : Start → List ℕ
start_text (Draw version transaction) = codes "do " ++ version_text version ++ 32 ∷ parts_text transaction
start_text (Look floor keys) = codes "snap " ++ version_text floor ++ flat_map key_text keys

-- what an actor did
abbrev pub kind_text : Kind → List ℕ
kind_text (Began session seq start) = joined 32 (codes "began" ∷ commanded session seq []) ++ 32 ∷ start_text start
kind_text (Stored place version items) = joined 32 (codes "stored" ∷ placed place (version_text version ∷ [])) ++ items_text items
kind_text (Acked place version centre part) = joined 32 (codes "acked" ∷ placed place (version_text version ∷ node_text centre part ∷ []))
kind_text (Published time vector) = joined 32 (codes "published" ∷ decimal time ∷ []) ++ vector_text vector
kind_text (Heard place vector) = joined 32 (codes "heard" ∷ placed place []) ++ vector_text vector
kind_text (Asked round mode from below) = joined 32 (codes "asked" ∷ decimal round ∷ mode_text mode ∷ version_text from ∷ version_text below ∷ [])
kind_text (Answered place settler round items) = joined 32 (codes "answered" ∷ placed place (settler_text settler ∷ decimal round ∷ [])) ++ items_text items
kind_text (Taken place round centre part items) = joined 32 (codes "taken" ∷ placed place (decimal round ∷ node_text centre part ∷ [])) ++ items_text items
kind_text (Settled values) = codes "settled" ++ values_text values
kind_text (Resulted place session seq gate reply) = joined 32 (codes "resulted" ∷ placed place (commanded session seq (gate_text gate ∷ []))) ++ 32 ∷ reply_text reply
kind_text (Replied place session seq reply) = joined 32 (codes "replied" ∷ placed place (commanded session seq [])) ++ 32 ∷ reply_text reply
kind_text (Told place session seq) = joined 32 (codes "told" ∷ placed place (commanded session seq []))
kind_text Stopped = codes "stopped"
