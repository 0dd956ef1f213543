-- Reading the line of an entry: by its actor, the word of its kind, and the words and groups behind that.
use Rattle.std.specs.Prelude.{ℕ, ◌-◌, ◌^◌, Bool, true, false, ◌&&◌, not, nat_le, List, [], ◌∷◌, ◌++◌, length, codes, Option, Some, None, Result, Ok, Err, if◌then◌else◌}
use Rattle.std.specs.Str.{bytes_eq}
use Rattle.ov_base.specs.Word.{◌>>=◌}
use Rattle.ov_base.specs.Groups.{groups_of}
use Rattle.ov_base.specs.Key.{key_of, repeats}
use Rattle.ov_base.specs.Number.{number_within}
use Rattle.ov_base.specs.Split.{all_of}
use Rattle.ov_base.specs.Value.{value_of}
use Rattle.ov_base.specs.Version.{version_of}
use Rattle.ov_event.specs.ItemWords.{item_of}
use Rattle.ov_event.specs.declared.entry.Entry.{Entry}
use Rattle.ov_event.specs.declared.kind.Kind.{Kind}
use Rattle.ov_event.specs.declared.kind.Kind.TheVariants.{Began, Stored, Acked, Published, Heard, Asked, Answered, Taken, Settled, Resulted, Replied, Told, Stopped}
use Rattle.ov_event.specs.declared.start.Start.{Start}
use Rattle.ov_event.specs.declared.start.Start.TheVariants.{Draw, Look}
use Rattle.ov_functor.specs.ReplyWords.{reply_of}
use Rattle.ov_functor.specs.Transaction.{transaction_error, made_by}
use Rattle.ov_functor.specs.Words.{parts_in}
use Rattle.ov_functor.specs.declared.error.TxnError.{TxnError}
use Rattle.ov_functor.specs.declared.item.Valued.{Valued}
use Rattle.ov_functor.specs.declared.part.Part.{Part}
use Rattle.ov_gossip.specs.declared.marks.Marks.{Marks}
use Rattle.ov_topology.specs.Actor.{actor_of, gate_of, settler_of, node_at}
use Rattle.ov_topology.specs.Mode.{mode_of}
use Rattle.ov_topology.specs.Place.{place_at}
use Rattle.ov_topology.specs.declared.actor.Actor.{Actor}
use Rattle.ov_topology.specs.declared.actor.Actor.TheVariants.{Gate, Node, Settler}
use Rattle.ov_journal.specs.Line.{most_sessions, most_commands, most_keys}

-- ---- words

-- the number of a session, from 0
abbrev pub session_of : List ℕ → Option ℕ
session_of word = number_within 0 (most_sessions - 1) word

-- the number of a command, from 1
abbrev pub seq_of : List ℕ → Option ℕ
seq_of word = number_within 1 most_commands word

-- the number of a round, from 1
abbrev pub round_of : List ℕ → Option ℕ
round_of word = number_within 1 (2 ^ 64 - 1) word

-- a time
abbrev pub time_of : List ℕ → Option ℕ
time_of word = number_within 0 (2 ^ 47 - 1) word

-- ---- lists

-- the marks of three words
unfoldable pub marks_of : List (List ℕ) → Option Marks
marks_of [] = None
marks_of (low ∷ []) = None
marks_of (low ∷ full ∷ []) = None
marks_of (low ∷ full ∷ done ∷ []) = do
  l ← version_of low
  f ← version_of full
  d ← version_of done
  Some (record { low = l; full = f; done = d })
marks_of (low ∷ full ∷ done ∷ more ∷ words) = None

-- the marks, where they are those of 1 to 8 gateways
abbrev pub vector_with : List Marks → Option (List Marks)
vector_with vector = if nat_le 1 (length vector) && nat_le (length vector) 8 then Some vector else None

-- a vector: a group of marks for each gateway
abbrev pub vector_of : List (List (List ℕ)) → Option (List Marks)
vector_of groups = all_of marks_of groups >>= vector_with

-- the settled value of three words
unfoldable pub valued_of : List (List ℕ) → Option Valued
valued_of [] = None
valued_of (version ∷ []) = None
valued_of (version ∷ key ∷ []) = None
valued_of (version ∷ key ∷ value ∷ []) = do
  v ← version_of version
  k ← key_of key
  x ← value_of value
  Some (record { version = v; key = k; value = x })
valued_of (version ∷ key ∷ value ∷ more ∷ words) = None

-- the keys, where they are 1 to 8 and no two of them equal
abbrev pub keys_with : List (List ℕ) → Option (List (List ℕ))
keys_with keys = if nat_le 1 (length keys) && (nat_le (length keys) most_keys && not (repeats keys)) then Some keys else None

-- the keys of a snapshot
abbrev pub keys_of : List (List ℕ) → Option (List (List ℕ))
keys_of words = all_of key_of words >>= keys_with

-- ---- beginnings

-- the transaction, where the parts are one
abbrev pub start_with : ℕ → Result (List Part) TxnError → Option Start
start_with version (Ok transaction) = Some (Draw version transaction)
start_with version (Err error) = None

-- reading a version and the groups of the parts of a transaction
abbrev pub draw_of : List ℕ → List (List (List ℕ)) → Option Start
draw_of version groups = do
  v ← version_of version
  parts ← parts_in groups
  start_with v (made_by (transaction_error parts) parts)

-- reading a floor and the keys of a snapshot, behind which no group stands
abbrev pub look_of : List ℕ → List (List ℕ) → List (List (List ℕ)) → Option Start
look_of floor keys (group ∷ groups) = None
look_of floor keys [] = do
  f ← version_of floor
  ks ← keys_of keys
  Some (Look f ks)

-- reading `do VERSION PARTS` or `snap VERSION KEYS`
abbrev pub start_of : List ℕ → List ℕ → List (List ℕ) → List (List (List ℕ)) → Option Start
start_of word version words groups =
    if bytes_eq word (codes "do") then draw_of version (words ∷ groups)
    else (if bytes_eq word (codes "snap") then look_of version words groups else None)

-- ---- what an actor did, by the words behind that of its kind and the groups behind these

-- what was read, where no group stands behind it
abbrev pub alone : {A : Type 0} → List (List (List ℕ)) → Option A → Option A
alone [] read = read
alone (group ∷ groups) read = None

-- reading `S C do VERSION PARTS` or `S C snap VERSION KEYS`
unfoldable pub began_of : List (List ℕ) → List (List (List ℕ)) → Option Kind
began_of (session ∷ seq ∷ word ∷ version ∷ words) groups = do
  s ← session_of session
  c ← seq_of seq
  start ← start_of word version words groups
  Some (Began s c start)
began_of words groups = None

-- reading `PLACE VERSION` and items
unfoldable pub stored_of : List (List ℕ) → List (List (List ℕ)) → Option Kind
stored_of (entry ∷ letter ∷ version ∷ []) groups = do
  place ← place_at entry letter
  v ← version_of version
  items ← all_of item_of groups
  Some (Stored place v items)
stored_of words groups = None

-- reading `PLACE VERSION NODE`
unfoldable pub acked_of : List (List ℕ) → Option Kind
acked_of (entry ∷ letter ∷ version ∷ node ∷ []) = do
  place ← place_at entry letter
  v ← version_of version
  at ← node_at node
  Some (Acked place v at.0 at.1)
acked_of words = None

-- reading `TIME` and marks
unfoldable pub published_of : List (List ℕ) → List (List (List ℕ)) → Option Kind
published_of (time ∷ []) groups = do
  t ← time_of time
  vector ← vector_of groups
  Some (Published t vector)
published_of words groups = None

-- reading `PLACE` and marks
unfoldable pub heard_of : List (List ℕ) → List (List (List ℕ)) → Option Kind
heard_of (entry ∷ letter ∷ []) groups = do
  place ← place_at entry letter
  vector ← vector_of groups
  Some (Heard place vector)
heard_of words groups = None

-- reading `ROUND quorum VERSION VERSION`, or `one`
unfoldable pub asked_of : List (List ℕ) → Option Kind
asked_of (round ∷ mode ∷ from ∷ below ∷ []) = do
  r ← round_of round
  m ← mode_of mode
  f ← version_of from
  b ← version_of below
  Some (Asked r m f b)
asked_of words = None

-- reading `PLACE SETTLER ROUND` and items
unfoldable pub answered_of : List (List ℕ) → List (List (List ℕ)) → Option Kind
answered_of (entry ∷ letter ∷ settler ∷ round ∷ []) groups = do
  place ← place_at entry letter
  s ← settler_of settler
  r ← round_of round
  items ← all_of item_of groups
  Some (Answered place s r items)
answered_of words groups = None

-- reading `PLACE ROUND NODE` and items
unfoldable pub taken_of : List (List ℕ) → List (List (List ℕ)) → Option Kind
taken_of (entry ∷ letter ∷ round ∷ node ∷ []) groups = do
  place ← place_at entry letter
  r ← round_of round
  at ← node_at node
  items ← all_of item_of groups
  Some (Taken place r at.0 at.1 items)
taken_of words groups = None

-- reading values, where nothing stands in front of them
unfoldable pub settled_of : List (List ℕ) → List (List (List ℕ)) → Option Kind
settled_of [] groups = all_of valued_of groups >>= λ values. Some (Settled values)
settled_of (word ∷ words) groups = None

-- reading `PLACE S C GATEWAY REPLY`
unfoldable pub resulted_of : List (List ℕ) → Option Kind
resulted_of (entry ∷ letter ∷ session ∷ seq ∷ gate ∷ words) = do
  place ← place_at entry letter
  s ← session_of session
  c ← seq_of seq
  g ← gate_of gate
  reply ← reply_of words
  Some (Resulted place s c g reply)
resulted_of words = None

-- reading `PLACE S C REPLY`
unfoldable pub replied_of : List (List ℕ) → Option Kind
replied_of (entry ∷ letter ∷ session ∷ seq ∷ words) = do
  place ← place_at entry letter
  s ← session_of session
  c ← seq_of seq
  reply ← reply_of words
  Some (Replied place s c reply)
replied_of words = None

-- reading `PLACE S C`
unfoldable pub told_of : List (List ℕ) → Option Kind
told_of (entry ∷ letter ∷ session ∷ seq ∷ []) = do
  place ← place_at entry letter
  s ← session_of session
  c ← seq_of seq
  Some (Told place s c)
told_of words = None

-- that the actor stopped, where nothing stands behind the word
unfoldable pub stopped_of : List (List ℕ) → Option Kind
stopped_of [] = Some Stopped
stopped_of (word ∷ words) = None

-- ---- a line

-- whether what an actor did was read, and the entries, with that of it behind them
abbrev pub added : List Entry → Actor → Option Kind → Bool × List Entry
added entries actor None = (false, entries)
added entries actor (Some kind) = (true, entries ++ record { actor = actor; kind = kind } ∷ [])

-- whether an entry was read, and the entries, with it behind them
abbrev pub added_entry : List Entry → Option Entry → Bool × List Entry
added_entry entries None = (false, entries)
added_entry entries (Some entry) = (true, entries ++ entry ∷ [])

-- what a gateway did, by the word of its kind
abbrev pub gate_kind_of : List ℕ → List (List ℕ) → List (List (List ℕ)) → Option Kind
gate_kind_of word words groups =
    if bytes_eq word (codes "began") then began_of words groups
    else (if bytes_eq word (codes "acked") then alone groups (acked_of words)
    else (if bytes_eq word (codes "published") then published_of words groups
    else (if bytes_eq word (codes "heard") then heard_of words groups
    else (if bytes_eq word (codes "replied") then alone groups (replied_of words)
    else (if bytes_eq word (codes "told") then alone groups (told_of words)
    else (if bytes_eq word (codes "stopped") then alone groups (stopped_of words) else None))))))

-- what a node did, by the word of its kind
abbrev pub node_kind_of : List ℕ → List (List ℕ) → List (List (List ℕ)) → Option Kind
node_kind_of word words groups =
    if bytes_eq word (codes "stored") then stored_of words groups
    else (if bytes_eq word (codes "answered") then answered_of words groups
    else (if bytes_eq word (codes "stopped") then alone groups (stopped_of words) else None))

-- what a settler did, by the word of its kind
abbrev pub settler_kind_of : List ℕ → List (List ℕ) → List (List (List ℕ)) → Option Kind
settler_kind_of word words groups =
    if bytes_eq word (codes "heard") then heard_of words groups
    else (if bytes_eq word (codes "asked") then alone groups (asked_of words)
    else (if bytes_eq word (codes "taken") then taken_of words groups
    else (if bytes_eq word (codes "settled") then settled_of words groups
    else (if bytes_eq word (codes "resulted") then alone groups (resulted_of words)
    else (if bytes_eq word (codes "stopped") then alone groups (stopped_of words) else None)))))

-- what this actor did
abbrev pub kind_of : Actor → List ℕ → List (List ℕ) → List (List (List ℕ)) → Option Kind
kind_of (Gate gate) word words groups = gate_kind_of word words groups
kind_of (Node centre part) word words groups = node_kind_of word words groups
kind_of (Settler centre) word words groups = settler_kind_of word words groups

-- reading the words of an actor and of a kind, and what stands behind them
abbrev pub actor_entry_of : List ℕ → List ℕ → List (List ℕ) → List (List (List ℕ)) → Option Entry
actor_entry_of actor word words groups = do
  a ← actor_of actor
  kind ← kind_of a word words groups
  Some (record { actor = a; kind = kind })

-- reading the groups of a line
unfoldable pub entry_of_groups : List (List (List ℕ)) → Option Entry
entry_of_groups ((actor ∷ word ∷ words) ∷ groups) = actor_entry_of actor word words groups
entry_of_groups groups = None

-- the entry of a line
abbrev pub entry_of : List ℕ → Option Entry
entry_of text = entry_of_groups (groups_of text)
