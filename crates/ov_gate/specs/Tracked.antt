-- One version that a gateway has drawn: what it still lacks, and what an acknowledgement and a reply change.
use Rattle.std.specs.Prelude.{◌≡◌, ℕ, ◌+◌, ◌*◌, ◌<◌, Bool, true, false, not, ◌&&◌, ◌==◌, nat_lt, List, if◌then◌else◌}
use Rattle.ov_functor.specs.declared.part.Part.{Part}
use Rattle.ov_topology.specs.Shape.{Shape}
use Rattle.ov_event.specs.Letters.{touches}
use Rattle.ov_history.specs.Counts.{any_below, all_below, weight}
use Rattle.ov_base.specs.Small.{empty_set, has, with_number}
use Rattle.ov_base.specs.declared.small.SmallSet.{SmallSet}
use Rattle.ov_gate.specs.declared.tracked.Tracked.{Tracked}
use Rattle.ov_gate.specs.declared.tracked.Mark.{Mark}
use Rattle.ov_gate.specs.declared.tracked.Mark.TheVariants.{Low, Full, Done}

-- the number of a node among those of a topology, by which a set has it
abbrev pub node_number : ℕ → ℕ → ℕ
node_number centre part = centre * 8 + part

-- whether a set has the node of this partition and centre
abbrev pub is_acked : SmallSet → ℕ → ℕ → Bool
is_acked acked part centre = has acked (node_number centre part)

abbrev pub few_acks : Shape → SmallSet → SmallSet → ℕ → Bool
few_acks t touched acked part = has touched part && nat_lt (weight t (is_acked acked part)) t.write

abbrev pub some_copy_lacks : Shape → SmallSet → SmallSet → ℕ → Bool
some_copy_lacks t touched acked part = has touched part && not (all_below (is_acked acked part) t.centres)

-- whether some touched partition has acknowledged from fewer than a write quorum
abbrev pub lacks_quorum_of : Shape → SmallSet → SmallSet → Bool
lacks_quorum_of t touched acked = any_below (few_acks t touched acked) t.partitions

-- whether some touched partition has not acknowledged from all its nodes
abbrev pub lacks_copies_of : Shape → SmallSet → SmallSet → Bool
lacks_copies_of t touched acked = any_below (some_copy_lacks t touched acked) t.partitions

-- the version with what it still lacks of the acknowledgements that it lacked
abbrev pub recounted : Shape → Tracked → Tracked
recounted t one = record one { lacks_quorum = one.lacks_quorum && lacks_quorum_of t one.touched one.acked; lacks_copies = one.lacks_copies && lacks_copies_of t one.touched one.acked }

-- the version with the acknowledgement of a node, where the topology has the node
abbrev pub with_ack : Shape → ℕ → ℕ → Tracked → Tracked
with_ack t centre part one = if nat_lt centre t.centres && nat_lt part t.partitions then recounted t (record one { acked = with_number (node_number centre part) one.acked }) else one

-- the version with its reply, where the reply is to its command
abbrev pub with_reply : ℕ → ℕ → Tracked → Tracked
with_reply session seq one = if (one.session == session) && (one.seq == seq) then record one { lacks_reply = false } else one

-- whether a version holds a mark down
abbrev pub lacks : Mark → Tracked → Bool
lacks Low one = one.lacks_quorum
lacks Full one = one.lacks_copies
lacks Done one = one.lacks_reply

-- A version that was just drawn for a command: no node has acknowledged it, and the command is not replied.
pub record IsNew (t : Shape) (version session seq : ℕ) (parts : List Part) (one : Tracked) : Type 0 where
  pub version_is : one.version ≡ version
  pub session_is : one.session ≡ session
  pub seq_is : one.seq ≡ seq
  pub touched_is : (part : ℕ) → part < t.partitions → has one.touched part ≡ touches t parts part
  pub acked_is : one.acked ≡ empty_set
  pub quorum_is : one.lacks_quorum ≡ lacks_quorum_of t one.touched one.acked
  pub copies_is : one.lacks_copies ≡ lacks_copies_of t one.touched one.acked
  pub reply_is : one.lacks_reply ≡ true
