-- What contracts see of a topology, and where a key is kept.
use Rattle.std.specs.Prelude.{ℕ, Bool, true, false, ◌+◌, ◌%◌, ◌≤◌, ◌<◌, List, [], ◌∷◌, length}
use Rattle.std.specs.List.{AllByRecursion}

-- A topology: how many centres and partitions there are, the centre of each gateway, how many copies a write has to
-- reach, and how many a read asks.
pub record Shape : Type 0 where
  pub centres : ℕ
  pub partitions : ℕ
  pub gateways : List ℕ
  pub write : ℕ
  pub read : ℕ

-- The ranges of a topology, and that each read quorum meets each write quorum.
pub record IsShape (t : Shape) : Type 0 where
  pub some_centre : 1 ≤ t.centres
  pub few_centres : t.centres ≤ 5
  pub some_partition : 1 ≤ t.partitions
  pub few_partitions : t.partitions ≤ 8
  pub some_gateway : 1 ≤ length t.gateways
  pub few_gateways : length t.gateways ≤ 8
  pub gateways_at : AllByRecursion (λ centre. centre < t.centres) t.gateways
  pub some_write : 1 ≤ t.write
  pub few_write : t.write ≤ t.centres
  pub some_read : 1 ≤ t.read
  pub few_read : t.read ≤ t.centres
  pub meet : t.centres < t.write + t.read

-- The ranges of a topology alone.
pub record IsRanged (t : Shape) : Type 0 where
  pub centres : (1 ≤ t.centres) × (t.centres ≤ 5)
  pub partitions : (1 ≤ t.partitions) × (t.partitions ≤ 8)
  pub gateways : (1 ≤ length t.gateways) × (length t.gateways ≤ 8)
  pub gateways_at : AllByRecursion (λ centre. centre < t.centres) t.gateways
  pub write : (1 ≤ t.write) × (t.write ≤ t.centres)
  pub read : (1 ≤ t.read) × (t.read ≤ t.centres)

-- how many gateways there are
abbrev pub gates : Shape → ℕ
gates t = length t.gateways

-- the sum of a key's bytes
abbrev pub byte_sum : List ℕ → ℕ
byte_sum [] = 0
byte_sum (byte ∷ bytes) = byte + byte_sum bytes

-- the partition of a key: the sum of its bytes modulo the number of partitions
abbrev pub place_of : Shape → List ℕ → ℕ
place_of t key = byte_sum key % t.partitions

-- how many of a list are marked
abbrev pub marked : List Bool → ℕ
marked [] = 0
marked (true ∷ marks) = marked marks + 1
marked (false ∷ marks) = marked marks

-- the votes of the marked centres, by which quorums are counted: one for each
abbrev pub votes_of : Shape → List Bool → ℕ
votes_of t marks = marked marks
