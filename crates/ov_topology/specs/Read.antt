-- Which topology a document gives, and which fault comes first: the tests in their order.
use Rattle.std.specs.Prelude.{◌≡◌, ℕ, ◌+◌, ℤ, pos, negsuc, ◌&&◌, nat_lt, nat_le, ◌==◌, List, [], ◌∷◌, length, Option, Some, None, Result, Ok, Err, if◌then◌else◌}
use Rattle.std.specs.Str.{is_utf8}
use Rattle.toml.specs.Data.{Data, Items, no_items, item, Members, no_members, member, get_member, as_integer, as_array}
use Rattle.toml.specs.Errors.{IsMemory}
use Rattle.toml.specs.declared.de.error.Error.{Error}
use Rattle.toml.specs.Parse.{parse_document}
use Rattle.toml.specs.View.{view}
use Rattle.toml.specs.declared.value.Value.{Value}
use Rattle.ov_base.specs.Split.{all_of}
use Rattle.ov_base.specs.Word.{◌>>=◌}
use Rattle.ov_topology.specs.Shape.{Shape}
use Rattle.ov_topology.specs.Fault.{name_text}
use Rattle.ov_topology.specs.declared.fault.Name.{Name}
use Rattle.ov_topology.specs.declared.fault.Name.TheVariants.{Centres, Partitions, Gateways, Write, Read}
use Rattle.ov_topology.specs.declared.fault.TopologyError.{TopologyError}
use Rattle.ov_topology.specs.declared.fault.TopologyError.TheVariants as fault

-- the value of a step, or its fault
abbrev pub need : {A B : Type 0} → Option A → TopologyError → (A → Result B TopologyError) → Result B TopologyError
need None e f = Err e
need (Some x) e f = f x

-- how many keys a document has
abbrev pub count_members : Members → ℕ
count_members no_members = 0
count_members (member k d ms) = count_members ms + 1

-- a whole number from low to high
abbrev pub within : ℕ → ℕ → ℤ → Option ℕ
within low high (pos n) = if nat_le low n && nat_le n high then Some n else None
within low high (negsuc n) = None

-- a whole number below the limit
abbrev pub below : ℕ → ℤ → Option ℕ
below limit (pos n) = if nat_lt n limit then Some n else None
below limit (negsuc n) = None

-- the whole numbers of a list, where it has no other members
abbrev pub integers : Items → Option (List ℤ)
integers no_items = Some []
integers (item d ds) = as_integer d >>= λ z. integers ds >>= λ zs. Some (z ∷ zs)

-- a list of whole numbers
abbrev pub integers_of : Data → Option (List ℤ)
integers_of d = as_array d >>= integers

-- the whole number that the code keeps
abbrev pub integer_at : Value → Option ℤ
integer_at v = as_integer (view v)

-- 1 to 8 gateways, each in one of the centres
abbrev pub gates_within : ℕ → List ℤ → Option (List ℕ)
gates_within centres gateways = if nat_lt 0 (length gateways) && nat_le (length gateways) 8 then all_of (below centres) gateways else None

-- the quorums meet
abbrev pub meeting : Shape → Result Shape TopologyError
meeting t = if nat_lt t.centres (t.write + t.read) then Ok t else Err (fault.Quorum t.write t.read t.centres)

-- Five values of the right kinds.
pub record Values : Type 0 where
  pub centres : ℤ
  pub partitions : ℤ
  pub gateways : List ℤ
  pub write : ℤ
  pub read : ℤ

-- the ranges, by name
abbrev pub in_ranges : Values → Result Shape TopologyError
in_ranges v =
    need (within 1 5 v.centres) (fault.Range Centres) λ centres.
    need (within 1 8 v.partitions) (fault.Range Partitions) λ partitions.
    need (gates_within centres v.gateways) (fault.Range Gateways) λ gateways.
    need (within 1 centres v.write) (fault.Range Write) λ write.
    need (within 1 centres v.read) (fault.Range Read) λ read.
    meeting (record { centres = centres; partitions = partitions; gateways = gateways; write = write; read = read })

-- the kinds, by name
abbrev pub of_kinds : Data → Data → Data → Data → Data → Result Shape TopologyError
of_kinds centres partitions gateways write read =
    need (as_integer centres) (fault.Kind Centres) λ c.
    need (as_integer partitions) (fault.Kind Partitions) λ p.
    need (integers_of gateways) (fault.Kind Gateways) λ gs.
    need (as_integer write) (fault.Kind Write) λ w.
    need (as_integer read) (fault.Kind Read) λ r.
    in_ranges (record { centres = c; partitions = p; gateways = gs; write = w; read = r })

-- the value of a key, by its name
abbrev pub named : Name → Members → Option Data
named name ms = get_member (name_text name) ms

-- the five keys, and no other
abbrev pub of_members : Members → Result Shape TopologyError
of_members ms =
    need (named Centres ms) (fault.Missing Centres) λ centres.
    need (named Partitions ms) (fault.Missing Partitions) λ partitions.
    need (named Gateways ms) (fault.Missing Gateways) λ gateways.
    need (named Write ms) (fault.Missing Write) λ write.
    need (named Read ms) (fault.Missing Read) λ read.
    if count_members ms == 5 then of_kinds centres partitions gateways write read else Err fault.Unknown

-- what `toml` reads of the bytes
abbrev pub document : List ℕ → Option Members
document bytes = if is_utf8 bytes then parse_document bytes else None

-- the table of the bytes, or that they are none
abbrev pub table_of : List ℕ → Result Members TopologyError
table_of bytes = need (document bytes) fault.NotToml Ok

-- the topology of the bytes, or its first fault
unfoldable pub topology_of : List ℕ → Result Shape TopologyError
topology_of bytes = need (document bytes) fault.NotToml of_members

-- a refusal says what reading gives, unless memory ran out
abbrev pub Fails : {B : Type 0} → TopologyError → Result B TopologyError → Type 0
Fails fault.Memory read = Unit {0}
Fails fault.NotToml read = read ≡ Err fault.NotToml
Fails (fault.Missing name) read = read ≡ Err (fault.Missing name)
Fails fault.Unknown read = read ≡ Err fault.Unknown
Fails (fault.Kind name) read = read ≡ Err (fault.Kind name)
Fails (fault.Range name) read = read ≡ Err (fault.Range name)
Fails (fault.Quorum w r d) read = read ≡ Err (fault.Quorum w r d)

-- what a call returns is what reading gives, unless memory ran out
abbrev pub Gives : {A B : Type 0} → (A → B) → Result A TopologyError → Result B TopologyError → Type 0
Gives view (Ok x) read = read ≡ Ok (view x)
Gives view (Err e) read = Fails e read

-- what a refusal of `toml` is reported as
abbrev pub IsCause : Error → TopologyError → Type 0
IsCause e fault.Memory = IsMemory e
IsCause e fault.NotToml = ¬ IsMemory e
IsCause e _ = ⊥
