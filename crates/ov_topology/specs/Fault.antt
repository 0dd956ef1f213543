-- The fault lines of topologies, without their line feed.
use Rattle.std.specs.Prelude.{ℕ, List, [], ◌∷◌, ◌++◌, codes}
use Rattle.std.specs.Fmt.{decimal}
use Rattle.ov_topology.specs.declared.fault.Name.{Name}
use Rattle.ov_topology.specs.declared.fault.Name.TheVariants.{Centres, Partitions, Gateways, Write, Read}
use Rattle.ov_topology.specs.declared.fault.TopologyError.{TopologyError}
use Rattle.ov_topology.specs.declared.fault.TopologyError.TheVariants as faults

-- the name of a key
abbrev pub name_text : Name → List ℕ
name_text Centres = codes "centres"
name_text Partitions = codes "partitions"
name_text Gateways = codes "gateways"
name_text Write = codes "write"
name_text Read = codes "read"

-- the line of two quorums that may miss each other
abbrev pub quorum_text : ℕ → ℕ → ℕ → List ℕ
quorum_text w r d = codes "topology: quorum " ++ (decimal w ++ 32 ∷ (decimal r ++ 32 ∷ decimal d))

-- the line of a fault; `Memory` has none
abbrev pub fault_text : TopologyError → List ℕ
fault_text faults.Memory = []
fault_text faults.NotToml = codes "topology: not toml"
fault_text (faults.Missing name) = codes "topology: missing " ++ name_text name
fault_text faults.Unknown = codes "topology: unknown key"
fault_text (faults.Kind name) = codes "topology: kind " ++ name_text name
fault_text (faults.Range name) = codes "topology: range " ++ name_text name
fault_text (faults.Quorum w r d) = quorum_text w r d
