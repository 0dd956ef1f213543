-- A topology that is read is in its ranges.
use Rattle.std.proofs.Common.{◌≡◌, ℕ, ◌+◌, ◌<◌, ◌≤◌, ℤ, pos, negsuc, leb, ltb, eqb, ◌&&◌, Bool, true, false, List, length, Option, Some, None, Result, Ok, Err, refl, ap, subst, cond, ◌∙◌, arith}
use Rattle.std.specs.List.{AllByRecursion}
use Rattle.std.proofs.lemmas.Bool.{leb-true, ltb-true, and_parts}
use Rattle.std.proofs.lemmas.List.{length-map}
use Rattle.std.proofs.lemmas.Option.{cond_some}
use Rattle.toml.specs.Data.{Data, Members, as_integer}
use Rattle.ov_base.specs.Split.{all_of}
use Rattle.ov_base.proofs.Readers.{chosen}
use Rattle.ov_base.proofs.Traverse.{all_of_takes}
use Rattle.ov_topology.specs.Shape.{Shape, IsShape, IsRanged}
use Rattle.ov_topology.specs.Read.{need, within, below, gates_within, Values, meeting, in_ranges, of_kinds, of_members, named, count_members, integers_of, document, topology_of}
use Rattle.ov_topology.specs.declared.fault.Name.TheVariants.{Centres, Partitions, Gateways, Write, Read}
use Rattle.ov_topology.specs.declared.fault.TopologyError.{TopologyError}
use Rattle.ov_topology.specs.declared.fault.TopologyError.TheVariants as fault

pub within_bounds : (low high : ℕ) (z : ℤ) (n : ℕ) → within low high z ≡ Some n → (low ≤ n) × (n ≤ high)
within_bounds low high (pos m) n e =
    let q = cond_some (leb low m && leb m high) m n e in
    let tests = and_parts (leb low m) (leb m high) q.0 in
    subst (λ (k : ℕ). (low ≤ k) × (k ≤ high)) q.1 (leb-true low m tests.0, leb-true m high tests.1)
within_bounds low high (negsuc m) n e = absurd cc

below_bounds : (limit : ℕ) (z : ℤ) (n : ℕ) → below limit z ≡ Some n → (n < limit) × (z ≡ pos n)
below_bounds limit (pos m) n e = let q = cond_some (ltb m limit) m n e in subst (λ (k : ℕ). (k < limit) × (pos m ≡ pos k)) q.1 (ltb-true m limit q.0, refl)
below_bounds limit (negsuc m) n e = absurd cc

pub gates_bounds : (centres : ℕ) (zs : List ℤ) (gates : List ℕ) → gates_within centres zs ≡ Some gates
    → (1 ≤ length gates) × (length gates ≤ 8) × AllByRecursion (λ centre. centre < centres) gates
gates_bounds centres zs gates e =
    let q = chosen (ltb 0 (length zs) && leb (length zs) 8) (all_of (below centres) zs) gates e in
    let tests = and_parts (ltb 0 (length zs)) (leb (length zs) 8) q.0 in
    let some = ltb-true 0 (length zs) tests.0 in
    let few = leb-true (length zs) 8 tests.1 in
    let each = all_of_takes (below centres) (λ centre. centre < centres) pos (below_bounds centres) zs gates q.1 in
    let same : length zs ≡ length gates = ap length each.1 ∙ length-map gates pos in
    (omega arith, omega arith, each.0)

-- a step that gave a value has it
need_ok : {A B P : Type 0} (o : Option A) (e : TopologyError) (f : A → Result B TopologyError) (t : B) → need o e f ≡ Ok t → ((x : A) → o ≡ Some x → f x ≡ Ok t → P) → P
need_ok None e f t h k = absurd cc
need_ok (Some x) e f t h k = k x refl h

-- a test that was passed
chosen_ok : {B : Type 0} (b : Bool) (good : Result B TopologyError) (e : TopologyError) (t : B) → cond b good (Err e) ≡ Ok t → (b ≡ true) × (good ≡ Ok t)
chosen_ok true good e t h = (refl, h)
chosen_ok false good e t h = absurd cc

meeting_is : (shape t : Shape) → IsRanged shape → meeting shape ≡ Ok t → IsShape t
meeting_is shape t h e =
    let q = chosen_ok (ltb shape.centres (shape.write + shape.read)) (Ok shape) (fault.Quorum shape.write shape.read shape.centres) t e in
    let is : ◌≡◌ {A = Shape} shape t = cc in
    let meet = ltb-true shape.centres (shape.write + shape.read) q.0 in
    subst IsShape is (record {
      some_centre = h.centres.0;
      few_centres = h.centres.1;
      some_partition = h.partitions.0;
      few_partitions = h.partitions.1;
      some_gateway = h.gateways.0;
      few_gateways = h.gateways.1;
      gateways_at = h.gateways_at;
      some_write = h.write.0;
      few_write = h.write.1;
      some_read = h.read.0;
      few_read = h.read.1;
      meet = meet;
    })

ranges_are : (v : Values) (t : Shape) → in_ranges v ≡ Ok t → IsShape t
ranges_are v t e =
    need_ok (within 1 5 v.centres) _ _ t e λ centres here e1.
    need_ok (within 1 8 v.partitions) _ _ t e1 λ partitions here1 e2.
    need_ok (gates_within centres v.gateways) _ _ t e2 λ gateways here2 e3.
    need_ok (within 1 centres v.write) _ _ t e3 λ write here3 e4.
    need_ok (within 1 centres v.read) _ _ t e4 λ read here4 last.
    let gates = gates_bounds centres v.gateways gateways here2 in
    meeting_is (record { centres = centres; partitions = partitions; gateways = gateways; write = write; read = read }) t (record {
      centres = within_bounds 1 5 v.centres centres here;
      partitions = within_bounds 1 8 v.partitions partitions here1;
      gateways = (gates.0, gates.1);
      gateways_at = gates.2;
      write = within_bounds 1 centres v.write write here3;
      read = within_bounds 1 centres v.read read here4;
    }) last

kinds_are : (centres partitions gateways write read : Data) (t : Shape) → of_kinds centres partitions gateways write read ≡ Ok t → IsShape t
kinds_are centres partitions gateways write read t e =
    need_ok (as_integer centres) _ _ t e λ c h e1.
    need_ok (as_integer partitions) _ _ t e1 λ p h1 e2.
    need_ok (integers_of gateways) _ _ t e2 λ gs h2 e3.
    need_ok (as_integer write) _ _ t e3 λ w h3 e4.
    need_ok (as_integer read) _ _ t e4 λ r h4 last.
    ranges_are (record { centres = c; partitions = p; gateways = gs; write = w; read = r }) t last

members_are : (ms : Members) (t : Shape) → of_members ms ≡ Ok t → IsShape t
members_are ms t e =
    need_ok (named Centres ms) _ _ t e λ centres h e1.
    need_ok (named Partitions ms) _ _ t e1 λ partitions h1 e2.
    need_ok (named Gateways ms) _ _ t e2 λ gateways h2 e3.
    need_ok (named Write ms) _ _ t e3 λ write h3 e4.
    need_ok (named Read ms) _ _ t e4 λ read h4 last.
    let q = chosen_ok (eqb (count_members ms) 5) (of_kinds centres partitions gateways write read) fault.Unknown t last in
    kinds_are centres partitions gateways write read t q.1

-- a topology that is read is in its ranges, and its quorums meet
pub topology_is : (bytes : List ℕ) (t : Shape) → topology_of bytes ≡ Ok t → IsShape t
unfolding topology_of
topology_is bytes t e = need_ok (document bytes) fault.NotToml of_members t e λ ms h last. members_are ms t last
