-- Whether the worlds of stopped actors are whole.
use Rattle.std.proofs.Common.{◌≡◌, ℕ, ◌<◌, ◌≤◌, false, true, refl, arith, zero, suc}
use Rattle.std.specs.Prelude.{not, []}
use Rattle.ov_base.specs.Key.{key_eq}
use Rattle.ov_functor.specs.Execution.{changed, covers}
use Rattle.ov_topology.specs.declared.actor.Actor.TheVariants.{Gate, Node, Settler}
use Rattle.ov_history.specs.Past.{stopped}
use Rattle.ov_history.specs.Counts.{weight}
use Rattle.ov_follow.specs.Lines.{drive}
use Rattle.ov_follow.specs.Calm.{calm}
use Rattle.ov_follow.specs.Whole.{IsWhole}
use Rattle.ov_follow.specs.Worlds.{two_gateways, three_centres}
use Rattle.ov_follow.specs.Schedules.{put_beside_none, put_in_three, gateway_stops, node_stops}

-- the second gateway has stopped
gateway_has : stopped (Gate 1) (calm put_beside_none (drive put_beside_none [] gateway_stops)) ≡ true
unfolding key_eq changed covers
gateway_has = refl

-- with a gateway stopped the world is not whole
pub broken : IsWhole two_gateways (calm put_beside_none (drive put_beside_none [] gateway_stops)) → ⊥
broken whole = let runs = whole.gateways 1 (omega arith) in let has = gateway_has in absurd cc

-- with one node of three stopped it is
pub whole : IsWhole three_centres (calm put_in_three (drive put_in_three [] node_stops))
unfolding key_eq changed covers
whole = record { gateways = gate; settlers = settler; nodes = node }
  where
    gate : (g : ℕ) → g < 1 → stopped (Gate g) (calm put_in_three (drive put_in_three [] node_stops)) ≡ false
    gate zero less = refl
    gate (suc g) less = absurd (omega (arith, less))

    settler : (s : ℕ) → s < 3 → stopped (Settler s) (calm put_in_three (drive put_in_three [] node_stops)) ≡ false
    settler zero less = refl
    settler (suc zero) less = refl
    settler (suc (suc zero)) less = refl
    settler (suc (suc (suc s))) less = absurd (omega (arith, less))

    node : (p : ℕ) → p < 1 → 2 ≤ weight three_centres (λ c. not (stopped (Node c p) (calm put_in_three (drive put_in_three [] node_stops))))
    node zero less = omega arith
    node (suc p) less = absurd (omega (arith, less))
