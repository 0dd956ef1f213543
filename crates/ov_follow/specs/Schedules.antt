-- The schedules of the examples, and what they give.
use Rattle.std.specs.Prelude.{List, [], ◌∷◌, ◌++◌, codes, pos}
use Rattle.ov_base.specs.Version.{number}
use Rattle.ov_functor.specs.declared.item.Item.{Item}
use Rattle.ov_functor.specs.declared.effect.Effect.TheVariants as effects
use Rattle.ov_functor.specs.declared.part.Part.{Part}
use Rattle.ov_functor.specs.declared.part.Part.TheVariants.{Put, Del, Add, Least, Greatest, Move, Get}
use Rattle.ov_topology.specs.declared.actor.Actor.TheVariants.{Gate, Node, Settler}
use Rattle.ov_topology.specs.declared.mode.Mode.TheVariants.{Quorum, One}
use Rattle.ov_script.specs.declared.step.Step.{Step}
use Rattle.ov_script.specs.declared.step.Step.TheVariants.{Begin, Take, Publish, Ask, Settle, Stop}
use Rattle.ov_history.specs.May.{Setting}
use Rattle.ov_follow.specs.Worlds.{one_gateway, two_gateways, three_centres, four_partitions, two_centres, session, does, snaps, first_of, waits, world, letter, minus}

-- ---- a move that does not hold

-- get a, b and y
abbrev pub get_a_b_y : List Part
get_a_b_y = Get (codes "a") ∷ Get (codes "b") ∷ Get (codes "y") ∷ []

-- s: put a 10; then move a b 11 and put y 1; then get a, b and y
abbrev pub short_move : Setting
short_move =
    world one_gateway
    (session (codes "s") 0 (does (Put (codes "a") (pos 10) ∷ []) ∷ does (Move (codes "a") (codes "b") (pos 11) ∷ Put (codes "y") (pos 1) ∷ []) ∷ does get_a_b_y ∷ []) ∷ [])

-- put x 5
abbrev pub put_x5 : List Part
put_x5 = Put (codes "x") (pos 5) ∷ []

-- ---- values

-- a: get x beside an add to it; then get x
abbrev pub get_beside_add : Setting
get_beside_add = world one_gateway (session (codes "a") 0 (does (Get (codes "x") ∷ Add (codes "x") (pos 3) ∷ []) ∷ does (Get (codes "x") ∷ []) ∷ []) ∷ [])

-- s: put a 10; then move it all to b; then get both
abbrev pub whole_move : Setting
whole_move =
    world one_gateway
    (session (codes "s") 0 (does (Put (codes "a") (pos 10) ∷ []) ∷ does (Move (codes "a") (codes "b") (pos 10) ∷ []) ∷ does (Get (codes "a") ∷ Get (codes "b") ∷ []) ∷ []) ∷ [])

-- s: put b the greatest amount; then a move to it; then an add to it; then get both
abbrev pub full_key : Setting
full_key =
    world one_gateway
    (session (codes "s") 0 (does (Put (codes "a") (pos 5) ∷ Put (codes "b") (pos 1000000000000000000) ∷ []) ∷ does (Move (codes "a") (codes "b") (pos 1) ∷ []) ∷
    does (Add (codes "b") (pos 1) ∷ []) ∷ does (Get (codes "a") ∷ Get (codes "b") ∷ []) ∷ []) ∷ [])

-- s: a least, a greatest and the least amount of absent keys; then less than that, and a deletion; then get all
abbrev pub empty_keys : Setting
empty_keys =
    world one_gateway
    (session (codes "s") 0 (does (Least (codes "c") (pos 4) ∷ Greatest (codes "d") (minus 2) ∷ Add (codes "e") (minus 1000000000000000000) ∷ []) ∷
    does (Add (codes "e") (minus 1) ∷ Del (codes "c") ∷ []) ∷ does (Get (codes "c") ∷ Get (codes "d") ∷ Get (codes "e") ∷ []) ∷ []) ∷ [])

-- ---- two gateways

-- put x 7
abbrev pub put_x7 : List Part
put_x7 = Put (codes "x") (pos 7) ∷ []

-- a of g0: put x 7; b of g1 has no command
abbrev pub put_by_one : Setting
put_by_one = world two_gateways (session (codes "a") 0 (does put_x7 ∷ []) ∷ session (codes "b") 1 [] ∷ [])

-- gateway 0 alone publishes and is heard
abbrev pub heard_one : List Step
heard_one =
    Begin (codes "a") 100 ∷ Take (Node 0 0) (letter 1 1) ∷ Take (Gate 0) (letter 2 1) ∷ Publish 0 101 ∷ Take (Settler 0) (letter 4 1) ∷ Ask 0 Quorum ∷ []

-- then gateway 1 publishes and is heard, and the settler settles
abbrev pub heard_both : List Step
heard_both =
    heard_one ++ Publish 1 50 ∷ Take (Settler 0) (letter 6 1) ∷ Ask 0 Quorum ∷ Take (Node 0 0) (letter 8 1) ∷ Take (Settler 0) (letter 9 1) ∷ Settle 0 ∷
    Take (Settler 0) (letter 1 2) ∷ []

-- ---- three centres

-- a of g0: put x 1
abbrev pub put_in_three : Setting
put_in_three = world three_centres (session (codes "a") 0 (does (Put (codes "x") (pos 1) ∷ []) ∷ []) ∷ [])

-- one node takes the write three times, and the gateway its acknowledgement twice
abbrev pub repeated : List Step
repeated =
    Begin (codes "a") 10 ∷ Take (Node 0 0) (letter 1 1) ∷ Take (Node 0 0) (letter 1 1) ∷ Take (Node 0 0) (letter 1 1) ∷ Take (Gate 0) (letter 2 1) ∷
    Take (Gate 0) (letter 2 1) ∷ Publish 0 0 ∷ []

-- two of three nodes store the write, and the third centre's settler hears of that
abbrev pub written_twice : List Step
written_twice =
    Begin (codes "a") 10 ∷ Take (Node 0 0) (letter 1 1) ∷ Take (Node 1 0) (letter 1 1) ∷ Take (Gate 0) (letter 2 1) ∷ Take (Gate 0) (letter 3 1) ∷
    Publish 0 0 ∷ Take (Settler 2) (letter 6 1) ∷ []

-- it asks all nodes, one that holds the item and one that does not answer, and their answers are taken
abbrev pub gathered : List Step
gathered = written_twice ++ Ask 2 Quorum ∷ Take (Node 1 0) (letter 8 1) ∷ Take (Node 2 0) (letter 8 1) ∷ Take (Settler 2) (letter 9 1) ∷ Take (Settler 2) (letter 10 1) ∷ []

-- and it settles
abbrev pub settled_by_quorum : List Step
settled_by_quorum = gathered ++ Settle 2 ∷ []

-- it has one of the two answers that it needs, and tries to settle
abbrev pub too_few : List Step
too_few = written_twice ++ Ask 2 Quorum ∷ Take (Node 1 0) (letter 8 1) ∷ Take (Settler 2) (letter 9 1) ∷ Settle 2 ∷ []

-- it asks the nodes of its own centre, before and after the third node has stored the write
abbrev pub settled_by_one : List Step
settled_by_one =
    written_twice ++ Ask 2 One ∷ Take (Node 2 0) (letter 8 1) ∷ Take (Settler 2) (letter 9 1) ∷ Settle 2 ∷ Take (Node 2 0) (letter 1 1) ∷
    Take (Gate 0) (letter 12 1) ∷ Publish 0 0 ∷ Take (Settler 2) (letter 14 1) ∷ Ask 2 One ∷ Take (Node 2 0) (letter 16 1) ∷ Take (Settler 2) (letter 17 1) ∷
    Settle 2 ∷ []

-- an answer comes when its round is replaced by another one
abbrev pub replaced : List Step
replaced =
    written_twice ++ Ask 2 Quorum ∷ Take (Node 1 0) (letter 8 1) ∷ Publish 0 20 ∷ Take (Settler 2) (letter 10 1) ∷ Ask 2 Quorum ∷ Take (Settler 2) (letter 9 1) ∷ []

-- the item that is written
abbrev pub item_x : Item
item_x = record { version = number 10 0; key = codes "x"; functor = record { key = codes "x"; effect = effects.Put (pos 1); moves = [] } }

-- ---- a late vector

-- a of g0 has no command
abbrev pub no_command : Setting
no_command = world one_gateway (session (codes "a") 0 [] ∷ [])

-- the settler hears what was published first after what was published later
abbrev pub late : List Step
late = Publish 0 5 ∷ Publish 0 9 ∷ Take (Settler 0) (letter 2 1) ∷ Take (Settler 0) (letter 1 1) ∷ Ask 0 Quorum ∷ []

-- ---- a command that waits for another gateway's

-- a of g0: put x 7; b of g1: get x, after the first of a
abbrev pub waiting : Setting
waiting =
    world two_gateways
    (session (codes "a") 0 (does put_x7 ∷ []) ∷ session (codes "b") 1 (waits (first_of 0 ∷ []) (Get (codes "x") ∷ []) ∷ []) ∷ [])

-- b may not begin, and there is no such node
abbrev pub too_early : List Step
too_early = Begin (codes "a") 100 ∷ Begin (codes "b") 0 ∷ Take (Node 4 7) (letter 9 9) ∷ []

-- all is replied, and then the settler stops
abbrev pub settler_stops : List Step
settler_stops = Stop (Settler 0) ∷ []

-- ---- stopped actors

-- a of g0: put x 7; g1 has no session
abbrev pub put_beside_none : Setting
put_beside_none = world two_gateways (session (codes "a") 0 (does put_x7 ∷ []) ∷ [])

-- the second gateway stops
abbrev pub gateway_stops : List Step
gateway_stops = Stop (Gate 1) ∷ []

-- the node of the second centre stops
abbrev pub node_stops : List Step
node_stops = Stop (Node 1 0) ∷ []

-- a settler asks, and stops
abbrev pub asks_and_stops : List Step
asks_and_stops = Publish 0 5 ∷ Take (Settler 0) (letter 1 1) ∷ Ask 0 Quorum ∷ Stop (Settler 0) ∷ []

-- ---- transfers

-- z of g0: put p, q and r 100; a, b and c of the three gateways move p to q, q to r and r to p; then z gets p, q and r
abbrev pub transfers : Setting
transfers =
    world four_partitions
    (session (codes "z") 0 (does (Put (codes "p") (pos 100) ∷ Put (codes "q") (pos 100) ∷ Put (codes "r") (pos 100) ∷ []) ∷ waits (first_of 1 ∷ first_of 2 ∷ first_of 3 ∷ []) (Get (codes "p") ∷ Get (codes "q") ∷ Get (codes "r") ∷ []) ∷ []) ∷
    session (codes "a") 0 (waits (first_of 0 ∷ []) (Move (codes "p") (codes "q") (pos 30) ∷ []) ∷ []) ∷
    session (codes "b") 1 (waits (first_of 0 ∷ []) (Move (codes "q") (codes "r") (pos 20) ∷ []) ∷ []) ∷
    session (codes "c") 2 (waits (first_of 0 ∷ []) (Move (codes "r") (codes "p") (pos 10) ∷ []) ∷ []) ∷ [])

-- ---- snapshots

-- a: snap x; put x 5; snap x and y
abbrev pub two_snaps : Setting
two_snaps = world one_gateway (session (codes "a") 0 (snaps (codes "x" ∷ []) ∷ does (Put (codes "x") (pos 5) ∷ []) ∷ snaps (codes "x" ∷ codes "y" ∷ []) ∷ []) ∷ [])

-- a of g0: put x 1; b of g1: snap x
abbrev pub put_and_snap : Setting
put_and_snap = world two_centres (session (codes "a") 0 (does (Put (codes "x") (pos 1) ∷ []) ∷ []) ∷ session (codes "b") 1 (snaps (codes "x" ∷ []) ∷ []) ∷ [])

-- b is answered before its settler has heard anything
abbrev pub unheard : List Step
unheard = Begin (codes "b") 0 ∷ Take (Settler 1) (letter 1 1) ∷ Take (Gate 1) (letter 2 1) ∷ []

-- a: put x 5; b: snap x; both of g0
abbrev pub put_beside_snap : Setting
put_beside_snap = world one_gateway (session (codes "a") 0 (does put_x5 ∷ []) ∷ session (codes "b") 0 (snaps (codes "x" ∷ []) ∷ []) ∷ [])

-- b is answered when its settler has heard of the put, and has not settled it
abbrev pub heard_not_settled : List Step
heard_not_settled =
    Begin (codes "a") 0 ∷ Take (Node 0 0) (letter 1 1) ∷ Take (Gate 0) (letter 2 1) ∷ Publish 0 0 ∷ Take (Settler 0) (letter 4 1) ∷ Begin (codes "b") 0 ∷
    Take (Settler 0) (letter 6 1) ∷ Take (Gate 0) (letter 7 1) ∷ []

-- ---- replies that are repeated

-- the put of the first example is replied once, although its result is computed, and taken, twice
abbrev pub replied_again : List Step
replied_again =
    Begin (codes "a") 0 ∷ Take (Node 0 0) (letter 1 1) ∷ Take (Gate 0) (letter 2 1) ∷ Publish 0 0 ∷ Take (Settler 0) (letter 4 1) ∷ Ask 0 Quorum ∷
    Take (Node 0 0) (letter 6 1) ∷ Take (Settler 0) (letter 7 1) ∷ Settle 0 ∷ Take (Settler 0) (letter 1 2) ∷ Take (Settler 0) (letter 1 2) ∷
    Take (Gate 0) (letter 10 1) ∷ Take (Gate 0) (letter 10 1) ∷ Take (Gate 0) (letter 11 1) ∷ []

-- ---- the greatest clock

-- a: put x 1; put x 2
abbrev pub two_puts : Setting
two_puts = world one_gateway (session (codes "a") 0 (does (Put (codes "x") (pos 1) ∷ []) ∷ does (Put (codes "x") (pos 2) ∷ []) ∷ []) ∷ [])

-- a begins at the greatest reading of a clock
abbrev pub greatest_clock : List Step
greatest_clock = Begin (codes "a") 18446744073709551615 ∷ []

-- ---- a mark before the first draw

-- a: put x 5
abbrev pub one_put : Setting
one_put = world one_gateway (session (codes "a") 0 (does put_x5 ∷ []) ∷ [])

-- the gateway publishes before it begins
abbrev pub early_mark : List Step
early_mark = Publish 0 3 ∷ Begin (codes "a") 0 ∷ Publish 0 0 ∷ []

-- ---- a plan

-- put a 3
abbrev pub put_a3 : List Part
put_a3 = Put (codes "a") (pos 3) ∷ []

-- move a b 2
abbrev pub move_a_b2 : List Part
move_a_b2 = Move (codes "a") (codes "b") (pos 2) ∷ []
