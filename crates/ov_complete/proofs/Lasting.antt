-- What lasts over the passes of a calm round: who runs, what has begun, and what is visible.
use Rattle.std.proofs.Common.{◌≡◌, ℕ, ◌^◌, ◌≤◌, ◌<◌, Bool, true, false, not, ◌||◌, Option, Some, None, List, [], ◌∷◌, length, refl, arith, inl, inr}
use Rattle.std.specs.Prelude.{if◌then◌else◌}
use Rattle.ov_topology.specs.Shape.{gates}
use Rattle.ov_topology.specs.declared.actor.Actor.{Actor}
use Rattle.ov_topology.specs.declared.actor.Actor.TheVariants.{Gate, Settler}
use Rattle.ov_event.specs.Letters.{is_gate}
use Rattle.ov_event.specs.declared.entry.Entry.{Entry}
use Rattle.ov_event.specs.declared.kind.Kind.{Kind}
use Rattle.ov_event.specs.declared.kind.Kind.TheVariants as kinds
use Rattle.ov_gossip.specs.Marks.{low_of}
use Rattle.ov_history.specs.Past.{History, same_actor, stopped, stops, tally}
use Rattle.ov_history.specs.Draws.{Drawn, draw_of, drawn_in}
use Rattle.ov_history.specs.Marks.{mark, visible}
use Rattle.ov_history.specs.May.{Setting}
use Rattle.ov_history.proofs.Counting.{least_less}
use Rattle.ov_history.proofs.Past.{at_older}
use Rattle.ov_history.specs.Gives.{gives}
use Rattle.ov_history.specs.Cores.{onto}
use Rattle.ov_follow.specs.Lines.{Line, followed, followed_all}
use Rattle.ov_follow.specs.Calm.{Pass, passed}
use Rattle.ov_laws.specs.Draws.{Drew, moves_clock}
use Rattle.ov_complete.specs.Facts.{Runs, HasBegun, AllVisible}
use Rattle.ov_complete.specs.Stable.{Stable, GiveOnly, is_beginning}
use Rattle.ov_complete.proofs.General.{stable_whole}
use Rattle.ov_complete.proofs.Keeping.{keeps, run_all}

-- ---- who runs

-- whether an entry stops nobody
abbrev pub stops_nobody : Entry → Bool
stops_nobody e = not (stops e.kind)

-- an entry that stops nobody does not stop
pub nobody_stops : (e : Entry) → stops_nobody e ≡ true → stops e.kind ≡ false
nobody_stops e is = by (stops e.kind) is
  where
    by : (b : Bool) → not b ≡ true → b ≡ false
    by true is = absurd cc
    by false is = refl

-- a run over a whole world, after lines that stop nobody and move clocks little
pub runs_after : (t : Setting) (h : History) (lines : List Line) → GiveOnly t stops_nobody lines → tally moves_clock (followed_all t h lines) < 2 ^ 45 → Runs t h → Runs t (followed_all t h lines)
runs_after t h lines only early runs = record {
  run = run_all t h lines runs.run;
  roster = runs.roster;
  own = runs.own;
  whole = keeps (stable_whole t stops_nobody nobody_stops) h lines runs.run only runs.whole;
  early = early;
}

-- a world that is whole after an entry was so before it
pub runs_before : (h : History) (e : Entry) (a : Actor) → stopped a (e ∷ h) ≡ false → stopped a h ≡ false
runs_before h e a runs = by (if same_actor a e.actor then stops e.kind else false) (stopped a h) runs
  where
    by : (b s : Bool) → (b || s) ≡ false → s ≡ false
    by true s none = absurd cc
    by false s is = is

-- ---- what has begun

-- a command that has begun has begun for ever
pub begun_stays : (t : Setting) (s c : ℕ) → Stable t (λ e. true) (λ h. HasBegun h s c)
begun_stays t s c = record {
  keep = λ h e run may any begun. record {
    number = begun.number;
    begun = record {
      gate = begun.begun.gate;
      start = begun.begun.start;
      there = at_older h begun.number (record { actor = Gate begun.begun.gate; kind = kinds.Began s c begun.begun.start }) e begun.begun.there;
    };
  };
}

-- ---- what is visible

-- whether an entry begins no command
abbrev pub begins_none : Entry → Bool
begins_none e = not (is_beginning e.kind)

-- an entry that begins no command draws no version
draws_none : (g : ℕ) (e : Entry) (drawn : Drawn) → begins_none e ≡ true → draw_of g e ≡ Some drawn → ⊥
draws_none g e drawn none draws = by (is_gate g e.actor) e.kind none draws
  where
    by : (b : Bool) (kind : Kind) → not (is_beginning kind) ≡ true → (if b then drawn_in kind else None) ≡ Some drawn → ⊥
    by true (kinds.Began s c start) not_so is = absurd cc
    by true other not_so is = absurd cc
    by false kind not_so is = absurd cc

-- what is visible stays so while no command begins
pub visible_stays : (t : Setting) → Stable t begins_none (AllVisible t.topology)
visible_stays t = record { keep = λ h e run may none all. λ s g drawn less known drew. by h e none all s g drawn less known drew }
  where
    higher : (h : History) (e : Entry) (s : ℕ) → visible t.topology (Settler s) h ≤ visible t.topology (Settler s) (e ∷ h)
    higher h e s =
        least_less (λ k. mark low_of (Settler s) k h) (λ k. mark low_of (Settler s) k (e ∷ h)) (mark low_of (Settler s) 0 h) (mark low_of (Settler s) 0 (e ∷ h)) (gates t.topology)
        (omega arith) (λ k. omega arith)

    by : (h : History) (e : Entry) → begins_none e ≡ true → AllVisible t.topology h → (s g : ℕ) (drawn : Drawn) → s < t.topology.centres → g < gates t.topology → Drew g drawn (e ∷ h)
        → drawn.version < visible t.topology (Settler s) (e ∷ h)
    by h e none all s g drawn less known (inl now) = absurd (draws_none g e drawn none now)
    by h e none all s g drawn less known (inr drew) = let seen = all s g drawn less known drew in let more = higher h e s in omega (arith, seen, more)

-- ---- how long histories are

-- a history does not get shorter by lines
pub lines_longer : (t : Setting) (h : History) (lines : List Line) → length h ≤ length (followed_all t h lines)
lines_longer t h [] = omega arith
lines_longer t h (line ∷ lines) =
    let first = by (gives t h line.actor line.act) in
    let rest = lines_longer t (followed t h line) lines in
    omega (arith, first, rest)
  where
    by : (o : Option Entry) → length h ≤ length (onto o h)
    by None = omega arith
    by (Some e) = omega arith

-- a history does not get shorter by passes
pub passed_longer : (t : Setting) (h : History) (passes : List Pass) → length h ≤ length (passed t h passes)
passed_longer t h [] = omega arith
passed_longer t h (pass ∷ passes) =
    let lines : length h ≤ length (followed_all t h (pass t h)) = lines_longer t h (pass t h) in
    let rest = passed_longer t (followed_all t h (pass t h)) passes in
    omega (arith, lines, rest)
