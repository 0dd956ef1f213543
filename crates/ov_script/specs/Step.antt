-- The lines of a schedule: their text, which steps have one, and how a text is read.
use Rattle.std.specs.Prelude.{ℕ, List, ◌∷◌, ◌++◌, Option, Some, None, if◌then◌else◌, codes}
use Rattle.std.specs.Fmt.{decimal}
use Rattle.std.specs.Str.{bytes_eq}
use Rattle.ov_base.specs.Word.{◌>>=◌}
use Rattle.ov_base.specs.Split.{cut_at, pair_of}
use Rattle.ov_base.specs.Number.{number_of, IsWord64}
use Rattle.ov_topology.specs.Actor.{IsActor, IsGate, IsSettler, actor_text, gate_text, settler_text, actor_of, gate_of, settler_of}
use Rattle.ov_topology.specs.Mode.{mode_text, mode_of}
use Rattle.ov_topology.specs.Place.{IsPlace, place_text, place_of}
use Rattle.ov_session.specs.Name.{IsName, name_of}
use Rattle.ov_script.specs.declared.step.Step.{Step}
use Rattle.ov_script.specs.declared.step.Step.TheVariants.{Begin, Take, Publish, Ask, Settle, Stop}

-- ---- the text of a step, without its line feed

-- the words of a step, with a space between them
abbrev pub step_text : Step → List ℕ
step_text (Begin session clock) = codes "begin " ++ session ++ 32 ∷ decimal clock
step_text (Take actor place) = codes "take " ++ actor_text actor ++ 32 ∷ place_text place
step_text (Publish gate clock) = codes "publish " ++ gate_text gate ++ 32 ∷ decimal clock
step_text (Ask settler mode) = codes "ask " ++ settler_text settler ++ 32 ∷ mode_text mode
step_text (Settle settler) = codes "settle " ++ settler_text settler
step_text (Stop actor) = codes "stop " ++ actor_text actor

-- ---- the steps that have a text

-- the step is in form
abbrev pub IsStep : Step → Type 0
IsStep (Begin session clock) = IsName session × IsWord64 clock
IsStep (Take actor place) = IsActor actor × IsPlace place
IsStep (Publish gate clock) = IsGate gate × IsWord64 clock
IsStep (Ask settler mode) = IsSettler settler
IsStep (Settle settler) = IsSettler settler
IsStep (Stop actor) = IsActor actor

-- ---- reading a step

-- reading `SESSION CLOCK`
abbrev pub begin_of : List ℕ → Option Step
begin_of rest = pair_of 32 name_of number_of Begin rest

-- reading `ACTOR PLACE`
abbrev pub take_of : List ℕ → Option Step
take_of rest = pair_of 32 actor_of place_of Take rest

-- reading `GATEWAY CLOCK`
abbrev pub publish_of : List ℕ → Option Step
publish_of rest = pair_of 32 gate_of number_of Publish rest

-- reading `SETTLER quorum` or `SETTLER one`
abbrev pub ask_of : List ℕ → Option Step
ask_of rest = pair_of 32 settler_of mode_of Ask rest

-- reading SETTLER
abbrev pub settle_of : List ℕ → Option Step
settle_of rest = settler_of rest >>= λ settler. Some (Settle settler)

-- reading ACTOR
abbrev pub stop_of : List ℕ → Option Step
stop_of rest = actor_of rest >>= λ actor. Some (Stop actor)

-- a line by its first word
abbrev pub verb_of : List ℕ → List ℕ → Option Step
verb_of verb rest =
    if bytes_eq verb (codes "begin") then begin_of rest
    else (if bytes_eq verb (codes "take") then take_of rest
    else (if bytes_eq verb (codes "publish") then publish_of rest
    else (if bytes_eq verb (codes "ask") then ask_of rest
    else (if bytes_eq verb (codes "settle") then settle_of rest
    else (if bytes_eq verb (codes "stop") then stop_of rest else None)))))

-- the step of a line
unfoldable pub step_of : List ℕ → Option Step
step_of text = cut_at 32 text >>= λ words. verb_of words.0 words.1
