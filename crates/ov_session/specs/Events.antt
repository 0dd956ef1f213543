-- What has happened to the sessions, newest first, and what it tells of one session.
use Rattle.std.specs.Prelude.{ℕ, ◌+◌, max, ◌==◌, List, [], ◌∷◌, if◌then◌else◌}
use Rattle.ov_functor.specs.declared.reply.Reply.{Reply}
use Rattle.ov_functor.specs.declared.reply.Reply.TheVariants.{Done, Aborted, Snap}

-- A command of a session began; it was replied, with this reply; it was told that it is replied elsewhere.
pub data Event : Type 0 where
  Begun : (session seq : ℕ) → Event
  Replied : (session seq : ℕ) → (reply : Reply) → Event
  Told : (session seq : ℕ) → Event

-- the greatest of 0 and of what f says of each
abbrev pub greatest : {A : Type 0} → (A → ℕ) → List A → ℕ
greatest f [] = 0
greatest f (x ∷ xs) = max (f x) (greatest f xs)

-- the number, where the sessions are the same
abbrev pub of_session : ℕ → ℕ → ℕ → ℕ
of_session s other n = if other == s then n else 0

abbrev pub begun_in : ℕ → Event → ℕ
begun_in s (Begun other seq) = of_session s other seq
begun_in s (Replied other seq reply) = 0
begun_in s (Told other seq) = 0

abbrev pub replied_in : ℕ → Event → ℕ
replied_in s (Begun other seq) = 0
replied_in s (Replied other seq reply) = of_session s other seq
replied_in s (Told other seq) = 0

abbrev pub known_in : ℕ → Event → ℕ
known_in s (Begun other seq) = 0
known_in s (Replied other seq reply) = of_session s other seq
known_in s (Told other seq) = of_session s other seq

-- the least watermark of a snapshot that is not older than the reply: above its version, or at its watermark
abbrev pub floor_of : Reply → ℕ
floor_of (Done version gets) = version + 1
floor_of (Aborted version gets) = version + 1
floor_of (Snap watermark shown) = watermark

abbrev pub floor_in : ℕ → Event → ℕ
floor_in s (Begun other seq) = 0
floor_in s (Replied other seq reply) = of_session s other (floor_of reply)
floor_in s (Told other seq) = 0

-- the greatest number of a command of the session that began
abbrev pub begun : ℕ → List Event → ℕ
begun s events = greatest (begun_in s) events

-- the greatest number of a command of the session that was replied here
abbrev pub replied : ℕ → List Event → ℕ
replied s events = greatest (replied_in s) events

-- the greatest number of a command of the session that is known as replied, here or elsewhere
abbrev pub known : ℕ → List Event → ℕ
known s events = greatest (known_in s) events

-- the least watermark at which a snapshot of the session may be answered
abbrev pub floor : ℕ → List Event → ℕ
floor s events = greatest (floor_in s) events
