-- The words of the command line, by their bytes.
use Rattle.std.specs.Prelude.{ℕ, ◌≤◌, Bool, true, false, ◌==◌, List, [], ◌∷◌, codes, Option, Some, None, if◌then◌else◌}
use Rattle.std.specs.Str.{bytes_eq}
use Rattle.ov_base.specs.Number.{number_of, number_within}
use Rattle.ov_base.specs.Word.{◌>>=◌}
use Rattle.ov_top.specs.declared.words.Order.{Order}
use Rattle.ov_top.specs.declared.words.Order.TheVariants.{Step, Audit, Make}

-- whether a word begins with `-` and goes on
abbrev pub is_option : List ℕ → Bool
is_option [] = false
is_option (first ∷ []) = false
is_option (first ∷ second ∷ others) = first == 45

-- What the words behind a command say: whether `--journal` stands among them, and the words that name files.
pub record Said : Type 0 where
  pub journal : Bool
  pub files : List (List ℕ)

-- what is said with no words
abbrev pub nothing_said : Said
nothing_said = record { journal = false; files = [] }

-- what is said with a file in front
abbrev pub with_file : List ℕ → Said → Said
with_file word said = record { journal = said.journal; files = word ∷ said.files }

-- what is said with `--journal` in front
abbrev pub with_journal : Said → Said
with_journal said = record { journal = true; files = said.files }

-- what the words say, read from left to right, where `--journal` may stand among them or not; nothing where one is refused. Behind a word `--`, which
-- is dropped, all name files; before it `--journal` is taken where it may stand, and then may not stand again, and other words that begin with `-` are
-- refused, but for `-` itself
unfoldable pub said_from : Bool → Bool → List (List ℕ) → Option Said
said_from allowed behind [] = Some nothing_said
said_from allowed true (word ∷ words) = said_from allowed true words >>= λ said. Some (with_file word said)
said_from allowed false (word ∷ words) =
    if bytes_eq word (codes "--") then said_from allowed true words
    else (if bytes_eq word (codes "--journal") then (if allowed then (said_from false false words >>= λ said. Some (with_journal said)) else None)
    else (if is_option word then None else (said_from allowed false words >>= λ said. Some (with_file word said))))

-- the order to follow a schedule: exactly three files
abbrev pub step_by : Bool → List (List ℕ) → Option Order
step_by journal (topology ∷ script ∷ schedule ∷ []) = Some (Step journal topology script schedule)
step_by journal files = None

-- the order to judge a journal: exactly three files
abbrev pub audit_by : List (List ℕ) → Option Order
audit_by (topology ∷ script ∷ journal ∷ []) = Some (Audit topology script journal)
audit_by files = None

-- what the words behind `step` ask for
abbrev pub step_order_of : List (List ℕ) → Option Order
step_order_of words = said_from true false words >>= λ said. step_by said.journal said.files

-- what the words behind `audit` ask for
abbrev pub audit_order_of : List (List ℕ) → Option Order
audit_order_of words = said_from false false words >>= λ said. audit_by said.files

-- the order to make a script: exactly a number below 2^64, and a number of commands from 2 to 4,000
abbrev pub make_by : List (List ℕ) → Option Order
make_by (number ∷ commands ∷ []) = do
  n ← number_of number
  c ← number_within 2 4000 commands
  Some (Make n c)
make_by words = None

-- what the words behind `make` ask for
abbrev pub make_order_of : List (List ℕ) → Option Order
make_order_of words = said_from false false words >>= λ said. make_by said.files

-- what the words ask for
abbrev pub order_of : List (List ℕ) → Option Order
order_of [] = None
order_of (command ∷ words) =
    if bytes_eq command (codes "step") then step_order_of words
    else (if bytes_eq command (codes "audit") then audit_order_of words
    else (if bytes_eq command (codes "make") then make_order_of words else None))

-- a made script has from 2 to 4,000 commands
abbrev pub IsFormed : Order → Type 0
IsFormed (Step journal topology script schedule) = Unit {0}
IsFormed (Audit topology script journal) = Unit {0}
IsFormed (Make number commands) = (2 ≤ commands) × (commands ≤ 4000)

-- where there is an order, it is in form
abbrev pub AreFormed : Option Order → Type 0
AreFormed None = Unit {0}
AreFormed (Some order) = IsFormed order
