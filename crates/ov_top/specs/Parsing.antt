-- The command of clap that parses the words behind `step`, and the one behind `audit` and behind `make`.
use Rattle.std.specs.Prelude.{ℕ, Bool, true, List, [], Option, Some, codes, map, if◌then◌else◌, option_map, unwrap_or}
use Rattle.std.specs.Borrow.{Bor}
use Rattle.clap.specs.Walk.{Rule}
use Rattle.clap.specs.Simple.{App, new_app, new_rule, with_rule, on_top}
use Rattle.clap.specs.declared.builder.action.ArgAction.TheVariants.{Append, SetTrue}

-- the argument that takes the files
abbrev pub files_rule : Rule
files_rule = record (new_rule (codes "files")) { action = Some Append }

-- the flag `--journal`
abbrev pub journal_rule : Rule
journal_rule = record (new_rule (codes "journal")) { long = Some (codes "journal"); action = Some SetTrue }

-- the command that takes files alone, or the numbers of `make`
abbrev pub files_app : App
files_app = with_rule (on_top (λ s. record s { no_binary_name = true; disable_help_flag = true; disable_version_flag = true }) (new_app (codes "oceanvista"))) files_rule

-- the command that takes files, and `--journal` where it is allowed
abbrev pub words_app : Bool → App
words_app allowed = if allowed then with_rule files_app journal_rule else files_app

-- the words that name files, none where none was found
abbrev pub files_given : Option (Bor (List (Bor (List ℕ)))) → List (List ℕ)
files_given files = unwrap_or (option_map (λ words. map (λ word. word.now) words.now) files) []
