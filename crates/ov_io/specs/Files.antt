-- The files of a shelf in memory, by their names: of two files with one name the first counts.
use Rattle.std.specs.Prelude.{Some, None, [], ◌∷◌, ◌+◌, if◌then◌else◌, ℕ, Bool, List, Option, find}
use Rattle.std.specs.Option.{option_map, option_map_or}
use Rattle.std.specs.Str.{bytes_eq}
use Rattle.ov_io.specs.declared.files.NamedFile.{NamedFile}

abbrev pub has_name : List ℕ → NamedFile → Bool
has_name name file = bytes_eq file.name name

-- the bytes of the first file of that name
abbrev pub content : List NamedFile → List ℕ → Option (List ℕ)
content files name = option_map (λ f. f.bytes) (find (has_name name) files)

-- how often reads of the name have failed; all names that are not there have one count
abbrev pub fault_count : List NamedFile → ℕ → List ℕ → ℕ
fault_count files absent name = option_map_or (λ f. f.failed) (find (has_name name) files) absent

-- the place of the first file of that name
abbrev pub place_from : List NamedFile → List ℕ → Option ℕ
place_from [] name = None
place_from (f ∷ fs) name = if has_name name f then Some 0 else option_map (λ i. i + 1) (place_from fs name)
