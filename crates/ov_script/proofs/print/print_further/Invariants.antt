use Rattle.std.proofs.Common.{◌≡◌, ◌∷◌, ◌++◌, take}
use Rattle.std.specs.List.{flat_map}
use Rattle.ov_script.proofs.print.print_further.Given as goal

abbrev pub invariant-loop-key : goal.invariant-loop-key
invariant-loop-key l = l.text.items ≡ l.initial.text.items ++ flat_map (λ key. 32 ∷ key) (take l.key-index l.keys)
