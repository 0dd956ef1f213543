use Rattle.std.proofs.Common.{◌≡◌, ℕ, map, ap, ◌∙◌, zero-add, arith}
use Rattle.std.specs.Prelude.{pos}
use Rattle.std.specs.List.{range_with_len}
use Rattle.std.proofs.lemmas.List.FromFn.{map-range_with_len_more}
use Rattle.ov_functor.specs.declared.part.Part.TheVariants.{Put}
use Rattle.ov_make.specs.Made.{key_name, opening_balance, puts}
use Rattle.ov_make.proofs.line.puts.Goals as goal

pub loop-key-preserved : goal.loop-key-preserved
loop-key-preserved c =
    let more = map-range_with_len_more (λ (k : ℕ). Put (key_name k) (pos opening_balance)) 0 c.loop-key.key c.loop-key.key (zero-add c.loop-key.key) in
    cc (more, c.in_ok-push.ensures.ok)

pub returns : goal.returns
unfolding puts
returns c =
    let all : c.loop-key.key ≡ 8 = omega arith in
    c.loop-key.invariant ∙ ap (λ (n : ℕ). map (λ k. Put (key_name k) (pos opening_balance)) (range_with_len 0 n)) all
