use Rattle.std.proofs.Common.{◌≡◌, ℕ, map, ap, ◌∙◌, zero-add, arith}
use Rattle.std.specs.List.{range_with_len}
use Rattle.std.proofs.lemmas.List.FromFn.{map-range_with_len_more}
use Rattle.ov_functor.specs.declared.part.Part.TheVariants.{Get}
use Rattle.ov_make.specs.Made.{key_name, gets}
use Rattle.ov_make.proofs.line.gets.Goals as goal

pub loop-key-preserved : goal.loop-key-preserved
loop-key-preserved c =
    let more = map-range_with_len_more (λ (k : ℕ). Get (key_name k)) 0 c.loop-key.key c.loop-key.key (zero-add c.loop-key.key) in
    cc (more, c.in_ok-push.ensures.ok)

pub returns : goal.returns
unfolding gets
returns c =
    let all : c.loop-key.key ≡ 8 = omega arith in
    c.loop-key.invariant ∙ ap (λ (n : ℕ). map (λ k. Get (key_name k)) (range_with_len 0 n)) all
