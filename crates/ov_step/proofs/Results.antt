-- What is said of a result where it is Ok, or where it is an error.
use Rattle.std.specs.Prelude.{Result, Ok, Err, OnOk, OnErr}

module _ {A E : Type 0} {P Q : Type 0} where
  -- more of an Ok
  pub on_ok : (r : Result A E) → (P → Q) → OnOk r P → OnOk r Q
  on_ok (Ok x) more is = more is
  on_ok (Err e) more is = tt

  -- more of an error
  pub on_err : (r : Result A E) → (P → Q) → OnErr r P → OnErr r Q
  on_err (Ok x) more is = tt
  on_err (Err e) more is = more is

-- what is so whatever the result
pub on_any_err : {A E : Type 0} {Q : Type 0} (r : Result A E) → Q → OnErr r Q
on_any_err (Ok x) is = tt
on_any_err (Err e) is = is
