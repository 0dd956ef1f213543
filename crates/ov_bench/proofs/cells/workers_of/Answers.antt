use Rattle.std.proofs.Common.{◌≡◌, ℕ, zero, suc, List, [], ◌∷◌, ◌++◌, Some, slice_get, subst}
use Rattle.std.proofs.lemmas.Option.{same_Some}
use Rattle.ov_bench.specs.declared.cells.Worker.{Worker}
use Rattle.ov_bench.specs.Workers.{IsWorker}
use Rattle.ov_bench.proofs.cells.workers_of.Goals as goal

-- what holds of each item holds of each where one more is pushed
each_pushed : (P : Worker → Type 0) (items : List Worker) (last : Worker) → P last → ((k : ℕ) (one : Worker) → slice_get items k ≡ Some one → P one)
    → (k : ℕ) (one : Worker) → slice_get (items ++ last ∷ []) k ≡ Some one → P one
each_pushed P [] last holds each zero one is = subst P (same_Some last one is) holds
each_pushed P [] last holds each (suc k) one is = absurd (cc is)
each_pushed P (item ∷ items) last holds each zero one is = each zero one is
each_pushed P (item ∷ items) last holds each (suc k) one is = each_pushed P items last holds (λ k. each (suc k)) k one is

pub loop-number-preserved : goal.loop-number-preserved
loop-number-preserved c = (
  c.worker_of.ensures.first,
  λ k worker is.
      each_pushed (IsWorker c.args.cells.now) c.loop-number.workers.items c.in_ok-worker_of.field-0 c.in_ok-worker_of.ensures.worker c.loop-number.invariant.1 k worker
      (subst (λ items. slice_get items k ≡ Some worker) c.in_ok-push.ensures.items is),
)
