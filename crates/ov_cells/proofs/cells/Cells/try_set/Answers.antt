use Rattle.std.proofs.Common.{◌≡◌, ◌∙◌, List, length, get_or, ap, subst}
use Rattle.std.proofs.lemmas.List.{length-map}
use Rattle.ov_window.specs.Evaluation.{input_value, values_of}
use Rattle.ov_window.specs.Plan.{IsPlan}
use Rattle.ov_window.specs.declared.plan.Task.{Task}
use Rattle.ov_cells.specs.Seats.{value_at}
use Rattle.ov_cells.proofs.Values.{task_fed, task_gives}
use Rattle.ov_cells.proofs.cells.Cells.try_set.Goals as goal
use Rattle.ov_cells.proofs.cells.Cells.try_set.Goals.{After-apply-value}

pub gather-requires-clause-fed : goal.gather-requires-clause-fed
gather-requires-clause-fed c =
    let tasks : c.tasks.result.now ≡ c.args.self.now.tasks = c.tasks.ensures.tasks ∙ ap (λ cells. cells.tasks) c.self.view_is in
    let plan : IsPlan c.args.self.now.tasks = subst (λ (l : List Task). IsPlan l) (ap (λ cells. cells.tasks) c.self.view_is) c.tasks.ensures.form in
    task_fed c.args.self.now.tasks c.args.place c.index-tasks-place.result plan c.requires.place
    (subst (λ (l : List Task). c.index-tasks-place.result ≡ get_or l c.args.place c.index-tasks-place.result) tasks c.index-tasks-place.is)

pub apply-value-requires : goal.apply-value-requires
apply-value-requires c =
    let tasks : c.tasks.result.now ≡ c.args.self.now.tasks = c.tasks.ensures.tasks ∙ ap (λ cells. cells.tasks) c.self.view_is in
    let plan : IsPlan c.args.self.now.tasks = subst (λ (l : List Task). IsPlan l) (ap (λ cells. cells.tasks) c.self.view_is) c.tasks.ensures.form in
    let fed = task_fed c.args.self.now.tasks c.args.place c.index-tasks-place.result plan c.requires.place
    (subst (λ (l : List Task). c.index-tasks-place.result ≡ get_or l c.args.place c.index-tasks-place.result) tasks c.index-tasks-place.is) in
    ap (λ l. length l) (c.as_slice.ensures.value ∙ c.in_ok-gather.ensures.ok) ∙ length-map c.index-tasks-place.result.inputs (input_value (values_of c.args.self.now.tasks)) ∙ fed.count

-- the value that is computed is the place's
value_is : (c : After-apply-value) → c.apply-value.result ≡ value_at c.args.self.now.tasks c.args.place
value_is c =
    let tasks : c.tasks.result.now ≡ c.args.self.now.tasks = c.tasks.ensures.tasks ∙ ap (λ cells. cells.tasks) c.self.view_is in
    let plan : IsPlan c.args.self.now.tasks = subst (λ (l : List Task). IsPlan l) (ap (λ cells. cells.tasks) c.self.view_is) c.tasks.ensures.form in
    c.apply-value.ensures
    ∙ task_gives c.args.self.now.tasks c.args.place c.index-tasks-place.result c.as_slice.result.now plan c.requires.place
    (subst (λ (l : List Task). c.index-tasks-place.result ≡ get_or l c.args.place c.index-tasks-place.result) tasks c.index-tasks-place.is)
    (c.as_slice.ensures.value ∙ c.in_ok-gather.ensures.ok)

pub fill-requires-clause-value : goal.fill-requires-clause-value
fill-requires-clause-value c = value_is (goal.at.fill-requires-clause-value c).After-apply-value

pub returns-clause-ok : goal.returns-clause-ok
returns-clause-ok c = (value_is (goal.at.returns-clause-ok c).After-apply-value, c.fill.ensures.known)
