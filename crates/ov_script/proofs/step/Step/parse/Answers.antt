use Rattle.std.proofs.Common.{Option, subst, sym}
use Rattle.ov_base.specs.Word.{Reads}
use Rattle.ov_base.proofs.Readers.{reads_by_laws}
use Rattle.ov_script.specs.declared.step.Step.{Step}
use Rattle.ov_script.specs.Step.{step_of, step_text, IsStep}
use Rattle.ov_script.proofs.Steps.{step_again, step_takes}
use Rattle.ov_script.proofs.step.Step.parse.Goals as goal

pub returns-clause-reads : goal.returns-clause-reads
returns-clause-reads c =
    subst (λ (r : Option Step). Reads step_text IsStep c.args.text.now r) (sym c.step_read.ensures)
    (reads_by_laws step_of step_text IsStep step_again step_takes c.args.text.now)
