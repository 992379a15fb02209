use Rattle.std.proofs.Common.{◌≡◌, drop, Some}
use Rattle.mf_model.specs.Meaning.{plus}
use Rattle.mf_task.specs.LinearForms.{weight}
use Rattle.mf_task.specs.Rows.{sight_of}
use Rattle.mf_task.specs.Width as width
use Rattle.mf_state.specs.Answers.{answer_of}
use Rattle.mf_state.proofs.forms.added_up.Given as goal

abbrev pub invariant-loop-part : goal.invariant-loop-part
invariant-loop-part l = record {
  checked : answer_of (width.added_up (sight_of l.row).value l.sum (drop l.part-index l.parts)) ≡ answer_of (width.added_up (sight_of l.row).value l.fn.constant l.parts);
  exact : plus (Some l.sum) (weight (sight_of l.row).value (drop l.part-index l.parts)) ≡ plus (Some l.fn.constant) (weight (sight_of l.row).value l.parts);
}
