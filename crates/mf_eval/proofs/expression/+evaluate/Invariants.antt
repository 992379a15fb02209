use Rattle.std.proofs.Common.{◌≡◌, drop}
use Rattle.mf_model.specs.States.{look_after}
use Rattle.mf_eval.specs.Checked.{kept_all, kept_front, kept_parts}
use Rattle.mf_eval.proofs.expression.+evaluate.Given as goal

abbrev pub invariant-fold_parts-loop-part : goal.invariant-fold_parts-loop-part
invariant-fold_parts-loop-part l =
    kept_front l.operation l.front (kept_parts (look_after l.steps l.state) (drop l.part-index l.others) l.binding) ≡ kept_all l.operation (kept_parts (look_after l.steps l.state) l.fn.parts l.binding)
