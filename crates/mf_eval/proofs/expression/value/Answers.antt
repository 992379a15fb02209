use Rattle.std.proofs.Common.{◌∙◌}
use Rattle.mf_model.specs.States.{look_after}
use Rattle.mf_eval.proofs.ExpressionLaw.{kept_value-is}
use Rattle.mf_eval.proofs.expression.value.Goals as goal

pub returns : goal.returns
returns c =
    c.evaluate.ensures ∙ kept_value-is (look_after c.args.steps c.args.state.now) c.args.expression.now c.args.binding.now
