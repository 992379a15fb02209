use Rattle.std.proofs.Common.{◌∙◌, ap, List, ℕ}
use Rattle.mf_model.specs.Objects.{kinds_of}
use Rattle.mf_model.specs.States.{look_of}
use Rattle.mf_eval.specs.Judged.{judged}
use Rattle.mf_eval.proofs.ConditionLaw.{judged-is}
use Rattle.mf_eval.proofs.condition.holds.Goals as goal

pub returns : goal.returns
returns c =
    let objects = kinds_of c.args.task.now in
    let look = look_of c.args.state.now in
    c.judge.ensures.value ∙ ap (λ (b : List ℕ). judged objects look c.args.condition.now b) c.places-binding.ensures.items ∙ judged-is objects look c.args.condition.now c.args.binding.now
