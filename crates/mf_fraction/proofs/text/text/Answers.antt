use Rattle.std.proofs.Common.{◌∙◌}
use Rattle.std.proofs.lemmas.Result.{IfOk-weaker}
use Rattle.mf_fraction.proofs.Texts.{text_whole, text_ratio}
use Rattle.mf_fraction.proofs.text.text.Goals as goal

pub returns-then-a-eq1 : goal.returns-then-a-eq1
returns-then-a-eq1 c =
    IfOk-weaker c.whole_text.result _ _ (λ t e. e ∙ text_whole c.args.a c.a.inside.numerator c.a.inside.denominator c.a.view_is c.a.invariant.numerator_size c.if-a-eq1.true) c.whole_text.ensures

pub returns-else-a-eq1 : goal.returns-else-a-eq1
returns-else-a-eq1 c =
    IfOk-weaker c.ratio_text.result _ _ (λ t e. e ∙ text_ratio c.args.a c.a.inside.numerator c.a.inside.denominator c.a.view_is c.a.invariant.numerator_size c.if-a-eq1.false) c.ratio_text.ensures
