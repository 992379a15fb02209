use Rattle.std.proofs.Common.{arith, ap, ◌∙◌, w64, ℤ}
use Rattle.std.proofs.lemmas.Int.{to_z_pos}
use Rattle.mf_fraction.specs.Checked.{checked}
use Rattle.mf_fraction.specs.Exact.{whole}
use Rattle.mf_eval.specs.Checked.{as_defined}
use Rattle.mf_eval.proofs.Kept.{as_defined-checked, kept-past_limit}
use Rattle.mf_eval.proofs.expression.count_of.Goals as goal

pub returns : goal.returns
returns c =
    c.defined.ensures ∙ ap as_defined (c.whole.ensures ∙ ap (λ (z : ℤ). checked (whole z)) (to_z_pos w64 c.args.steps (omega arith))) ∙ as_defined-checked _

pub returns-then-steps-gt-LIMIT : goal.returns-then-steps-gt-LIMIT
returns-then-steps-gt-LIMIT c = kept-past_limit _ c.if-steps-gt-LIMIT.true
