use Rattle.std.proofs.Common.{ℤ, pos, ap, sym, w64, of_z, to_z, ◌∙◌, arith}
use Rattle.std.specs.Prelude.{int_lt}
use Rattle.mf_graph.proofs.Signs.{above_zero, number_read}
use Rattle.mf_graph.proofs.bound.is_positive.Goals as goal

pub returns : goal.returns
returns c =
    ap (λ (z : ℤ). int_lt (pos 0) z) (number_read c.numerator.result c.numerator.ensures.size ∙ c.numerator.ensures.value) ∙ sym (above_zero c.args.a)
