use Rattle.std.proofs.Common.{◌≡◌, ◌∙◌, ◌≤◌, ◌^◌, sym, ap, arith, ℤ, pos, int_cmp, unsigned_abs, to_z, of_z, to_z-of_z, w64}
use Rattle.std.proofs.lemmas.Int.{fits_signed_from_abs}
use Rattle.mf_limit.proofs.Fractions.{sign-is}
use Rattle.mf_limit.proofs.chance.sign.Goals as goal

whole-number : (z : ℤ) → unsigned_abs z ≤ 2 ^ 62 → to_z w64 (of_z w64 z) ≡ z
whole-number z h = to_z-of_z (fits_signed_from_abs w64 z (omega arith))

pub returns : goal.returns
returns c =
    c.cmp.ensures ∙ ap (λ (z : ℤ). int_cmp z (pos 0)) (whole-number c.numerator.result c.numerator.ensures.size ∙ c.numerator.ensures.value) ∙ sym (sign-is c.args.a)
