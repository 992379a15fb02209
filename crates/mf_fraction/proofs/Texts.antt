-- The text of a fraction, by its stored parts.
use Rattle.std.proofs.Common.{◌≡◌, ◌==◌, ℕ, ◌≤◌, ◌^◌, ℤ, unsigned_abs, ◌∷◌, ◌++◌, Bool, true, false, cond, decimal, sym, ap, ◌∙◌, eq-eqb, ne_eqb, w64}
use Rattle.std.specs.Fmt.{signed_decimal}
use Rattle.mf_fraction.specs.Exact.{Number}
use Rattle.mf_fraction.specs.Text.{text_of}
use Rattle.mf_fraction.proofs.Reduced.{number}
use Rattle.mf_fraction.proofs.Operations.{wrapped, short_is}

text_by : (a : Number) (n : ℤ) (d : ℕ) (t : Bool) → number n d ≡ a → unsigned_abs n ≤ 2 ^ 62 → (d == 1) ≡ t → cond t (signed_decimal (wrapped w64 n)) (signed_decimal (wrapped w64 n) ++ 47 ∷ decimal d) ≡ text_of a
unfolding text_of
text_by a n d t va p e =
    ap (λ (z : ℤ). cond t (signed_decimal z) (signed_decimal z ++ 47 ∷ decimal d)) (short_is n p)
    ∙ ap (λ (b : Bool). cond b (signed_decimal n) (signed_decimal n ++ 47 ∷ decimal d)) (sym e) ∙ ap text_of va

pub text_whole : (a : Number) (n : ℤ) (d : ℕ) → number n d ≡ a → unsigned_abs n ≤ 2 ^ 62 → d ≡ 1 → signed_decimal (wrapped w64 n) ≡ text_of a
text_whole a n d va p e = text_by a n d true va p (eq-eqb d 1 e)

pub text_ratio : (a : Number) (n : ℤ) (d : ℕ) → number n d ≡ a → unsigned_abs n ≤ 2 ^ 62 → (d ≡ 1 → ⊥) → signed_decimal (wrapped w64 n) ++ 47 ∷ decimal d ≡ text_of a
text_ratio a n d va p e = text_by a n d false va p (ne_eqb d 1 e)
