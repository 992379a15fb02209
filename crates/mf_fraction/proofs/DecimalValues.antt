-- The value of digits before and behind the point: zeros at the end change nothing, and too great a number does not fit.
use Rattle.std.proofs.Common.{◌≡◌, ℕ, zero, suc, ◌+◌, ◌-◌, ◌*◌, ◌^◌, ◌<◌, ◌≤◌, ℤ, pos, ◌*ℤ◌, unsigned_abs, List, [], ◌∷◌, ◌++◌, length, take, Bool, true, false, cond, ◌&&◌, ◌==◌, Option, Some, None, Ok, Err, if◌then◌else◌, refl, sym, ap, ap₂, ◌∙◌, arith, one-add, pow-add, length-take-le, lt-ltb, leb, ltb, ltb-true, ltb-false, leb-true, leb-false, le-ltb, le_trans, mul-le-mul, eqb-true, to_z, ◌↔◌, true≢false}
use Rattle.std.specs.Int.{w128}
use Rattle.std.proofs.lemmas.Int.{unsigned_abs-mul, to_z_pos}
use Rattle.mf_fraction.specs.Gcd.{gcd}
use Rattle.mf_fraction.specs.Exact.{Number, reduce, fits}
use Rattle.mf_fraction.specs.Checked.{checked, wide}
use Rattle.mf_fraction.specs.declared.faults.Wide.{Wide}
use Rattle.mf_fraction.specs.declared.faults.NumberFault.TheVariants as fault
use Rattle.mf_fraction.specs.Parts.{with_sign, turned}
use Rattle.mf_fraction.specs.Decimal.{places, digits_value, decimal_value, checked_value, read_parts, read_unsigned, read_of, is_number, has_minus, without_minus, is_point}
use Rattle.std.specs.List.{before_first, after_first}
use Rattle.mf_fraction.specs.Within.{within, continued}
use Rattle.mf_fraction.proofs.Signed.{natural, times, negated, equal_by}
use Rattle.mf_fraction.proofs.Reduced.{reduce-scale, times-num, times-den, den-positive}
use Rattle.mf_fraction.proofs.Operations.{wrapped, long_is}
use Rattle.mf_fraction.proofs.Checks.{checked-wide_num, unsigned_abs-with_sign}
use Rattle.mf_fraction.proofs.Decimals.{ten_positive, ten-le, places-le, digits_value-append, continued-ge, within-great}

-- ---- zeros at the end
digits_value-places : (bs : List ℕ) → digits_value bs ≡ digits_value (take (places bs) bs) * 10 ^ (length bs - places bs)
digits_value-places [] = refl
digits_value-places (b ∷ bs) = by (places bs) (places-le bs) (digits_value-places bs) (places bs == 0) refl (b == 48) refl
  where
    nothing : (p : ℕ) → p ≡ 0 → digits_value bs ≡ digits_value (take p bs) * 10 ^ (length bs - p) → digits_value bs ≡ 0
    nothing zero h e = e ∙ omega arith
    nothing (suc p) h e = absurd (omega arith)

    joined : (d w v t p q : ℕ) → w ≡ p * q → v ≡ t * q → d * w + v ≡ (d * p + t) * q
    joined d w v t p q e f = ap₂ (λ (m n : ℕ). d * m + n) e f ∙ omega arith

    more : (p : ℕ) → p ≤ length bs → digits_value bs ≡ digits_value (take p bs) * 10 ^ (length bs - p) → (b - 48) * 10 ^ length bs + digits_value bs ≡ digits_value (take (1 + p) (b ∷ bs)) * 10 ^ (suc (length bs) - (1 + p))
    more p l e =
        joined (b - 48) (10 ^ length bs) (digits_value bs) (digits_value (take p bs)) (10 ^ p) (10 ^ (length bs - p)) (ap (λ (k : ℕ). 10 ^ k) (omega arith) ∙ pow-add 10 p (length bs - p)) e
        ∙ ap (λ (k : ℕ). ((b - 48) * 10 ^ k + digits_value (take p bs)) * 10 ^ (length bs - p)) (sym (length-take-le p bs l))
        ∙ ap₂ (λ (k m : ℕ). digits_value (take k (b ∷ bs)) * 10 ^ m) (sym (one-add p)) (omega arith)

    by : (p : ℕ) → p ≤ length bs → digits_value bs ≡ digits_value (take p bs) * 10 ^ (length bs - p) → (s : Bool) → (p == 0) ≡ s → (t : Bool) → (b == 48) ≡ t → (b - 48) * 10 ^ length bs + digits_value bs ≡ digits_value (take (cond (s && t) 0 (1 + p)) (b ∷ bs)) * 10 ^ (suc (length bs) - cond (s && t) 0 (1 + p))
    by p l e true f true g =
        let is : b ≡ 48 = eqb-true b 48 g in
        let none : b - 48 ≡ 0 = omega arith in
        ap₂ (λ (m n : ℕ). m * 10 ^ length bs + n) none (nothing p (eqb-true p 0 f) e) ∙ omega arith
    by p l e true f false g = more p l e
    by p l e false f t g = more p l e

-- all digits, from those that are left once the zeros at the end are dropped
digits_value-whole : (front back : List ℕ) → digits_value (front ++ back) ≡ 10 ^ (length back - places back) * digits_value (front ++ take (places back) back)
digits_value-whole front back =
    digits_value-append front back
    ∙ joined (digits_value front) (10 ^ length back) (digits_value back) (digits_value (take (places back) back)) (10 ^ places back) (10 ^ (length back - places back)) split (digits_value-places back)
    ∙ ap (λ (k : ℕ). 10 ^ (length back - places back) * (digits_value front * 10 ^ k + digits_value (take (places back) back))) (sym (length-take-le (places back) back (places-le back)))
    ∙ ap (λ (n : ℕ). 10 ^ (length back - places back) * n) (sym (digits_value-append front (take (places back) back)))
  where
    split : 10 ^ length back ≡ 10 ^ places back * 10 ^ (length back - places back)
    split = let l = places-le back in ap (λ (k : ℕ). 10 ^ k) (omega arith) ∙ pow-add 10 (places back) (length back - places back)

    joined : (f w v t p q : ℕ) → w ≡ p * q → v ≡ t * q → f * w + v ≡ q * (f * p + t)
    joined f w v t p q e g = ap₂ (λ (m n : ℕ). f * m + n) e g ∙ omega arith

with_sign-scale : (s : Bool) (k n : ℕ) → with_sign s (k * n) ≡ pos k *ℤ with_sign s n
with_sign-scale false k n = refl
with_sign-scale true k n =
    equal_by (negated (natural (k * n))) (times (natural k) (negated (natural n))) (omega arith)

-- zeros at the end change no value
pub decimal_value-places : (s : Bool) (front back : List ℕ) → decimal_value s front back ≡ reduce (with_sign s (digits_value (front ++ take (places back) back))) (10 ^ places back)
unfolding decimal_value
decimal_value-places s front back =
    ap₂ reduce (ap (with_sign s) (digits_value-whole front back) ∙ with_sign-scale s (10 ^ (length back - places back)) (digits_value (front ++ take (places back) back))) split
    ∙ reduce-scale (10 ^ (length back - places back)) (with_sign s (digits_value (front ++ take (places back) back))) (10 ^ places back) (ten_positive (length back - places back))
  where
    split : 10 ^ length back ≡ 10 ^ (length back - places back) * 10 ^ places back
    split = let l = places-le back in ap (λ (k : ℕ). 10 ^ k) (omega arith) ∙ pow-add 10 (length back - places back) (places back)

-- ---- too great
pub great-wide : (s : Bool) (n c : ℕ) → 2 ^ 62 * 10 ^ 18 < n → c ≤ 18 → checked (reduce (with_sign s n) (10 ^ c)) ≡ Err wide
great-wide s n c h l = checked-wide_num (reduce (with_sign s n) (10 ^ c)) (above (gcd (unsigned_abs (with_sign s n)) (10 ^ c)) (unsigned_abs (reduce (with_sign s n) (10 ^ c)).num) (reduce (with_sign s n) (10 ^ c)).den size (times-den (with_sign s n) (10 ^ c)) (den-positive (with_sign s n) (10 ^ c) (ten_positive c)) (ten-le c 18 l))
  where
    size : gcd (unsigned_abs (with_sign s n)) (10 ^ c) * unsigned_abs (reduce (with_sign s n) (10 ^ c)).num ≡ n
    size = sym (unsigned_abs-mul (pos (gcd (unsigned_abs (with_sign s n)) (10 ^ c))) (reduce (with_sign s n) (10 ^ c)).num) ∙ ap unsigned_abs (times-num (with_sign s n) (10 ^ c)) ∙ unsigned_abs-with_sign s n

    above : (g m d : ℕ) → g * m ≡ n → g * d ≡ 10 ^ c → 0 < d → 10 ^ c ≤ 10 ^ 18 → 2 ^ 62 < m
    above g m d e f p q = by (ltb (2 ^ 62) m) refl
      where
        least : (d : ℕ) → g * d ≡ 10 ^ c → 0 < d → g ≤ 10 ^ c
        least zero f p = absurd (omega arith)
        least (suc d) f p = omega arith

        by : (t : Bool) → ltb (2 ^ 62) m ≡ t → 2 ^ 62 < m
        by true t = ltb-true (2 ^ 62) m t
        by false t =
            let low : m ≤ 2 ^ 62 = ltb-false (2 ^ 62) m t in
            let few : g ≤ 10 ^ 18 = le_trans (least d f p) q in
            absurd (omega (arith, mul-le-mul few low))

-- ---- a number that digits write, where it is not too great
within-some : (k n : ℕ) → Some k ≡ within n → (k ≡ n) × (n ≤ 2 ^ 62 * 10 ^ 18)
within-some k n e = by (leb n (2 ^ 62 * 10 ^ 18)) refl e
  where
    by : (t : Bool) → leb n (2 ^ 62 * 10 ^ 18) ≡ t → Some k ≡ cond t (Some n) None → (k ≡ n) × (n ≤ 2 ^ 62 * 10 ^ 18)
    by true f h = (cc, leb-true n (2 ^ 62 * 10 ^ 18) f)
    by false f h = cc

within-none : (n : ℕ) → None ≡ within n → 2 ^ 62 * 10 ^ 18 < n
within-none n e = by (leb n (2 ^ 62 * 10 ^ 18)) refl e
  where
    by : (t : Bool) → leb n (2 ^ 62 * 10 ^ 18) ≡ t → None ≡ cond t (Some n) None → 2 ^ 62 * 10 ^ 18 < n
    by true f h = cc
    by false f h = leb-false n (2 ^ 62 * 10 ^ 18) f

pub size_none : (front back : List ℕ) → None ≡ within (continued 0 front) → None ≡ within (digits_value (front ++ back))
size_none front back e =
    sym (within-great (digits_value (front ++ back)) (omega (arith, within-none (continued 0 front) e, continued-ge (digits_value front) back, digits_value-append front back)))

pub size_some : (front back : List ℕ) (n : ℕ) (r : Option ℕ) → Some n ≡ within (continued 0 front) → r ≡ within (continued n back) → r ≡ within (digits_value (front ++ back))
size_some front back n r e f =
    f ∙ ap (λ (k : ℕ). within (continued k back)) ((within-some n (continued 0 front) e).0 ∙ omega arith) ∙ ap within (sym (digits_value-append front back))

-- ---- the value of both parts
value_ok : (a x : Number) → Ok x ≡ checked a → Ok x ≡ checked_value a
unfolding checked checked_value
value_ok a x f = by (fits a) f
  where
    by : (b : Bool) → Ok x ≡ (if b then Ok a else Err wide) → Ok x ≡ (if b then Ok a else Err fault.Wide)
    by true h = cc
    by false h = cc

value_wide : (a : Number) (w : Wide) → Err w ≡ checked a → Err fault.Wide ≡ checked_value a
unfolding checked checked_value
value_wide a w f = by (fits a) f
  where
    by : (b : Bool) → Err w ≡ (if b then Ok a else Err wide) → Err fault.Wide ≡ (if b then Ok a else Err fault.Wide)
    by true h = cc
    by false h = refl

pub parts_many : (s : Bool) (front back : List ℕ) (c : ℕ) → c ≡ places back → 18 < c → Err fault.Wide ≡ read_parts s front back
unfolding read_parts
parts_many s front back c e h =
    ap (λ (t : Bool). if t then Err fault.Wide else checked_value (decimal_value s front back)) (sym (lt-ltb 18 (places back) (omega arith)))

parts-few : (s : Bool) (front back : List ℕ) (c : ℕ) → c ≡ places back → c ≤ 18 → read_parts s front back ≡ checked_value (reduce (with_sign s (digits_value (front ++ take c back))) (10 ^ c))
unfolding read_parts
parts-few s front back c e h =
    ap (λ (t : Bool). if t then Err fault.Wide else checked_value (decimal_value s front back)) (le-ltb 18 (places back) (omega arith))
    ∙ ap checked_value (decimal_value-places s front back ∙ ap (λ (k : ℕ). reduce (with_sign s (digits_value (front ++ take k back))) (10 ^ k)) (sym e))

pub parts_great : (s : Bool) (front back : List ℕ) (c : ℕ) → c ≡ places back → c ≤ 18 → None ≡ within (digits_value (front ++ take c back)) → Err fault.Wide ≡ read_parts s front back
parts_great s front back c e h f =
    value_wide (reduce (with_sign s (digits_value (front ++ take c back))) (10 ^ c)) wide (sym (great-wide s (digits_value (front ++ take c back)) c (within-none _ f) h)) ∙ sym (parts-few s front back c e h)

-- the numerator, as casts leave it
stored_size : (s : Bool) (n k : ℕ) (t : ℤ) → Some n ≡ within k → t ≡ turned s (to_z w128 n) → wrapped w128 t ≡ with_sign s k
stored_size s n k t e f =
    let p = within-some n k e in
    let short : to_z w128 n ≡ pos n = to_z_pos w128 n (omega arith) in
    let is : t ≡ with_sign s k = f ∙ ap (turned s) (short ∙ ap pos p.0) in
    ap (wrapped w128) is ∙ long_is (with_sign s k) (omega (arith, unsigned_abs-with_sign s k))

pub parts_ok : (s : Bool) (front back : List ℕ) (c n : ℕ) (t : ℤ) (p : ℕ) (x : Number) → c ≡ places back → c ≤ 18 → Some n ≡ within (digits_value (front ++ take c back)) → t ≡ turned s (to_z w128 n) → p ≡ 10 ^ c → Ok x ≡ checked (reduce (wrapped w128 t) p) → Ok x ≡ read_parts s front back
parts_ok s front back c n t p x e h f g i r =
    value_ok _ x (r ∙ ap checked (ap₂ reduce (stored_size s n _ t f g) i)) ∙ sym (parts-few s front back c e h)

pub parts_wide : (s : Bool) (front back : List ℕ) (c n : ℕ) (t : ℤ) (p : ℕ) (w : Wide) → c ≡ places back → c ≤ 18 → Some n ≡ within (digits_value (front ++ take c back)) → t ≡ turned s (to_z w128 n) → p ≡ 10 ^ c → Err w ≡ checked (reduce (wrapped w128 t) p) → Err fault.Wide ≡ read_parts s front back
parts_wide s front back c n t p w e h f g i r =
    value_wide _ w (r ∙ ap checked (ap₂ reduce (stored_size s n _ t f g) i)) ∙ sym (parts-few s front back c e h)

-- ---- what is no number
parts-number : (s : Bool) (front back : List ℕ) → read_parts s front back ≡ Err fault.NotANumber → ⊥
unfolding read_parts checked_value
parts-number s front back e = by (ltb 18 (places back)) (fits (decimal_value s front back)) e
  where
    by : (t u : Bool) → cond t (Err fault.Wide) (cond u (Ok (decimal_value s front back)) (Err fault.Wide)) ≡ Err fault.NotANumber → ⊥
    by true u h = cc
    by false true h = cc
    by false false h = cc

pub not_a_number : (word : List ℕ) → (read_of word ≡ Err fault.NotANumber) ↔ (is_number word ≡ false)
unfolding read_of read_unsigned
not_a_number word = by (is_number word) refl
  where
    by : (t : Bool) → is_number word ≡ t → (cond (is_number word) (read_parts (has_minus word) (before_first is_point (without_minus word)) (after_first is_point (without_minus word))) (Err fault.NotANumber) ≡ Err fault.NotANumber) ↔ (is_number word ≡ false)
    by true f = (λ e. absurd (parts-number (has_minus word) _ _ (ap (λ (t : Bool). cond t (read_parts (has_minus word) (before_first is_point (without_minus word)) (after_first is_point (without_minus word))) (Err fault.NotANumber)) (sym f) ∙ e)), λ e. absurd (true≢false (sym f ∙ e)))
    by false f = (λ _. f, λ e. ap (λ (t : Bool). cond t (read_parts (has_minus word) (before_first is_point (without_minus word)) (after_first is_point (without_minus word))) (Err fault.NotANumber)) f)
