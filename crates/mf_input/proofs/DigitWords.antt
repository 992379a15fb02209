-- Digits without zeros at their ends: the same number is written by the same digits.
use Rattle.std.proofs.Common.{◌≡◌, ℕ, zero, suc, ◌+◌, ◌-◌, ◌*◌, ◌^◌, ◌<◌, ◌≤◌, List, [], ◌∷◌, ◌++◌, length, take, drop, Bool, true, false, cond, ◌&&◌, ◌||◌, ◌==◌, not, if◌then◌else◌, refl, sym, ap, ap₂, ◌∙◌, arith, one-add, pow-add, pow-suc, length-take-le, eqb-true, eq-eqb, ne_eqb, true≢false, mul-le-mul, ltb, ltb-true, ltb-false, subst}
use Rattle.std.specs.List.{list_all}
use Rattle.std.specs.Char.{is_ascii_digit}
use Rattle.std.proofs.lemmas.Bool.Decides.{nat_tests}
use Rattle.mf_fraction.specs.Decimal.{places, digits_value}
use Rattle.mf_fraction.proofs.Decimals.{ten-le, ten_positive, places-le}
use Rattle.mf_types.specs.StartValues.{is_empty, without_end_zeros, without_zeros}

-- Digits

abbrev pub Digits : List ℕ → Type 0
Digits [] = Unit {0}
Digits (b ∷ bs) = ((48 ≤ b) × (b ≤ 57)) × Digits bs

pub all_digits : (bs : List ℕ) → list_all is_ascii_digit bs ≡ true → Digits bs
all_digits [] all = tt {0}
all_digits (b ∷ bs) all = by (is_ascii_digit b) refl all (all_digits bs)
  where
    range : is_ascii_digit b ≡ true → (48 ≤ b) × (b ≤ 57)
    range e = (grind (arith, nat_tests), grind (arith, nat_tests))

    by : (t : Bool) → is_ascii_digit b ≡ t → (t && list_all is_ascii_digit bs) ≡ true → (list_all is_ascii_digit bs ≡ true → Digits bs) → ((48 ≤ b) × (b ≤ 57)) × Digits bs
    by true e all rest = (range e, rest all)
    by false e all rest = absurd (true≢false (sym all))

pub digits_front : (n : ℕ) (bs : List ℕ) → Digits bs → Digits (take n bs)
digits_front zero bs d = tt {0}
digits_front (suc n) [] d = tt {0}
digits_front (suc n) (b ∷ bs) d = (d.0, digits_front n bs d.1)

pub digits_rest : (n : ℕ) (bs : List ℕ) → Digits bs → Digits (drop n bs)
digits_rest zero bs d = d
digits_rest (suc n) [] d = tt {0}
digits_rest (suc n) (b ∷ bs) d = digits_rest n bs d.1

pub digits_without_zeros : (bs : List ℕ) → Digits bs → Digits (without_zeros bs)
digits_without_zeros [] d = tt {0}
digits_without_zeros (b ∷ bs) d = by (b == 48) (digits_without_zeros bs d.1)
  where
    by : (t : Bool) → Digits (without_zeros bs) → Digits (if t then without_zeros bs else b ∷ bs)
    by true rest = rest
    by false rest = d

-- so many digits are below that power of ten
pub digits_below : (bs : List ℕ) → Digits bs → digits_value bs < 10 ^ length bs
digits_below [] d = omega arith
digits_below (b ∷ bs) d = rw (pow-suc 10 (length bs)) (few (b - 48) (10 ^ length bs) (digits_value bs) (omega (arith, d.0.1)) (digits_below bs d.1))
  where
    few : (d t v : ℕ) → d ≤ 9 → v < t → d * t + v < t * 10
    few d t v h l =
        let same : t ≤ t = omega arith in
        omega (arith, l, mul-le-mul h same)

-- a number below t beside a multiple of t
less : (a b t v w : ℕ) → v < t → a < b → a * t + v ≡ b * t + w → ⊥
less a b t v w l h e =
    let same : t ≤ t = omega arith in
    let more : suc a ≤ b = omega (arith, h) in
    omega (arith, l, e, mul-le-mul more same)

pub split : (a b t v w : ℕ) → v < t → w < t → a * t + v ≡ b * t + w → (a ≡ b) × (v ≡ w)
split a b t v w l m e = by (ltb a b) refl (ltb b a) refl
  where
    equal : a ≡ b → (a ≡ b) × (v ≡ w)
    equal same =
        let front : a * t ≡ b * t = ap (λ (n : ℕ). n * t) same in
        (same, omega (arith, front, e))

    by : (x : Bool) → ltb a b ≡ x → (y : Bool) → ltb b a ≡ y → (a ≡ b) × (v ≡ w)
    by true f y g = absurd (less a b t v w l (ltb-true a b f) e)
    by false f true g = absurd (less b a t w v m (ltb-true b a g) (sym e))
    by false f false g =
        let low = ltb-false a b f in
        let high = ltb-false b a g in
        equal (omega (arith, low, high))

-- two words of digits of one length that write one number are the same
pub same_digits : (xs ys : List ℕ) → Digits xs → Digits ys → length xs ≡ length ys → digits_value xs ≡ digits_value ys → xs ≡ ys
same_digits [] [] d f h e = refl
same_digits [] (y ∷ ys) d f h e = absurd (omega (arith, h))
same_digits (x ∷ xs) [] d f h e = absurd (omega (arith, h))
same_digits (x ∷ xs) (y ∷ ys) d f h e =
    let long : length xs ≡ length ys = omega (arith, h) in
    let power = ap (λ (n : ℕ). 10 ^ n) long in
    let below : digits_value ys < 10 ^ length xs = subst (λ (t : ℕ). digits_value ys < t) (sym power) (digits_below ys f.1) in
    let parts = split (x - 48) (y - 48) (10 ^ length xs) (digits_value xs) (digits_value ys) (digits_below xs d.1) below
    (e ∙ ap (λ (t : ℕ). (y - 48) * t + digits_value ys) (sym power)) in
    let first : x ≡ y = omega (arith, parts.0, d.0.0, f.0.0) in
    ap₂ (λ (n : ℕ) (ns : List ℕ). n ∷ ns) first (same_digits xs ys d.1 f.1 long parts.1)

-- Zeros in front

pub value_without_zeros : (bs : List ℕ) → digits_value (without_zeros bs) ≡ digits_value bs
value_without_zeros [] = refl
value_without_zeros (b ∷ bs) = by (b == 48) refl (value_without_zeros bs)
  where
    by : (t : Bool) → (b == 48) ≡ t → digits_value (without_zeros bs) ≡ digits_value bs → digits_value (if t then without_zeros bs else b ∷ bs) ≡ (b - 48) * 10 ^ length bs + digits_value bs
    by true e rest =
        let is : b ≡ 48 = eqb-true b 48 e in
        let none : b - 48 ≡ 0 = omega (arith, is) in
        let gone : 0 * 10 ^ length bs + digits_value bs ≡ digits_value bs = omega arith in
        rest ∙ sym (ap (λ (d : ℕ). d * 10 ^ length bs + digits_value bs) none ∙ gone)
    by false e rest = refl

-- the first digit, if there is one, is no zero
abbrev pub Leads : List ℕ → Type 0
Leads [] = Unit {0}
Leads (b ∷ bs) = b ≡ 48 → ⊥

pub leads_without_zeros : (bs : List ℕ) → Leads (without_zeros bs)
leads_without_zeros [] = tt {0}
leads_without_zeros (b ∷ bs) = by (b == 48) refl (leads_without_zeros bs)
  where
    by : (t : Bool) → (b == 48) ≡ t → Leads (without_zeros bs) → Leads (if t then without_zeros bs else b ∷ bs)
    by true e rest = rest
    by false e rest = λ is. true≢false (sym (eq-eqb b 48 is) ∙ e)

pub leading : (b : ℕ) (bs : List ℕ) → Digits (b ∷ bs) → Leads (b ∷ bs) → 10 ^ length bs ≤ digits_value (b ∷ bs)
leading b bs d leads = by (b == 48) refl
  where
    great : (a t v : ℕ) → 1 ≤ a → t ≤ a * t + v
    great a t v h =
        let same : t ≤ t = omega arith in
        omega (arith, mul-le-mul h same)

    by : (t : Bool) → (b == 48) ≡ t → 10 ^ length bs ≤ (b - 48) * 10 ^ length bs + digits_value bs
    by true e = absurd (leads (eqb-true b 48 e))
    by false e =
        let low = d.0.0 in
        let first : 1 ≤ b - 48 = grind (arith, nat_tests) in
        great (b - 48) (10 ^ length bs) (digits_value bs) first

shorter_is_less : (xs ys : List ℕ) → Digits xs → Digits ys → Leads ys → length xs < length ys → digits_value xs < digits_value ys
shorter_is_less xs [] d f leads h = absurd (omega (arith, h))
shorter_is_less xs (y ∷ ys) d f leads h =
    let few : length xs ≤ length ys = omega (arith, h) in
    let below = digits_below xs d in
    let power = ten-le (length xs) (length ys) few in
    let least = leading y ys f leads in
    omega (arith, below, power, least)

-- two words of digits without zeros in front that write one number are the same
pub same_whole : (xs ys : List ℕ) → Digits xs → Digits ys → Leads xs → Leads ys → digits_value xs ≡ digits_value ys → xs ≡ ys
same_whole xs ys d f leads others e = by (ltb (length xs) (length ys)) refl (ltb (length ys) (length xs)) refl
  where
    by : (s : Bool) → ltb (length xs) (length ys) ≡ s → (t : Bool) → ltb (length ys) (length xs) ≡ t → xs ≡ ys
    by true g t h =
        let less = shorter_is_less xs ys d f others (ltb-true (length xs) (length ys) g) in
        absurd (omega (arith, less, e))
    by false g true h =
        let less = shorter_is_less ys xs f d leads (ltb-true (length ys) (length xs) h) in
        absurd (omega (arith, less, e))
    by false g false h =
        let low = ltb-false (length xs) (length ys) g in
        let high = ltb-false (length ys) (length xs) h in
        same_digits xs ys d f (omega (arith, low, high)) e

-- Zeros at the end

pub end_zeros : (bs : List ℕ) → without_end_zeros bs ≡ take (places bs) bs
end_zeros [] = refl
end_zeros (b ∷ bs) =
    step (without_end_zeros bs) (places bs) (places bs == 0) (b == 48) (ap is_empty (end_zeros bs) ∙ empty (places bs) bs (places-le bs)) (end_zeros bs)
  where
    empty : (p : ℕ) (xs : List ℕ) → p ≤ length xs → is_empty (take p xs) ≡ (p == 0)
    empty zero xs h = refl
    empty (suc p) [] h = absurd (omega (arith, h))
    empty (suc p) (x ∷ xs) h = sym (ne_eqb (suc p) 0 (λ e. omega (arith, e)))

    step : (xs : List ℕ) (p : ℕ) (z t : Bool) → is_empty xs ≡ z → xs ≡ take p bs → (if is_empty xs && t then [] else b ∷ xs) ≡ take (cond (z && t) 0 (1 + p)) (b ∷ bs)
    step xs p true true e is = ap (λ (i : Bool). if i && true then [] else b ∷ xs) e
    step xs p true false e is = ap (λ (i : Bool). if i && false then [] else b ∷ xs) e ∙ (ap (λ (ys : List ℕ). b ∷ ys) is ∙ ap (λ (n : ℕ). take n (b ∷ bs)) (sym (one-add p)))
    step xs p false t e is = ap (λ (i : Bool). if i && t then [] else b ∷ xs) e ∙ (ap (λ (ys : List ℕ). b ∷ ys) is ∙ ap (λ (n : ℕ). take n (b ∷ bs)) (sym (one-add p)))

pub length_part : (bs : List ℕ) → length (without_end_zeros bs) ≡ places bs
length_part bs = ap (λ (xs : List ℕ). length xs) (end_zeros bs) ∙ length-take-le (places bs) bs (places-le bs)

pub digits_without_end_zeros : (bs : List ℕ) → Digits bs → Digits (without_end_zeros bs)
digits_without_end_zeros bs d = subst (λ (xs : List ℕ). Digits xs) (sym (end_zeros bs)) (digits_front (places bs) bs d)

-- the last digit, if there is one, is no zero: ten divides nothing else
ends_with : (b : ℕ) (xs : List ℕ) → (48 ≤ b) × (b ≤ 57) → (is_empty xs && (b == 48)) ≡ false → ((m : ℕ) → digits_value xs ≡ 10 * m → xs ≡ []) → (m : ℕ) → (b - 48) * 10 ^ length xs + digits_value xs ≡ 10 * m → b ∷ xs ≡ []
ends_with b [] range kept rest m e = by (b == 48) refl kept
  where
    by : (t : Bool) → (b == 48) ≡ t → t ≡ false → b ∷ [] ≡ []
    by true f g = absurd (true≢false g)
    by false f g =
        let low = range.0 in
        let high = range.1 in
        let some : 1 ≤ b - 48 = grind (arith, nat_tests) in
        let is : b - 48 ≡ 10 * m = sym (omega arith) ∙ e in
        absurd (omega (arith, some, high, is))
ends_with b (x ∷ xs) range kept rest m e = absurd (cons-nil (rest (m - (b - 48) * 10 ^ length xs) value))
  where
    tens : (d q v m : ℕ) → d * (q * 10) + v ≡ 10 * m → v ≡ 10 * (m - d * q)
    tens d q v m e = omega (arith, e)

    value : digits_value (x ∷ xs) ≡ 10 * (m - (b - 48) * 10 ^ length xs)
    value = tens (b - 48) (10 ^ length xs) (digits_value (x ∷ xs)) m (ap (λ (t : ℕ). (b - 48) * t + digits_value (x ∷ xs)) (sym (pow-suc 10 (length xs))) ∙ e)

    cons-nil : x ∷ xs ≡ [] → ⊥
    cons-nil e = let no : ⊥ = cc in no

pub ends_well : (bs : List ℕ) → Digits bs → (m : ℕ) → digits_value (without_end_zeros bs) ≡ 10 * m → without_end_zeros bs ≡ []
ends_well [] d m e = refl
ends_well (b ∷ bs) d m e = by (is_empty (without_end_zeros bs) && (b == 48)) refl e (ends_well bs d.1)
  where
    by : (t : Bool) → (is_empty (without_end_zeros bs) && (b == 48)) ≡ t → digits_value (if t then [] else b ∷ without_end_zeros bs) ≡ 10 * m
        → ((m : ℕ) → digits_value (without_end_zeros bs) ≡ 10 * m → without_end_zeros bs ≡ []) → (if t then [] else b ∷ without_end_zeros bs) ≡ []
    by true f e rest = refl
    by false f e rest = ends_with b (without_end_zeros bs) d.0 f rest m e
