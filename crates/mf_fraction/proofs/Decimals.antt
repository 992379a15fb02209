-- Digits: the zeros at the end, the number that is written, and when it is too great.
use Rattle.std.proofs.Common.{◌≡◌, ℕ, zero, suc, ◌+◌, ◌-◌, ◌*◌, ◌^◌, ◌<◌, ◌≤◌, List, [], ◌∷◌, ◌++◌, length, take, drop, Bool, true, false, cond, ◌&&◌, ◌==◌, leb, refl, sym, ap, ap₂, ◌∙◌, arith, pow-add, length-append, Some, None, pow-suc, length-take-le, le-leb, get_or, eq-eqb, ne_eqb}
use Rattle.std.proofs.lemmas.List.{take_more, at_drop_more, at_drop_all}
use Rattle.std.proofs.lemmas.Bool.Decides.{nat_tests}
use Rattle.mf_fraction.specs.Decimal.{places, digits_value}
use Rattle.mf_fraction.specs.Within.{within, continued}

-- ---- powers of ten
pub ten_positive : (n : ℕ) → 0 < 10 ^ n
ten_positive zero = omega arith
ten_positive (suc n) = let h = ten_positive n in rw (pow-suc 10 n) (omega arith)

pub ten-le : (m n : ℕ) → m ≤ n → 10 ^ m ≤ 10 ^ n
ten-le m n h =
    let e : 10 ^ n ≡ 10 ^ m * 10 ^ (n - m) = ap (λ (k : ℕ). 10 ^ k) (omega arith) ∙ pow-add 10 m (n - m) in
    more (10 ^ m) (10 ^ (n - m)) (10 ^ n) (ten_positive (n - m)) e
  where
    more : (p q r : ℕ) → 0 < q → r ≡ p * q → p ≤ r
    more p zero r h e = absurd (omega arith)
    more p (suc q) r h e = omega arith

-- ---- zeros at the end
places-push : (bs : List ℕ) (b : ℕ) → places (bs ++ b ∷ []) ≡ cond (b == 48) (places bs) (length bs + 1)
places-push [] b = refl
places-push (c ∷ bs) b = step (b == 48) (places bs) (places (bs ++ b ∷ [])) (length bs) (c == 48) (places-push bs b)
  where
    step : (t : Bool) (p q n : ℕ) (z : Bool) → q ≡ cond t p (n + 1) → cond (q == 0 && z) 0 (1 + q) ≡ cond t (cond (p == 0 && z) 0 (1 + p)) (suc n + 1)
    step true p q n z e = ap (λ (x : ℕ). cond (x == 0 && z) 0 (1 + x)) e
    step false p q n z e = ap (λ (x : ℕ). cond (x == 0 && z) 0 (1 + x)) e ∙ grind (arith, nat_tests)

pub places-zero : (xs : List ℕ) (i k : ℕ) → i < length xs → get_or xs i 0 ≡ 48 → k ≡ places (take i xs) → k ≡ places (take (i + 1) xs)
places-zero xs i k h e p =
    p ∙ sym (ap places (take_more xs i 0 h) ∙ places-push (take i xs) (get_or xs i 0) ∙ ap (λ (t : Bool). cond t (places (take i xs)) (length (take i xs) + 1)) (eq-eqb (get_or xs i 0) 48 e))

pub places-other : (xs : List ℕ) (i : ℕ) → i < length xs → (get_or xs i 0 ≡ 48 → ⊥) → i + 1 ≡ places (take (i + 1) xs)
places-other xs i h n =
    sym (ap places (take_more xs i 0 h) ∙ places-push (take i xs) (get_or xs i 0) ∙ ap (λ (t : Bool). cond t (places (take i xs)) (length (take i xs) + 1)) (ne_eqb (get_or xs i 0) 48 n) ∙ ap (λ (m : ℕ). m + 1) (length-take-le i xs (omega arith)))

pub places-le : (bs : List ℕ) → places bs ≤ length bs
places-le [] = omega arith
places-le (b ∷ bs) = by (places bs == 0 && b == 48) (places bs) (length bs) (places-le bs)
  where
    by : (t : Bool) (p n : ℕ) → p ≤ n → cond t 0 (1 + p) ≤ suc n
    by true p n h = omega arith
    by false p n h = omega arith

-- ---- the number that is written
pub digits_value-append : (xs ys : List ℕ) → digits_value (xs ++ ys) ≡ digits_value xs * 10 ^ length ys + digits_value ys
digits_value-append [] ys = omega arith
digits_value-append (x ∷ xs) ys =
    ap (λ (n : ℕ). (x - 48) * 10 ^ n + digits_value (xs ++ ys)) (length-append xs ys) ∙ joined (x - 48) (10 ^ (length xs + length ys)) (10 ^ length xs) (10 ^ length ys) (digits_value (xs ++ ys)) (digits_value xs) (digits_value ys) (pow-add 10 (length xs) (length ys)) (digits_value-append xs ys)
  where
    joined : (d r p q v x y : ℕ) → r ≡ p * q → v ≡ x * q + y → d * r + v ≡ (d * p + x) * q + y
    joined d r p q v x y e f = ap₂ (λ (m n : ℕ). d * m + n) e f ∙ omega arith

pub continued-more : (n b : ℕ) (bs : List ℕ) → continued n (b ∷ bs) ≡ continued (n * 10 + (b - 48)) bs
continued-more n b bs =
    ap (λ (m : ℕ). n * m + ((b - 48) * 10 ^ length bs + digits_value bs)) (pow-suc 10 (length bs)) ∙ joined n (b - 48) (10 ^ length bs) (digits_value bs)
  where
    joined : (n d p v : ℕ) → n * (p * 10) + (d * p + v) ≡ (n * 10 + d) * p + v
    joined n d p v = omega arith

pub continued-ge : (n : ℕ) (bs : List ℕ) → n ≤ continued n bs
continued-ge n bs = more n (10 ^ length bs) (digits_value bs) (ten_positive (length bs))
  where
    more : (n p v : ℕ) → 0 < p → n ≤ n * p + v
    more n zero v h = absurd (omega arith)
    more n (suc p) v h = omega arith

within-small : (n : ℕ) → n ≤ 2 ^ 62 * 10 ^ 18 → within n ≡ Some n
within-small n h = ap (λ (t : Bool). cond t (Some n) None) (le-leb n (2 ^ 62 * 10 ^ 18) h)

pub within-great : (n : ℕ) → 2 ^ 62 * 10 ^ 18 < n → within n ≡ None
within-great n h = ap (λ (t : Bool). cond t (Some n) None) (leb_false n (2 ^ 62 * 10 ^ 18) h)
  where
    leb_false : (m k : ℕ) → k < m → leb m k ≡ false
    leb_false m k h = grind (arith, nat_tests)

-- a step of the loop, and its two ends
pub read_on-more : (n m : ℕ) (bs : List ℕ) (i w : ℕ) → i < length bs → m ≡ n * 10 + (get_or bs i 0 - 48) → continued n (drop i bs) ≡ w → continued m (drop (i + 1) bs) ≡ w
read_on-more n m bs i w h e f =
    ap (λ (k : ℕ). continued k (drop (i + 1) bs)) e ∙ sym (continued-more n (get_or bs i 0) (drop (i + 1) bs)) ∙ sym (at_drop_more (continued n) bs i 0 h) ∙ f

pub read_on-great : (m w : ℕ) (bs : List ℕ) → 2 ^ 62 * 10 ^ 18 < m → continued m bs ≡ w → None ≡ within w
read_on-great m w bs h e = sym (within-great w (omega (arith, continued-ge m bs)))

pub read_on-all : (n w : ℕ) (bs : List ℕ) (i : ℕ) → length bs ≤ i → n ≤ 2 ^ 62 * 10 ^ 18 → continued n (drop i bs) ≡ w → Some n ≡ within w
read_on-all n w bs i h p e =
    sym (within-small n p) ∙ ap within (sym (ends n) ∙ sym (at_drop_all (continued n) bs i h) ∙ e)
  where
    ends : (n : ℕ) → continued n [] ≡ n
    ends n = omega arith
