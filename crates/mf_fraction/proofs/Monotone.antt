-- Sums and products with a positive number keep the order, and a negation turns it round.
use Rattle.std.proofs.Common.{◌≡◌, ℕ, zero, suc, ◌*◌, ◌<◌, ℤ, pos, negsuc, ◌+ℤ◌, ◌-ℤ◌, ◌*ℤ◌, neg_ℤ, unsigned_abs, int_cmp, refl, sym, ap, ap₂, ◌∙◌, arith, mul-pos, zero-mul}
use Rattle.std.specs.Int.{int_signum}
use Rattle.mf_fraction.specs.Gcd.{gcd}
use Rattle.mf_fraction.specs.Exact.{Number, reduce, sum_of, product_of, negative_of, order_of, sign_of}
use Rattle.mf_fraction.proofs.Signed.{signed, natural, plus, minus, times, negated, equal_by}
use Rattle.mf_fraction.proofs.Divisors.{gcd-positive}
use Rattle.mf_fraction.proofs.Reduced.{number, times-num, times-den}
use Rattle.mf_fraction.proofs.Comparisons.{int_cmp-scale}
use Rattle.mf_fraction.proofs.OrderLaws.{int_cmp-difference}

-- cross products of two fractions, each with a factor of its own
crossed : (g h : ℕ) (x y n m : ℤ) (p q d e : ℕ) → 0 < g → 0 < h → pos g *ℤ x ≡ n → g * p ≡ d → pos h *ℤ y ≡ m → h * q ≡ e → int_cmp (x *ℤ pos q) (y *ℤ pos p) ≡ int_cmp (n *ℤ pos e) (m *ℤ pos d)
crossed g h x y n m p q d e hg hh en ed em ee =
    sym (int_cmp-scale (x *ℤ pos q) (y *ℤ pos p) (g * h) (mul-pos hg hh))
    ∙ ap₂ int_cmp (equal_by (times (times (signed x) (natural q)) (natural (g * h))) (times (times (natural g) (signed x)) (natural (h * q))) (omega arith) ∙ ap₂ (λ (s : ℤ) (t : ℕ). s *ℤ pos t) en ee) (equal_by (times (times (signed y) (natural p)) (natural (g * h))) (times (times (natural h) (signed y)) (natural (g * p))) (omega arith) ∙ ap₂ (λ (s : ℤ) (t : ℕ). s *ℤ pos t) em ed)

-- a reduction keeps the order
pub order_of-reduce : (n m : ℤ) (d e : ℕ) → 0 < d → 0 < e → order_of (reduce n d) (reduce m e) ≡ order_of (number n d) (number m e)
unfolding order_of
order_of-reduce n m d e p q =
    crossed (gcd (unsigned_abs n) d) (gcd (unsigned_abs m) e) (reduce n d).num (reduce m e).num n m (reduce n d).den (reduce m e).den d e (gcd-positive (unsigned_abs n) d p) (gcd-positive (unsigned_abs m) e q) (times-num n d) (times-den n d) (times-num m e) (times-den m e)

-- the order is that of the difference against 0
by_difference : (x y u v : ℤ) (k : ℕ) → 0 < k → x -ℤ y ≡ (u -ℤ v) *ℤ pos k → int_cmp x y ≡ int_cmp u v
by_difference x y u v k h e =
    sym (int_cmp-difference x y) ∙ ap₂ int_cmp e (ap pos (sym (zero-mul k))) ∙ int_cmp-scale (u -ℤ v) (pos 0) k h ∙ int_cmp-difference u v

pub order_of-sum : (a b c : Number) → 0 < a.den → 0 < b.den → 0 < c.den → order_of (sum_of a c) (sum_of b c) ≡ order_of a b
unfolding sum_of order_of
order_of-sum a b c p q r =
    order_of-reduce (a.num *ℤ pos c.den +ℤ c.num *ℤ pos a.den) (b.num *ℤ pos c.den +ℤ c.num *ℤ pos b.den) (a.den * c.den) (b.den * c.den) (mul-pos p r) (mul-pos q r)
    ∙ by_difference ((a.num *ℤ pos c.den +ℤ c.num *ℤ pos a.den) *ℤ pos (b.den * c.den)) ((b.num *ℤ pos c.den +ℤ c.num *ℤ pos b.den) *ℤ pos (a.den * c.den)) (a.num *ℤ pos b.den) (b.num *ℤ pos a.den) (c.den * c.den) (mul-pos r r) (equal_by (minus (times (plus (times (signed a.num) (natural c.den)) (times (signed c.num) (natural a.den))) (natural (b.den * c.den))) (times (plus (times (signed b.num) (natural c.den)) (times (signed c.num) (natural b.den))) (natural (a.den * c.den)))) (times (minus (times (signed a.num) (natural b.den)) (times (signed b.num) (natural a.den))) (natural (c.den * c.den))) (omega arith))

-- a positive factor
order_of-times : (a b c : Number) (k : ℕ) → 0 < a.den → 0 < b.den → 0 < c.den → 0 < k → c.num ≡ pos k → order_of (product_of a c) (product_of b c) ≡ order_of a b
unfolding product_of order_of
order_of-times a b c k p q r h e =
    order_of-reduce (a.num *ℤ c.num) (b.num *ℤ c.num) (a.den * c.den) (b.den * c.den) (mul-pos p r) (mul-pos q r)
    ∙ ap (λ (z : ℤ). int_cmp (a.num *ℤ z *ℤ pos (b.den * c.den)) (b.num *ℤ z *ℤ pos (a.den * c.den))) e
    ∙ ap₂ int_cmp (equal_by (times (times (signed a.num) (natural k)) (natural (b.den * c.den))) (times (times (signed a.num) (natural b.den)) (natural (k * c.den))) (omega arith)) (equal_by (times (times (signed b.num) (natural k)) (natural (a.den * c.den))) (times (times (signed b.num) (natural a.den)) (natural (k * c.den))) (omega arith))
    ∙ int_cmp-scale (a.num *ℤ pos b.den) (b.num *ℤ pos a.den) (k * c.den) (mul-pos h r)

pub order_of-product : (a b c : Number) → 0 < a.den → 0 < b.den → 0 < c.den → sign_of c ≡ pos 1 → order_of (product_of a c) (product_of b c) ≡ order_of a b
order_of-product a b c p q r s = by c.num refl s
  where
    by : (z : ℤ) → c.num ≡ z → int_signum z ≡ pos 1 → order_of (product_of a c) (product_of b c) ≡ order_of a b
    by (pos zero) e s = let apart : unsigned_abs (pos 0) ≡ unsigned_abs (pos 1) = ap unsigned_abs s in absurd (omega arith)
    by (pos (suc n)) e s = order_of-times a b c (suc n) p q r (omega arith) e
    by (negsuc n) e s = cc

pub order_of-negative : (a b : Number) → order_of (negative_of a) (negative_of b) ≡ order_of b a
unfolding negative_of order_of
order_of-negative a b =
    by_difference (neg_ℤ a.num *ℤ pos b.den) (neg_ℤ b.num *ℤ pos a.den) (b.num *ℤ pos a.den) (a.num *ℤ pos b.den) 1 (omega arith) (equal_by (minus (times (negated (signed a.num)) (natural b.den)) (times (negated (signed b.num)) (natural a.den))) (times (minus (times (signed b.num) (natural a.den)) (times (signed a.num) (natural b.den))) (natural 1)) (omega arith))
