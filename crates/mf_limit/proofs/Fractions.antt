-- Orders and signs of sums and products, each said once for both directions.
use Rattle.std.proofs.Common.{◌≡◌, ℕ, zero, suc, ◌*◌, ◌<◌, ◌⊎◌, inl, inr, ℤ, pos, negsuc, ◌-ℤ◌, ◌*ℤ◌, neg_ℤ, int_cmp, Bool, true, false, not, if◌then◌else◌, Ordering, Less, Equal, Greater, refl, sym, ap, ap₂, subst, ◌∙◌, arith, mul-pos, zero-mul, true≢false}
use Rattle.std.proofs.lemmas.Bool.Decides.{nat_tests}
use Rattle.mf_fraction.specs.Exact.{Number, Proper, whole, sum_of, difference_of, product_of, negative_of, order_of, is_below}
use Rattle.mf_fraction.proofs.Signed.{signed, natural, minus, times, negated, equal_by}
use Rattle.mf_fraction.proofs.Comparisons.{int_cmp-scale, order_of-equal}
use Rattle.mf_fraction.proofs.OrderLaws.{order_of-is, is_below-self, is_below-trans, int_cmp-difference}
use Rattle.mf_fraction.proofs.Monotone.{order_of-reduce, order_of-sum, order_of-negative}
use Rattle.mf_fraction.proofs.Algebra.{sum_of-comm, sum_of-proper, sum_of-zero, difference_of-negative, negative_of-proper}
use Rattle.mf_fraction.proofs.Reduced.{whole-proper}
use Rattle.mf_task.specs.GroundMeaning.{sign}

abbrev pub nothing : Number
nothing = whole (pos 0)

pub nothing-proper : Proper nothing
nothing-proper = whole-proper (pos 0)

is_less : Ordering → Bool
is_less Less = true
is_less Equal = false
is_less Greater = false

less-is : (a b : Number) → is_less (order_of a b) ≡ is_below a b
unfolding is_less
less-is a b = ap is_less (order_of-is a b) ∙ by (is_below a b) (is_below b a)
  where
    by : (s t : Bool) → is_less (if s then Less else (if t then Greater else Equal)) ≡ s
    by true t = refl
    by false true = refl
    by false false = refl

-- numbers in one order are below each other alike
below-by : (a b c d : Number) → order_of a b ≡ order_of c d → is_below a b ≡ is_below c d
below-by a b c d e = sym (less-is a b) ∙ ap is_less e ∙ less-is c d

below-not : (a b : Number) → 0 < a.den → is_below a b ≡ true → is_below b a ≡ false
below-not a b p h = by (is_below b a) refl
  where
    by : (t : Bool) → is_below b a ≡ t → t ≡ false
    by false e = refl
    by true e = absurd (true≢false (sym (is_below-trans a b a p h e) ∙ is_below-self a))

pub order-less : (a b : Number) → is_below a b ≡ true → order_of a b ≡ Less
order-less a b h = order_of-is a b ∙ ap (λ (s : Bool). if s then Less else (if is_below b a then Greater else Equal)) h

pub order-greater : (a b : Number) → 0 < b.den → is_below b a ≡ true → order_of a b ≡ Greater
order-greater a b p h =
    order_of-is a b ∙ ap₂ (λ (s t : Bool). if s then Less else (if t then Greater else Equal)) (below-not b a p h) h

pub below-less : (a b : Number) → order_of a b ≡ Less → is_below a b ≡ true
unfolding is_less
below-less a b e = sym (less-is a b) ∙ ap is_less e

pub below-greater : (a b : Number) → order_of a b ≡ Greater → is_below b a ≡ true
below-greater a b e = by (is_below a b) (is_below b a) refl (sym (order_of-is a b) ∙ e)
  where
    by : (s t : Bool) → is_below b a ≡ t → (if s then Less else (if t then Greater else Equal)) ≡ Greater → is_below b a ≡ true
    by true t f g = cc
    by false true f g = f
    by false false f g = cc

-- before : below in one direction, above in the other
abbrev pub before : Bool → Number → Number → Bool
before true a b = is_below a b
before false a b = is_below b a

abbrev pub toward : Bool → Ordering
toward true = Greater
toward false = Less

pub before-self : (d : Bool) (a : Number) → before d a a ≡ false
before-self true a = is_below-self a
before-self false a = is_below-self a

below-either : (a b c : Number) → Proper a → Proper b → Proper c → is_below a c ≡ true → (is_below a b ≡ true) ⊎ (is_below b c ≡ true)
below-either a b c p q r h = by (is_below a b) (is_below b a) refl refl
  where
    by : (s t : Bool) → is_below a b ≡ s → is_below b a ≡ t → (is_below a b ≡ true) ⊎ (is_below b c ≡ true)
    by true t e f = inl e
    by false true e f = inr (is_below-trans b a c r.positive f h)
    by false false e f =
        let same : a ≡ b = order_of-equal a b p q (order_of-is a b ∙ ap₂ (λ (s t : Bool). if s then Less else (if t then Greater else Equal)) e f) in
        inr (subst (λ x. is_below x c ≡ true) same h)

pub before-either : (d : Bool) (a b c : Number) → Proper a → Proper b → Proper c → before d a c ≡ true → (before d a b ≡ true) ⊎ (before d b c ≡ true)
before-either true a b c p q r h = below-either a b c p q r h
before-either false a b c p q r h = turned (below-either c b a r q p h)
  where
    turned : (is_below c b ≡ true) ⊎ (is_below b a ≡ true) → (is_below b a ≡ true) ⊎ (is_below c b ≡ true)
    turned (inl e) = inr e
    turned (inr e) = inl e

before-by : (d : Bool) (a b x y : Number) → order_of a b ≡ order_of x y → order_of b a ≡ order_of y x → before d a b ≡ before d x y
before-by true a b x y e f = below-by a b x y e
before-by false a b x y e f = below-by b a y x f

sum-left : (d : Bool) (a b c : Number) → Proper a → Proper b → Proper c → before d (sum_of a c) (sum_of b c) ≡ before d a b
sum-left d a b c p q r =
    before-by d (sum_of a c) (sum_of b c) a b (order_of-sum a b c p.positive q.positive r.positive) (order_of-sum b a c q.positive p.positive r.positive)

sum-right : (d : Bool) (a b c : Number) → Proper a → Proper b → Proper c → before d (sum_of c a) (sum_of c b) ≡ before d a b
sum-right d a b c p q r = ap₂ (before d) (sum_of-comm c a) (sum_of-comm c b) ∙ sum-left d a b c p q r

-- where a sum is before another, some part is
pub before-sum : (d : Bool) (a b x y : Number) → Proper a → Proper b → Proper x → Proper y → before d (sum_of a x) (sum_of b y) ≡ true → (before d a b ≡ true) ⊎ (before d x y ≡ true)
before-sum d a b x y p q r s h =
    by (before-either d (sum_of a x) (sum_of b x) (sum_of b y) (sum_of-proper a x p.positive r.positive) (sum_of-proper b x q.positive r.positive) (sum_of-proper b y q.positive s.positive) h)
  where
    by : (before d (sum_of a x) (sum_of b x) ≡ true) ⊎ (before d (sum_of b x) (sum_of b y) ≡ true) → (before d a b ≡ true) ⊎ (before d x y ≡ true)
    by (inl e) = inl (sym (sum-left d a b x p q r) ∙ e)
    by (inr e) = inr (sym (sum-right d x y b r s q) ∙ e)

-- signs

sign-cross : (z : ℤ) (d : ℕ) → int_cmp (z *ℤ pos 1) (pos 0 *ℤ pos d) ≡ int_cmp z (pos 0)
sign-cross z d =
    ap₂ int_cmp (equal_by (times (signed z) (natural 1)) (signed z) (omega arith)) (equal_by (times (natural 0) (natural d)) (natural 0) (omega arith))

pub sign-is : (a : Number) → sign a ≡ int_cmp a.num (pos 0)
unfolding order_of
sign-is a = sign-cross a.num a.den

cmp-positive : (n : ℕ) → int_cmp (pos (suc n)) (pos 0) ≡ Greater
cmp-positive n = grind (arith, nat_tests)

-- a number that is greater than 0
pub record Above (z : ℤ) : Type 0 where
  pub size : ℕ
  pub some : 0 < size
  pub is : z ≡ pos size

pub record Under (z : ℤ) : Type 0 where
  pub size : ℕ
  pub some : 0 < size
  pub is : z ≡ neg_ℤ (pos size)

sign-greater : (z : ℤ) → int_cmp z (pos 0) ≡ Greater → Above z
sign-greater (pos zero) e = absurd (apart e)
  where
    apart : Equal ≡ Greater → ⊥
    apart e = cc
sign-greater (pos (suc n)) e = record { size = suc n; some = omega arith; is = refl }
sign-greater (negsuc n) e = absurd (apart e)
  where
    apart : Less ≡ Greater → ⊥
    apart e = cc

sign-less : (z : ℤ) → int_cmp z (pos 0) ≡ Less → Under z
sign-less (pos zero) e = absurd (apart e)
  where
    apart : Equal ≡ Less → ⊥
    apart e = cc
sign-less (pos (suc n)) e = absurd (apart (sym (cmp-positive n) ∙ e))
  where
    apart : Greater ≡ Less → ⊥
    apart e = cc
sign-less (negsuc n) e = record { size = suc n; some = omega arith; is = refl }

pub sign-zero : (a : Number) → Proper a → sign a ≡ Equal → a ≡ nothing
sign-zero a p e = order_of-equal a nothing p nothing-proper e

-- a number before another in one direction, by their signs
pub less-equal : (a b : Number) → Proper b → sign a ≡ Less → sign b ≡ Equal → is_below a b ≡ true
less-equal a b q e f = subst (λ x. is_below a x ≡ true) (sym (sign-zero b q f)) (below-less a nothing e)

pub equal-greater : (a b : Number) → Proper a → sign a ≡ Equal → sign b ≡ Greater → is_below a b ≡ true
equal-greater a b p e f = subst (λ x. is_below x b ≡ true) (sym (sign-zero a p e)) (below-greater b nothing f)

pub less-greater : (a b : Number) → Proper b → sign a ≡ Less → sign b ≡ Greater → is_below a b ≡ true
less-greater a b q e f = is_below-trans a nothing b q.positive (below-less a nothing e) (below-greater b nothing f)

-- a sum that lies after its first part has a second part of that sign
pub before-more : (d : Bool) (a e : Number) → Proper a → Proper e → before d a (sum_of a e) ≡ true → sign e ≡ toward d
before-more d a e p q h =
    by d (sym (sum-right d nothing e a nothing-proper q p) ∙ ap (λ x. before d x (sum_of a e)) (sum_of-comm a nothing ∙ sum_of-zero a p) ∙ h)
  where
    by : (d : Bool) → before d nothing e ≡ true → sign e ≡ toward d
    by true h = order-greater e nothing nothing-proper.positive h
    by false h = order-less e nothing h

nothing-turned : negative_of nothing ≡ nothing
unfolding negative_of
nothing-turned = refl

-- the same of a difference
pub before-less : (d : Bool) (a e : Number) → Proper a → Proper e → before d a (difference_of a e) ≡ true → sign e ≡ toward (not d)
before-less d a e p q h =
    turned d (sym (sign-negative e) ∙ before-more d a (negative_of e) p (negative_of-proper e q) (ap (before d a) (sym (difference_of-negative a e)) ∙ h))
  where
    sign-negative : (e : Number) → sign (negative_of e) ≡ order_of nothing e
    sign-negative e = ap (order_of (negative_of e)) (sym nothing-turned) ∙ order_of-negative e nothing

    turned : (d : Bool) → order_of nothing e ≡ toward d → sign e ≡ toward (not d)
    turned true h = order-less e nothing (below-greater nothing e h)
    turned false h = order-greater e nothing nothing-proper.positive (below-less nothing e h)

-- products

by-difference : (x y u v : ℤ) (k : ℕ) → 0 < k → x -ℤ y ≡ (u -ℤ v) *ℤ pos k → int_cmp x y ≡ int_cmp u v
by-difference x y u v k h e =
    sym (int_cmp-difference x y) ∙ ap₂ int_cmp e (ap pos (sym (zero-mul k))) ∙ int_cmp-scale (u -ℤ v) (pos 0) k h ∙ int_cmp-difference u v

times-above : (a b c : Number) (k : ℕ) → 0 < a.den → 0 < b.den → 0 < c.den → 0 < k → c.num ≡ pos k → order_of (product_of c a) (product_of c b) ≡ order_of a b
unfolding product_of order_of
times-above a b c k p q r h e =
    order_of-reduce (c.num *ℤ a.num) (c.num *ℤ b.num) (c.den * a.den) (c.den * b.den) (mul-pos r p) (mul-pos r q)
    ∙ ap (λ (z : ℤ). int_cmp (z *ℤ a.num *ℤ pos (c.den * b.den)) (z *ℤ b.num *ℤ pos (c.den * a.den))) e
    ∙ by-difference (pos k *ℤ a.num *ℤ pos (c.den * b.den)) (pos k *ℤ b.num *ℤ pos (c.den * a.den)) (a.num *ℤ pos b.den) (b.num *ℤ pos a.den) (k * c.den) (mul-pos h r)
    (equal_by (minus (times (times (natural k) (signed a.num)) (natural (c.den * b.den))) (times (times (natural k) (signed b.num)) (natural (c.den * a.den)))) (times (minus (times (signed a.num) (natural b.den)) (times (signed b.num) (natural a.den))) (natural (k * c.den))) (omega arith))

times-under : (a b c : Number) (k : ℕ) → 0 < a.den → 0 < b.den → 0 < c.den → 0 < k → c.num ≡ neg_ℤ (pos k) → order_of (product_of c a) (product_of c b) ≡ order_of b a
unfolding product_of order_of
times-under a b c k p q r h e =
    order_of-reduce (c.num *ℤ a.num) (c.num *ℤ b.num) (c.den * a.den) (c.den * b.den) (mul-pos r p) (mul-pos r q)
    ∙ ap (λ (z : ℤ). int_cmp (z *ℤ a.num *ℤ pos (c.den * b.den)) (z *ℤ b.num *ℤ pos (c.den * a.den))) e
    ∙ by-difference (neg_ℤ (pos k) *ℤ a.num *ℤ pos (c.den * b.den)) (neg_ℤ (pos k) *ℤ b.num *ℤ pos (c.den * a.den)) (b.num *ℤ pos a.den) (a.num *ℤ pos b.den) (k * c.den) (mul-pos h r)
    (equal_by (minus (times (times (negated (natural k)) (signed a.num)) (natural (c.den * b.den))) (times (times (negated (natural k)) (signed b.num)) (natural (c.den * a.den)))) (times (minus (times (signed b.num) (natural a.den)) (times (signed a.num) (natural b.den))) (natural (k * c.den))) (omega arith))

-- a positive factor keeps a direction, a negative one turns it
pub before-times-above : (d : Bool) (c a b : Number) → Proper c → Proper a → Proper b → sign c ≡ Greater → before d (product_of c a) (product_of c b) ≡ before d a b
before-times-above d c a b p q r e =
    let above = sign-greater c.num (sym (sign-is c) ∙ e) in
    before-by d (product_of c a) (product_of c b) a b (times-above a b c above.size q.positive r.positive p.positive above.some above.is) (times-above b a c above.size r.positive q.positive p.positive above.some above.is)

pub before-times-under : (d : Bool) (c a b : Number) → Proper c → Proper a → Proper b → sign c ≡ Less → before d (product_of c a) (product_of c b) ≡ before d b a
before-times-under d c a b p q r e =
    let under = sign-less c.num (sym (sign-is c) ∙ e) in
    before-by d (product_of c a) (product_of c b) b a (times-under a b c under.size q.positive r.positive p.positive under.some under.is) (times-under b a c under.size r.positive q.positive p.positive under.some under.is)
