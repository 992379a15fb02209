-- The laws of exact fractions at values that may be undefined.
use Rattle.std.proofs.Common.{◌≡◌, ℤ, pos, negsuc, ◌*ℤ◌, neg_ℤ, zero, suc, ◌*◌, Bool, true, false, not, ◌&&◌, nat_eq, nat_lt, Option, Some, None, refl, sym, ap, ap₂, ◌∙◌, arith}
use Rattle.std.specs.Prelude.{IfSome, if◌then◌else◌, unsigned_abs}
use Rattle.std.specs.declared.cmp.Ordering.TheVariants.{Less, Equal, Greater}
use Rattle.std.proofs.lemmas.Bool.{and_parts, eqb-true, false≢true, ltb-true}
use Rattle.mf_fraction.specs.Gcd.{gcd}
use Rattle.mf_fraction.specs.Exact.{Number, Proper, fits, whole, reduce, sum_of, difference_of, product_of, quotient_by, quotient_of, negative_of, order_of, is_below}
use Rattle.mf_fraction.proofs.Algebra.{sum_of-comm, sum_of-assoc, sum_of-zero, sum_of-proper, sum_of-negative, difference_of-negative, difference_of-product, product_of-comm, product_of-assoc, product_of-one, product_of-zero, product_of-sum, product_of-proper, product_of-reduce_left, negative_of-proper}
use Rattle.mf_fraction.proofs.Monotone.{order_of-sum}
use Rattle.mf_fraction.proofs.OrderLaws.{is_at_most-is, is_below-self, is_below-trans, is_same-is, order_of-is}
use Rattle.mf_fraction.proofs.Reduced.{reduce_self}
use Rattle.mf_fraction.proofs.Signed.{signed, natural, times as product, negated as negation, equal_by}
use Rattle.mf_model.specs.declared.task.Relation.{Relation}
use Rattle.mf_model.specs.declared.task.Relation.TheVariants as relation
use Rattle.mf_model.specs.ResolvedTask.{is_stored}
use Rattle.mf_model.specs.Meaning.{compared, minus, negated, ordered, plus, times, truth_of}
use Rattle.mf_task.specs.GroundMeaning.{relates, sign, truth_at}
use Rattle.mf_task.specs.LinearForms.{minus_one}

pub stored_is_proper : (a : Number) → is_stored a ≡ true → Proper a
stored_is_proper a stored =
    let outer = and_parts (fits a && nat_lt 0 a.den) (nat_eq (gcd (unsigned_abs a.num) a.den) 1) stored in
    record { lowest = eqb-true (gcd (unsigned_abs a.num) a.den) 1 outer.1; positive = ltb-true 0 a.den (and_parts (fits a) (nat_lt 0 a.den) outer.0).1 }

abbrev pub IsLowest : Option Number → Type 0
IsLowest x = IfSome x Proper

pub plus_comm : (x y : Option Number) → plus x y ≡ plus y x
plus_comm (Some a) (Some b) = ap Some (sum_of-comm a b)
plus_comm (Some a) None = refl
plus_comm None (Some b) = refl
plus_comm None None = refl

pub plus_assoc : (x y z : Option Number) → plus (plus x y) z ≡ plus x (plus y z)
plus_assoc (Some a) (Some b) (Some c) = ap Some (sum_of-assoc a b c)
plus_assoc (Some a) (Some b) None = refl
plus_assoc (Some a) None z = refl
plus_assoc None y z = refl

-- the two in the middle change places
pub plus_swap : (x y z : Option Number) → plus x (plus y z) ≡ plus y (plus x z)
plus_swap x y z = sym (plus_assoc x y z) ∙ ap (λ (u : Option Number). plus u z) (plus_comm x y) ∙ plus_assoc y x z

pub plus_pairs : (x y z w : Option Number) → plus (plus x y) (plus z w) ≡ plus (plus x z) (plus y w)
plus_pairs x y z w =
    plus_assoc x y (plus z w) ∙ ap (plus x) (plus_swap y z w) ∙ sym (plus_assoc x z (plus y w))

pub zero_plus : (x : Option Number) → IsLowest x → plus (Some (whole (pos 0))) x ≡ x
zero_plus (Some a) p = ap Some (sum_of-zero a p)
zero_plus None p = refl

pub plus_zero : (x : Option Number) → IsLowest x → plus x (Some (whole (pos 0))) ≡ x
plus_zero x p = plus_comm x (Some (whole (pos 0))) ∙ zero_plus x p

pub plus_lowest : (x y : Option Number) → IsLowest x → IsLowest y → IsLowest (plus x y)
plus_lowest (Some a) (Some b) p q = sum_of-proper a b p.positive q.positive
plus_lowest (Some a) None p q = tt
plus_lowest None y p q = tt

pub times_comm : (x y : Option Number) → times x y ≡ times y x
times_comm (Some a) (Some b) = ap Some (product_of-comm a b)
times_comm (Some a) None = refl
times_comm None (Some b) = refl
times_comm None None = refl

pub times_assoc : (x y z : Option Number) → times (times x y) z ≡ times x (times y z)
times_assoc (Some a) (Some b) (Some c) = ap Some (product_of-assoc a b c)
times_assoc (Some a) (Some b) None = refl
times_assoc (Some a) None z = refl
times_assoc None y z = refl

pub one_times : (x : Option Number) → IsLowest x → times (Some (whole (pos 1))) x ≡ x
one_times (Some a) p = ap Some (product_of-one a p)
one_times None p = refl

pub times_plus : (a : Number) (y z : Option Number) → Proper a → times (Some a) (plus y z) ≡ plus (times (Some a) y) (times (Some a) z)
times_plus a (Some b) (Some c) p = ap Some (product_of-sum a b c p.positive)
times_plus a (Some b) None p = refl
times_plus a None z p = refl

-- a sum of factors
pub factors_plus : (a b : Number) (x : Option Number) → IsLowest x → times (Some (sum_of a b)) x ≡ plus (times (Some a) x) (times (Some b) x)
factors_plus a b (Some c) p =
    ap Some (product_of-comm (sum_of a b) c ∙ product_of-sum c a b p.positive ∙ ap₂ sum_of (product_of-comm c a) (product_of-comm c b))
factors_plus a b None p = refl

pub times_zero : (a : Number) → Proper a → product_of a (whole (pos 0)) ≡ whole (pos 0)
times_zero a p = product_of-comm a (whole (pos 0)) ∙ product_of-zero a p.positive

pub times_lowest : (x y : Option Number) → IsLowest x → IsLowest y → IsLowest (times x y)
times_lowest (Some a) (Some b) p q = product_of-proper a b p.positive q.positive
times_lowest (Some a) None p q = tt
times_lowest None y p q = tt

pub minus_times : (x y : Option Number) → minus x y ≡ plus x (times (Some minus_one) y)
minus_times (Some a) (Some b) = ap Some (difference_of-product a b)
minus_times (Some a) None = refl
minus_times None y = refl

negative_product : (a : Number) → Proper a → negative_of a ≡ product_of minus_one a
unfolding negative_of product_of
negative_product a p =
    sym (ap₂ reduce (equal_by (product (signed (negsuc 0)) (signed a.num)) (negation (signed a.num)) (omega arith)) (omega arith) ∙ reduce_self (negative_of a) (negative_of-proper a p))

pub negated_times : (x : Option Number) → IsLowest x → negated x ≡ times (Some minus_one) x
negated_times (Some a) p = ap Some (negative_product a p)
negated_times None p = refl

-- quotients

-- a quotient is the product with the inverse of the divisor
pub quotient_product : (a c q : Number) → quotient_of (whole (pos 1)) c ≡ Some q → quotient_of a c ≡ Some (product_of q a)
unfolding quotient_of quotient_by product_of
quotient_product a c q e = by c.num e
  where
    by : (m : ℤ) → quotient_by (pos 1) 1 m c.den ≡ Some q → quotient_by a.num a.den m c.den ≡ Some (product_of q a)
    by (pos zero) e = cc
    by (pos (suc m)) e =
        let is : reduce (pos 1 *ℤ pos c.den) (1 * suc m) ≡ q = cc in
        ap Some (sym (ap (λ (x : Number). product_of x a) (sym is) ∙ product_of-reduce_left (pos 1 *ℤ pos c.den) (1 * suc m) a
        ∙ ap₂ reduce (equal_by (product (product (natural 1) (natural c.den)) (signed a.num)) (product (signed a.num) (natural c.den)) (omega arith)) (omega arith)))
    by (negsuc m) e =
        let is : reduce (neg_ℤ (pos 1 *ℤ pos c.den)) (1 * suc m) ≡ q = cc in
        ap Some (sym (ap (λ (x : Number). product_of x a) (sym is) ∙ product_of-reduce_left (neg_ℤ (pos 1 *ℤ pos c.den)) (1 * suc m) a
        ∙ ap₂ reduce (equal_by (product (negation (product (natural 1) (natural c.den))) (signed a.num)) (negation (product (signed a.num) (natural c.den))) (omega arith)) (omega arith)))

-- by 0 there is none
pub quotient_none : (a c : Number) → quotient_of (whole (pos 1)) c ≡ None → quotient_of a c ≡ None
unfolding quotient_of quotient_by
quotient_none a c e = by c.num e
  where
    by : (m : ℤ) → quotient_by (pos 1) 1 m c.den ≡ None → quotient_by a.num a.den m c.den ≡ None
    by (pos zero) e = refl
    by (pos (suc m)) e = cc
    by (negsuc m) e = cc

-- comparisons

-- the sign of a difference is the order
pub sign-difference : (a b : Number) → Proper a → Proper b → sign (difference_of a b) ≡ order_of a b
sign-difference a b p q =
    ap₂ order_of (difference_of-negative a b) (sym (sum_of-negative b q.positive)) ∙ order_of-sum a b (negative_of b) p.positive q.positive (negative_of-proper b q).positive

-- a relation by whether the left is below the right, and the right below the left
ordered_by : Relation → Bool → Bool → Bool
ordered_by relation.Less below above = below
ordered_by relation.AtMost below above = not above
ordered_by relation.Equal below above = not below && not above
ordered_by relation.AtLeast below above = not below
ordered_by relation.More below above = above

ordered-is : (r : Relation) (a b : Number) → ordered r a b ≡ ordered_by r (is_below a b) (is_below b a)
unfolding ordered_by
ordered-is relation.Less a b = refl
ordered-is relation.AtMost a b = is_at_most-is a b
ordered-is relation.Equal a b = is_same-is a b
ordered-is relation.AtLeast a b = is_at_most-is b a
ordered-is relation.More a b = refl

relates_less : (r : Relation) → relates r Less ≡ ordered_by r true false
unfolding ordered_by
relates_less relation.Less = refl
relates_less relation.AtMost = refl
relates_less relation.Equal = refl
relates_less relation.AtLeast = refl
relates_less relation.More = refl

relates_equal : (r : Relation) → relates r Equal ≡ ordered_by r false false
unfolding ordered_by
relates_equal relation.Less = refl
relates_equal relation.AtMost = refl
relates_equal relation.Equal = refl
relates_equal relation.AtLeast = refl
relates_equal relation.More = refl

relates_greater : (r : Relation) → relates r Greater ≡ ordered_by r false true
unfolding ordered_by
relates_greater relation.Less = refl
relates_greater relation.AtMost = refl
relates_greater relation.Equal = refl
relates_greater relation.AtLeast = refl
relates_greater relation.More = refl

relates-ordered : (r : Relation) (a b : Number) → Proper a → relates r (order_of a b) ≡ ordered r a b
relates-ordered r a b p =
    ap (relates r) (order_of-is a b) ∙ by (is_below a b) (is_below b a) refl refl ∙ sym (ordered-is r a b)
  where
    by : (below above : Bool) → is_below a b ≡ below → is_below b a ≡ above → relates r (if below then Less else (if above then Greater else Equal)) ≡ ordered_by r below above
    by true true s t = absurd (false≢true (sym (is_below-self a) ∙ is_below-trans a b a p.positive s t))
    by true false s t = relates_less r
    by false true s t = relates_greater r
    by false false s t = relates_equal r

pub compared-difference : (r : Relation) (x y : Option Number) → IsLowest x → IsLowest y → compared r x y ≡ truth_at r (minus x y)
compared-difference r (Some a) (Some b) p q =
    ap truth_of (sym (ap (relates r) (sign-difference a b p q) ∙ relates-ordered r a b p))
compared-difference r (Some a) None p q = refl
compared-difference r None y p q = refl
