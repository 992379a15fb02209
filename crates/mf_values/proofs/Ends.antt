-- The ends of ranges in one direction: upper ends upwards, lower ends downwards.
use Rattle.std.proofs.Common.{◌≡◌, ℕ, zero, suc, ◌<◌, ℤ, pos, neg_ℤ, Bool, true, false, not, if◌then◌else◌, List, [], ◌∷◌, Option, Some, None, Ordering, Less, Equal, Greater, refl, sym, ap, ap₂, subst, ◌∙◌, arith, true≢false}
use Rattle.std.specs.List.{AllByRecursion, fold}
use Rattle.mf_fraction.specs.Exact.{Number, Proper, whole, sum_of, difference_of, product_of, negative_of, fits, is_below}
use Rattle.mf_fraction.proofs.Algebra.{difference_of-negative, product_of-comm, product_of-zero, sum_of-comm, sum_of-zero, negative_of-proper}
use Rattle.mf_fraction.proofs.Monotone.{order_of-negative}
use Rattle.mf_fraction.proofs.OrderLaws.{order_of-is}
use Rattle.mf_task.specs.GroundMeaning.{sign}
use Rattle.mf_task.specs.Layers.{Bound, Finite, Endless, Range, higher, lower, if_it_fits, minus_bound, plus_bound, positive_part, negative_bound, zero_number}
use Rattle.mf_task.specs.RelaxedPlan.{best_end}
use Rattle.mf_limit.proofs.Fractions.{before, before-times-above, before-times-under, below-greater, below-less, nothing-proper, order-greater, order-less, toward}
use Rattle.mf_values.specs.Fitting.{IsStored}

-- the end of a range in a direction
abbrev pub end_of : Bool → Range → Bound
end_of true range = range.high
end_of false range = range.low

-- the further of two bounds
abbrev pub further : Bool → Bound → Bound → Bound
further true = higher
further false = lower

-- a bound moved on
abbrev pub moved : Bool → Bound → Bound → Bound
moved true = plus_bound
moved false = minus_bound

abbrev pub IsKept : Bound → Type 0
IsKept (Finite a) = IsStored a
IsKept Endless = Unit {0}

-- its coefficient tells the direction of the best end
pub best-end : (d : Bool) (c : Number) (range : Range) → sign c ≡ toward d → best_end c range ≡ end_of d range
best-end true c range e = ap (λ (b : Bool). if b then range.low else range.high) (by (is_below c zero_number) refl)
  where
    by : (b : Bool) → is_below c zero_number ≡ b → is_below c zero_number ≡ false
    by false f = f
    by true f = let less = order-less c zero_number f in absurd (clash (sym less ∙ e))
      where
        clash : Less ≡ Greater → ⊥
        clash h = cc
best-end false c range e = ap (λ (b : Bool). if b then range.low else range.high) (below-less c zero_number e)

times-zero : (c : Number) → Proper c → product_of c zero_number ≡ zero_number
times-zero c p = product_of-comm c zero_number ∙ product_of-zero c p.positive

before-product : (d : Bool) (c a b : Number) → Proper c → Proper a → Proper b → sign c ≡ toward d → is_below (product_of c a) (product_of c b) ≡ before d a b
before-product true c a b p q r e = before-times-above true c a b p q r e
before-product false c a b p q r e = before-times-under true c a b p q r e

-- a change whose product with the coefficient is not above 0 leads nowhere in its direction
pub no-gain : (d : Bool) (c v : Number) → Proper c → Proper v → sign c ≡ toward d → is_below zero_number (product_of c v) ≡ false → before d zero_number v ≡ false
no-gain d c v p q e h = sym (before-product d c zero_number v p nothing-proper q e) ∙ ap (λ z. is_below z (product_of c v)) (times-zero c p) ∙ h

-- a value whose product is not above that of the own end is not further
pub no-better : (d : Bool) (c own v : Number) → Proper c → Proper own → Proper v → sign c ≡ toward d → is_below (product_of c own) (product_of c v) ≡ false → before d own v ≡ false
no-better d c own v p q r e h = sym (before-product d c own v p q r e) ∙ h

pub stays-further : (d : Bool) (own v : Number) → before d own v ≡ false → further d (Finite own) (Finite v) ≡ Finite own
stays-further true own v e = ap (λ (b : Bool). if b then Finite v else Finite own) e
stays-further false own v e = ap (λ (b : Bool). if b then Finite v else Finite own) e

-- nothing is further than endless
pub endless-further : (d : Bool) (b : Bound) → further d Endless b ≡ Endless
endless-further true b = refl
endless-further false b = refl

pub fold-further : (d : Bool) (own : Bound) (bs : List Bound) → AllByRecursion (λ b. further d own b ≡ own) bs → fold (further d) own bs ≡ own
fold-further d own [] all = refl
fold-further d own (b ∷ bs) all = ap (λ a. fold (further d) a bs) all.0 ∙ fold-further d own bs all.1

pub negative-zero : negative_of zero_number ≡ zero_number
unfolding negative_of
negative-zero = refl

pub below-negative : (a b : Number) → is_below (negative_of a) (negative_of b) ≡ is_below b a
below-negative a b = by (is_below (negative_of a) (negative_of b)) (is_below b a) refl refl
  where
    by : (s t : Bool) → is_below (negative_of a) (negative_of b) ≡ s → is_below b a ≡ t → is_below (negative_of a) (negative_of b) ≡ is_below b a
    by true true e f = e ∙ sym f
    by false false e f = e ∙ sym f
    by true false e f = absurd (true≢false (sym (below-less b a (sym (order_of-negative a b) ∙ order-less (negative_of a) (negative_of b) e)) ∙ f))
    by false true e f = absurd (true≢false (sym (below-less (negative_of a) (negative_of b) (order_of-negative a b ∙ order-less b a f)) ∙ e))

-- the positive part of what is not above 0, upwards or downwards
pub no-part : (v : Number) → is_below zero_number v ≡ false → positive_part (Finite v) ≡ Finite zero_number
no-part v e = ap (λ (b : Bool). if b then Finite v else Finite zero_number) e

pub no-negative-part : (v : Number) → is_below v zero_number ≡ false → positive_part (Finite (negative_of v)) ≡ Finite zero_number
no-negative-part v e = no-part (negative_of v) (ap (λ z. is_below z (negative_of v)) (sym negative-zero) ∙ below-negative zero_number v ∙ e)

pub below-turned : (h : Number) → is_below (negative_of h) zero_number ≡ is_below zero_number h
below-turned h = ap (is_below (negative_of h)) (sym negative-zero) ∙ below-negative h zero_number

-- a kept bound that is moved by 0 stays
fits-if : (a : Number) → fits a ≡ true → if_it_fits a ≡ Finite a
fits-if a e = ap (λ (b : Bool). if b then Finite a else Endless) e

pub moved-zero : (d : Bool) (own : Bound) → IsKept own → moved d own (Finite zero_number) ≡ own
moved-zero true (Finite a) k = ap if_it_fits (sum_of-comm a zero_number ∙ sum_of-zero a k.lowest) ∙ fits-if a k.fitting
moved-zero false (Finite a) k =
    ap if_it_fits (difference_of-negative a zero_number ∙ ap (sum_of a) negative-zero ∙ sum_of-comm a zero_number ∙ sum_of-zero a k.lowest) ∙ fits-if a k.fitting
moved-zero true Endless k = refl
moved-zero false Endless k = refl

zero-fits : fits zero_number ≡ true
unfolding fits
zero-fits = refl

pub zero-kept : IsStored zero_number
zero-kept = record { lowest = nothing-proper; fitting = zero-fits }
