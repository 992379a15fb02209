-- The layers of a state, one after another.
use Rattle.std.proofs.Common.{◌≡◌, ℕ, zero, suc, ◌+◌, ◌-◌, ◌≤◌, ◌<◌, Bool, true, false, if◌then◌else◌, List, [], ◌∷◌, ◌++◌, Option, Some, None, length, take, get_or, filter, nat_le, ◌&&◌, ◌^◌, unsigned_abs, neg_ℤ, ℤ, pos, negsuc, refl, sym, ap, ap₂, subst, ◌∙◌, arith, add-zero, add-suc}
use Rattle.std.specs.List.{AllByRecursion, fold, flat_map}
use Rattle.std.proofs.lemmas.List.{length-append, get_or_append_left, take-append-le}
use Rattle.std.proofs.Math.Seq.{get_or-append_seam, take-length}
use Rattle.mf_fraction.specs.Exact.{Number, Proper, fits, is_below, negative_of}
use Rattle.mf_fraction.proofs.Algebra.{negative_of-proper}
use Rattle.mf_model.specs.declared.task.Op.{Op}
use Rattle.mf_model.specs.declared.task.Op.TheVariants.{Assign, Increase, Decrease, ScaleUp, ScaleDown}
use Rattle.mf_task.specs.declared.task.Task.{Task}
use Rattle.mf_task.specs.Layers.{Bound, Finite, Endless, Counting, FiringEffect, Layer, Range, counting, counting_of, extreme, fall_by, falls, firing_at, first_layer, high_ends, high_ends_by, higher, is_step, layer_at, layers_to, low_ends, low_ends_by, lower, minus_bound, moved_high, moved_low, negative_bound, next_layer_by, next_range, plus_bound, point, positive_part, range_from, rise_by, rises, scaled_end, scaled_high, scaled_low, zero_number}
use Rattle.mf_task.specs.Rows.{Sight}
use Rattle.mf_task.specs.NumberedTasks.{HasProperForms}
use Rattle.mf_values.specs.Fitting.{HasFittingConstants, IsStored, IsStoredSight}
use Rattle.mf_values.proofs.Ends.{IsKept, zero-kept}
use Rattle.mf_values.proofs.Folds.{all_append}
use Rattle.mf_values.proofs.Kept.{IsKeptLayer, IsKeptRange, minus-kept, plus-kept}
use Rattle.mf_values.proofs.Quiet.{HasProperFactor, IsKeptCounting, high-scaled-kept, low-scaled-kept}

-- The list

pub length-layers : (task : Task) (sight : Sight) (n : ℕ) → length (layers_to task sight n) ≡ n + 1
length-layers task sight zero = refl
length-layers task sight (suc n) = length-append (layers_to task sight n) _ ∙ ap (λ k. k + 1) (length-layers task sight n) ∙ omega arith

pub last-layer : (task : Task) (sight : Sight) (k : ℕ) → layer_at sight (layers_to task sight (suc k)) (suc k) ≡ next_layer_by task (layer_at sight (layers_to task sight k) k) (firing_at task (layers_to task sight k))
last-layer task sight k =
    let new = next_layer_by task (layer_at sight (layers_to task sight k) k) (firing_at task (layers_to task sight k)) in
    let place : suc k ≡ length (layers_to task sight k) = (let e = length-layers task sight k in omega arith) in
    ap (λ i. get_or (layers_to task sight k ++ new ∷ []) i (first_layer sight)) place ∙ get_or-append_seam (layers_to task sight k) new [] (first_layer sight)

-- m layers more
abbrev pub more : ℕ → ℕ → ℕ
more zero k = k
more (suc m) k = suc (more m k)

pub more-is : (m k : ℕ) → more m k ≡ m + k
more-is zero k = omega arith
more-is (suc m) k = ap suc (more-is m k) ∙ omega arith

-- a longer list has the same layers in front
pub same-layer : (task : Task) (sight : Sight) (m k i : ℕ) → i ≤ k → layer_at sight (layers_to task sight (more m k)) i ≡ layer_at sight (layers_to task sight k) i
same-layer task sight zero k i h = refl
same-layer task sight (suc m) k i h =
    get_or_append_left (layers_to task sight (more m k)) _ (first_layer sight) i (let e = length-layers task sight (more m k) in let f = more-is m k in omega arith) ∙ same-layer task sight m k i h

pub same-front : (task : Task) (sight : Sight) (m k : ℕ) → take (k + 1) (layers_to task sight (more m k)) ≡ layers_to task sight k
same-front task sight zero k = ap (λ n. take n (layers_to task sight k)) (sym (length-layers task sight k)) ∙ take-length (layers_to task sight k)
same-front task sight (suc m) k =
    take-append-le (k + 1) (layers_to task sight (more m k)) _ (let e = length-layers task sight (more m k) in let f = more-is m k in omega arith) ∙ same-front task sight m k

-- The bounds

same-size : (z : ℤ) → unsigned_abs (neg_ℤ z) ≡ unsigned_abs z
same-size (pos zero) = refl
same-size (pos (suc n)) = refl
same-size (negsuc n) = refl

pub fits-negative : (a : Number) → fits (negative_of a) ≡ fits a
unfolding fits negative_of
fits-negative a = ap (λ n. nat_le n (2 ^ 62) && nat_le a.den (2 ^ 62)) (same-size a.num)

stored-negative : (a : Number) → IsStored a → IsStored (negative_of a)
stored-negative a s = record { lowest = negative_of-proper a s.lowest; fitting = fits-negative a ∙ s.fitting }

negative-kept : (b : Bound) → IsKept b → IsKept (negative_bound b)
negative-kept (Finite a) k = stored-negative a k
negative-kept Endless k = tt

positive-kept : (b : Bound) → IsKept b → IsKept (positive_part b)
positive-kept (Finite a) k = by (is_below zero_number a)
  where
    by : (s : Bool) → IsKept (if s then Finite a else Finite zero_number)
    by true = k
    by false = zero-kept
positive-kept Endless k = tt

lower-kept : (a b : Bound) → IsKept a → IsKept b → IsKept (lower a b)
lower-kept (Finite a) (Finite b) p q = by (is_below b a)
  where
    by : (s : Bool) → IsKept (if s then Finite b else Finite a)
    by true = q
    by false = p
lower-kept (Finite a) Endless p q = tt
lower-kept Endless b p q = tt

higher-kept : (a b : Bound) → IsKept a → IsKept b → IsKept (higher a b)
higher-kept (Finite a) (Finite b) p q = by (is_below a b)
  where
    by : (s : Bool) → IsKept (if s then Finite b else Finite a)
    by true = q
    by false = p
higher-kept (Finite a) Endless p q = tt
higher-kept Endless b p q = tt

fold-bounds : (f : Bound → Bound → Bound) → ((a b : Bound) → IsKept a → IsKept b → IsKept (f a b)) → (a : Bound) (bs : List Bound) → IsKept a → AllByRecursion IsKept bs → IsKept (fold f a bs)
fold-bounds f step a [] k all = k
fold-bounds f step a (b ∷ bs) k all = fold-bounds f step (f a b) bs (step a b k all.0) all.1

rise-kept : (counted : Counting) → IsKeptCounting counted → IsKept (rise_by counted.op counted.range)
rise-kept counted k = by counted.op
  where
    by : (op : Op) → IsKept (rise_by op counted.range)
    by Increase = positive-kept counted.range.high k.range.high
    by Decrease = positive-kept (negative_bound counted.range.low) (negative-kept counted.range.low k.range.low)
    by Assign = zero-kept
    by ScaleUp = zero-kept
    by ScaleDown = zero-kept

fall-kept : (counted : Counting) → IsKeptCounting counted → IsKept (fall_by counted.op counted.range)
fall-kept counted k = by counted.op
  where
    by : (op : Op) → IsKept (fall_by op counted.range)
    by Increase = positive-kept (negative_bound counted.range.low) (negative-kept counted.range.low k.range.low)
    by Decrease = positive-kept counted.range.high k.range.high
    by Assign = zero-kept
    by ScaleUp = zero-kept
    by ScaleDown = zero-kept

sum-kept : (move : Counting → Bound) → ((c : Counting) → IsKeptCounting c → IsKept (move c)) → (cs : List Counting) → AllByRecursion IsKeptCounting cs → (a : Bound) → IsKept a → IsKept (fold (λ sum c. plus_bound sum (move c)) a (filter is_step cs))
sum-kept move each [] all a k = k
sum-kept move each (c ∷ cs) all a k = by (is_step c) refl (λ b q. sum-kept move each cs all.1 b q)
  where
    by : (s : Bool) → is_step c ≡ s → ((b : Bound) → IsKept b → IsKept (fold (λ sum x. plus_bound sum (move x)) b (filter is_step cs))) → IsKept (fold (λ sum x. plus_bound sum (move x)) a (filter is_step (c ∷ cs)))
    by true e rest = rw e (rest (plus_bound a (move c)) (plus-kept a (move c) k (each c all.0)))
    by false e rest = rw e (rest a k)

-- the range of a term is kept, if it has one
pub record IsKeptOption (range : Option Range) : Type 0 where
  pub kept : (own : Range) → range ≡ Some own → IsKeptRange own

high-ends-kept : (range : Option Range) (counted : Counting) → IsKeptOption range → IsKeptCounting counted → AllByRecursion IsKept (high_ends range counted)
high-ends-kept range counted r k = by counted.op
  where
    scaled : (o : Option Range) (f : Option Number) → range ≡ o → counted.factor ≡ f → AllByRecursion IsKept (scaled_end scaled_high f o)
    scaled (Some own) (Some f) e h = (high-scaled-kept f own (k.factor.proper f h) (r.kept own e), tt)
    scaled None (Some f) e h = tt
    scaled o None e h = tt

    by : (op : Op) → AllByRecursion IsKept (high_ends_by op range counted)
    by Assign = (k.range.high, tt)
    by ScaleUp = scaled range counted.factor refl refl
    by ScaleDown = scaled range counted.factor refl refl
    by Increase = tt
    by Decrease = tt

low-ends-kept : (range : Option Range) (counted : Counting) → IsKeptOption range → IsKeptCounting counted → AllByRecursion IsKept (low_ends range counted)
low-ends-kept range counted r k = by counted.op
  where
    scaled : (o : Option Range) (f : Option Number) → range ≡ o → counted.factor ≡ f → AllByRecursion IsKept (scaled_end scaled_low f o)
    scaled (Some own) (Some f) e h = (low-scaled-kept f own (k.factor.proper f h) (r.kept own e), tt)
    scaled None (Some f) e h = tt
    scaled o None e h = tt

    by : (op : Op) → AllByRecursion IsKept (low_ends_by op range counted)
    by Assign = (k.range.low, tt)
    by ScaleUp = scaled range counted.factor refl refl
    by ScaleDown = scaled range counted.factor refl refl
    by Increase = tt
    by Decrease = tt

all-ends : (ends : Counting → List Bound) → ((c : Counting) → IsKeptCounting c → AllByRecursion IsKept (ends c)) → (cs : List Counting) → AllByRecursion IsKeptCounting cs → AllByRecursion IsKept (flat_map ends cs)
all-ends ends each [] all = tt
all-ends ends each (c ∷ cs) all = all_append IsKept (ends c) (flat_map ends cs) (each c all.0) (all-ends ends each cs all.1)

extreme-kept : (f : Bound → Bound → Bound) → ((a b : Bound) → IsKept a → IsKept b → IsKept (f a b)) → (bs : List Bound) → AllByRecursion IsKept bs → (b : Bound) → extreme f bs ≡ Some b → IsKept b
extreme-kept f step [] all b e = absurd cc
extreme-kept f step (x ∷ bs) all b e = let same : fold f x bs ≡ b = cc in subst IsKept same (fold-bounds f step x bs all.0 all.1)

pub next-range-kept : (range : Option Range) (cs : List Counting) (next : Range) → IsKeptOption range → AllByRecursion IsKeptCounting cs → next_range range cs ≡ Some next → IsKeptRange next
next-range-kept range cs next r all e = by (extreme lower lows) (extreme higher highs) refl refl e
  where
    lows : List Bound
    lows = moved_low range cs ++ flat_map (low_ends range) cs

    highs : List Bound
    highs = moved_high range cs ++ flat_map (high_ends range) cs

    moved-low-kept : (o : Option Range) → range ≡ o → AllByRecursion IsKept (moved_low o cs)
    moved-low-kept (Some own) h = (minus-kept own.low (falls cs) (r.kept own h).low (sum-kept (λ c. fall_by c.op c.range) fall-kept cs all (Finite zero_number) zero-kept), tt)
    moved-low-kept None h = tt

    moved-high-kept : (o : Option Range) → range ≡ o → AllByRecursion IsKept (moved_high o cs)
    moved-high-kept (Some own) h = (plus-kept own.high (rises cs) (r.kept own h).high (sum-kept (λ c. rise_by c.op c.range) rise-kept cs all (Finite zero_number) zero-kept), tt)
    moved-high-kept None h = tt

    lows-kept : AllByRecursion IsKept lows
    lows-kept = all_append IsKept (moved_low range cs) (flat_map (low_ends range) cs) (moved-low-kept range refl) (all-ends (low_ends range) (λ c k. low-ends-kept range c r k) cs all)

    highs-kept : AllByRecursion IsKept highs
    highs-kept = all_append IsKept (moved_high range cs) (flat_map (high_ends range) cs) (moved-high-kept range refl) (all-ends (high_ends range) (λ c k. high-ends-kept range c r k) cs all)

    by : (low high : Option Bound) → extreme lower lows ≡ low → extreme higher highs ≡ high → range_from low high ≡ Some next → IsKeptRange next
    by (Some low) (Some high) l h f =
        let same : record { low = low; high = high } ≡ next = cc in
        subst IsKeptRange same (record { low = extreme-kept lower lower-kept lows lows-kept low l; high = extreme-kept higher higher-kept highs highs-kept high h })
    by (Some low) None l h f = absurd cc
    by None high l h f = absurd cc
