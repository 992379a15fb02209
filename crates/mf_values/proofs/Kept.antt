-- Bounds of layers are in lowest terms and fit.
use Rattle.std.proofs.Common.{◌≡◌, ℕ, ◌<◌, Bool, true, false, if◌then◌else◌, List, [], ◌∷◌, Option, Some, None, Ordering, Less, Equal, Greater, refl, sym, ap, subst, ◌∙◌, arith}
use Rattle.std.specs.List.{AllByRecursion, fold, list_all}
use Rattle.mf_fraction.specs.Exact.{Number, Proper, sum_of, difference_of, product_of, negative_of, fits, is_below}
use Rattle.mf_fraction.proofs.Algebra.{difference_of-proper, product_of-proper, sum_of-proper}
use Rattle.mf_task.specs.declared.form.Form.{Form}
use Rattle.mf_task.specs.declared.form.Part.{Part}
use Rattle.mf_task.specs.GroundMeaning.{sign}
use Rattle.mf_task.specs.Layers.{Bound, Finite, Endless, Layer, Range, form_range, has_range, high_by, high_of, if_it_fits, low_by, low_of, minus_bound, plus_bound, times_bound, with_high, with_low}
use Rattle.mf_task.specs.NumberedTasks.{IsProperForm}
use Rattle.mf_values.specs.Fitting.{IsStored}
use Rattle.mf_values.proofs.Ends.{IsKept}

-- both ends are kept
pub record IsKeptRange (range : Range) : Type 0 where
  pub low : IsKept range.low
  pub high : IsKept range.high

-- the range of each term is
pub record IsKeptLayer (layer : Layer) : Type 0 where
  pub ranges : (term : ℕ) (range : Range) → layer.range term ≡ Some range → IsKeptRange range

pub if-kept : (a : Number) → Proper a → IsKept (if_it_fits a)
if-kept a p = by (fits a) refl
  where
    by : (b : Bool) → fits a ≡ b → IsKept (if b then Finite a else Endless)
    by true e = record { lowest = p; fitting = e }
    by false e = tt

pub plus-kept : (a b : Bound) → IsKept a → IsKept b → IsKept (plus_bound a b)
plus-kept (Finite a) (Finite b) p q = if-kept (sum_of a b) (sum_of-proper a b p.lowest.positive q.lowest.positive)
plus-kept (Finite a) Endless p q = tt
plus-kept Endless b p q = tt

pub minus-kept : (a b : Bound) → IsKept a → IsKept b → IsKept (minus_bound a b)
minus-kept (Finite a) (Finite b) p q = if-kept (difference_of a b) (difference_of-proper a b p.lowest.positive q.lowest.positive)
minus-kept (Finite a) Endless p q = tt
minus-kept Endless b p q = tt

pub times-kept : (c : Number) (b : Bound) → Proper c → IsKept b → IsKept (times_bound c b)
times-kept c (Finite b) p q = if-kept (product_of c b) (product_of-proper c b p.positive q.lowest.positive)
times-kept c Endless p q = tt

pub high-kept : (layer : Layer) (term : ℕ) → IsKeptLayer layer → IsKept (high_of (layer.range term))
high-kept layer term k = by (layer.range term) refl
  where
    by : (o : Option Range) → layer.range term ≡ o → IsKept (high_of o)
    by (Some range) e = (k.ranges term range e).high
    by None e = tt

pub low-kept : (layer : Layer) (term : ℕ) → IsKeptLayer layer → IsKept (low_of (layer.range term))
low-kept layer term k = by (layer.range term) refl
  where
    by : (o : Option Range) → layer.range term ≡ o → IsKept (low_of o)
    by (Some range) e = (k.ranges term range e).low
    by None e = tt

with-high-kept : (layer : Layer) → IsKeptLayer layer → (a : Bound) (p : Part) → Proper p.coefficient → IsKept a → IsKept (with_high layer a p)
with-high-kept layer k a p proper q = by (sign p.coefficient)
  where
    by : (o : Ordering) → IsKept (high_by o (layer.range p.term) p.coefficient a)
    by Less = plus-kept a (times_bound p.coefficient (low_of (layer.range p.term))) q (times-kept p.coefficient (low_of (layer.range p.term)) proper (low-kept layer p.term k))
    by Equal = q
    by Greater = plus-kept a (times_bound p.coefficient (high_of (layer.range p.term))) q (times-kept p.coefficient (high_of (layer.range p.term)) proper (high-kept layer p.term k))

pub with-low-kept : (layer : Layer) → IsKeptLayer layer → (a : Bound) (p : Part) → Proper p.coefficient → IsKept a → IsKept (with_low layer a p)
with-low-kept layer k a p proper q = by (sign p.coefficient)
  where
    by : (o : Ordering) → IsKept (low_by o (layer.range p.term) p.coefficient a)
    by Less = plus-kept a (times_bound p.coefficient (high_of (layer.range p.term))) q (times-kept p.coefficient (high_of (layer.range p.term)) proper (high-kept layer p.term k))
    by Equal = q
    by Greater = plus-kept a (times_bound p.coefficient (low_of (layer.range p.term))) q (times-kept p.coefficient (low_of (layer.range p.term)) proper (low-kept layer p.term k))

fold-kept : (f : Bound → Part → Bound) → ((a : Bound) (p : Part) → Proper p.coefficient → IsKept a → IsKept (f a p)) → (ps : List Part) → AllByRecursion (λ p. Proper p.coefficient) ps → (a : Bound) → IsKept a → IsKept (fold f a ps)
fold-kept f step [] all a k = k
fold-kept f step (p ∷ ps) all a k = fold-kept f step ps all.1 (f a p) (step a p all.0 k)

pub form-range-kept : (layer : Layer) (form : Form) (range : Range) → IsKeptLayer layer → IsProperForm form → fits form.constant ≡ true → form_range layer form ≡ Some range → IsKeptRange range
form-range-kept layer form range k proper f e = by (list_all (λ p. has_range layer p.term) form.parts) e
  where
    whole : Range
    whole = record { low = fold (with_low layer) (Finite form.constant) form.parts; high = fold (with_high layer) (Finite form.constant) form.parts }

    start : IsKept (Finite form.constant)
    start = record { lowest = proper.constant; fitting = f }

    kept : IsKeptRange whole
    kept = record {
      low = fold-kept (with_low layer) (with-low-kept layer k) form.parts proper.coefficients (Finite form.constant) start;
      high = fold-kept (with_high layer) (with-high-kept layer k) form.parts proper.coefficients (Finite form.constant) start;
    }

    by : (b : Bool) → (if b then Some whole else None) ≡ Some range → IsKeptRange range
    by true h = let same : whole ≡ range = cc in subst IsKeptRange same kept
    by false h = absurd cc
