-- An effect that serving does not select moves no end of its term in the direction of the coefficient.
use Rattle.std.proofs.Common.{◌≡◌, ◌≢◌, ◌⊎◌, inl, inr, ℕ, Bool, true, false, if◌then◌else◌, List, [], ◌∷◌, ◌++◌, Option, Some, None, Ordering, Less, Equal, Greater, map, filter, refl, sym, ap, ap₂, subst, ◌∙◌}
use Rattle.std.specs.List.{AllByRecursion, fold, flat_map}
use Rattle.std.proofs.lemmas.List.{map-append}
use Rattle.mf_fraction.specs.Exact.{Number, Proper, fits, is_below, negative_of, product_of, sum_of}
use Rattle.mf_fraction.proofs.Algebra.{negative_of-proper}
use Rattle.mf_model.specs.declared.task.Op.{Op}
use Rattle.mf_model.specs.declared.task.Op.TheVariants.{Assign, Increase, Decrease, ScaleUp, ScaleDown}
use Rattle.mf_model.specs.Application.{is_sum}
use Rattle.mf_task.specs.declared.form.Form.{Form}
use Rattle.mf_task.specs.declared.form.Part.{Part}
use Rattle.mf_task.specs.GroundMeaning.{sign}
use Rattle.mf_task.specs.Layers.{Bound, Finite, Endless, Counting, FiringEffect, Layer, Range, extreme, fall_of, falls, high_ends, higher, is_step, low_ends, lower, minus_bound, negative_bound, next_range, plus_bound, positive_part, rise_of, rises, times_bound, scaled_bound, scaled_end, scaled_high, scaled_low, zero_number}
use Rattle.mf_task.specs.RelaxedPlan.{CountedEffect, Serving, best_end, by_effect, change_range, ended_by, is_assign, is_better, own_best, replaced_by, scaled_range, value_range, with_change_of, with_constant, with_effect, with_value_of, without_term}
use Rattle.mf_task.specs.LimitClosure.{is_zero}
use Rattle.mf_limit.proofs.Fractions.{before, nothing-proper, toward}
use Rattle.mf_values.specs.Fitting.{IsStored}
use Rattle.mf_values.proofs.Ends.{IsKept, below-turned, best-end, end_of, endless-further, fold-further, further, moved, moved-zero, no-better, no-gain, no-negative-part, no-part, stays-further, zero-kept}
use Rattle.mf_values.proofs.Folds.{all_append, all_filter, cons_append}
use Rattle.mf_values.proofs.Kept.{IsKeptRange, times-kept}

-- Serving that has selected something

pub record HasTaken (serving : Serving) : Type 0 where
  pub some : serving.selected ≢ []

taken-constant : (serving : Serving) (effect : FiringEffect) (parts : List Part) (a : Number) → HasTaken (with_constant serving effect parts a)
taken-constant serving effect parts a = by (fits (sum_of serving.form.constant a))
  where
    by : (b : Bool) → HasTaken (if b then with_effect serving effect (record { constant = sum_of serving.form.constant a; parts = parts }) else ended_by serving effect)
    by true = record { some = cons_append serving.selected effect }
    by false = record { some = cons_append serving.selected effect }

pub taken-ended : (serving : Serving) (effect : FiringEffect) → HasTaken (ended_by serving effect)
taken-ended serving effect = record { some = cons_append serving.selected effect }

pub taken-effect : (serving : Serving) (effect : FiringEffect) (form : Form) → HasTaken (with_effect serving effect form)
taken-effect serving effect form = record { some = cons_append serving.selected effect }

pub taken-replaced : (serving : Serving) (effect : FiringEffect) (p : Part) (b : Bound) → HasTaken (replaced_by serving effect p b)
taken-replaced serving effect p Endless = taken-ended serving effect
taken-replaced serving effect p (Finite v) = by (fits (product_of p.coefficient v))
  where
    by : (b : Bool) → HasTaken (if b then with_constant serving effect (without_term serving.form.parts p.term) (product_of p.coefficient v) else ended_by serving effect)
    by true = taken-constant serving effect (without_term serving.form.parts p.term) (product_of p.coefficient v)
    by false = taken-ended serving effect

-- An effect is not selected

-- serving is as it was, and the bound is a number of which so much is known
pub record IsLeft (serving after : Serving) (Known : Number → Type 0) (b : Bound) : Type 0 where
  pub same : after ≡ serving
  pub value : Number
  pub value_is : b ≡ Finite value
  pub known : Known value

pub data Step (serving after : Serving) (Known : Number → Type 0) (b : Bound) : Type 0 where
  left : IsLeft serving after Known b → Step serving after Known b
  took : HasTaken after → Step serving after Known b

pub change-step : (serving : Serving) (effect : FiringEffect) (c : Number) (b : Bound) → Step serving (with_change_of serving effect c b) (λ v. is_below zero_number (product_of c v) ≡ false) b
change-step serving effect c Endless = took (taken-ended serving effect)
change-step serving effect c (Finite v) = by (fits (product_of c v)) (is_below zero_number (product_of c v)) refl
  where
    by : (s t : Bool) → is_below zero_number (product_of c v) ≡ t → Step serving (if s then (if t then with_constant serving effect serving.form.parts (product_of c v) else serving) else ended_by serving effect) (λ u. is_below zero_number (product_of c u) ≡ false) (Finite v)
    by true true e = took (taken-constant serving effect serving.form.parts (product_of c v))
    by true false e = left (record { same = refl; value = v; value_is = refl; known = e })
    by false t e = took (taken-ended serving effect)

pub value-step : (serving : Serving) (effect : FiringEffect) (p : Part) (own b : Bound) → Step serving (with_value_of serving effect p own b) (λ v. is_better p.coefficient v own ≡ false) b
value-step serving effect p own Endless = took (taken-ended serving effect)
value-step serving effect p own (Finite v) = by (fits (product_of p.coefficient v)) (is_better p.coefficient v own) refl
  where
    by : (s t : Bool) → is_better p.coefficient v own ≡ t → Step serving (if s then (if t then replaced_by serving effect p (Finite v) else serving) else ended_by serving effect) (λ u. is_better p.coefficient u own ≡ false) (Finite v)
    by true true e = took (taken-replaced serving effect p (Finite v))
    by true false e = left (record { same = refl; value = v; value_is = refl; known = e })
    by false t e = took (taken-ended serving effect)

-- What such an effect gives

abbrev pub move_of : Bool → Counting → Bound
move_of true = rise_of
move_of false = fall_of

abbrev pub ends_of : Bool → Option Range → Counting → List Bound
ends_of true = high_ends
ends_of false = low_ends

-- it moves its term by 0, and gives no end further than the term's own
pub record IsQuiet (d : Bool) (own : Range) (counted : Counting) : Type 0 where
  pub move : is_sum counted.op ≡ true → move_of d counted ≡ Finite zero_number
  pub ends : AllByRecursion (λ b. further d (end_of d own) b ≡ end_of d own) (ends_of d (Some own) counted)

proper-of : (b : Bound) (v : Number) → b ≡ Finite v → IsKept b → Proper v
proper-of b v e k = let stored : IsKept (Finite v) = subst IsKept e k in stored.lowest

negative-proper : (b : Bound) (v : Number) → negative_bound b ≡ Finite v → IsKept b → Proper v
negative-proper (Finite a) v e k = let same : negative_of a ≡ v = cc in subst Proper same (negative_of-proper a k.lowest)
negative-proper Endless v e k = cc

no-fall : (b : Bound) (v : Number) → negative_bound b ≡ Finite v → is_below v zero_number ≡ false → positive_part b ≡ Finite zero_number
no-fall (Finite h) v e f =
    let same : negative_of h ≡ v = cc in
    no-part h (sym (below-turned h) ∙ ap (λ n. is_below n zero_number) same ∙ f)
no-fall Endless v e f = cc

pub quiet-sum : (d : Bool) (c : Number) (own : Range) (op : Op) (range : Range) (factor : Option Number) (v : Number) → sign c ≡ toward d → Proper c → IsKeptRange range → is_sum op ≡ true → best_end c (change_range op range) ≡ Finite v → is_below zero_number (product_of c v) ≡ false → IsQuiet d own (record { op = op; range = range; factor = factor })
quiet-sum true c own Increase range factor v e p k s b h =
    let is : range.high ≡ Finite v = sym (best-end true c range e) ∙ b in
    record { move = λ t. ap positive_part is ∙ no-part v (no-gain true c v p (proper-of range.high v is k.high) e h); ends = tt }
quiet-sum false c own Increase range factor v e p k s b h =
    let is : range.low ≡ Finite v = sym (best-end false c range e) ∙ b in
    record { move = λ t. ap (λ x. positive_part (negative_bound x)) is ∙ no-negative-part v (no-gain false c v p (proper-of range.low v is k.low) e h); ends = tt }
quiet-sum true c own Decrease range factor v e p k s b h =
    let is : negative_bound range.low ≡ Finite v = sym (best-end true c (change_range Decrease range) e) ∙ b in
    record { move = λ t. ap positive_part is ∙ no-part v (no-gain true c v p (negative-proper range.low v is k.low) e h); ends = tt }
quiet-sum false c own Decrease range factor v e p k s b h =
    let is : negative_bound range.high ≡ Finite v = sym (best-end false c (change_range Decrease range) e) ∙ b in
    record { move = λ t. no-fall range.high v is (no-gain false c v p (negative-proper range.high v is k.high) e h); ends = tt }
quiet-sum d c own Assign range factor v e p k s b h = cc
quiet-sum d c own ScaleUp range factor v e p k s b h = cc
quiet-sum d c own ScaleDown range factor v e p k s b h = cc

-- a value that is not better is not further than the own end
not-further : (d : Bool) (c : Number) (own b : Bound) (v : Number) → sign c ≡ toward d → Proper c → IsKept own → IsKept b → b ≡ Finite v → is_better c v own ≡ false → further d own b ≡ own
not-further d c (Finite o) b v e p k l is h = ap (further d (Finite o)) is ∙ stays-further d o v (no-better d c o v p k.lowest (proper-of b v is l) e h)
not-further d c Endless b v e p k l is h = endless-further d b

end-kept : (d : Bool) (range : Range) → IsKeptRange range → IsKept (end_of d range)
end-kept true range k = k.high
end-kept false range k = k.low

scaled-kept : (factor : Number) (b : Bound) → Proper factor → IsKept b → IsKept (scaled_bound factor b)
scaled-kept factor b p k = by (is_zero factor)
  where
    by : (z : Bool) → IsKept (if z then Finite zero_number else times_bound factor b)
    by true = zero-kept
    by false = times-kept factor b p k

pub high-scaled-kept : (factor : Number) (own : Range) → Proper factor → IsKeptRange own → IsKept (scaled_high factor own)
high-scaled-kept factor own p k = by (is_below factor zero_number)
  where
    by : (z : Bool) → IsKept (scaled_bound factor (if z then own.low else own.high))
    by true = scaled-kept factor own.low p k.low
    by false = scaled-kept factor own.high p k.high

pub low-scaled-kept : (factor : Number) (own : Range) → Proper factor → IsKeptRange own → IsKept (scaled_low factor own)
low-scaled-kept factor own p k = by (is_below factor zero_number)
  where
    by : (z : Bool) → IsKept (scaled_bound factor (if z then own.high else own.low))
    by true = scaled-kept factor own.high p k.high
    by false = scaled-kept factor own.low p k.low

pub scaled-range-kept : (factor : Number) (own : Range) → Proper factor → IsKeptRange own → IsKeptRange (scaled_range (Some factor) (Some own))
scaled-range-kept factor own p k = record { low = low-scaled-kept factor own p k; high = high-scaled-kept factor own p k }

-- the end that a value gives
value-quiet : (d : Bool) (c : Number) (own values : Range) (v : Number) → sign c ≡ toward d → Proper c → IsKeptRange own → IsKeptRange values → best_end c values ≡ Finite v → is_better c v (best_end c own) ≡ false → further d (end_of d own) (end_of d values) ≡ end_of d own
value-quiet d c own values v e p k l b h =
    not-further d c (end_of d own) (end_of d values) v e p (end-kept d own k) (end-kept d values l) (sym (best-end d c values e) ∙ b) (ap (is_better c v) (sym (best-end d c own e)) ∙ h)

-- a factor is in lowest terms
pub record HasProperFactor (factor : Option Number) : Type 0 where
  pub proper : (f : Number) → factor ≡ Some f → Proper f

pub quiet-value : (d : Bool) (c : Number) (own : Range) (op : Op) (range : Range) (factor : Option Number) (v : Number) → sign c ≡ toward d → Proper c → IsKeptRange own → IsKeptRange range → HasProperFactor factor → is_sum op ≡ false → best_end c (value_range (record { op = op; range = range; factor = factor }) (Some own)) ≡ Finite v → is_better c v (best_end c own) ≡ false → IsQuiet d own (record { op = op; range = range; factor = factor })
quiet-value true c own Assign range factor v e p k l q s b h = record { move = λ t. cc; ends = (value-quiet true c own range v e p k l b h, tt) }
quiet-value false c own Assign range factor v e p k l q s b h = record { move = λ t. cc; ends = (value-quiet false c own range v e p k l b h, tt) }
quiet-value true c own ScaleUp range (Some f) v e p k l q s b h = record { move = λ t. cc; ends = (value-quiet true c own (scaled_range (Some f) (Some own)) v e p k (scaled-range-kept f own (q.proper f refl) k) b h, tt) }
quiet-value false c own ScaleUp range (Some f) v e p k l q s b h = record { move = λ t. cc; ends = (value-quiet false c own (scaled_range (Some f) (Some own)) v e p k (scaled-range-kept f own (q.proper f refl) k) b h, tt) }
quiet-value true c own ScaleDown range (Some f) v e p k l q s b h = record { move = λ t. cc; ends = (value-quiet true c own (scaled_range (Some f) (Some own)) v e p k (scaled-range-kept f own (q.proper f refl) k) b h, tt) }
quiet-value false c own ScaleDown range (Some f) v e p k l q s b h = record { move = λ t. cc; ends = (value-quiet false c own (scaled_range (Some f) (Some own)) v e p k (scaled-range-kept f own (q.proper f refl) k) b h, tt) }
quiet-value true c own ScaleUp range None v e p k l q s b h = record { move = λ t. cc; ends = tt }
quiet-value false c own ScaleUp range None v e p k l q s b h = record { move = λ t. cc; ends = tt }
quiet-value true c own ScaleDown range None v e p k l q s b h = record { move = λ t. cc; ends = tt }
quiet-value false c own ScaleDown range None v e p k l q s b h = record { move = λ t. cc; ends = tt }
quiet-value d c own Increase range factor v e p k l q s b h = cc
quiet-value d c own Decrease range factor v e p k l q s b h = cc

-- The effects on a term

-- what is kept of a change that counts
pub record IsKeptCounting (counted : Counting) : Type 0 where
  pub range : IsKeptRange counted.range
  pub factor : HasProperFactor counted.factor

pub record IsPassed (d : Bool) (own : Range) (serving after : Serving) (counted : Counting) : Type 0 where
  pub same : after ≡ serving
  pub quiet : IsQuiet d own counted

pub data EffectStep (d : Bool) (own : Range) (serving after : Serving) (counted : Counting) : Type 0 where
  passed : IsPassed d own serving after counted → EffectStep d own serving after counted
  selected : HasTaken after → EffectStep d own serving after counted

pub effect-step : (d : Bool) (layer : Layer) (p : Part) (serving : Serving) (c : CountedEffect) (own : Range) → layer.range p.term ≡ Some own → sign p.coefficient ≡ toward d → Proper p.coefficient → IsKeptRange own → IsKeptCounting c.counted → EffectStep d own serving (by_effect layer p serving c) c.counted
effect-step d layer p serving c own r e q k l = by (is_sum c.counted.op) refl
  where
    change : Bound
    change = best_end p.coefficient (change_range c.counted.op c.counted.range)

    value : Bound
    value = best_end p.coefficient (value_range c.counted (layer.range p.term))

    best : Bound
    best = own_best p.coefficient (layer.range p.term)

    of-change : is_sum c.counted.op ≡ true → Step serving (with_change_of serving c.effect p.coefficient change) (λ v. is_below zero_number (product_of p.coefficient v) ≡ false) change → EffectStep d own serving (with_change_of serving c.effect p.coefficient change) c.counted
    of-change s (left here) = passed (record { same = here.same; quiet = quiet-sum d p.coefficient own c.counted.op c.counted.range c.counted.factor here.value e q l.range s here.value_is here.known })
    of-change s (took t) = selected t

    of-value : is_sum c.counted.op ≡ false → Step serving (with_value_of serving c.effect p best value) (λ v. is_better p.coefficient v best ≡ false) value → EffectStep d own serving (with_value_of serving c.effect p best value) c.counted
    of-value s (left here) = passed (record {
      same = here.same;
      quiet = quiet-value d p.coefficient own c.counted.op c.counted.range c.counted.factor here.value e q k l.range l.factor s (ap (λ (o : Option Range). best_end p.coefficient (value_range c.counted o)) (sym r) ∙ here.value_is) (ap (λ (o : Option Range). is_better p.coefficient here.value (own_best p.coefficient o)) (sym r) ∙ here.known);
    })
    of-value s (took t) = selected t

    by : (b : Bool) → is_sum c.counted.op ≡ b → EffectStep d own serving (if b then with_change_of serving c.effect p.coefficient change else with_value_of serving c.effect p best value) c.counted
    by true s = of-change s (change-step serving c.effect p.coefficient change)
    by false s = of-value s (value-step serving c.effect p best value)

-- The end of the term one layer later

pub no-total : (d : Bool) (own : Range) (cs : List Counting) → AllByRecursion (IsQuiet d own) cs → fold (λ sum c. plus_bound sum (move_of d c)) (Finite zero_number) (filter is_step cs) ≡ Finite zero_number
no-total d own [] all = refl
no-total d own (c ∷ cs) all = by (is_sum c.op) refl (no-total d own cs all.1)
  where
    by : (b : Bool) → is_sum c.op ≡ b → fold (λ sum x. plus_bound sum (move_of d x)) (Finite zero_number) (filter is_step cs) ≡ Finite zero_number → fold (λ sum x. plus_bound sum (move_of d x)) (Finite zero_number) (filter is_step (c ∷ cs)) ≡ Finite zero_number
    by true e rest = rw e (ap (λ start. fold (λ sum x. plus_bound sum (move_of d x)) start (filter is_step cs)) (ap (plus_bound (Finite zero_number)) (all.0.move e) ∙ moved-zero true (Finite zero_number) zero-kept) ∙ rest)
    by false e rest = rw e rest

no-ends : (d : Bool) (own : Range) (cs : List Counting) → AllByRecursion (IsQuiet d own) cs → AllByRecursion (λ b. further d (end_of d own) b ≡ end_of d own) (flat_map (ends_of d (Some own)) cs)
no-ends d own [] all = tt
no-ends d own (c ∷ cs) all = all_append (λ b. further d (end_of d own) b ≡ end_of d own) (ends_of d (Some own) c) (flat_map (ends_of d (Some own)) cs) all.0.ends (no-ends d own cs all.1)

-- the range after changes that count
abbrev pub next_of : Range → List Counting → Range
next_of own cs = record { low = fold lower (minus_bound own.low (falls cs)) (flat_map (low_ends (Some own)) cs); high = fold higher (plus_bound own.high (rises cs)) (flat_map (high_ends (Some own)) cs) }

pub next-is : (own : Range) (cs : List Counting) → next_range (Some own) cs ≡ Some (next_of own cs)
next-is own cs = refl

pub end-stays : (d : Bool) (own : Range) (cs : List Counting) → IsKeptRange own → AllByRecursion (IsQuiet d own) cs → end_of d (next_of own cs) ≡ end_of d own
end-stays true own cs k all =
    ap (λ start. fold higher start (flat_map (high_ends (Some own)) cs)) (ap (plus_bound own.high) (no-total true own cs all) ∙ moved-zero true own.high k.high)
    ∙ fold-further true own.high (flat_map (high_ends (Some own)) cs) (no-ends true own cs all)
end-stays false own cs k all =
    ap (λ start. fold lower start (flat_map (low_ends (Some own)) cs)) (ap (minus_bound own.low) (no-total false own cs all) ∙ moved-zero false own.low k.low)
    ∙ fold-further false own.low (flat_map (low_ends (Some own)) cs) (no-ends false own cs all)

-- An effect leaves serving as it is, or is selected.
pub unchanged : (layer : Layer) (p : Part) (serving : Serving) (c : CountedEffect) → (by_effect layer p serving c ≡ serving) ⊎ HasTaken (by_effect layer p serving c)
unchanged layer p serving c = by (is_sum c.counted.op)
  where
    of-step : (after : Serving) (Known : Number → Type 0) (b : Bound) → Step serving after Known b → (after ≡ serving) ⊎ HasTaken after
    of-step after Known b (left l) = inl l.same
    of-step after Known b (took t) = inr t

    by : (b : Bool) → ((if b then with_change_of serving c.effect p.coefficient (best_end p.coefficient (change_range c.counted.op c.counted.range)) else with_value_of serving c.effect p (own_best p.coefficient (layer.range p.term)) (best_end p.coefficient (value_range c.counted (layer.range p.term)))) ≡ serving) ⊎ HasTaken (if b then with_change_of serving c.effect p.coefficient (best_end p.coefficient (change_range c.counted.op c.counted.range)) else with_value_of serving c.effect p (own_best p.coefficient (layer.range p.term)) (best_end p.coefficient (value_range c.counted (layer.range p.term))))
    by true = of-step (with_change_of serving c.effect p.coefficient (best_end p.coefficient (change_range c.counted.op c.counted.range))) (λ v. is_below zero_number (product_of p.coefficient v) ≡ false) (best_end p.coefficient (change_range c.counted.op c.counted.range)) (change-step serving c.effect p.coefficient (best_end p.coefficient (change_range c.counted.op c.counted.range)))
    by false = of-step (with_value_of serving c.effect p (own_best p.coefficient (layer.range p.term)) (best_end p.coefficient (value_range c.counted (layer.range p.term)))) (λ v. is_better p.coefficient v (own_best p.coefficient (layer.range p.term)) ≡ false) (best_end p.coefficient (value_range c.counted (layer.range p.term))) (value-step serving c.effect p (own_best p.coefficient (layer.range p.term)) (best_end p.coefficient (value_range c.counted (layer.range p.term))))
