-- The layers of a relaxation: each is after the one before it, and its bounds are kept.
use Rattle.std.proofs.Common.{◌≡◌, ◌≢◌, ◌⊎◌, inl, inr, ℕ, zero, suc, ◌+◌, ◌-◌, ◌<◌, ◌≤◌, nat_lt, Bool, true, false, ◌||◌, not, cond, if◌then◌else◌, List, [], ◌∷◌, ◌++◌, Option, Some, None, length, get_or, take, map, refl, sym, ap, ap₂, subst, ◌∙◌, arith, true≢false}
use Rattle.std.specs.List.{AllByRecursion, find, list_any, position, position_or_len}
use Rattle.std.proofs.lemmas.Bool.{ltb-true}
use Rattle.std.proofs.lemmas.List.Sums.{prefix_len_passes, prefix_len_stops}
use Rattle.mf_fraction.specs.Exact.{Number}
use Rattle.mf_task.specs.declared.task.Task.{Task}
use Rattle.mf_task.specs.GroundMeaning.{adds_atom, deletes_atom, form_at}
use Rattle.mf_task.specs.Layers.{Bound, Finite, Counting, FiringEffect, Layer, Range, Want, atom_is_met, counting, firing_at, first_layer, form_is_met, layer_at, layers_to, next_layer_by, next_range, point}
use Rattle.mf_task.specs.RelaxedPlan.{CountedEffect, Relaxation, at_layer, counted_effects, fired_at, form_need, serves_atom}
use Rattle.mf_task.specs.Rows.{Sight}
use Rattle.mf_task.specs.NumberedTasks.{HasProperForms}
use Rattle.mf_values.specs.Fitting.{HasFittingConstants, IsStoredSight}
use Rattle.mf_values.proofs.Kept.{IsKeptLayer, IsKeptRange}
use Rattle.mf_values.proofs.Layering.{IsKeptOption, last-layer, length-layers, more, more-is, next-range-kept, same-front, same-layer}
use Rattle.mf_values.proofs.Needs.{AreLayers, HasServer, Serves, form-need-serves}
use Rattle.mf_values.proofs.Quiet.{IsKeptCounting}
use Rattle.mf_values.proofs.Required.{HasServedLeaves}
use Rattle.mf_values.proofs.Serving.{IsAfter, all-kept, countings}

-- First places

-- the test passes at the place, and at no place before it
pub record IsFirstPlace {X : Type 0} (p : X → Bool) (xs : List X) (d : X) (i : ℕ) : Type 0 where
  pub within : i < length xs
  pub passes : p (get_or xs i d) ≡ true
  pub earlier : (j : ℕ) → j < i → p (get_or xs j d) ≡ false

not-yet : (b : Bool) → not b ≡ true → b ≡ false
not-yet false e = refl
not-yet true e = cc

at-last : (b : Bool) → not b ≡ false → b ≡ true
at-last true e = refl
at-last false e = cc

pub first-place : {X : Type 0} (p : X → Bool) (xs : List X) (d : X) (i : ℕ) → position p xs ≡ Some i → IsFirstPlace p xs d i
first-place {X} p xs d i e = by (nat_lt (position_or_len p xs) (length xs)) refl e
  where
    at-place : position_or_len p xs < length xs → position_or_len p xs ≡ i → IsFirstPlace p xs d i
    at-place h is = subst (IsFirstPlace p xs d) is (record {
      within = h;
      passes = at-last (p (get_or xs (position_or_len p xs) d)) (prefix_len_stops (λ x. not (p x)) xs d h);
      earlier = λ j lower. not-yet (p (get_or xs j d)) (prefix_len_passes (λ x. not (p x)) xs j d lower);
    })

    by : (b : Bool) → nat_lt (position_or_len p xs) (length xs) ≡ b → cond b (Some (position_or_len p xs)) None ≡ Some i → IsFirstPlace p xs d i
    by true h f = at-place (ltb-true (position_or_len p xs) (length xs) h) cc
    by false h f = absurd cc

find-some : {X : Type 0} (p : X → Bool) (xs : List X) → list_any p xs ≡ true → (x : X) × (find p xs ≡ Some x)
find-some p [] e = absurd (true≢false (sym e))
find-some {X} p (x ∷ xs) e = by (p x) refl e (find-some p xs)
  where
    by : (b : Bool) → p x ≡ b → (b || list_any p xs) ≡ true → (list_any p xs ≡ true → (y : X) × (find p xs ≡ Some y)) → (y : X) × ((if b then Some x else find p xs) ≡ Some y)
    by true h f rest = (x, refl)
    by false h f rest = rest f

-- Layers

-- the relaxation with the layers 0 to n
abbrev pub relaxation_to : Task → Sight → ℕ → Relaxation
relaxation_to task sight n = record { task = task; sight = sight; layers = layers_to task sight n }

module _ (task : Task) (sight : Sight) (n : ℕ) where
  abbrev r : Relaxation
  r = relaxation_to task sight n

  longer : (k : ℕ) → k ≤ n → n ≡ more (n - k) k
  longer k h = (let e = more-is (n - k) k in omega arith)

  at-layer-is : (k : ℕ) → k ≤ n → at_layer r k ≡ layer_at sight (layers_to task sight k) k
  at-layer-is k h = ap (λ m. layer_at sight (layers_to task sight m) k) (longer k h) ∙ same-layer task sight (n - k) k k (omega arith)

  fired-at-is : (k : ℕ) → k ≤ n → fired_at r k ≡ firing_at task (layers_to task sight k)
  fired-at-is k h = ap (λ m. firing_at task (take (k + 1) (layers_to task sight m))) (longer k h) ∙ ap (firing_at task) (same-front task sight (n - k) k)

  pub next-at : (k : ℕ) → suc k ≤ n → at_layer r (suc k) ≡ next_layer_by task (at_layer r k) (fired_at r k)
  next-at k h =
      at-layer-is (suc k) h ∙ last-layer task sight k ∙ ap₂ (next_layer_by task) (sym (at-layer-is k (omega arith))) (sym (fired-at-is k (omega arith)))

  pub after-at : (k : ℕ) → suc k ≤ n → IsAfter task (at_layer r k) (at_layer r (suc k)) (fired_at r k)
  after-at k h = record { ranges = λ term. ap (λ (l : Layer). l.range term) (next-at k h) }

  module _ (proper : HasProperForms task) (fitting : HasFittingConstants task) (stored : IsStoredSight sight) where
    point-kept : (o : Option Number) (term : ℕ) (range : Range) → sight.value term ≡ o → point o ≡ Some range → IsKeptRange range
    point-kept None term range is e = cc
    point-kept (Some a) term range is e =
        let s = stored.values term a is in
        let same : record { low = Finite a; high = Finite a } ≡ range = cc in
        subst IsKeptRange same (record { low = s; high = s })

    first-kept : IsKeptLayer (first_layer sight)
    first-kept = record { ranges = λ term range e. point-kept (sight.value term) term range refl e }

    counting-all : (layer : Layer) (term : ℕ) (firing : List FiringEffect) → IsKeptLayer layer → AllByRecursion IsKeptCounting (counting task layer term firing)
    counting-all layer term firing kept = subst (AllByRecursion IsKeptCounting) (countings r layer term firing) (mapped (counted_effects r layer term firing) (all-kept r layer term firing proper fitting kept))
      where
        mapped : (cs : List CountedEffect) → AllByRecursion (λ (c : CountedEffect). IsKeptCounting c.counted) cs → AllByRecursion IsKeptCounting (map (λ (c : CountedEffect). c.counted) cs)
        mapped [] all = tt
        mapped (c ∷ cs) all = (all.0, mapped cs all.1)

    later-kept : (before here : Layer) (firing : List FiringEffect) → IsKeptLayer before → IsAfter task before here firing → IsKeptLayer here
    later-kept before here firing kept after = record {
      ranges = λ term range e. next-range-kept (before.range term) (counting task before term firing) range (record { kept = λ own f. kept.ranges term own f }) (counting-all before term firing kept) (sym (after.ranges term) ∙ e);
    }

    pub kept-at : (k : ℕ) → k ≤ n → IsKeptLayer (at_layer r k)
    kept-at zero h = subst IsKeptLayer (sym (at-layer-is 0 h)) first-kept
    kept-at (suc k) h = later-kept (at_layer r k) (at_layer r (suc k)) (fired_at r k) (kept-at k (omega arith)) (after-at k h)

    pub layers-at : (k : ℕ) → suc k ≤ n → AreLayers r (at_layer r k) (at_layer r (suc k)) (fired_at r k)
    layers-at k h = record { proper = proper; fitting = fitting; kept = kept-at k (omega arith); kept_here = kept-at (suc k) h; after = after-at k h }

    -- Leaves

    below-last : (i : ℕ) → i < length (layers_to task sight n) → i ≤ n
    below-last i h = (let e = length-layers task sight n in omega arith)

    or-new : (b c : Bool) → b ≡ false → (b || c) ≡ true → c ≡ true
    or-new true c e f = cc
    or-new false c e f = f

    atom-server : (asked : Bool) (atom k : ℕ) → IsFirstPlace (atom_is_met atom asked) r.layers (first_layer sight) (suc k) → HasServer asked atom (fired_at r k)
    atom-server true atom k place =
        let met = ap (λ (l : Layer). l.possible atom) (sym (next-at k (below-last (suc k) place.within))) ∙ place.passes in
        let some = find-some (λ (effect : FiringEffect). adds_atom atom effect.change) (fired_at r k) (or-new ((at_layer r k).possible atom) (list_any (λ (effect : FiringEffect). adds_atom atom effect.change) (fired_at r k)) (place.earlier k (omega arith)) met) in
        record { server = some.0; found = some.1 }
    atom-server false atom k place =
        let met = ap (λ (l : Layer). l.possibly_false atom) (sym (next-at k (below-last (suc k) place.within))) ∙ place.passes in
        let some = find-some (λ (effect : FiringEffect). deletes_atom atom effect.change) (fired_at r k) (or-new ((at_layer r k).possibly_false atom) (list_any (λ (effect : FiringEffect). deletes_atom atom effect.change) (fired_at r k)) (place.earlier k (omega arith)) met) in
        record { server = some.0; found = some.1 }

    form-served : (want : Want) (number k : ℕ) → IsFirstPlace (λ layer. form_is_met layer want (form_at task number)) r.layers (first_layer sight) (suc k) → Serves r (at_layer r k) (at_layer r (suc k)) (fired_at r k) (form_need (at_layer r (suc k)) (at_layer r k) want (form_at task number))
    form-served want number k place =
        form-need-serves r (at_layer r k) (at_layer r (suc k)) (fired_at r k) want (form_at task number) (layers-at k (below-last (suc k) place.within)) (proper.forms number) (fitting.constants number) (place.earlier k (omega arith)) place.passes

    pub served-leaves : (k : ℕ) → HasServedLeaves r k
    served-leaves k = record {
      atoms = λ asked atom e. atom-server asked atom k (first-place (atom_is_met atom asked) r.layers (first_layer sight) (suc k) e);
      forms = λ want number e. form-served want number k (first-place (λ layer. form_is_met layer want (form_at task number)) r.layers (first_layer sight) (suc k) e);
    }
