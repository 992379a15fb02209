-- The effects of an action, one by one: what the first of them does, and then the others.
use Rattle.std.proofs.Common.{◌≡◌, ℕ, Bool, true, false, not, ◌&&◌, ◌||◌, cond, List, [], ◌∷◌, ◌++◌, Option, refl, sym, ap, ◌∙◌}
use Rattle.std.proofs.Math.Path.{fun_ext}
use Rattle.std.specs.List.{list_any}
use Rattle.mf_fraction.specs.Exact.{Number}
use Rattle.mf_task.specs.declared.ground.GroundChange.{GroundChange}
use Rattle.mf_task.specs.declared.ground.GroundEffect.{GroundEffect}
use Rattle.mf_task.specs.declared.task.Task.{Task}
use Rattle.mf_task.specs.GroundMeaning.{adds_atom, deletes_atom, ground_firing, ground_holds, value_after}
use Rattle.mf_task.specs.Rows.{Sight}
use Rattle.mf_task.specs.Width.{all_fit, fits_after, has_wide_right_side}
use Rattle.mf_state.specs.Changing.{changed_value, is_change_wide}

-- tests

without_both : (bit x y : Bool) → (bit && not (x || y)) ≡ ((bit && not x) && not y)
without_both true true y = refl
without_both true false y = refl
without_both false x y = refl

with_either : (bit x y : Bool) → ((x || y) || bit) ≡ (y || (x || bit))
with_either bit true true = refl
with_either bit true false = refl
with_either bit false y = refl

wide_either : (w others f fit : Bool) → ((w || others) || not (f && fit)) ≡ (((w || false) || not (f && true)) || (others || not fit))
wide_either true others f fit = refl
wide_either false others true fit = refl
wide_either false true false fit = refl
wide_either false false false true = refl
wide_either false false false false = refl

any_of_two : (p : GroundChange → Bool) (c : GroundChange) (fires : Bool) (cs : List GroundChange) → list_any p (cond fires (c ∷ []) [] ++ cs) ≡ (list_any p (cond fires (c ∷ []) []) || list_any p cs)
any_of_two p c true cs = by (p c)
  where
    by : (b : Bool) → (b || list_any p cs) ≡ ((b || false) || list_any p cs)
    by true = refl
    by false = refl
any_of_two p c false cs = refl

module _ (task : Task) (sight : Sight) where
  -- the changes of the first effect, if it fires
  abbrev first : GroundEffect → List GroundChange
  first effect = ground_firing task sight (effect ∷ [])

  module _ (effect : GroundEffect) (effects : List GroundEffect) where
    firing_where : (fires : Bool) → ground_holds task sight effect.condition ≡ fires → first effect ≡ cond fires (effect.change ∷ []) []
    firing_where true e = rw e refl
    firing_where false e = rw e refl

    firing_front : (fires : Bool) → ground_holds task sight effect.condition ≡ fires → ground_firing task sight (effect ∷ effects) ≡ cond fires (effect.change ∷ []) [] ++ ground_firing task sight effects
    firing_front true e = rw e refl
    firing_front false e = rw e refl

    any_first : (p : GroundChange → Bool) → list_any p (ground_firing task sight (effect ∷ effects)) ≡ (list_any p (first effect) || list_any p (ground_firing task sight effects))
    any_first p = by (ground_holds task sight effect.condition) refl
      where
        by : (fires : Bool) → ground_holds task sight effect.condition ≡ fires → list_any p (ground_firing task sight (effect ∷ effects)) ≡ (list_any p (first effect) || list_any p (ground_firing task sight effects))
        by fires e =
            ap (list_any p) (firing_front fires e)
            ∙ any_of_two p effect.change fires (ground_firing task sight effects)
            ∙ sym (ap (λ (cs : List GroundChange). list_any p cs || list_any p (ground_firing task sight effects)) (firing_where fires e))

    pub deleted_first : (bit : Bool) (atom : ℕ) →
        (bit && not (list_any (deletes_atom atom) (ground_firing task sight (effect ∷ effects)))) ≡ ((bit && not (list_any (deletes_atom atom) (first effect))) && not (list_any (deletes_atom atom) (ground_firing task sight effects)))
    deleted_first bit atom =
        ap (λ (b : Bool). bit && not b) (any_first (deletes_atom atom))
        ∙ without_both bit (list_any (deletes_atom atom) (first effect)) (list_any (deletes_atom atom) (ground_firing task sight effects))

    pub added_first : (bit : Bool) (atom : ℕ) →
        (list_any (adds_atom atom) (ground_firing task sight (effect ∷ effects)) || bit) ≡ (list_any (adds_atom atom) (ground_firing task sight effects) || (list_any (adds_atom atom) (first effect) || bit))
    added_first bit atom =
        ap (λ (b : Bool). b || bit) (any_first (adds_atom atom))
        ∙ with_either bit (list_any (adds_atom atom) (first effect)) (list_any (adds_atom atom) (ground_firing task sight effects))

    wide_where : (fires : Bool) (current : ℕ → Option Number) (cs : List GroundChange) →
        is_change_wide task sight current (cond fires (effect.change ∷ []) [] ++ cs) ≡ (is_change_wide task sight current (cond fires (effect.change ∷ []) []) || is_change_wide task sight (λ term. changed_value task sight (cond fires (effect.change ∷ []) []) term (current term)) cs)
    wide_where true current cs =
        wide_either (has_wide_right_side task sight effect.change) (list_any (has_wide_right_side task sight) cs) (fits_after task sight current effect.change) (all_fit task sight (λ term. value_after task sight term (current term) effect.change) cs)
    wide_where false current cs = refl

    pub wide_first : (current : ℕ → Option Number) →
        is_change_wide task sight current (ground_firing task sight (effect ∷ effects)) ≡ (is_change_wide task sight current (first effect) || is_change_wide task sight (λ term. changed_value task sight (first effect) term (current term)) (ground_firing task sight effects))
    wide_first current = by (ground_holds task sight effect.condition) refl
      where
        by : (fires : Bool) → ground_holds task sight effect.condition ≡ fires →
            is_change_wide task sight current (ground_firing task sight (effect ∷ effects)) ≡ (is_change_wide task sight current (first effect) || is_change_wide task sight (λ term. changed_value task sight (first effect) term (current term)) (ground_firing task sight effects))
        by fires e =
            ap (is_change_wide task sight current) (firing_front fires e)
            ∙ wide_where fires current (ground_firing task sight effects)
            ∙ sym (ap (λ (cs : List GroundChange). is_change_wide task sight current cs || is_change_wide task sight (λ term. changed_value task sight cs term (current term)) (ground_firing task sight effects)) (firing_where fires e))

    value_where : (fires : Bool) (cs : List GroundChange) (term : ℕ) (old : Option Number) →
        changed_value task sight (cond fires (effect.change ∷ []) [] ++ cs) term old ≡ changed_value task sight cs term (changed_value task sight (cond fires (effect.change ∷ []) []) term old)
    value_where true cs term old = refl
    value_where false cs term old = refl

    pub value_first : (term : ℕ) (old : Option Number) →
        changed_value task sight (ground_firing task sight (effect ∷ effects)) term old ≡ changed_value task sight (ground_firing task sight effects) term (changed_value task sight (first effect) term old)
    value_first term old = by (ground_holds task sight effect.condition) refl
      where
        by : (fires : Bool) → ground_holds task sight effect.condition ≡ fires →
            changed_value task sight (ground_firing task sight (effect ∷ effects)) term old ≡ changed_value task sight (ground_firing task sight effects) term (changed_value task sight (first effect) term old)
        by fires e =
            ap (λ (cs : List GroundChange). changed_value task sight cs term old) (firing_front fires e)
            ∙ value_where fires (ground_firing task sight effects) term old
            ∙ sym (ap (λ (cs : List GroundChange). changed_value task sight (ground_firing task sight effects) term (changed_value task sight cs term old)) (firing_where fires e))

    -- the first effect is not wide, and these are the values that it leaves
    module _ (current new : ℕ → Option Number) (narrow : false ≡ is_change_wide task sight current (first effect)) (are : (term : ℕ) → new term ≡ changed_value task sight (first effect) term (current term)) where
      pub wide_next : is_change_wide task sight new (ground_firing task sight effects) ≡ is_change_wide task sight current (ground_firing task sight (effect ∷ effects))
      wide_next =
          ap (λ (values : ℕ → Option Number). is_change_wide task sight values (ground_firing task sight effects)) (fun_ext are)
          ∙ ap (λ (b : Bool). b || is_change_wide task sight (λ term. changed_value task sight (first effect) term (current term)) (ground_firing task sight effects)) narrow
          ∙ sym (wide_first current)

      pub value_next : (term : ℕ) → changed_value task sight (ground_firing task sight effects) term (new term) ≡ changed_value task sight (ground_firing task sight (effect ∷ effects)) term (current term)
      value_next term = ap (λ (old : Option Number). changed_value task sight (ground_firing task sight effects) term old) (are term) ∙ sym (value_first term (current term))
