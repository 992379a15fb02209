-- What a task's test of all its actions says of the action of an instance, and of the changes of an instance.
use Rattle.std.proofs.Common.{◌≡◌, ℕ, zero, suc, Bool, true, false, ◌&&◌, List, [], ◌∷◌, Option, Some, None, slice_get, refl, sym, ap, ◌∙◌}
use Rattle.std.specs.List.{list_all, list_any}
use Rattle.std.proofs.lemmas.Bool.{and_parts, not-true, or_parts}
use Rattle.mf_model.specs.declared.task.Action.{Action}
use Rattle.mf_model.specs.declared.task.TypedTask.{TypedTask}
use Rattle.mf_model.specs.declared.state.Instance.{Instance}
use Rattle.mf_model.specs.declared.state.PlainState.{PlainState}
use Rattle.mf_model.specs.Application.{Change, action_changes, changes_of}
use Rattle.mf_model.specs.Expressions.{every_side, every_change}
use Rattle.mf_model.specs.Functions.{avoids, changes, is_constant, is_cost, is_fitting, is_never_read, is_only_summed, is_started, is_static, touches}
use Rattle.mf_model.specs.Objects.{kinds_of}
use Rattle.mf_model.specs.States.{look_of}
use Rattle.mf_meaning.proofs.FiredChanges.{is_summed_in, leaves_function, leaves_predicate, summed_changes, sums, unchanged_changes, untouched_changes}

pub all_at : {X : Type 0} (test : X → Bool) (xs : List X) (n : ℕ) (x : X) → list_all test xs ≡ true → slice_get xs n ≡ Some x → test x ≡ true
all_at test [] n x all found = cc
all_at test (y ∷ ys) zero x all found =
    let same : y ≡ x = cc in
    ap test (sym same) ∙ (and_parts (test y) (list_all test ys) all).0
all_at test (y ∷ ys) (suc n) x all found = all_at test ys n x (and_parts (test y) (list_all test ys) all).1 found

pub none_at : {X : Type 0} (test : X → Bool) (xs : List X) (n : ℕ) (x : X) → list_any test xs ≡ false → slice_get xs n ≡ Some x → test x ≡ false
none_at test [] n x none found = cc
none_at test (y ∷ ys) zero x none found =
    let same : y ≡ x = cc in
    ap test (sym same) ∙ (or_parts (test y) (list_any test ys) none).0
none_at test (y ∷ ys) (suc n) x none found = none_at test ys n x (or_parts (test y) (list_any test ys) none).1 found

-- cost functions

read_and_summed : (task : TypedTask) (f : ℕ) → is_cost task f ≡ true → (is_never_read task f ≡ true) × (is_only_summed task f ≡ true)
read_and_summed task f cost =
    let unstarted = (and_parts ((is_never_read task f && is_only_summed task f) && is_fitting task f) (is_started task f) cost).0 in
    and_parts (is_never_read task f) (is_only_summed task f) (and_parts (is_never_read task f && is_only_summed task f) (is_fitting task f) unstarted).0

never_read : (task : TypedTask) (f : ℕ) → is_cost task f ≡ true → is_never_read task f ≡ true
never_read task f cost = (read_and_summed task f cost).0

only_summed : (task : TypedTask) (f : ℕ) → is_cost task f ≡ true → is_only_summed task f ≡ true
only_summed task f cost = (read_and_summed task f cost).1

-- the changes of an instance pass a test where those of each action do

module _ (task : TypedTask) (state : PlainState) (passes : Change → Bool) (Good : Action → Type 0) (good : (action : Action) → Good action → (b : List ℕ) → list_all passes (action_changes task state b (Some action)) ≡ true) where
  found_passes : (objects : List ℕ) (found : Option Action) → ((action : Action) → found ≡ Some action → Good action) → list_all passes (action_changes task state objects found) ≡ true
  found_passes objects (Some action) is = good action (is action refl) objects
  found_passes objects None is = refl

  pub instance_passes : (instance : Instance) → ((action : Action) → slice_get task.actions instance.action ≡ Some action → Good action) → list_all passes (changes_of task state instance) ≡ true
  instance_passes instance is = found_passes instance.objects (slice_get task.actions instance.action) is

pub instance_sums : (task : TypedTask) (state : PlainState) (instance : Instance) (f : ℕ) → is_cost task f ≡ true → list_all (sums f) (changes_of task state instance) ≡ true
instance_sums task state instance f cost =
    instance_passes task state (sums f) (λ action. is_summed_in f action.effect ≡ true) (λ action summed b. summed_changes (kinds_of task) (look_of state) f action.effect summed b) instance
    (λ action found. all_at (λ action. is_summed_in f action.effect) task.actions instance.action action (only_summed task f cost) found)

pub instance_leaves_predicate : (task : TypedTask) (state : PlainState) (instance : Instance) (p : ℕ) → is_static task p ≡ true → list_all (leaves_predicate p) (changes_of task state instance) ≡ true
instance_leaves_predicate task state instance p static =
    instance_passes task state (leaves_predicate p) (λ action. touches p action.effect ≡ false) (λ action untouched b. untouched_changes (kinds_of task) (look_of state) p action.effect untouched b) instance
    (λ action found. none_at (λ action. touches p action.effect) task.actions instance.action action (not-true (list_any (λ action. touches p action.effect) task.actions) static) found)

pub instance_leaves_function : (task : TypedTask) (state : PlainState) (instance : Instance) (f : ℕ) → is_constant task f ≡ true → list_all (leaves_function f) (changes_of task state instance) ≡ true
instance_leaves_function task state instance f constant =
    instance_passes task state (leaves_function f) (λ action. changes f action.effect ≡ false) (λ action unchanged b. unchanged_changes (kinds_of task) (look_of state) f action.effect unchanged b) instance
    (λ action found. none_at (λ action. changes f action.effect) task.actions instance.action action (not-true (list_any (λ action. changes f action.effect) task.actions) constant) found)

-- states that agree beside cost functions

pub record IsFreeOfCost (task : TypedTask) (action : Action) : Type 0 where
  pub condition : (f : ℕ) → is_cost task f ≡ true → every_side (avoids f) action.condition ≡ true
  pub effect : (f : ℕ) → is_cost task f ≡ true → every_change (λ op changed value. avoids f value) (every_side (avoids f)) action.effect ≡ true

pub action_is_free : (task : TypedTask) (n : ℕ) (action : Action) → slice_get task.actions n ≡ Some action → IsFreeOfCost task action
action_is_free task n action found = record {
  condition = λ f cost. (and_parts (every_side (avoids f) action.condition) (avoided f action) (both f cost)).0;
  effect = λ f cost. (and_parts (every_side (avoids f) action.condition) (avoided f action) (both f cost)).1;
}
  where
    avoided : ℕ → Action → Bool
    avoided f action = every_change (λ op changed value. avoids f value) (every_side (avoids f)) action.effect

    both : (f : ℕ) → is_cost task f ≡ true → (every_side (avoids f) action.condition && every_change (λ op changed value. avoids f value) (every_side (avoids f)) action.effect) ≡ true
    both f cost = all_at (λ action. every_side (avoids f) action.condition && every_change (λ op changed value. avoids f value) (every_side (avoids f)) action.effect) task.actions n action (and_parts _ (every_side (avoids f) task.goal) (never_read task f cost)).0 found

pub goal_is_free : (task : TypedTask) (f : ℕ) → is_cost task f ≡ true → every_side (avoids f) task.goal ≡ true
goal_is_free task f cost = (and_parts (list_all (λ action. every_side (avoids f) action.condition && every_change (λ op changed value. avoids f value) (every_side (avoids f)) action.effect) task.actions) (every_side (avoids f) task.goal) (never_read task f cost)).1
