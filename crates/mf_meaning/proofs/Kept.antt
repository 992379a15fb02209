-- No action changes the atoms of static predicates and the values of constant functions.
use Rattle.std.proofs.Common.{◌≡◌, ℕ, Bool, true, false, not, ◌&&◌, ◌||◌, cond, nat_eq, List, [], ◌∷◌, ◌++◌, Option, Some, None, refl, ap, ◌∙◌}
use Rattle.std.specs.List.{AllByRecursion, flat_map, fold, list_all, list_any}
use Rattle.std.proofs.lemmas.Bool.{and_parts, not-true}
use Rattle.mf_fraction.specs.Exact.{Number}
use Rattle.mf_model.specs.declared.task.Atom.{Atom}
use Rattle.mf_model.specs.declared.task.Valued.{Valued}
use Rattle.mf_model.specs.declared.task.TypedTask.{TypedTask}
use Rattle.mf_model.specs.declared.state.Instance.{Instance}
use Rattle.mf_model.specs.declared.state.PlainState.{PlainState}
use Rattle.mf_model.specs.Application.{Change, Added, Deleted, Changed, added, changes_of, deleted, new_value, next_state, with_change, with_some_value}
use Rattle.mf_model.specs.Functions.{is_cost}
use Rattle.mf_model.specs.SearchStates.{search_state, with_costs}
use Rattle.mf_model.specs.States.{is_atom, same_numbers, start_of, value_at, with_atom, without_atom}
use Rattle.mf_meaning.specs.StartValues.{HasStartAtoms, HasStartConstants}
use Rattle.mf_meaning.proofs.ActionsOf.{instance_leaves_function, instance_leaves_predicate}
use Rattle.mf_meaning.proofs.CostValues.{value_at-with_costs}
use Rattle.mf_meaning.proofs.FiredChanges.{leaves_function, leaves_predicate}
use Rattle.mf_meaning.proofs.Lookups.{is_there-with_atom, is_there-without_atom, value_at-with_value}

-- atoms

module _ (p : ℕ) where
  abbrev AreOthers : List Atom → Type 0
  AreOthers = AllByRecursion (λ a. nat_eq p a.predicate ≡ false)

  others-append : (xs ys : List Atom) → AreOthers xs → AreOthers ys → AreOthers (xs ++ ys)
  others-append [] ys one other = other
  others-append (x ∷ xs) ys one other = (one.0, others-append xs ys one.1 other)

  others_added : (change : Change) → leaves_predicate p change ≡ true → AreOthers (added change)
  others_added (Added predicate objects) left = (not-true (nat_eq p predicate) left, tt)
  others_added (Deleted predicate objects) left = tt
  others_added (Changed op function objects value) left = tt

  others_deleted : (change : Change) → leaves_predicate p change ≡ true → AreOthers (deleted change)
  others_deleted (Added predicate objects) left = tt
  others_deleted (Deleted predicate objects) left = (not-true (nat_eq p predicate) left, tt)
  others_deleted (Changed op function objects value) left = tt

  others_in : (f : Change → List Atom) → ((change : Change) → leaves_predicate p change ≡ true → AreOthers (f change)) → (changes : List Change) → list_all (leaves_predicate p) changes ≡ true → AreOthers (flat_map f changes)
  others_in f each [] left = tt
  others_in f each (change ∷ changes) left =
      let both = and_parts (leaves_predicate p change) (list_all (leaves_predicate p) changes) left in
      others-append (f change) (flat_map f changes) (each change both.0) (others_in f each changes both.1)

  deleted_kept : (objects : List ℕ) (bs atoms : List Atom) → AreOthers atoms → list_any (is_atom p objects) (fold without_atom bs atoms) ≡ list_any (is_atom p objects) bs
  deleted_kept objects bs [] others = refl
  deleted_kept objects bs (a ∷ atoms) others =
      deleted_kept objects (without_atom bs a) atoms others.1
      ∙ is_there-without_atom bs a p objects
      ∙ ap (λ (b : Bool). not (b && same_numbers objects a.objects) && list_any (is_atom p objects) bs) others.0

  added_kept : (objects : List ℕ) (bs atoms : List Atom) → AreOthers atoms → list_any (is_atom p objects) (fold with_atom bs atoms) ≡ list_any (is_atom p objects) bs
  added_kept objects bs [] others = refl
  added_kept objects bs (a ∷ atoms) others =
      added_kept objects (with_atom bs a) atoms others.1
      ∙ is_there-with_atom bs a p objects
      ∙ ap (λ (b : Bool). (b && same_numbers objects a.objects) || list_any (is_atom p objects) bs) others.0

pub atoms_kept : (task : TypedTask) (state : PlainState) (instance : Instance) → HasStartAtoms task state → HasStartAtoms task (next_state task state instance)
atoms_kept task state instance atoms predicate objects static =
    let changes = changes_of task state instance in
    let left = instance_leaves_predicate task state instance predicate static in
    added_kept predicate objects (fold without_atom state.atoms (flat_map deleted changes)) (flat_map added changes) (others_in predicate added (others_added predicate) changes left)
    ∙ deleted_kept predicate objects state.atoms (flat_map deleted changes) (others_in predicate deleted (others_deleted predicate) changes left)
    ∙ atoms predicate objects static

-- values

module _ (f : ℕ) (objects : List ℕ) where
  put_kept : (values : List Valued) (g : ℕ) (os : List ℕ) (value : Option Number) → nat_eq f g ≡ false → value_at (with_some_value values g os value) f objects ≡ value_at values f objects
  put_kept values g os None other = refl
  put_kept values g os (Some number) other =
      value_at-with_value values (record { cell = record { function = g; objects = os }; value = number }) f objects
      ∙ ap (λ (b : Bool). cond (b && same_numbers objects os) (Some number) (value_at values f objects)) other

  change_kept : (values : List Valued) (change : Change) → leaves_function f change ≡ true → value_at (with_change values change) f objects ≡ value_at values f objects
  change_kept values (Added predicate os) left = refl
  change_kept values (Deleted predicate os) left = refl
  change_kept values (Changed op g os value) left = put_kept values g os (new_value op (value_at values g os) value) (not-true (nat_eq f g) left)

  changes_kept : (values : List Valued) (changes : List Change) → list_all (leaves_function f) changes ≡ true → value_at (fold with_change values changes) f objects ≡ value_at values f objects
  changes_kept values [] left = refl
  changes_kept values (change ∷ changes) left =
      let both = and_parts (leaves_function f change) (list_all (leaves_function f) changes) left in
      changes_kept (with_change values change) changes both.1 ∙ change_kept values change both.0

pub constants_kept : (task : TypedTask) (state : PlainState) (instance : Instance) → HasStartConstants task state → HasStartConstants task (next_state task state instance)
constants_kept task state instance constants function objects constant =
    changes_kept function objects state.values (changes_of task state instance) (instance_leaves_function task state instance function constant) ∙ constants function objects constant

-- the search sees them as they are at the start too

pub constants_searched : (task : TypedTask) (state : PlainState) → HasStartConstants task state → HasStartConstants task (with_costs task (search_state task state))
constants_searched task state constants function objects constant =
    value_at-with_costs task state function objects ∙ by (is_cost task function)
  where
    by : (b : Bool) → cond b (value_at (start_of task).values function objects) (value_at state.values function objects) ≡ value_at (start_of task).values function objects
    by true = refl
    by false = constants function objects constant

pub costs_searched : (task : TypedTask) (state : PlainState) (function : ℕ) (objects : List ℕ) → is_cost task function ≡ true → value_at (with_costs task (search_state task state)).values function objects ≡ value_at (start_of task).values function objects
costs_searched task state function objects cost =
    value_at-with_costs task state function objects ∙ ap (λ (b : Bool). cond b (value_at (start_of task).values function objects) (value_at state.values function objects)) cost
