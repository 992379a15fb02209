-- The terms of a packed task are sorted, of functions that change and are no cost alone, and cover all that is read or changed.
use Rattle.std.proofs.Common.{◌≡◌, ℕ, Bool, true, false, not, ◌||◌, cond, List, [], ◌∷◌, ◌++◌, map, Option, Some, None, refl, sym, ap, ◌∙◌}
use Rattle.std.specs.Prelude.{slice_get, Contains}
use Rattle.std.specs.List.{AllByRecursion, filter, flat_map, fold, list_any}
use Rattle.std.specs.Option.{is_some}
use Rattle.std.proofs.lemmas.List.Elements.{filter_passes, recursion_from_All}
use Rattle.mf_model.specs.declared.task.Action.{Action}
use Rattle.mf_model.specs.declared.task.Cell.{Cell}
use Rattle.mf_model.specs.declared.task.Valued.{Valued}
use Rattle.mf_model.specs.declared.task.TypedTask.{TypedTask}
use Rattle.mf_model.specs.declared.state.Instance.{Instance}
use Rattle.mf_model.specs.Functions.{is_constant, is_cost}
use Rattle.mf_model.specs.Objects.{kinds_of}
use Rattle.mf_model.specs.States.{is_cell, start_of, term_before, value_at, with_value}
use Rattle.mf_meaning.proofs.Lookups.{value_at-with_value}
use Rattle.mf_meaning.proofs.NumberOrder.{same_key-number}
use Rattle.mf_meaning.specs.SortedStates.{IsSortedList}
use Rattle.mf_task.specs.Grounding.{condition_cells, effect_cells, is_row_cell, is_same_cell, terms_of, with_action, with_some_action}
use Rattle.mf_bridge.proofs.ListTests.{any_back, any_filtered, any_front, any_joined}
use Rattle.mf_bridge.proofs.ListedCells.{all_cells_in_fold, any_cell_in_fold, fold_cells_sorted}

-- a term with a value after values are put in is one of theirs, or had one before
valued_among : (f : ℕ) (os : List ℕ) (ws vs : List Valued) → is_some (value_at (fold with_value ws vs) f os) ≡ true → (is_some (value_at ws f os) || list_any (is_same_cell f os) (map (λ v. v.cell) vs)) ≡ true
valued_among f os ws [] some = by (is_some (value_at ws f os)) some
  where
    by : (b : Bool) → b ≡ true → (b || false) ≡ true
    by true e = refl
    by false e = e
valued_among f os ws (v ∷ vs) some =
    shifted (is_cell f os v) (value_at ws f os) (ap (λ (x : Option _). is_some x || list_any (is_same_cell f os) (map (λ v. v.cell) vs)) (sym (value_at-with_value ws v f os)) ∙ valued_among f os (with_value ws v) vs some)
  where
    shifted : (here : Bool) (old : Option _) → (is_some (cond here (Some v.value) old) || list_any (is_same_cell f os) (map (λ v. v.cell) vs)) ≡ true → (is_some old || (here || list_any (is_same_cell f os) (map (λ v. v.cell) vs))) ≡ true
    shifted true (Some n) e = refl
    shifted true None e = refl
    shifted false old e = e

module _ (task : TypedTask) (instances : List Instance) where
  abbrev start_cells : List Cell
  start_cells = map (λ v. v.cell) task.values

  abbrev goal_cells : List Cell
  goal_cells = condition_cells (kinds_of task) task.goal []

  abbrev action_part : Action → List ℕ → List Cell
  action_part action b = condition_cells (kinds_of task) action.condition b ++ effect_cells (kinds_of task) action.effect b

  abbrev instance_cells : List Cell
  instance_cells = flat_map (with_action task action_part) instances

  pub terms_are_sorted : IsSortedList term_before (terms_of task instances)
  terms_are_sorted = fold_cells_sorted (filter (is_row_cell task) (start_cells ++ goal_cells ++ instance_cells))

  pub terms_change : AllByRecursion (λ cell. is_row_cell task cell ≡ true) (terms_of task instances)
  terms_change =
      all_cells_in_fold (λ cell. is_row_cell task cell ≡ true) [] (filter (is_row_cell task) (start_cells ++ goal_cells ++ instance_cells)) tt
      (recursion_from_All (λ cell. is_row_cell task cell ≡ true) (filter (is_row_cell task) (start_cells ++ goal_cells ++ instance_cells)) (filter_passes (is_row_cell task) (start_cells ++ goal_cells ++ instance_cells)))

  module _ (f : ℕ) (os : List ℕ) (changing : is_constant task f ≡ false) (costless : is_cost task f ≡ false) where
    listed : list_any (is_same_cell f os) (start_cells ++ goal_cells ++ instance_cells) ≡ true → list_any (is_same_cell f os) (terms_of task instances) ≡ true
    listed one =
        any_cell_in_fold f os (filter (is_row_cell task) (start_cells ++ goal_cells ++ instance_cells))
        ∙ any_filtered (is_same_cell f os) (is_row_cell task) true own (start_cells ++ goal_cells ++ instance_cells) ∙ one
      where
        own : (cell : Cell) → is_same_cell f os cell ≡ true → is_row_cell task cell ≡ true
        own cell same = ap (λ (n : ℕ). not (is_constant task n || is_cost task n)) (sym (same_key-number f os cell.function cell.objects same)) ∙ rw (changing, costless) refl

    pub start_terms_covered : is_some (value_at (start_of task).values f os) ≡ true → list_any (is_same_cell f os) (terms_of task instances) ≡ true
    start_terms_covered some = listed (any_front (is_same_cell f os) (start_cells ++ goal_cells) instance_cells (any_front (is_same_cell f os) start_cells goal_cells (valued_among f os [] task.values some)))

    pub goal_terms_covered : list_any (is_same_cell f os) (condition_cells (kinds_of task) task.goal []) ≡ true → list_any (is_same_cell f os) (terms_of task instances) ≡ true
    goal_terms_covered read = listed (any_front (is_same_cell f os) (start_cells ++ goal_cells) instance_cells (any_back (is_same_cell f os) start_cells goal_cells read))

    pub instance_terms_covered : (instance : Instance) (action : Action) → Contains instances instance → slice_get task.actions instance.action ≡ Some action →
        list_any (is_same_cell f os) (action_part action instance.objects) ≡ true → list_any (is_same_cell f os) (terms_of task instances) ≡ true
    instance_terms_covered instance action in_list found read =
        listed (any_back (is_same_cell f os) (start_cells ++ goal_cells) instance_cells
        (any_joined (is_same_cell f os) (with_action task action_part) instances instance in_list (ap (λ (a : Option Action). list_any (is_same_cell f os) (with_some_action action_part instance.objects a)) found ∙ read)))
