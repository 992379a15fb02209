-- A row that shows what the next row is to show stands for the next search state.
use Rattle.std.proofs.Common.{◌≡◌, ℕ, Bool, true, false, not, ◌&&◌, ◌||◌, cond, List, Option, None, refl, sym, ap, ◌∙◌}
use Rattle.std.specs.Prelude.{get_or, slice_get}
use Rattle.std.specs.List.{flat_map, fold, list_all, list_any, position_or_len}
use Rattle.std.proofs.lemmas.Bool.{and_parts}
use Rattle.mf_fraction.specs.Exact.{Number}
use Rattle.mf_store.specs.Rows.{RowLists, bit_in}
use Rattle.mf_model.specs.declared.task.TypedTask.{TypedTask}
use Rattle.mf_model.specs.declared.state.Instance.{Instance}
use Rattle.mf_model.specs.declared.state.PlainState.{PlainState}
use Rattle.mf_model.specs.Application.{Change, added, changes_of, deleted, is_applicable, is_apart, is_defined, next_state, precondition_holds}
use Rattle.mf_model.specs.Functions.{is_constant, is_cost, is_static}
use Rattle.mf_model.specs.SearchStates.{with_costs}
use Rattle.mf_model.specs.States.{is_atom, look_of, start_of, value_at, without_atom}
use Rattle.mf_meaning.specs.ReachedStates.{IsSearchState}
use Rattle.mf_meaning.specs.SearchPlans.{next_search_state}
use Rattle.mf_meaning.proofs.CostValues.{is_no_cost, value_at-with_costs}
use Rattle.mf_meaning.proofs.Lookups.{value_at-filter}
use Rattle.mf_meaning.proofs.ReachedStates.{step_is_reached}
use Rattle.mf_meaning.proofs.SameStates.{same_states}
use Rattle.mf_task.specs.declared.ground.GroundChange.{GroundChange}
use Rattle.mf_task.specs.declared.task.Task.{Task}
use Rattle.mf_task.specs.GroundMeaning.{adds_atom, deletes_atom, next_sight, value_after}
use Rattle.mf_task.specs.Grounding.{is_same_cell}
use Rattle.mf_task.specs.Rows.{sight_of}
use Rattle.mf_task.specs.RowStates.{state_of}
use Rattle.mf_bridge.specs.Corresponds.{AreSameChanges, HasSight}
use Rattle.mf_bridge.proofs.ListTests.{place_within}
use Rattle.mf_bridge.proofs.ListedCells.{any_in_fold}
use Rattle.mf_bridge.proofs.NumberedChanges.{adds_alike, any_taken_out, deletes_alike, values_alike}
use Rattle.mf_bridge.proofs.StateLookups.{IsListed, constant_in_state, cost_in_state, listed_in_state, listed_value_in_state, row_state_is_search_state, row_state_is_sorted, static_in_state, value_with_costs}

abbrev state_before : TypedTask → Task → RowLists → PlainState
state_before task packed row = with_costs task (state_of task packed row)

module _ (task : TypedTask) (packed : Task) (listed : IsListed task packed) (row next : RowLists) (instance : Instance) (gs : List GroundChange) (shows : HasSight packed (next_sight packed (sight_of row) gs) next) (same : AreSameChanges task packed (sight_of row) gs (changes_of task (state_before task packed row) instance)) (applicable : is_applicable task (state_before task packed row) instance ≡ true) where
  abbrev made : List Change
  made = changes_of task (state_before task packed row) instance

  abbrev state_after : PlainState
  state_after = next_state task (state_before task packed row) instance

  defined : list_all (is_defined (look_of (state_before task packed row))) made ≡ true
  defined =
      (and_parts (precondition_holds task (state_before task packed row) instance.objects (slice_get task.actions instance.action)) (list_all (is_defined (look_of (state_before task packed row))) made)
      (and_parts (precondition_holds task (state_before task packed row) instance.objects (slice_get task.actions instance.action) && list_all (is_defined (look_of (state_before task packed row))) made) (list_all (is_apart made) made) applicable).0).1

  reached : IsSearchState task (next_search_state task (state_of task packed row) instance)
  reached = step_is_reached task (state_of task packed row) instance (row_state_is_search_state task packed listed row)

  -- atoms

  fluent_after : (p : ℕ) (os : List ℕ) → is_static task p ≡ false → list_any (is_atom p os) (state_of task packed next).atoms ≡ list_any (is_atom p os) state_after.atoms
  fluent_after p os fluent =
      listed_in_state task packed listed next p os fluent
      ∙ by (list_any (is_atom p os) packed.atoms) refl
      ∙ sym (any_in_fold p os (fold without_atom (state_of task packed row).atoms (flat_map deleted made)) (flat_map added made)
      ∙ ap (λ (b : Bool). b || list_any (is_atom p os) (flat_map added made)) (any_taken_out p os (state_of task packed row).atoms (flat_map deleted made))
      ∙ ap (λ (b : Bool). (not (list_any (is_atom p os) (flat_map deleted made)) && b) || list_any (is_atom p os) (flat_map added made)) (listed_in_state task packed listed row p os fluent)
      ∙ ap (λ (b : Bool). (not b && (list_any (is_atom p os) packed.atoms && bit_in row.bits (position_or_len (is_atom p os) packed.atoms))) || list_any (is_atom p os) (flat_map added made)) (deletes_alike task packed (sight_of row) p os gs made same)
      ∙ ap (λ (b : Bool). (not (list_any (is_atom p os) packed.atoms && list_any (deletes_atom (position_or_len (is_atom p os) packed.atoms)) gs) && (list_any (is_atom p os) packed.atoms && bit_in row.bits (position_or_len (is_atom p os) packed.atoms))) || b) (adds_alike task packed (sight_of row) p os gs made same))
    where
      turned : (a x d : Bool) → (a || (x && not d)) ≡ ((not d && x) || a)
      turned true true true = refl
      turned true true false = refl
      turned true false true = refl
      turned true false false = refl
      turned false true true = refl
      turned false true false = refl
      turned false false true = refl
      turned false false false = refl

      by : (b : Bool) → list_any (is_atom p os) packed.atoms ≡ b →
          (b && bit_in next.bits (position_or_len (is_atom p os) packed.atoms)) ≡ ((not (b && list_any (deletes_atom (position_or_len (is_atom p os) packed.atoms)) gs) && (b && bit_in row.bits (position_or_len (is_atom p os) packed.atoms))) || (b && list_any (adds_atom (position_or_len (is_atom p os) packed.atoms)) gs))
      by true e =
          shows.bits (position_or_len (is_atom p os) packed.atoms) (place_within (is_atom p os) packed.atoms e)
          ∙ turned (list_any (adds_atom (position_or_len (is_atom p os) packed.atoms)) gs) (bit_in row.bits (position_or_len (is_atom p os) packed.atoms)) (list_any (deletes_atom (position_or_len (is_atom p os) packed.atoms)) gs)
      by false e = refl

  atoms_after : (p : ℕ) (os : List ℕ) (static : Bool) → is_static task p ≡ static → list_any (is_atom p os) (state_of task packed next).atoms ≡ list_any (is_atom p os) state_after.atoms
  atoms_after p os true static = static_in_state task packed listed next p os static ∙ sym (reached.atoms p os static)
  atoms_after p os false fluent = fluent_after p os fluent

  -- values

  own_after : (f : ℕ) (os : List ℕ) → is_cost task f ≡ false → value_at (next_search_state task (state_of task packed row) instance).values f os ≡ value_at state_after.values f os
  own_after f os costless = value_at-filter (is_no_cost task) state_after.values f os ∙ ap (λ (b : Bool). cond (not b) (value_at state_after.values f os) None) costless

  cost_after : (f : ℕ) (os : List ℕ) → is_cost task f ≡ true → value_at (next_search_state task (state_of task packed row) instance).values f os ≡ None
  cost_after f os cost = value_at-filter (is_no_cost task) state_after.values f os ∙ ap (λ (b : Bool). cond (not b) (value_at state_after.values f os) None) cost

  constant_after : (f : ℕ) (os : List ℕ) → is_constant task f ≡ true → is_cost task f ≡ false → value_at state_after.values f os ≡ value_at (start_of task).values f os
  constant_after f os constant costless =
      sym (value_at-with_costs task state_after f os ∙ ap (λ (b : Bool). cond b (value_at (start_of task).values f os) (value_at state_after.values f os)) costless)
      ∙ reached.constants f os constant

  value_before : (f : ℕ) (os : List ℕ) → is_constant task f ≡ false → is_cost task f ≡ false →
      value_at (state_before task packed row).values f os ≡ cond (list_any (is_same_cell f os) packed.terms) (get_or row.values (position_or_len (is_same_cell f os) packed.terms) None) None
  value_before f os changing costless =
      value_with_costs task packed listed row f os
      ∙ ap (λ (b : Bool). cond b (value_at (start_of task).values f os) (value_at (state_of task packed row).values f os)) costless
      ∙ listed_value_in_state task packed listed row f os changing

  changing_after : (f : ℕ) (os : List ℕ) → is_constant task f ≡ false → is_cost task f ≡ false → value_at (state_of task packed next).values f os ≡ value_at state_after.values f os
  changing_after f os changing costless =
      listed_value_in_state task packed listed next f os changing
      ∙ by (list_any (is_same_cell f os) packed.terms) refl
      ∙ sym (values_alike task packed (sight_of row) (look_of (state_before task packed row)) f os costless gs made same (state_before task packed row).values defined (λ g qs some. some)
      ∙ ap (λ (x : Option Number). cond (list_any (is_same_cell f os) packed.terms) (fold (value_after packed (sight_of row) (position_or_len (is_same_cell f os) packed.terms)) x gs) x) (value_before f os changing costless))
    where
      by : (b : Bool) → list_any (is_same_cell f os) packed.terms ≡ b →
          cond b (get_or next.values (position_or_len (is_same_cell f os) packed.terms) None) None
          ≡ cond b (fold (value_after packed (sight_of row) (position_or_len (is_same_cell f os) packed.terms)) (cond b (get_or row.values (position_or_len (is_same_cell f os) packed.terms) None) None) gs) (cond b (get_or row.values (position_or_len (is_same_cell f os) packed.terms) None) None)
      by true e = shows.values (position_or_len (is_same_cell f os) packed.terms) (place_within (is_same_cell f os) packed.terms e)
      by false e = refl

  values_after : (f : ℕ) (os : List ℕ) (constant cost : Bool) → is_constant task f ≡ constant → is_cost task f ≡ cost →
      value_at (state_of task packed next).values f os ≡ value_at (next_search_state task (state_of task packed row) instance).values f os
  values_after f os constant true c k = cost_in_state task packed listed next f os k ∙ sym (cost_after f os k)
  values_after f os true false c k = constant_in_state task packed listed next f os c k ∙ sym (own_after f os k ∙ constant_after f os c k)
  values_after f os false false c k = changing_after f os c k ∙ sym (own_after f os k)

  pub next_is_next : state_of task packed next ≡ next_search_state task (state_of task packed row) instance
  next_is_next =
      same_states (state_of task packed next) (next_search_state task (state_of task packed row) instance)
      (row_state_is_sorted task packed listed next) reached.sorted
      (λ p os. atoms_after p os (is_static task p) refl)
      (λ f os. values_after f os (is_constant task f) (is_cost task f) refl refl)
