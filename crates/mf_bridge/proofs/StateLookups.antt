-- What the state that a row stands for holds.
use Rattle.std.proofs.Common.{◌≡◌, ℕ, ◌+◌, Bool, true, false, not, ◌&&◌, ◌||◌, cond, List, [], ◌∷◌, Option, Some, None, refl, sym, ap, ◌∙◌, arith}
use Rattle.std.specs.Prelude.{get_or}
use Rattle.std.specs.List.{AllByRecursion, filter, list_any, position_or_len}
use Rattle.std.specs.Option.{option_or}
use Rattle.std.proofs.lemmas.Bool.{false≢true}
use Rattle.std.proofs.lemmas.List.{get_or_past}
use Rattle.mf_fraction.specs.Exact.{Number}
use Rattle.mf_store.specs.Rows.{RowLists, bit_in}
use Rattle.mf_model.specs.declared.task.Atom.{Atom}
use Rattle.mf_model.specs.declared.task.Cell.{Cell}
use Rattle.mf_model.specs.declared.task.Valued.{Valued}
use Rattle.mf_model.specs.declared.task.TypedTask.{TypedTask}
use Rattle.mf_model.specs.declared.state.Instance.{Instance}
use Rattle.mf_model.specs.declared.state.PlainState.{PlainState}
use Rattle.mf_model.specs.Functions.{is_constant, is_cost, is_static}
use Rattle.mf_model.specs.SearchStates.{is_cost_value, search_state, with_costs}
use Rattle.mf_model.specs.States.{atom_before, cell_before, is_atom, start_of, term_before, value_at, with_atom, with_value}
use Rattle.mf_meaning.specs.ReachedStates.{IsSearchState}
use Rattle.mf_meaning.specs.SortedStates.{IsSortedList, IsSortedState}
use Rattle.mf_meaning.proofs.CostValues.{is_no_cost, value_at-with_costs}
use Rattle.mf_meaning.proofs.Lookups.{value_at-filter, value_at-fold}
use Rattle.mf_meaning.proofs.NumberOrder.{same_key-number}
use Rattle.mf_meaning.proofs.SameStates.{same_values}
use Rattle.mf_meaning.proofs.SortedLists.{sorted-filter, sorted-fold, sorted-with_atom, sorted-with_value}
use Rattle.mf_meaning.proofs.SortedStates.{start_is_sorted}
use Rattle.mf_task.specs.declared.task.Task.{Task}
use Rattle.mf_task.specs.Grounding.{atom_number, ground_of, is_row_cell, is_same_cell, term_number}
use Rattle.mf_task.specs.Rows.{IsRowOf}
use Rattle.mf_task.specs.RowStates.{atoms_shown, state_of, values_shown}
use Rattle.mf_bridge.proofs.CoveredTerms.{terms_are_sorted, terms_change}
use Rattle.mf_bridge.proofs.FluentAtoms.{atoms_are_fluent, atoms_are_sorted}
use Rattle.mf_bridge.proofs.ListTests.{any_filtered, none_passes, place_is, place_past}
use Rattle.mf_bridge.proofs.ListedCells.{any_in_fold}
use Rattle.mf_bridge.proofs.ShownLists.{any_shown, sorted_valued, value_shown_at}

-- the atoms and the terms of a packed task are sorted, and are those that can change
pub record IsListed (task : TypedTask) (packed : Task) : Type 0 where
  pub atoms : IsSortedList atom_before packed.atoms
  pub terms : IsSortedList term_before packed.terms
  pub fluent : AllByRecursion (λ atom. is_static task atom.predicate ≡ false) packed.atoms
  pub changing : AllByRecursion (λ cell. is_row_cell task cell ≡ true) packed.terms

pub packed_is_listed : (task : TypedTask) (instances : List Instance) → IsListed task (ground_of task instances)
packed_is_listed task instances = record {
  atoms = atoms_are_sorted task instances;
  terms = terms_are_sorted task instances;
  fluent = atoms_are_fluent task instances;
  changing = terms_change task instances;
}

or_none : (x : Option Number) → option_or x None ≡ x
or_none (Some a) = refl
or_none None = refl

or_false : (b : Bool) → (b || false) ≡ b
or_false true = refl
or_false false = refl

module _ (task : TypedTask) (packed : Task) (listed : IsListed task packed) where
  static_is_unlisted : (p : ℕ) (os : List ℕ) → is_static task p ≡ true → list_any (is_atom p os) packed.atoms ≡ false
  static_is_unlisted p os static = none_passes (is_atom p os) packed.atoms (each packed.atoms listed.fluent)
    where
      other : (a : Atom) → is_static task a.predicate ≡ false → (b : Bool) → is_atom p os a ≡ b → b ≡ false
      other a fluent false e = refl
      other a fluent true e = absurd (false≢true (sym fluent ∙ ap (is_static task) (sym (same_key-number p os a.predicate a.objects e)) ∙ static))

      each : (atoms : List Atom) → AllByRecursion (λ a. is_static task a.predicate ≡ false) atoms → AllByRecursion (λ a. is_atom p os a ≡ false) atoms
      each [] all = tt
      each (a ∷ atoms) all = (other a all.0 (is_atom p os a) refl, each atoms all.1)

  pub fixed_is_unlisted : (f : ℕ) (os : List ℕ) → not (is_constant task f || is_cost task f) ≡ false → list_any (is_same_cell f os) packed.terms ≡ false
  fixed_is_unlisted f os fixed = none_passes (is_same_cell f os) packed.terms (each packed.terms listed.changing)
    where
      other : (c : Cell) → is_row_cell task c ≡ true → (b : Bool) → is_same_cell f os c ≡ b → b ≡ false
      other c changing false e = refl
      other c changing true e = absurd (false≢true (sym fixed ∙ ap (λ (n : ℕ). not (is_constant task n || is_cost task n)) (same_key-number f os c.function c.objects e) ∙ changing))

      each : (cells : List Cell) → AllByRecursion (λ c. is_row_cell task c ≡ true) cells → AllByRecursion (λ c. is_same_cell f os c ≡ false) cells
      each [] all = tt
      each (c ∷ cells) all = (other c all.0 (is_same_cell f os c) refl, each cells all.1)

  module _ (row : RowLists) where
    -- atoms

    any_in_parts : (p : ℕ) (os : List ℕ) → list_any (is_atom p os) (state_of task packed row).atoms ≡ ((is_static task p && list_any (is_atom p os) (start_of task).atoms) || (list_any (is_atom p os) packed.atoms && bit_in row.bits (0 + position_or_len (is_atom p os) packed.atoms)))
    any_in_parts p os =
        any_in_fold p os (filter (λ atom. is_static task atom.predicate) (start_of task).atoms) (atoms_shown row.bits 0 packed.atoms)
        ∙ ap (λ (b : Bool). b || list_any (is_atom p os) (atoms_shown row.bits 0 packed.atoms)) (any_filtered (is_atom p os) (λ atom. is_static task atom.predicate) (is_static task p) (λ a same. ap (is_static task) (sym (same_key-number p os a.predicate a.objects same))) (start_of task).atoms)
        ∙ ap (λ (b : Bool). (is_static task p && list_any (is_atom p os) (start_of task).atoms) || b) (any_shown p os row.bits 0 packed.atoms listed.atoms)

    pub static_in_state : (p : ℕ) (os : List ℕ) → is_static task p ≡ true → list_any (is_atom p os) (state_of task packed row).atoms ≡ list_any (is_atom p os) (start_of task).atoms
    static_in_state p os static = any_in_parts p os ∙ rw (static, static_is_unlisted p os static) (or_false (list_any (is_atom p os) (start_of task).atoms))

    pub listed_in_state : (p : ℕ) (os : List ℕ) → is_static task p ≡ false → list_any (is_atom p os) (state_of task packed row).atoms ≡ (list_any (is_atom p os) packed.atoms && bit_in row.bits (position_or_len (is_atom p os) packed.atoms))
    listed_in_state p os fluent =
        any_in_parts p os
        ∙ ap (λ (b : Bool). (b && list_any (is_atom p os) (start_of task).atoms) || (list_any (is_atom p os) packed.atoms && bit_in row.bits (0 + position_or_len (is_atom p os) packed.atoms))) fluent
        ∙ ap (λ (n : ℕ). list_any (is_atom p os) packed.atoms && bit_in row.bits n) (omega arith)

    -- values

    value_in_parts : (f : ℕ) (os : List ℕ) → value_at (state_of task packed row).values f os
        ≡ option_or (cond (list_any (is_same_cell f os) packed.terms) (get_or row.values (0 + position_or_len (is_same_cell f os) packed.terms) None) None) (cond (is_constant task f && not (is_cost task f)) (value_at (start_of task).values f os) None)
    value_in_parts f os =
        value_at-fold (filter (λ v. is_constant task v.cell.function && not (is_cost task v.cell.function)) (start_of task).values) (values_shown row.values 0 packed.terms) f os (sorted_valued row.values 0 packed.terms listed.terms)
        ∙ ap (λ (x : Option Number). option_or x (value_at (filter (λ v. is_constant task v.cell.function && not (is_cost task v.cell.function)) (start_of task).values) f os)) (value_shown_at f os row.values 0 packed.terms listed.terms)
        ∙ ap (λ (x : Option Number). option_or (cond (list_any (is_same_cell f os) packed.terms) (get_or row.values (0 + position_or_len (is_same_cell f os) packed.terms) None) None) x) (value_at-filter (λ g. is_constant task g && not (is_cost task g)) (start_of task).values f os)

    cost_is_fixed : (f : ℕ) → is_cost task f ≡ true → not (is_constant task f || is_cost task f) ≡ false
    cost_is_fixed f cost = by (is_constant task f)
      where
        by : (b : Bool) → not (b || is_cost task f) ≡ false
        by true = refl
        by false = ap (λ (b : Bool). not b) cost

    pub cost_in_state : (f : ℕ) (os : List ℕ) → is_cost task f ≡ true → value_at (state_of task packed row).values f os ≡ None
    cost_in_state f os cost = value_in_parts f os ∙ rw (fixed_is_unlisted f os (cost_is_fixed f cost), cost) (by (is_constant task f))
      where
        by : (b : Bool) → cond (b && not true) (value_at (start_of task).values f os) None ≡ None
        by true = refl
        by false = refl

    pub constant_in_state : (f : ℕ) (os : List ℕ) → is_constant task f ≡ true → is_cost task f ≡ false → value_at (state_of task packed row).values f os ≡ value_at (start_of task).values f os
    constant_in_state f os constant costless =
        value_in_parts f os ∙ rw (fixed_is_unlisted f os (ap (λ (b : Bool). not (b || is_cost task f)) constant), constant, costless) refl

    pub listed_value_in_state : (f : ℕ) (os : List ℕ) → is_constant task f ≡ false → value_at (state_of task packed row).values f os ≡ cond (list_any (is_same_cell f os) packed.terms) (get_or row.values (position_or_len (is_same_cell f os) packed.terms) None) None
    listed_value_in_state f os changing =
        value_in_parts f os
        ∙ ap (λ (b : Bool). option_or (cond (list_any (is_same_cell f os) packed.terms) (get_or row.values (0 + position_or_len (is_same_cell f os) packed.terms) None) None) (cond (b && not (is_cost task f)) (value_at (start_of task).values f os) None)) changing
        ∙ or_none (cond (list_any (is_same_cell f os) packed.terms) (get_or row.values (0 + position_or_len (is_same_cell f os) packed.terms) None) None)
        ∙ ap (λ (n : ℕ). cond (list_any (is_same_cell f os) packed.terms) (get_or row.values n None) None) (omega arith)

    -- it is a search state

    pub row_state_is_sorted : IsSortedState (state_of task packed row)
    row_state_is_sorted = record {
      atoms = sorted-fold atom_before with_atom sorted-with_atom (filter (λ atom. is_static task atom.predicate) (start_of task).atoms) (atoms_shown row.bits 0 packed.atoms)
          (sorted-filter atom_before (λ atom. is_static task atom.predicate) (start_of task).atoms (start_is_sorted task).atoms);
      values = sorted-fold cell_before with_value sorted-with_value (filter (λ v. is_constant task v.cell.function && not (is_cost task v.cell.function)) (start_of task).values) (values_shown row.values 0 packed.terms)
          (sorted-filter cell_before (λ v. is_constant task v.cell.function && not (is_cost task v.cell.function)) (start_of task).values (start_is_sorted task).values);
    }

    pub row_state_is_costless : search_state task (state_of task packed row) ≡ state_of task packed row
    row_state_is_costless =
        ap (λ (vs : List Valued). record { atoms = (state_of task packed row).atoms; values = vs })
        (same_values (filter (λ v. not (is_cost_value task v)) (state_of task packed row).values) (state_of task packed row).values (sorted-filter cell_before (λ v. not (is_cost_value task v)) (state_of task packed row).values row_state_is_sorted.values) row_state_is_sorted.values
        (λ f os. value_at-filter (is_no_cost task) (state_of task packed row).values f os ∙ by f os (is_cost task f) refl))
      where
        by : (f : ℕ) (os : List ℕ) (b : Bool) → is_cost task f ≡ b → cond (not (is_cost task f)) (value_at (state_of task packed row).values f os) None ≡ value_at (state_of task packed row).values f os
        by f os true e = rw e (sym (cost_in_state f os e))
        by f os false e = rw e refl

    pub value_with_costs : (f : ℕ) (os : List ℕ) → value_at (with_costs task (state_of task packed row)).values f os ≡ cond (is_cost task f) (value_at (start_of task).values f os) (value_at (state_of task packed row).values f os)
    value_with_costs f os =
        ap (λ (s : PlainState). value_at (with_costs task s).values f os) (sym row_state_is_costless)
        ∙ value_at-with_costs task (state_of task packed row) f os

    pub constant_with_costs : (f : ℕ) (os : List ℕ) → is_constant task f ≡ true → value_at (with_costs task (state_of task packed row)).values f os ≡ value_at (start_of task).values f os
    constant_with_costs f os constant = value_with_costs f os ∙ by (is_cost task f) refl
      where
        by : (b : Bool) → is_cost task f ≡ b → cond b (value_at (start_of task).values f os) (value_at (state_of task packed row).values f os) ≡ value_at (start_of task).values f os
        by true e = refl
        by false e = constant_in_state f os constant e

    pub row_state_is_search_state : IsSearchState task (state_of task packed row)
    row_state_is_search_state = record {
      sorted = row_state_is_sorted;
      costless = row_state_is_costless;
      atoms = static_in_state;
      constants = constant_with_costs;
    }

    -- by numbers

    module _ (shape : IsRowOf packed row) where
      pub fluent_in_state : (p : ℕ) (os : List ℕ) → is_static task p ≡ false → list_any (is_atom p os) (state_of task packed row).atoms ≡ bit_in row.bits (atom_number packed.atoms p os)
      fluent_in_state p os fluent =
          listed_in_state p os fluent ∙ by (list_any (is_atom p os) packed.atoms) refl ∙ sym (ap (λ (n : ℕ). bit_in row.bits n) (place_is (is_atom p os) packed.atoms))
        where
          by : (b : Bool) → list_any (is_atom p os) packed.atoms ≡ b → (b && bit_in row.bits (position_or_len (is_atom p os) packed.atoms)) ≡ bit_in row.bits (position_or_len (is_atom p os) packed.atoms)
          by true e = refl
          by false e =
              let past = place_past (is_atom p os) packed.atoms e in
              sym (shape.clear (position_or_len (is_atom p os) packed.atoms) (omega (arith, past)))

      pub changing_in_state : (f : ℕ) (os : List ℕ) → is_constant task f ≡ false → value_at (state_of task packed row).values f os ≡ get_or row.values (term_number packed.terms f os) None
      changing_in_state f os changing =
          listed_value_in_state f os changing ∙ by (list_any (is_same_cell f os) packed.terms) refl ∙ sym (ap (λ (n : ℕ). get_or row.values n None) (place_is (is_same_cell f os) packed.terms))
        where
          by : (b : Bool) → list_any (is_same_cell f os) packed.terms ≡ b → cond b (get_or row.values (position_or_len (is_same_cell f os) packed.terms) None) None ≡ get_or row.values (position_or_len (is_same_cell f os) packed.terms) None
          by true e = refl
          by false e =
              let past = place_past (is_same_cell f os) packed.terms e in
              let long = shape.values in
              sym (get_or_past row.values (position_or_len (is_same_cell f os) packed.terms) None (omega (arith, past, long)))
