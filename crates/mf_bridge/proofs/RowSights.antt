-- A row and the state that it stands for show the same.
use Rattle.std.proofs.Common.{◌≡◌, ℕ, zero, suc, ◌≤◌, Bool, true, false, not, ◌&&◌, ◌||◌, cond, List, [], ◌∷◌, length, Option, Some, None, refl, sym, subst, ap, ◌∙◌, arith, ⊎_elim}
use Rattle.std.specs.Prelude.{get_or, slice_get, IfSome, IsTrue}
use Rattle.std.specs.List.{AllByRecursion, fold, position_or_len}
use Rattle.std.proofs.lemmas.Bool.{cases_lt, false≢true}
use Rattle.std.proofs.lemmas.List.{get_or_past}
use Rattle.std.proofs.lemmas.List.Elements.{recursion_from_All}
use Rattle.mf_fraction.specs.Exact.{Number, Proper}
use Rattle.mf_store.specs.Rows.{RowLists, bit_in}
use Rattle.mf_model.specs.declared.task.Atom.{Atom}
use Rattle.mf_model.specs.declared.task.Cell.{Cell}
use Rattle.mf_model.specs.declared.task.Valued.{Valued}
use Rattle.mf_model.specs.declared.task.TypedTask.{TypedTask}
use Rattle.mf_model.specs.declared.state.Instance.{Instance}
use Rattle.mf_model.specs.Functions.{is_constant, is_cost, is_static}
use Rattle.mf_model.specs.ResolvedTask.{IsResolvedTask, is_stored}
use Rattle.mf_model.specs.SearchStates.{with_costs}
use Rattle.mf_model.specs.States.{atom_before, cell_before, is_cell, look_of, same_atom, same_cell, start_of, term_before, value_at, with_value}
use Rattle.mf_meaning.proofs.NumberOrder.{same_key-back, same_key-self}
use Rattle.mf_task.specs.declared.task.Task.{Task}
use Rattle.mf_task.specs.Grounding.{ground_of, is_row_cell, is_same_cell, numbering_of}
use Rattle.mf_task.specs.Rows.{IsRowOf, sight_of}
use Rattle.mf_task.specs.RowStates.{state_of}
use Rattle.mf_task.specs.Successors.{shows_atom, sight_in, value_shown}
use Rattle.mf_bridge.specs.Shows.{Shows}
use Rattle.mf_bridge.specs.StoredRows.{HasLowestValues}
use Rattle.mf_bridge.proofs.Lists.{at_found}
use Rattle.mf_bridge.proofs.ListTests.{any_at_place, place_at_place}
use Rattle.mf_bridge.proofs.Numbers.{stored_is_proper}
use Rattle.mf_bridge.proofs.StateLookups.{IsListed, changing_in_state, constant_with_costs, fluent_in_state, listed_in_state, listed_value_in_state, packed_is_listed, static_in_state, value_with_costs}

-- lowest terms

abbrev AreLowest : List Valued → Type 0
AreLowest = AllByRecursion (λ v. Proper v.value)

lowest_put : (ws : List Valued) (v : Valued) → Proper v.value → AreLowest ws → AreLowest (with_value ws v)
lowest_put [] v proper all = (proper, tt)
lowest_put (w ∷ ws) v proper all = put (lowest_put ws v proper all.1) (same_cell v w) (cell_before v w)
  where
    put : AreLowest (with_value ws v) → (same before : Bool) → AreLowest (cond same (v ∷ ws) (cond before (v ∷ w ∷ ws) (w ∷ with_value ws v)))
    put rest true before = (proper, all.1)
    put rest false true = (proper, all)
    put rest false false = (all.0, rest)

lowest_fold : (ws vs : List Valued) → AreLowest ws → AreLowest vs → AreLowest (fold with_value ws vs)
lowest_fold ws [] all others = all
lowest_fold ws (v ∷ vs) all others = lowest_fold (with_value ws v) vs (lowest_put ws v others.0 all) others.1

lowest_found : (vs : List Valued) (f : ℕ) (os : List ℕ) → AreLowest vs → IfSome (value_at vs f os) Proper
lowest_found [] f os all = tt
lowest_found (v ∷ vs) f os all = by (lowest_found vs f os all.1) (is_cell f os v)
  where
    by : IfSome (value_at vs f os) Proper → (here : Bool) → IfSome (cond here (Some v.value) (value_at vs f os)) Proper
    by rest true = all.0
    by rest false = rest

pub start_is_lowest : (task : TypedTask) → IsResolvedTask task → (f : ℕ) (os : List ℕ) → IfSome (value_at (start_of task).values f os) Proper
start_is_lowest task resolved f os =
    lowest_found (start_of task).values f os (lowest_fold [] task.values tt (each task.values (recursion_from_All (λ v. IsTrue (is_stored v.value)) task.values resolved.numbers.values)))
  where
    each : (vs : List Valued) → AllByRecursion (λ v. IsTrue (is_stored v.value)) vs → AreLowest vs
    each [] all = tt
    each (v ∷ vs) all = (stored_is_proper v.value all.0, each vs all.1)

row_is_lowest : (row : RowLists) → HasLowestValues row → (term : ℕ) → IfSome (get_or row.values term None) Proper
row_is_lowest row lowest term = ⊎_elim (λ within. lowest term None within) (λ past. subst (λ (x : Option Number). IfSome x Proper) (sym (get_or_past row.values term None past)) tt) (cases_lt term (length row.values))

-- what is shown

module _ (task : TypedTask) (instances : List Instance) (row : RowLists) (shape : IsRowOf (ground_of task instances) row) where
  changing_with_costs : (f : ℕ) (os : List ℕ) → is_constant task f ≡ false → is_cost task f ≡ false →
      value_at (with_costs task (state_of task (ground_of task instances) row)).values f os ≡ value_at (state_of task (ground_of task instances) row).values f os
  changing_with_costs f os changing costless =
      value_with_costs task (ground_of task instances) (packed_is_listed task instances) row f os
      ∙ ap (λ (b : Bool). cond b (value_at (start_of task).values f os) (value_at (state_of task (ground_of task instances) row).values f os)) costless

  pub row_shows : IsResolvedTask task → HasLowestValues row → Shows (numbering_of task instances) (look_of (with_costs task (state_of task (ground_of task instances) row))) (sight_of row)
  row_shows resolved lowest = record {
    static_atom = static_in_state task (ground_of task instances) (packed_is_listed task instances) row;
    fluent_atom = fluent_in_state task (ground_of task instances) (packed_is_listed task instances) row shape;
    constant = constant_with_costs task (ground_of task instances) (packed_is_listed task instances) row;
    changing = λ f os changing costless. changing_with_costs f os changing costless ∙ changing_in_state task (ground_of task instances) (packed_is_listed task instances) row shape f os changing;
    look_lowest = λ f os. look_lowest f os (is_constant task f) (is_cost task f) refl refl;
    sight_lowest = row_is_lowest row lowest;
  }
    where
      look_lowest : (f : ℕ) (os : List ℕ) (constant cost : Bool) → is_constant task f ≡ constant → is_cost task f ≡ cost → IfSome (value_at (with_costs task (state_of task (ground_of task instances) row)).values f os) Proper
      look_lowest f os true cost c k =
          subst (λ (x : Option Number). IfSome x Proper) (sym (constant_with_costs task (ground_of task instances) (packed_is_listed task instances) row f os c)) (start_is_lowest task resolved f os)
      look_lowest f os false true c k =
          subst (λ (x : Option Number). IfSome x Proper)
          (sym (value_with_costs task (ground_of task instances) (packed_is_listed task instances) row f os ∙ ap (λ (b : Bool). cond b (value_at (start_of task).values f os) (value_at (state_of task (ground_of task instances) row).values f os)) k))
          (start_is_lowest task resolved f os)
      look_lowest f os false false c k =
          subst (λ (x : Option Number). IfSome x Proper)
          (sym (changing_with_costs f os c k ∙ changing_in_state task (ground_of task instances) (packed_is_listed task instances) row shape f os c))
          (row_is_lowest row lowest _)

-- by numbers

past_end : {X : Type 0} (xs : List X) (n : ℕ) → slice_get xs n ≡ None → length xs ≤ n
past_end [] n none = omega arith
past_end (x ∷ xs) zero none = cc
past_end (x ∷ xs) (suc n) none =
    let rest = past_end xs n none in
    omega (arith, rest)

atom_self : (a : Atom) → same_atom a a ≡ true
atom_self a = same_key-self a.predicate a.objects

atom_back : (a b : Atom) → atom_before a b ≡ true → same_atom b a ≡ false
atom_back a b before = same_key-back a.predicate a.objects b.predicate b.objects before

abbrev same_term : Cell → Cell → Bool
same_term c d = is_same_cell c.function c.objects d

cell_self : (c : Cell) → same_term c c ≡ true
cell_self c = same_key-self c.function c.objects

cell_back : (c d : Cell) → term_before c d ≡ true → same_term d c ≡ false
cell_back c d before = same_key-back c.function c.objects d.function d.objects before

module _ (task : TypedTask) (packed : Task) (listed : IsListed task packed) (row : RowLists) (shape : IsRowOf packed row) where
  bit_shown : (n : ℕ) → shows_atom (state_of task packed row) (slice_get packed.atoms n) ≡ bit_in row.bits n
  bit_shown n = by (slice_get packed.atoms n) refl
    where
      by : (found : Option Atom) → slice_get packed.atoms n ≡ found → shows_atom (state_of task packed row) found ≡ bit_in row.bits n
      by (Some a) is =
          listed_in_state task packed listed row a.predicate a.objects (at_found (λ a. is_static task a.predicate ≡ false) packed.atoms n a listed.fluent is)
          ∙ ap (λ (b : Bool). b && bit_in row.bits (position_or_len (same_atom a) packed.atoms)) (any_at_place atom_before same_atom atom_self atom_back packed.atoms n a is)
          ∙ ap (λ (k : ℕ). bit_in row.bits k) (place_at_place atom_before same_atom atom_self atom_back packed.atoms n a listed.atoms is)
      by None is = sym (shape.clear n (past_end packed.atoms n is))

  changes : (f : ℕ) → not (is_constant task f || is_cost task f) ≡ true → is_constant task f ≡ false
  changes f row_cell = by (is_constant task f) refl
    where
      by : (b : Bool) → is_constant task f ≡ b → b ≡ false
      by false e = refl
      by true e = absurd (false≢true (sym (ap (λ (b : Bool). not (b || is_cost task f)) e) ∙ row_cell))

  number_shown : (n : ℕ) → value_shown (state_of task packed row) (slice_get packed.terms n) ≡ get_or row.values n None
  number_shown n = by (slice_get packed.terms n) refl
    where
      by : (found : Option Cell) → slice_get packed.terms n ≡ found → value_shown (state_of task packed row) found ≡ get_or row.values n None
      by (Some c) is =
          listed_value_in_state task packed listed row c.function c.objects (changes c.function (at_found (λ c. is_row_cell task c ≡ true) packed.terms n c listed.changing is))
          ∙ ap (λ (b : Bool). cond b (get_or row.values (position_or_len (same_term c) packed.terms) None) None) (any_at_place term_before same_term cell_self cell_back packed.terms n c is)
          ∙ ap (λ (k : ℕ). get_or row.values k None) (place_at_place term_before same_term cell_self cell_back packed.terms n c listed.terms is)
      by None is =
          let past = past_end packed.terms n is in
          let long = shape.values in
          sym (get_or_past row.values n None (omega (arith, past, long)))

  pub sights_are_same : sight_in packed (state_of task packed row) ≡ sight_of row
  sights_are_same = λ i. record { bit = λ atom. bit_shown atom i; value = λ term. number_shown term i }
