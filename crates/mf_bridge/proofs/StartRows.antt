-- The start's row stands for the start as a search state.
use Rattle.std.proofs.Common.{◌≡◌, ℕ, suc, ◌+◌, Bool, true, false, not, ◌&&◌, ◌||◌, cond, List, [], ◌∷◌, map, length, Option, Some, None, refl, sym, ap, ◌∙◌, arith}
use Rattle.std.specs.Prelude.{get_or, IfSome}
use Rattle.std.specs.List.{AllByRecursion, list_any, position_or_len}
use Rattle.std.specs.Option.{is_some}
use Rattle.std.proofs.lemmas.Bool.{false≢true}
use Rattle.std.proofs.lemmas.List.{get_or_past, length-map}
use Rattle.std.proofs.lemmas.List.Elements.{All-from_recursion}
use Rattle.mf_fraction.specs.Exact.{Number, Proper}
use Rattle.mf_store.specs.Rows.{bit_in}
use Rattle.mf_model.specs.declared.task.Atom.{Atom}
use Rattle.mf_model.specs.declared.task.Cell.{Cell}
use Rattle.mf_model.specs.declared.task.TypedTask.{TypedTask}
use Rattle.mf_model.specs.declared.state.Instance.{Instance}
use Rattle.mf_model.specs.Functions.{is_constant, is_cost, is_static}
use Rattle.mf_model.specs.ResolvedTask.{IsResolvedTask}
use Rattle.mf_model.specs.SearchStates.{search_state}
use Rattle.mf_model.specs.States.{is_atom, start_of, value_at}
use Rattle.mf_meaning.proofs.CostValues.{is_no_cost}
use Rattle.mf_meaning.proofs.Lookups.{value_at-filter}
use Rattle.mf_meaning.proofs.NumberOrder.{same_key-number, same_key-objects}
use Rattle.mf_meaning.proofs.SameStates.{same_states}
use Rattle.mf_meaning.proofs.SortedStates.{search_state_is_sorted, start_is_sorted}
use Rattle.mf_task.specs.Grounding.{atoms_of, ground_of, is_same_cell, terms_of}
use Rattle.mf_task.specs.Rows.{IsRowOf, word_count}
use Rattle.mf_task.specs.RowStates.{state_of}
use Rattle.mf_bridge.proofs.CoveredTerms.{start_terms_covered}
use Rattle.mf_bridge.proofs.FluentAtoms.{start_atoms_covered}
use Rattle.mf_bridge.specs.StoredRows.{HasLowestValues}
use Rattle.mf_bridge.proofs.RowBits.{bit_of_words, length_words}
use Rattle.mf_bridge.proofs.RowSights.{start_is_lowest}
use Rattle.mf_bridge.proofs.StateLookups.{constant_in_state, cost_in_state, listed_in_state, listed_value_in_state, packed_is_listed, row_state_is_sorted, static_in_state}

-- what is made of the first that passes
made_at_place : {K A : Type 0} (t : K → Bool) (make : K → A) (x other : A) → ((k : K) → t k ≡ true → make k ≡ x) → (ks : List K) → get_or (map make ks) (position_or_len t ks) other ≡ cond (list_any t ks) x other
made_at_place t make x other is [] = refl
made_at_place {K} {A} t make x other is (k ∷ ks) = by (made_at_place t make x other is ks) (t k) refl
  where
    by : (get_or (map make ks) (position_or_len t ks) other ≡ cond (list_any t ks) x other) → (here : Bool) → t k ≡ here → get_or (make k ∷ map make ks) (cond (not here) (1 + position_or_len t ks) 0) other ≡ cond (here || list_any t ks) x other
    by rest true e = is k e
    by rest false e =
        let next : 1 + position_or_len t ks ≡ suc (position_or_len t ks) = omega arith in
        ap (λ (n : ℕ). get_or (make k ∷ map make ks) n other) next ∙ rest

module _ (task : TypedTask) (instances : List Instance) where
  abbrev holds_at_start : Atom → Bool
  holds_at_start atom = list_any (is_atom atom.predicate atom.objects) (start_of task).atoms

  abbrev value_at_start : Cell → Option Number
  value_at_start cell = value_at (start_of task).values cell.function cell.objects

  start_bit : (n : ℕ) → bit_in (ground_of task instances).start.bits n ≡ get_or (map holds_at_start (atoms_of task instances)) n false
  start_bit n =
      let long = length-map (atoms_of task instances) holds_at_start in
      bit_of_words (word_count (length (atoms_of task instances))) (map holds_at_start (atoms_of task instances)) (omega (arith, long)) n

  pub start_has_shape : IsRowOf (ground_of task instances) (ground_of task instances).start
  start_has_shape = record {
    words = length_words (word_count (length (atoms_of task instances))) (map holds_at_start (atoms_of task instances));
    values = length-map (terms_of task instances) value_at_start;
    clear = λ n past.
        let long = length-map (atoms_of task instances) holds_at_start in
        start_bit n ∙ get_or_past (map holds_at_start (atoms_of task instances)) n false (omega (arith, long, past));
  }

  atom_at_start : (p : ℕ) (os : List ℕ) → is_static task p ≡ false → (list_any (is_atom p os) (atoms_of task instances) && bit_in (ground_of task instances).start.bits (position_or_len (is_atom p os) (atoms_of task instances))) ≡ list_any (is_atom p os) (start_of task).atoms
  atom_at_start p os fluent =
      ap (λ (b : Bool). list_any (is_atom p os) (atoms_of task instances) && b)
      (start_bit (position_or_len (is_atom p os) (atoms_of task instances)) ∙ made_at_place (is_atom p os) holds_at_start (list_any (is_atom p os) (start_of task).atoms) false same (atoms_of task instances))
      ∙ by (list_any (is_atom p os) (atoms_of task instances)) (list_any (is_atom p os) (start_of task).atoms) refl refl
    where
      same : (a : Atom) → is_atom p os a ≡ true → holds_at_start a ≡ list_any (is_atom p os) (start_of task).atoms
      same a here =
          ap (λ (n : ℕ). list_any (is_atom n a.objects) (start_of task).atoms) (sym (same_key-number p os a.predicate a.objects here))
          ∙ ap (λ (ns : List ℕ). list_any (is_atom p ns) (start_of task).atoms) (sym (same_key-objects p os a.predicate a.objects here))

      by : (among holds : Bool) → list_any (is_atom p os) (atoms_of task instances) ≡ among → list_any (is_atom p os) (start_of task).atoms ≡ holds → (among && cond among holds false) ≡ holds
      by true holds a h = refl
      by false false a h = refl
      by false true a h = absurd (false≢true (sym a ∙ start_atoms_covered task instances p os fluent h))

  term_at_start : (f : ℕ) (os : List ℕ) → is_constant task f ≡ false → is_cost task f ≡ false →
      cond (list_any (is_same_cell f os) (terms_of task instances)) (get_or (ground_of task instances).start.values (position_or_len (is_same_cell f os) (terms_of task instances)) None) None ≡ value_at (start_of task).values f os
  term_at_start f os changing costless =
      ap (λ (x : Option Number). cond (list_any (is_same_cell f os) (terms_of task instances)) x None)
      (made_at_place (is_same_cell f os) value_at_start (value_at (start_of task).values f os) None same (terms_of task instances))
      ∙ by (list_any (is_same_cell f os) (terms_of task instances)) (value_at (start_of task).values f os) refl refl
    where
      same : (c : Cell) → is_same_cell f os c ≡ true → value_at_start c ≡ value_at (start_of task).values f os
      same c here =
          ap (λ (n : ℕ). value_at (start_of task).values n c.objects) (sym (same_key-number f os c.function c.objects here))
          ∙ ap (λ (ns : List ℕ). value_at (start_of task).values f ns) (sym (same_key-objects f os c.function c.objects here))

      by : (among : Bool) (value : Option Number) → list_any (is_same_cell f os) (terms_of task instances) ≡ among → value_at (start_of task).values f os ≡ value → cond among (cond among value None) None ≡ value
      by true value a v = refl
      by false None a v = refl
      by false (Some x) a v = absurd (false≢true (sym a ∙ start_terms_covered task instances f os changing costless (ap (λ (y : Option Number). is_some y) v)))

  pub start_is_start : state_of task (ground_of task instances) (ground_of task instances).start ≡ search_state task (start_of task)
  start_is_start =
      same_states (state_of task (ground_of task instances) (ground_of task instances).start) (search_state task (start_of task))
      (row_state_is_sorted task (ground_of task instances) (packed_is_listed task instances) (ground_of task instances).start)
      (search_state_is_sorted task (start_of task) (start_is_sorted task))
      (λ p os. atoms p os (is_static task p) refl)
      (λ f os. values f os (is_constant task f) (is_cost task f) refl refl ∙ sym (value_at-filter (is_no_cost task) (start_of task).values f os))
    where
      atoms : (p : ℕ) (os : List ℕ) (static : Bool) → is_static task p ≡ static → list_any (is_atom p os) (state_of task (ground_of task instances) (ground_of task instances).start).atoms ≡ list_any (is_atom p os) (start_of task).atoms
      atoms p os true s = static_in_state task (ground_of task instances) (packed_is_listed task instances) (ground_of task instances).start p os s
      atoms p os false s = listed_in_state task (ground_of task instances) (packed_is_listed task instances) (ground_of task instances).start p os s ∙ atom_at_start p os s

      values : (f : ℕ) (os : List ℕ) (constant cost : Bool) → is_constant task f ≡ constant → is_cost task f ≡ cost →
          value_at (state_of task (ground_of task instances) (ground_of task instances).start).values f os ≡ cond (not (is_cost task f)) (value_at (start_of task).values f os) None
      values f os constant true c k = cost_in_state task (ground_of task instances) (packed_is_listed task instances) (ground_of task instances).start f os k ∙ rw k refl
      values f os true false c k = constant_in_state task (ground_of task instances) (packed_is_listed task instances) (ground_of task instances).start f os c k ∙ rw k refl
      values f os false false c k = listed_value_in_state task (ground_of task instances) (packed_is_listed task instances) (ground_of task instances).start f os c ∙ term_at_start f os c k ∙ rw k refl

  -- its values are in lowest terms

  each_lowest : IsResolvedTask task → (cells : List Cell) → AllByRecursion (λ value. IfSome value Proper) (map value_at_start cells)
  each_lowest resolved [] = tt
  each_lowest resolved (cell ∷ cells) = (start_is_lowest task resolved cell.function cell.objects, each_lowest resolved cells)

  pub start_has_lowest_values : IsResolvedTask task → HasLowestValues (ground_of task instances).start
  start_has_lowest_values resolved = All-from_recursion (λ value. IfSome value Proper) (ground_of task instances).start.values (each_lowest resolved (terms_of task instances))
