-- What is found, put in and taken out at the place that a binary search gives.
use Rattle.std.proofs.Common.{◌≡◌, ℕ, suc, ◌<◌, ◌≤◌, true, List, [], ◌∷◌, ◌++◌, length, get_or, take, drop, set, remove, pos, Some, None, Result, Ok, Err, is_ok, HoldsAt, refl, sym, subst, ap, ◌∙◌}
use Rattle.std.proofs.lemmas.Cmp.{nat_cmp_total, nat_list_cmp_total, on_total, then_total}
use Rattle.std.proofs.lemmas.List.{set_split, take-append-drop}
use Rattle.std.specs.Cmp.{IsTotalOrder}
use Rattle.std.specs.List.{AllByRecursion, insert, list_any}
use Rattle.std.specs.List.Sorted.{IsBinarySearchResult, IsNonDecreasingBy, IsPartitionPoint, IsSearchInRange}
use Rattle.std.specs.Ordering.{is_eq, is_lt, ordering_index, ordering_reverse}
use Rattle.std.specs.declared.cmp.Ordering.{Ordering}
use Rattle.std.specs.declared.cmp.Ordering.TheVariants.{Less, Equal, Greater}
use Rattle.mf_fraction.specs.Exact.{whole}
use Rattle.mf_model.specs.declared.task.Atom.{Atom}
use Rattle.mf_model.specs.declared.task.Cell.{Cell}
use Rattle.mf_model.specs.declared.task.Valued.{Valued}
use Rattle.mf_model.specs.States.{atom_before, cell_before, is_atom, same_atom, same_cell, value_at, with_atom, with_value, without_atom}
use Rattle.mf_model.proofs.Orders.{pair_before}
use Rattle.mf_model.proofs.SortedLists.{search_tells}
use Rattle.mf_meaning.specs.SortedStates.{IsSortedList}
use Rattle.mf_meaning.proofs.NumberOrder.{key_before-apart, same_key-back}
use Rattle.mf_meaning.proofs.Placing.{value_at-between, value_at-there, with_atom-between, with_atom-there, with_value-between, with_value-there}
use Rattle.mf_eval.specs.Comparisons.{atom_cmp, cell_cmp, key_cmp}
use Rattle.mf_eval.specs.Places.{IsAtomPlace, IsValuePlace}
use Rattle.mf_eval.proofs.Searching.{compared, found_front, found_rest, gap_front, gap_rest, whole_at}
use Rattle.mf_eval.proofs.Sorting.{pair_same}

-- atoms

atoms_total : IsTotalOrder atom_cmp
atoms_total = then_total (on_total (λ (a : Atom). a.predicate) nat_cmp_total) (on_total (λ (a : Atom). a.objects) nat_list_cmp_total)

atoms_agree : (a b : Atom) → is_lt (atom_cmp a b) ≡ atom_before a b
atoms_agree a b = pair_before a.predicate b.predicate a.objects b.objects

same_as : (a b : Atom) → same_atom a b ≡ is_eq (atom_cmp b a)
same_as a b = pair_same a.predicate b.predicate a.objects b.objects ∙ ap is_eq (atoms_total.antisymm a b) ∙ turned (atom_cmp b a)
  where
    turned : (o : Ordering) → is_eq (ordering_reverse o) ≡ is_eq o
    turned Less = refl
    turned Equal = refl
    turned Greater = refl

kept : (a : Atom) (rest : List Atom) → AllByRecursion (λ y. atom_before a y ≡ true) rest → without_atom rest a ≡ rest
kept a [] after = refl
kept a (y ∷ rest) after = rw (key_before-apart a.predicate a.objects y.predicate y.objects after.0) (ap (λ ys. y ∷ ys) (kept a rest after.1))

without_atom-there : (front : List Atom) (b : Atom) (rest : List Atom) (a : Atom) → AllByRecursion (λ x. atom_before x a ≡ true) front → same_atom a b ≡ true → AllByRecursion (λ y. atom_before a y ≡ true) rest → without_atom (front ++ b ∷ rest) a ≡ front ++ rest
without_atom-there [] b rest a before same after = rw same (kept a rest after)
without_atom-there (x ∷ front) b rest a before same after =
    rw (same_key-back x.predicate x.objects a.predicate a.objects before.0) (ap (λ ys. x ∷ ys) (without_atom-there front b rest a before.1 same after))

without_atom-between : (front rest : List Atom) (a : Atom) → AllByRecursion (λ x. atom_before x a ≡ true) front → AllByRecursion (λ y. atom_before a y ≡ true) rest → without_atom (front ++ rest) a ≡ front ++ rest
without_atom-between [] rest a before after = kept a rest after
without_atom-between (x ∷ front) rest a before after =
    rw (same_key-back x.predicate x.objects a.predicate a.objects before.0) (ap (λ ys. x ∷ ys) (without_atom-between front rest a before.1 after))

module _ (atoms : List Atom) (a : Atom) (i : ℕ) (sorted : IsSortedList atom_before atoms) where
  module _ (within : i < length atoms) (found : HoldsAt (λ b. atom_cmp b a ≡ Equal) atoms i) where
    front : AllByRecursion (λ b. atom_before b a ≡ true) (take i atoms)
    front = found_front atom_before atom_cmp atoms_total atoms_agree atoms a i sorted within found

    same : same_atom a (get_or atoms i a) ≡ true
    same = same_as a (get_or atoms i a) ∙ ap is_eq (found a)

    pub with_atom_found : with_atom atoms a ≡ atoms
    with_atom_found = subst (λ (bs : List Atom). with_atom bs a ≡ bs) (whole_at atoms i a within)
        (with_atom-there (take i atoms) (get_or atoms i a) (drop (suc i) atoms) a front same)

    pub without_atom_found : without_atom atoms a ≡ remove atoms i
    without_atom_found = ap (λ (bs : List Atom). without_atom bs a) (sym (whole_at atoms i a within))
        ∙ without_atom-there (take i atoms) (get_or atoms i a) (drop (suc i) atoms) a front same
        (found_rest atom_before atom_cmp atoms_total atoms_agree atoms a i sorted within found)

  module _ (within : i ≤ length atoms) (parts : IsNonDecreasingBy (λ b. ordering_index (atom_cmp b a)) atoms → IsPartitionPoint (λ b. atom_cmp b a ≡ Less) (λ b. atom_cmp b a ≡ Greater) atoms i) where
    front_of_gap : AllByRecursion (λ b. atom_before b a ≡ true) (take i atoms)
    front_of_gap = gap_front atom_before atom_cmp atoms_total atoms_agree atoms a i sorted within parts

    rest_of_gap : AllByRecursion (λ b. atom_before a b ≡ true) (drop i atoms)
    rest_of_gap = gap_rest atom_before atom_cmp atoms_total atoms_agree atoms a i sorted within parts

    pub with_atom_gap : with_atom atoms a ≡ insert atoms i a
    with_atom_gap = ap (λ (bs : List Atom). with_atom bs a) (sym (take-append-drop i atoms)) ∙ with_atom-between (take i atoms) (drop i atoms) a front_of_gap rest_of_gap

    pub without_atom_gap : without_atom atoms a ≡ atoms
    without_atom_gap = subst (λ (bs : List Atom). without_atom bs a ≡ bs) (take-append-drop i atoms)
        (without_atom-between (take i atoms) (drop i atoms) a front_of_gap rest_of_gap)

pub atom_place : (atoms : List Atom) (a : Atom) (r : Result ℕ ℕ) → IsSortedList atom_before atoms → IsSearchInRange r (length atoms) → IsBinarySearchResult (λ b. atom_cmp b a) atoms r → IsAtomPlace atoms a r
atom_place atoms a (Ok i) sorted within found = (within, with_atom_found atoms a i sorted within found, without_atom_found atoms a i sorted within found)
atom_place atoms a (Err i) sorted within parts = (within, with_atom_gap atoms a i sorted within parts, without_atom_gap atoms a i sorted within parts)

pub is_true_found : (atoms : List Atom) (predicate : ℕ) (objects : List ℕ) (r : Result ℕ ℕ) → IsSortedList atom_before atoms → IsSearchInRange r (length atoms)
    → IsBinarySearchResult (λ b. key_cmp b.predicate b.objects predicate objects) atoms r → is_ok r ≡ list_any (is_atom predicate objects) atoms
is_true_found atoms predicate objects r sorted within found =
    let a : Atom = record { predicate = predicate; objects = objects } in
    search_tells atoms_total atoms a r (compared atom_before atom_cmp atoms_total atoms_agree atoms sorted) within found
    ∙ (λ j. list_any (λ (b : Atom). sym (same_as a b) j) atoms)

-- values

cells_total : IsTotalOrder cell_cmp
cells_total = then_total (on_total (λ (c : Cell). c.function) nat_cmp_total) (on_total (λ (c : Cell). c.objects) nat_list_cmp_total)

values_total : IsTotalOrder (λ (v w : Valued). cell_cmp v.cell w.cell)
values_total = on_total (λ (v : Valued). v.cell) cells_total

values_agree : (v w : Valued) → is_lt (cell_cmp v.cell w.cell) ≡ cell_before v w
values_agree v w = pair_before v.cell.function w.cell.function v.cell.objects w.cell.objects

same_term : (v w : Valued) → cell_cmp w.cell v.cell ≡ Equal → same_cell v w ≡ true
same_term v w e =
    pair_same v.cell.function w.cell.function v.cell.objects w.cell.objects ∙ ap is_eq (cells_total.antisymm v.cell w.cell ∙ ap ordering_reverse e)

module _ (values : List Valued) (v : Valued) (i : ℕ) (sorted : IsSortedList cell_before values) where
  module _ (within : i < length values) (found : HoldsAt (λ w. cell_cmp w.cell v.cell ≡ Equal) values i) where
    value_front : AllByRecursion (λ w. cell_before w v ≡ true) (take i values)
    value_front = found_front cell_before (λ v w. cell_cmp v.cell w.cell) values_total values_agree values v i sorted within found

    pub with_value_found : with_value values v ≡ set values i v
    with_value_found =
        ap (λ (ws : List Valued). with_value ws v) (sym (whole_at values i v within))
        ∙ with_value-there (take i values) (get_or values i v) (drop (suc i) values) v value_front (same_term v (get_or values i v) (found v))
        ∙ sym (set_split values i v within)

    pub value_at_found : (w : Valued) → w ≡ get_or values i w → value_at values v.cell.function v.cell.objects ≡ Some w.value
    value_at_found w is =
        ap (λ (ws : List Valued). value_at ws v.cell.function v.cell.objects) (sym (whole_at values i w within))
        ∙ value_at-there (take i values) (get_or values i w) (drop (suc i) values) v value_front (same_term v (get_or values i w) (found w))
        ∙ ap (λ (u : Valued). Some u.value) (sym is)

  module _ (within : i ≤ length values) (parts : IsNonDecreasingBy (λ w. ordering_index (cell_cmp w.cell v.cell)) values → IsPartitionPoint (λ w. cell_cmp w.cell v.cell ≡ Less) (λ w. cell_cmp w.cell v.cell ≡ Greater) values i) where
    value_front_of_gap : AllByRecursion (λ w. cell_before w v ≡ true) (take i values)
    value_front_of_gap = gap_front cell_before (λ v w. cell_cmp v.cell w.cell) values_total values_agree values v i sorted within parts

    value_rest_of_gap : AllByRecursion (λ w. cell_before v w ≡ true) (drop i values)
    value_rest_of_gap = gap_rest cell_before (λ v w. cell_cmp v.cell w.cell) values_total values_agree values v i sorted within parts

    pub with_value_gap : with_value values v ≡ insert values i v
    with_value_gap = ap (λ (ws : List Valued). with_value ws v) (sym (take-append-drop i values)) ∙ with_value-between (take i values) (drop i values) v value_front_of_gap value_rest_of_gap

    pub value_at_gap : value_at values v.cell.function v.cell.objects ≡ None
    value_at_gap = ap (λ (ws : List Valued). value_at ws v.cell.function v.cell.objects) (sym (take-append-drop i values)) ∙ value_at-between (take i values) (drop i values) v value_front_of_gap value_rest_of_gap

-- what values have of the function at these objects
module _ (values : List Valued) (function : ℕ) (objects : List ℕ) (i : ℕ) (sorted : IsSortedList cell_before values) where
  asked : Valued
  asked = record { cell = record { function = function; objects = objects }; value = whole (pos 0) }

  pub value_found : (w : Valued) → i < length values → HoldsAt (λ w. key_cmp w.cell.function w.cell.objects function objects ≡ Equal) values i → w ≡ get_or values i w → Some (get_or values i w).value ≡ value_at values function objects
  unfolding asked
  value_found w within found is = ap (λ (u : Valued). Some u.value) (sym is) ∙ sym (value_at_found values asked i sorted within found w is)

  pub value_missing : i ≤ length values → (IsNonDecreasingBy (λ w. ordering_index (key_cmp w.cell.function w.cell.objects function objects)) values → IsPartitionPoint (λ w. key_cmp w.cell.function w.cell.objects function objects ≡ Less) (λ w. key_cmp w.cell.function w.cell.objects function objects ≡ Greater) values i) → None ≡ value_at values function objects
  unfolding asked
  value_missing within parts = sym (value_at_gap values asked i sorted within parts)

pub value_place : (values : List Valued) (v : Valued) (r : Result ℕ ℕ) → IsSortedList cell_before values → IsSearchInRange r (length values) → IsBinarySearchResult (λ w. cell_cmp w.cell v.cell) values r → IsValuePlace values v r
value_place values v (Ok i) sorted within found = (within, with_value_found values v i sorted within found)
value_place values v (Err i) sorted within parts = (within, with_value_gap values v i sorted within parts)
