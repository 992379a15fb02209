-- The atoms of a sorted state, and the terms of its values, are sorted as the standard library's sort and binary search say it.
use Rattle.std.proofs.Common.{◌≡◌, ℕ, zero, suc, ◌+◌, ◌<◌, Bool, true, false, List, [], ◌∷◌, length, get_or, ◌∙◌, arith}
use Rattle.std.specs.Cmp.Lexicographic.{slice_cmp}
use Rattle.std.specs.List.Sorted.{IsSorted, IsSortedBy}
use Rattle.std.specs.Ordering.{is_lt, nat_cmp, ordering_then}
use Rattle.std.specs.declared.cmp.Ordering.{Ordering}
use Rattle.mf_model.specs.declared.task.Atom.{Atom}
use Rattle.mf_model.specs.declared.task.Cell.{Cell}
use Rattle.mf_model.specs.declared.task.Valued.{Valued}
use Rattle.mf_model.specs.States.{atom_before, cell_before}
use Rattle.mf_model.proofs.Orders.{pair_before}
use Rattle.mf_meaning.specs.SortedStates.{IsSortedList}
use Rattle.mf_meaning.proofs.NumberOrder.{key_before-back}

in_turn : {X : Type 0} (before less : X → X → Bool) → ((x y : X) → before x y ≡ true → less y x ≡ false) → (xs : List X) → IsSortedList before xs → (k : ℕ) (d : X) → k + 1 < length xs → less (get_or xs (k + 1) d) (get_or xs k d) ≡ false
in_turn before less turned [] sorted k d within = absurd (omega arith)
in_turn before less turned (x ∷ []) sorted k d within = absurd (omega arith)
in_turn before less turned (x ∷ y ∷ xs) sorted zero d within = turned x y sorted.0.0
in_turn before less turned (x ∷ y ∷ xs) sorted (suc k) d within =
    let next : suc k + 1 ≡ suc (k + 1) = omega arith in
    rw next (in_turn before less turned (y ∷ xs) sorted.1 k d (omega arith))

pub sorted_by : {X : Type 0} (before less : X → X → Bool) → ((x y : X) → before x y ≡ true → less y x ≡ false) → (xs : List X) → IsSortedList before xs → IsSortedBy less xs
sorted_by before less turned xs sorted k d low high = in_turn before less turned xs sorted k d high

abbrev pub atom_order : Atom → Atom → Ordering
atom_order a b = ordering_then (nat_cmp a.predicate b.predicate) (slice_cmp nat_cmp a.objects b.objects)

abbrev pub term_order : Cell → Cell → Ordering
term_order c d = ordering_then (nat_cmp c.function d.function) (slice_cmp nat_cmp c.objects d.objects)

pub atoms_in_order : (atoms : List Atom) → IsSortedList atom_before atoms → IsSorted atom_order atoms
atoms_in_order = sorted_by atom_before (λ a b. is_lt (atom_order a b)) (λ a b before. pair_before b.predicate a.predicate b.objects a.objects ∙ key_before-back a.predicate a.objects b.predicate b.objects before)

pub terms_in_order : (values : List Valued) → IsSortedList cell_before values → IsSortedBy (λ v w. is_lt (term_order v.cell w.cell)) values
terms_in_order = sorted_by cell_before (λ v w. is_lt (term_order v.cell w.cell)) (λ v w before. pair_before w.cell.function v.cell.function w.cell.objects v.cell.objects ∙ key_before-back v.cell.function v.cell.objects w.cell.function w.cell.objects before)
