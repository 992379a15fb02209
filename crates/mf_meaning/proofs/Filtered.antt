-- The values of some functions alone, after a value is put in.
use Rattle.std.proofs.Common.{◌≡◌, ℕ, Bool, true, false, cond, List, [], ◌∷◌, refl, sym, ap, ◌∙◌}
use Rattle.std.specs.List.{AllByRecursion, filter}
use Rattle.mf_model.specs.declared.task.Valued.{Valued}
use Rattle.mf_model.specs.States.{same_cell, cell_before, with_value}
use Rattle.mf_meaning.specs.SortedStates.{IsSortedList}
use Rattle.mf_meaning.proofs.NumberOrder.{same_key-number}
use Rattle.mf_meaning.proofs.SortedLists.{all_weaker, all-filter, cell_before-apart, cell_before-trans}

abbrev pub of_functions : (ℕ → Bool) → List Valued → List Valued
of_functions test = filter (λ v. test v.cell.function)

module _ (test : ℕ → Bool) where
  -- a value of another function
  pub of_functions-other : (ws : List Valued) (v : Valued) → test v.cell.function ≡ false → of_functions test (with_value ws v) ≡ of_functions test ws
  of_functions-other [] v other = rw other refl
  of_functions-other (w ∷ ws) v other = put (of_functions-other ws v other) (same_cell v w) (cell_before v w) refl
    where
      put : (of_functions test (with_value ws v) ≡ of_functions test ws) → (same before : Bool) → same_cell v w ≡ same →
          of_functions test (cond same (v ∷ ws) (cond before (v ∷ w ∷ ws) (w ∷ with_value ws v))) ≡ of_functions test (w ∷ ws)
      put rest true before s =
          let own : test w.cell.function ≡ false = ap test (sym (same_key-number v.cell.function v.cell.objects w.cell.function w.cell.objects s)) ∙ other in
          rw (other, own) refl
      put rest false true s = rw other refl
      put rest false false s = ap (λ (us : List Valued). cond (test w.cell.function) (w ∷ us) us) rest

  in_front : (us : List Valued) (v : Valued) → AllByRecursion (λ u. cell_before v u ≡ true) us → with_value us v ≡ v ∷ us
  in_front [] v all = refl
  in_front (u ∷ us) v all = rw (cell_before-apart v u all.0, all.0) refl

  -- a value of one of them
  pub of_functions-own : (ws : List Valued) (v : Valued) → IsSortedList cell_before ws → test v.cell.function ≡ true → of_functions test (with_value ws v) ≡ with_value (of_functions test ws) v
  of_functions-own [] v sorted own = rw own refl
  of_functions-own (w ∷ ws) v sorted own = put (of_functions-own ws v sorted.1 own) (same_cell v w) (cell_before v w) (test w.cell.function) refl refl refl
    where
      put : (of_functions test (with_value ws v) ≡ with_value (of_functions test ws) v) → (same before kept : Bool) → same_cell v w ≡ same → cell_before v w ≡ before → test w.cell.function ≡ kept →
          of_functions test (cond same (v ∷ ws) (cond before (v ∷ w ∷ ws) (w ∷ with_value ws v))) ≡ with_value (of_functions test (w ∷ ws)) v
      put rest true before kept s b k =
          let there : test w.cell.function ≡ true = ap test (sym (same_key-number v.cell.function v.cell.objects w.cell.function w.cell.objects s)) ∙ own in
          rw (own, there, s) refl
      put rest false true kept s b k =
          let all = all-filter (λ u. cell_before v u ≡ true) (λ u. test u.cell.function) (w ∷ ws) (b, all_weaker (λ x. cell_before w x ≡ true) (λ x. cell_before v x ≡ true) (λ x later. cell_before-trans v w x b later) ws sorted.0) in
          rw own (sym (in_front (of_functions test (w ∷ ws)) v all))
      put rest false false true s b k = rw (k, s, b) (ap (λ us. w ∷ us) rest)
      put rest false false false s b k = rw k rest
