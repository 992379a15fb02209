-- What a binary search of a sorted list tells: whether an item that compares as equal is there.
use Rattle.std.proofs.Common.{◌≡◌, ℕ, false, List, length, Result, Ok, Err, is_ok, sym, ap, ⊎_elim, arith}
use Rattle.std.proofs.lemmas.Bool.{cases_lt}
use Rattle.std.proofs.lemmas.List.Folds.{list_any_at, list_any_none}
use Rattle.std.proofs.lemmas.List.Sorted.{searchable_from_sorted}
use Rattle.std.specs.Cmp.{IsTotalOrder}
use Rattle.std.specs.List.{list_any, All}
use Rattle.std.specs.List.Sorted.{IsBinarySearchResult, IsSearchInRange, IsSorted}
use Rattle.std.specs.Ordering.{is_eq}
use Rattle.std.specs.declared.cmp.Ordering.{Ordering}

module _ {K : Type 0} {R : K → K → Ordering} (total : IsTotalOrder R) where
  pub search_tells : (xs : List K) (x : K) (r : Result ℕ ℕ) → IsSorted R xs → IsSearchInRange r (length xs) → IsBinarySearchResult (λ y. R y x) xs r → is_ok r ≡ list_any (λ y. is_eq (R y x)) xs
  search_tells xs x (Ok i) sorted within found = sym (list_any_at (λ y. is_eq (R y x)) xs i x within (ap is_eq (found x)))
  search_tells xs x (Err i) sorted within place =
      let parts = place (searchable_from_sorted total (λ y. y) xs x sorted) in
      let none : All (λ y. is_eq (R y x) ≡ false) xs =
      λ k d less. ⊎_elim (λ below. ap is_eq (parts.0 k d (omega arith) below)) (λ above. ap is_eq (parts.1 k d above less)) (cases_lt k i) in
      sym (list_any_none (λ y. is_eq (R y x)) xs none)
