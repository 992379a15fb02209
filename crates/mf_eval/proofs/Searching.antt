-- What a binary search of a sorted list finds.
use Rattle.std.proofs.Common.{◌≡◌, ℕ, zero, suc, ◌+◌, ◌<◌, ◌≤◌, Bool, true, List, [], ◌∷◌, ◌++◌, length, get_or, take, drop, drop-cons, HoldsAt, Bor, Result, refl, sym, subst, ap, ◌∙◌, arith}
use Rattle.std.proofs.lemmas.List.{get_or-drop, get_or-take, length-drop, length-take, take-append-drop}
use Rattle.std.proofs.lemmas.List.Elements.{All-from_recursion, recursion_from_All}
use Rattle.std.proofs.lemmas.List.Sorted.{searchable_from_sorted}
use Rattle.std.proofs.lemmas.Bool.{false≢true}
use Rattle.std.proofs.lemmas.Fn.{always_returns_same}
use Rattle.std.specs.Cmp.{IsTotalOrder}
use Rattle.std.specs.Fn.{Called, ComputesKey, Mut}
use Rattle.std.specs.List.{AllByRecursion, AllWithin}
use Rattle.std.specs.List.Sorted.{IsBinarySearchResult, IsNonDecreasingBy, IsPartitionPoint, IsSorted}
use Rattle.std.specs.Ordering.{is_lt, ordering_index, ordering_reverse}
use Rattle.std.specs.declared.cmp.Ordering.{Ordering}
use Rattle.std.specs.declared.cmp.Ordering.TheVariants.{Less, Equal, Greater}
use Rattle.mf_meaning.specs.SortedStates.{IsSortedList}

-- the parts of a list

pub whole_at : {X : Type 0} (xs : List X) (i : ℕ) (d : X) → i < length xs → take i xs ++ get_or xs i d ∷ drop (suc i) xs ≡ xs
whole_at xs i d within = ap (λ rest. take i xs ++ rest) (sym (drop-cons xs i d within)) ∙ take-append-drop i xs

all-take : {X : Type 0} (P : X → Type 0) (xs : List X) (i : ℕ) → i ≤ length xs → AllWithin P xs 0 i → AllByRecursion P (take i xs)
all-take P xs i within all = recursion_from_All P (take i xs) (λ k d less.
    let below : k < i = omega (arith, less, length-take i xs, within) in
    subst P (sym (get_or-take i xs k d below)) (all k d (omega arith) below))

all-drop : {X : Type 0} (P : X → Type 0) (xs : List X) (i : ℕ) → i ≤ length xs → AllWithin P xs i (length xs) → AllByRecursion P (drop i xs)
all-drop P xs i within all = recursion_from_All P (drop i xs) (λ k d less.
    subst P (sym (get_or-drop i xs k d)) (all (i + k) d (omega arith) (omega (arith, less, length-drop i xs, within))))

sorted-at : {X : Type 0} (before : X → X → Bool) (xs : List X) (i j : ℕ) (d : X) → IsSortedList before xs → i < j → j < length xs → before (get_or xs i d) (get_or xs j d) ≡ true
sorted-at before [] i j d sorted less within = absurd (omega (arith, within))
sorted-at before (x ∷ xs) zero zero d sorted less within = absurd (omega (arith, less))
sorted-at before (x ∷ xs) zero (suc j) d sorted less within = All-from_recursion (λ y. before x y ≡ true) xs sorted.0 j d (omega (arith, within))
sorted-at before (x ∷ xs) (suc i) zero d sorted less within = absurd (omega (arith, less))
sorted-at before (x ∷ xs) (suc i) (suc j) d sorted less within = sorted-at before xs i j d sorted.1 (omega (arith, less)) (omega (arith, within))

lesser : (o : Ordering) → is_lt o ≡ true → o ≡ Less
lesser Less e = refl
lesser Equal e = absurd (false≢true e)
lesser Greater e = absurd (false≢true e)

-- a list in an order that comparisons tell
module _ {X : Type 0} (before : X → X → Bool) (R : X → X → Ordering) (total : IsTotalOrder R) (agrees : (x y : X) → is_lt (R x y) ≡ before x y) where
  less : (x y : X) → before x y ≡ true → R x y ≡ Less
  less x y e = lesser (R x y) (agrees x y ∙ e)

  from_less : (x y : X) → R x y ≡ Less → before x y ≡ true
  from_less x y e = sym (agrees x y) ∙ ap is_lt e

  pub compared : (xs : List X) → IsSortedList before xs → IsSorted R xs
  compared xs sorted k d low high =
      let here = less (get_or xs k d) (get_or xs (k + 1) d) (sorted-at before xs k (k + 1) d sorted (omega arith) high) in
      ap is_lt (total.antisymm (get_or xs (k + 1) d) (get_or xs k d) ∙ ap ordering_reverse here)

  module _ (xs : List X) (x : X) (i : ℕ) (sorted : IsSortedList before xs) where
    -- at an element that is equal to x
    module _ (within : i < length xs) (found : HoldsAt (λ y. R y x ≡ Equal) xs i) where
      pub found_front : AllByRecursion (λ y. before y x ≡ true) (take i xs)
      found_front = all-take (λ y. before y x ≡ true) xs i (omega (arith, within)) (λ k d low high.
          let y = get_or xs k d in
          let here = get_or xs i d in
          from_less y x (total.antisymm y x ∙ ap ordering_reverse (sym (total.congr here x y (found d)) ∙ total.antisymm here y
          ∙ ap ordering_reverse (less y here (sorted-at before xs k i d sorted high within)))))

      pub found_rest : AllByRecursion (λ y. before x y ≡ true) (drop (suc i) xs)
      found_rest = all-drop (λ y. before x y ≡ true) xs (suc i) (omega (arith, within)) (λ k d low high.
          let y = get_or xs k d in
          let here = get_or xs i d in
          from_less x y (sym (total.congr here x y (found d)) ∙ less here y (sorted-at before xs i k d sorted (omega (arith, low)) high)))

    -- at the gap where x would go
    module _ (within : i ≤ length xs) (parts : IsNonDecreasingBy (λ y. ordering_index (R y x)) xs → IsPartitionPoint (λ y. R y x ≡ Less) (λ y. R y x ≡ Greater) xs i) where
      pub gap_front : AllByRecursion (λ y. before y x ≡ true) (take i xs)
      gap_front = all-take (λ y. before y x ≡ true) xs i within (λ k d low high.
          from_less (get_or xs k d) x ((parts (searchable_from_sorted total (λ y. y) xs x (compared xs sorted))).0 k d low high))

      pub gap_rest : AllByRecursion (λ y. before x y ≡ true) (drop i xs)
      gap_rest = all-drop (λ y. before x y ≡ true) xs i within (λ k d low high.
          let y = get_or xs k d in
          from_less x y (total.antisymm x y ∙ ap ordering_reverse ((parts (searchable_from_sorted total (λ y. y) xs x (compared xs sorted))).1 k d low high)))

-- what a search by a closure says, where each call answers what `ord` gives
pub searched_by : {F X : Type 0} {g : Mut F (Bor X × Unit {0}) Ordering} {f : F} (ord : X → Ordering) (xs : List X) (r : Result ℕ ℕ)
    → ((by : X → Ordering) → ComputesKey g by f → IsBinarySearchResult by xs r)
    → ((a : Bor X × Unit {0}) (o : Ordering) (f' : F) → Called g f a o f' → (o ≡ ord a.0.now) × (f' ≡ f)) → IsBinarySearchResult ord xs r
searched_by {g = g} {f = f} ord xs r found answers = found ord (always_returns_same g (λ a o. o ≡ ord a.0.now) f answers)
