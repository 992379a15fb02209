-- What is true of each element of lists that are put together, filtered or looked up in.
use Rattle.std.proofs.Common.{◌≡◌, ℕ, zero, suc, Bool, true, false, cond, List, [], ◌∷◌, ◌++◌, Some, refl, sym, subst, ◌∙◌}
use Rattle.std.specs.Prelude.{slice_get}
use Rattle.std.specs.List.{AllByRecursion, filter, flat_map}
use Rattle.std.proofs.lemmas.Bool.{false≢true}

pub all_front : {X : Type 0} (P : X → Type 0) (xs ys : List X) → AllByRecursion P (xs ++ ys) → AllByRecursion P xs
all_front P [] ys all = tt
all_front P (x ∷ xs) ys all = (all.0, all_front P xs ys all.1)

pub all_back : {X : Type 0} (P : X → Type 0) (xs ys : List X) → AllByRecursion P (xs ++ ys) → AllByRecursion P ys
all_back P [] ys all = all
all_back P (x ∷ xs) ys all = all_back P xs ys all.1

pub all_append : {X : Type 0} (P : X → Type 0) (xs ys : List X) → AllByRecursion P xs → AllByRecursion P ys → AllByRecursion P (xs ++ ys)
all_append P [] ys one other = other
all_append P (x ∷ xs) ys one other = (one.0, all_append P xs ys one.1 other)

pub all_joined : {X Y : Type 0} (P : Y → Type 0) (f : X → List Y) (xs : List X) → AllByRecursion P (flat_map f xs) → AllByRecursion (λ x. AllByRecursion P (f x)) xs
all_joined P f [] all = tt
all_joined P f (x ∷ xs) all = (all_front P (f x) (flat_map f xs) all, all_joined P f xs (all_back P (f x) (flat_map f xs) all))

pub at_found : {X : Type 0} (P : X → Type 0) (xs : List X) (n : ℕ) (x : X) → AllByRecursion P xs → slice_get xs n ≡ Some x → P x
at_found P [] n x all found = cc
at_found P (y ∷ ys) zero x all found = subst P (same found) all.0
  where
    same : Some y ≡ Some x → y ≡ x
    same e = cc
at_found P (y ∷ ys) (suc n) x all found = at_found P ys n x all.1 found

-- what passes a filter has the property
pub unfiltered : {X : Type 0} (P : X → Type 0) (test : X → Bool) (xs : List X) → AllByRecursion P (filter test xs) → AllByRecursion (λ x. test x ≡ true → P x) xs
unfiltered P test [] all = tt
unfiltered {X} P test (x ∷ xs) all = by (test x) refl all (unfiltered P test xs)
  where
    by : (kept : Bool) → test x ≡ kept → AllByRecursion P (cond kept (x ∷ filter test xs) (filter test xs)) → (AllByRecursion P (filter test xs) → AllByRecursion (λ x. test x ≡ true → P x) xs) → (test x ≡ true → P x) × AllByRecursion (λ x. test x ≡ true → P x) xs
    by true e all rest = (λ t. all.0, rest all.1)
    by false e all rest = (λ t. absurd (false≢true (sym e ∙ t)), rest all)
