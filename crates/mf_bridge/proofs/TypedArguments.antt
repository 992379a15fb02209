-- Lists of objects that fit lists of types: bindings are such, and of these each list is a binding.
use Rattle.std.proofs.Common.{◌≡◌, ℕ, zero, suc, ◌+◌, ◌<◌, Bool, true, false, ◌&&◌, List, [], ◌∷◌, ◌++◌, length, slice_index_or, refl, sym, subst, ap, ◌∙◌, arith}
use Rattle.std.specs.Prelude.{if◌then◌else◌}
use Rattle.std.specs.List.{AllByRecursion, flat_map, list_all}
use Rattle.std.proofs.lemmas.Bool.{and_from, and_parts, false≢true}
use Rattle.std.proofs.lemmas.List.{append-nil, append_assoc}
use Rattle.std.proofs.lemmas.List.Folds.{list_all-append}
use Rattle.mf_model.specs.Objects.{bindings, having, meets}
use Rattle.mf_meaning.proofs.SortedLists.{all_weaker}
use Rattle.mf_bridge.proofs.Lists.{all_append}

meets_nothing : (types : List ℕ) → meets types [] ≡ false
meets_nothing [] = refl
meets_nothing (t ∷ types) = meets_nothing types

-- an object, by its place in what is left of the list
record HasType (types : List ℕ) (kinds : List (List ℕ)) (n o : ℕ) : Type 0 where
  place : ℕ
  is : o ≡ n + place
  typed : meets types (slice_index_or kinds place []) ≡ true

having_has : (types : List ℕ) (n : ℕ) (kinds : List (List ℕ)) → AllByRecursion (HasType types kinds n) (having types n kinds)
having_has types n [] = tt
having_has types n (k ∷ kinds) =
    by (meets types k) refl (all_weaker (HasType types kinds (n + 1)) (HasType types (k ∷ kinds) n) later (having types (n + 1) kinds) (having_has types (n + 1) kinds))
  where
    later : (o : ℕ) → HasType types kinds (n + 1) o → HasType types (k ∷ kinds) n o
    later o has = let same = has.is in record { place = suc has.place; is = omega (arith, same); typed = has.typed }

    by : (b : Bool) → meets types k ≡ b → AllByRecursion (HasType types (k ∷ kinds) n) (having types (n + 1) kinds) → AllByRecursion (HasType types (k ∷ kinds) n) (if b then n ∷ having types (n + 1) kinds else having types (n + 1) kinds)
    by true e rest = (record { place = 0; is = omega arith; typed = e }, rest)
    by false e rest = rest

-- what passes for all objects of the types passes for each
one_of : {X : Type 0} (test : X → Bool) (f : ℕ → List X) (types : List ℕ) (n : ℕ) (kinds : List (List ℕ)) (place : ℕ) → list_all test (flat_map f (having types n kinds)) ≡ true → meets types (slice_index_or kinds place []) ≡ true → list_all test (f (n + place)) ≡ true
one_of test f types n [] place all typed = absurd (false≢true (sym (meets_nothing types) ∙ typed))
one_of test f types n (k ∷ kinds) zero all typed =
    let same : n + 0 ≡ n = omega arith in
    let front : list_all test (f n ++ flat_map f (having types (n + 1) kinds)) ≡ true = ap (λ (b : Bool). list_all test (flat_map f (if b then n ∷ having types (n + 1) kinds else having types (n + 1) kinds))) (sym typed) ∙ all in
    ap (λ m. list_all test (f m)) same ∙ (and_parts (list_all test (f n)) (list_all test (flat_map f (having types (n + 1) kinds))) (sym (list_all-append test (f n) (flat_map f (having types (n + 1) kinds))) ∙ front)).0
one_of test f types n (k ∷ kinds) (suc place) all typed =
    let next : n + suc place ≡ n + 1 + place = omega arith in
    ap (λ m. list_all test (f m)) next ∙ one_of test f types (n + 1) kinds place (by (meets types k) all) typed
  where
    by : (b : Bool) → list_all test (flat_map f (if b then n ∷ having types (n + 1) kinds else having types (n + 1) kinds)) ≡ true → list_all test (flat_map f (having types (n + 1) kinds)) ≡ true
    by true all = (and_parts (list_all test (f n)) (list_all test (flat_map f (having types (n + 1) kinds))) (sym (list_all-append test (f n) (flat_map f (having types (n + 1) kinds))) ∙ all)).1
    by false all = all

module _ (kinds : List (List ℕ)) where
  -- the object has one of the types
  abbrev pub is_of : List ℕ → ℕ → Bool
  is_of types o = meets types (slice_index_or kinds o [])

  abbrev pub are_of : List (List ℕ) → List ℕ → Bool
  are_of [] [] = true
  are_of [] (o ∷ os) = false
  are_of (types ∷ others) [] = false
  are_of (types ∷ others) (o ∷ os) = is_of types o && are_of others os

  pub are_of-append : (front : List (List ℕ)) (b : List ℕ) (back : List (List ℕ)) (os : List ℕ) → are_of front b ≡ true → are_of back os ≡ true → are_of (front ++ back) (b ++ os) ≡ true
  are_of-append [] [] back os one other = other
  are_of-append [] (o ∷ b) back os one other = absurd (false≢true one)
  are_of-append (types ∷ front) [] back os one other = absurd (false≢true one)
  are_of-append (types ∷ front) (o ∷ b) back os one other =
      let both = and_parts (is_of types o) (are_of front b) one in
      and_from (is_of types o) (are_of (front ++ back) (b ++ os)) both.0 (are_of-append front b back os both.1 other)

  pub are_of_at : (scope : List (List ℕ)) (b : List ℕ) (place : ℕ) → are_of scope b ≡ true → place < length scope → is_of (slice_index_or scope place []) (slice_index_or b place 0) ≡ true
  are_of_at [] b place all h = absurd (omega (arith, h))
  are_of_at (types ∷ scope) [] place all h = absurd (false≢true all)
  are_of_at (types ∷ scope) (o ∷ b) zero all h = (and_parts (is_of types o) (are_of scope b) all).0
  are_of_at (types ∷ scope) (o ∷ b) (suc place) all h = are_of_at scope b place (and_parts (is_of types o) (are_of scope b) all).1 (omega (arith, h))

  have : (types : List ℕ) → AllByRecursion (λ o. is_of types o ≡ true) (having types 0 kinds)
  have types = all_weaker (HasType types kinds 0) (λ o. is_of types o ≡ true) own (having types 0 kinds) (having_has types 0 kinds)
    where
      own : (o : ℕ) → HasType types kinds 0 o → is_of types o ≡ true
      own o has =
          let at = has.is in
          let same : o ≡ has.place = omega (arith, at) in
          ap (is_of types) same ∙ has.typed

  -- a test that all bindings pass
  pub binding_passes : (test : List ℕ → Bool) (types : List (List ℕ)) (b os : List ℕ) → list_all test (bindings kinds types b) ≡ true → are_of types os ≡ true → test (b ++ os) ≡ true
  binding_passes test [] b [] all fit = ap test (append-nil b) ∙ (and_parts (test b) true all).0
  binding_passes test [] b (o ∷ os) all fit = absurd (false≢true fit)
  binding_passes test (types ∷ others) b [] all fit = absurd (false≢true fit)
  binding_passes test (types ∷ others) b (o ∷ os) all fit =
      let both = and_parts (is_of types o) (are_of others os) fit in
      let same : 0 + o ≡ o = omega arith in
      let here = ap (λ p. list_all test (bindings kinds others (b ++ p ∷ []))) (sym same) ∙ one_of test (λ o. bindings kinds others (b ++ o ∷ [])) types 0 kinds o all both.0 in
      ap test (sym (append_assoc b (o ∷ []) os)) ∙ binding_passes test others (b ++ o ∷ []) os here both.1

  over : (front : List (List ℕ)) (types : List ℕ) (others : List (List ℕ)) (b : List ℕ) → are_of front b ≡ true →
      ((c : List ℕ) → are_of (front ++ types ∷ []) c ≡ true → AllByRecursion (λ c. are_of ((front ++ types ∷ []) ++ others) c ≡ true) (bindings kinds others c)) →
      (os : List ℕ) → AllByRecursion (λ o. is_of types o ≡ true) os → AllByRecursion (λ c. are_of ((front ++ types ∷ []) ++ others) c ≡ true) (flat_map (λ o. bindings kinds others (b ++ o ∷ [])) os)
  over front types others b fit rest [] all = tt
  over front types others b fit rest (o ∷ os) all =
      let one : are_of (types ∷ []) (o ∷ []) ≡ true = and_from (is_of types o) true all.0 refl in
      all_append (λ c. are_of ((front ++ types ∷ []) ++ others) c ≡ true) (bindings kinds others (b ++ o ∷ [])) (flat_map (λ o. bindings kinds others (b ++ o ∷ [])) os)
      (rest (b ++ o ∷ []) (are_of-append front b (types ∷ []) (o ∷ []) fit one)) (over front types others b fit rest os all.1)

  -- each binding fits
  pub bindings_fit : (types : List (List ℕ)) (front : List (List ℕ)) (b : List ℕ) → are_of front b ≡ true → AllByRecursion (λ c. are_of (front ++ types) c ≡ true) (bindings kinds types b)
  bindings_fit [] front b fit = (ap (λ scope. are_of scope b) (append-nil front) ∙ fit, tt)
  bindings_fit (types ∷ others) front b fit =
      subst (λ scope. AllByRecursion (λ c. are_of scope c ≡ true) (flat_map (λ o. bindings kinds others (b ++ o ∷ [])) (having types 0 kinds))) (append_assoc front (types ∷ []) others)
      (over front types others b fit (λ c fits. bindings_fit others (front ++ types ∷ []) c fits) (having types 0 kinds) (have types))
