-- Tests of the elements of lists: whether one passes, and the place of the first that does.
use Rattle.std.proofs.Common.{◌≡◌, ℕ, zero, suc, ◌+◌, ◌<◌, Bool, true, false, not, ◌&&◌, ◌||◌, cond, List, [], ◌∷◌, ◌++◌, length, Some, refl, sym, ap, ◌∙◌, arith}
use Rattle.std.specs.Prelude.{slice_get, Contains}
use Rattle.std.specs.List.{AllByRecursion, filter, flat_map, list_any, position, position_or_len, slice_index_or}
use Rattle.std.proofs.lemmas.Bool.{false≢true, le-ltb, lt-ltb, or_parts}
use Rattle.std.proofs.lemmas.List.Folds.{list_any-append}
use Rattle.mf_meaning.specs.SortedStates.{IsSortedList}
use Rattle.mf_task.specs.Grounding.{place_or_end}

-- any list

pub none_passes : {X : Type 0} (t : X → Bool) (xs : List X) → AllByRecursion (λ x. t x ≡ false) xs → list_any t xs ≡ false
none_passes t [] all = refl
none_passes t (x ∷ xs) all = rw all.0 (none_passes t xs all.1)

pub all_fail : {X : Type 0} (t : X → Bool) (xs : List X) → list_any t xs ≡ false → AllByRecursion (λ x. t x ≡ false) xs
all_fail t [] none = tt
all_fail t (x ∷ xs) none =
    let both = or_parts (t x) (list_any t xs) none in
    (both.0, all_fail t xs both.1)

-- where the filter answers the same at all that pass
pub any_filtered : {X : Type 0} (t test : X → Bool) (b : Bool) → ((x : X) → t x ≡ true → test x ≡ b) → (xs : List X) → list_any t (filter test xs) ≡ (b && list_any t xs)
any_filtered t test true is [] = refl
any_filtered t test false is [] = refl
any_filtered {X} t test b is (x ∷ xs) = by (any_filtered t test b is xs) (t x) (test x) refl refl
  where
    skip : (c : Bool) → c ≡ false → (b && list_any t xs) ≡ (b && (c || list_any t xs))
    skip c e = rw e refl

    by : (list_any t (filter test xs) ≡ (b && list_any t xs)) → (here kept : Bool) → t x ≡ here → test x ≡ kept → list_any t (cond kept (x ∷ filter test xs) (filter test xs)) ≡ (b && (t x || list_any t xs))
    by rest true true h k =
        let own : b ≡ true = sym (is x h) ∙ k in
        rw (h, own) refl
    by rest true false h k =
        let own : b ≡ false = sym (is x h) ∙ k in
        rest ∙ rw own refl
    by rest false true h k = ap (λ (c : Bool). c || list_any t (filter test xs)) h ∙ rest ∙ skip (t x) h
    by rest false false h k = rest ∙ skip (t x) h

pub any_joined : {X Y : Type 0} (t : Y → Bool) (f : X → List Y) (xs : List X) (x : X) → Contains xs x → list_any t (f x) ≡ true → list_any t (flat_map f xs) ≡ true
any_joined t f [] x in_list passes = absurd (omega (arith, in_list.1))
any_joined {X} t f (y ∷ ys) x in_list passes = list_any-append t (f y) (flat_map f ys) ∙ at (λ later. any_joined t f ys x later passes) in_list.0 in_list.1 in_list.2
  where
    or_true : (b c : Bool) → c ≡ true → (b || c) ≡ true
    or_true true c e = refl
    or_true false c e = e

    at : (Contains ys x → list_any t (flat_map f ys) ≡ true) → (k : ℕ) → k < length (y ∷ ys) → slice_index_or (y ∷ ys) k x ≡ x → (list_any t (f y) || list_any t (flat_map f ys)) ≡ true
    at rest zero lt is = rw (ap (λ (z : X). list_any t (f z)) is ∙ passes) refl
    at rest (suc k) lt is = or_true (list_any t (f y)) (list_any t (flat_map f ys)) (rest (k, omega arith, is))

pub any_front : {X : Type 0} (t : X → Bool) (xs ys : List X) → list_any t xs ≡ true → list_any t (xs ++ ys) ≡ true
any_front t xs ys passes = list_any-append t xs ys ∙ rw passes refl

pub any_back : {X : Type 0} (t : X → Bool) (xs ys : List X) → list_any t ys ≡ true → list_any t (xs ++ ys) ≡ true
any_back t xs ys passes = list_any-append t xs ys ∙ by (list_any t xs)
  where
    by : (b : Bool) → (b || list_any t ys) ≡ true
    by true = refl
    by false = passes

-- places

pub place_past : {X : Type 0} (t : X → Bool) (xs : List X) → list_any t xs ≡ false → position_or_len t xs ≡ length xs
place_past t [] none = refl
place_past {X} t (x ∷ xs) none =
    let all = all_fail t (x ∷ xs) none in
    rw all.0 (ap (λ (n : ℕ). 1 + n) (place_past t xs (none_passes t xs all.1)) ∙ omega arith)

pub place_within : {X : Type 0} (t : X → Bool) (xs : List X) → list_any t xs ≡ true → position_or_len t xs < length xs
place_within t [] some = absurd (false≢true some)
place_within {X} t (x ∷ xs) some = by (λ later. place_within t xs later) (t x) some
  where
    by : (list_any t xs ≡ true → position_or_len t xs < length xs) → (b : Bool) → (b || list_any t xs) ≡ true → cond (not b) (1 + position_or_len t xs) 0 < length (x ∷ xs)
    by rest true e = omega arith
    by rest false e = omega (arith, rest e)

pub place_is : {X : Type 0} (t : X → Bool) (xs : List X) → place_or_end (position t xs) (length xs) ≡ position_or_len t xs
place_is {X} t xs = by (list_any t xs) refl
  where
    by : (b : Bool) → list_any t xs ≡ b → place_or_end (position t xs) (length xs) ≡ position_or_len t xs
    by true e = rw (lt-ltb (position_or_len t xs) (length xs) (place_within t xs e)) refl
    by false e =
        let past = place_past t xs e in
        rw (le-ltb (position_or_len t xs) (length xs) (omega (arith, past))) (sym past)

pub position_of : {X : Type 0} (t : X → Bool) (xs : List X) → list_any t xs ≡ true → position t xs ≡ Some (position_or_len t xs)
position_of t xs some = rw (lt-ltb (position_or_len t xs) (length xs) (place_within t xs some)) refl

-- sorted lists: a test that nothing passes that comes after an element that does

module _ {X : Type 0} (before : X → X → Bool) (t : X → Bool) (apart : (x y : X) → t x ≡ true → before x y ≡ true → t y ≡ false) where
  pub none_later : (x : X) (ys : List X) → t x ≡ true → AllByRecursion (λ y. before x y ≡ true) ys → AllByRecursion (λ y. t y ≡ false) ys
  none_later x [] passes all = tt
  none_later x (y ∷ ys) passes all = (apart x y passes all.0, none_later x ys passes all.1)

-- the place of an element of a sorted list
module _ {X : Type 0} (before same : X → X → Bool) (self : (x : X) → same x x ≡ true) (back : (x y : X) → before x y ≡ true → same y x ≡ false) where
  earlier : (xs : List X) (y x : X) (n : ℕ) → AllByRecursion (λ z. before y z ≡ true) xs → slice_get xs n ≡ Some x → same x y ≡ false
  earlier [] y x n all found = cc
  earlier (z ∷ zs) y x zero all found =
      let is : z ≡ x = cc in
      ap (λ (w : X). same w y) (sym is) ∙ back y z all.0
  earlier (z ∷ zs) y x (suc n) all found = earlier zs y x n all.1 found

  pub any_at_place : (xs : List X) (n : ℕ) (x : X) → slice_get xs n ≡ Some x → list_any (same x) xs ≡ true
  any_at_place [] n x found = cc
  any_at_place (y ∷ ys) zero x found =
      let is : y ≡ x = cc in
      rw (ap (same x) is ∙ self x) refl
  any_at_place (y ∷ ys) (suc n) x found = by (any_at_place ys n x found) (same x y)
    where
      by : list_any (same x) ys ≡ true → (b : Bool) → (b || list_any (same x) ys) ≡ true
      by rest true = refl
      by rest false = rest

  pub place_at_place : (xs : List X) (n : ℕ) (x : X) → IsSortedList before xs → slice_get xs n ≡ Some x → position_or_len (same x) xs ≡ n
  place_at_place [] n x sorted found = cc
  place_at_place (y ∷ ys) zero x sorted found =
      let is : y ≡ x = cc in
      rw (ap (same x) is ∙ self x) refl
  place_at_place (y ∷ ys) (suc n) x sorted found = rw (earlier ys y x n sorted.0 found) (ap (λ (m : ℕ). 1 + m) (place_at_place ys n x sorted.1 found) ∙ (omega arith))
