-- Lists of numbers compared from their fronts.
use Rattle.std.proofs.Common.{◌≡◌, ℕ, ◌+◌, ◌<◌, ◌≤◌, ◌&&◌, false, nat_eq, List, [], length, get_or, drop, refl, sym, ap, ◌∙◌, ⊎_elim, arith}
use Rattle.std.proofs.lemmas.Bool.{cases_lt, eq-eqb, ne_eqb}
use Rattle.std.proofs.lemmas.Bool.{and_left}
use Rattle.std.proofs.lemmas.List.{drop_more, drop_all, get_or-map, length-map}
use Rattle.mf_model.specs.declared.task.Term.{Term}
use Rattle.mf_model.specs.Views.{object_of, objects_of}
use Rattle.mf_model.specs.States.{same_numbers}

pub same_step : (xs ys : List ℕ) (i : ℕ) → i < length xs → i < length ys → same_numbers (drop i xs) (drop i ys) ≡ (nat_eq (get_or xs i 0) (get_or ys i 0) && same_numbers (drop (i + 1) xs) (drop (i + 1) ys))
same_step xs ys i h k = rw (drop_more xs i 0 h, drop_more ys i 0 k) refl

pub same_short : (xs ys : List ℕ) (i : ℕ) → i < length xs → length ys ≤ i → same_numbers (drop i xs) (drop i ys) ≡ false
same_short xs ys i h k = rw (drop_more xs i 0 h, drop_all i ys k) refl

pub same_end : (xs ys : List ℕ) (i : ℕ) → length xs ≤ i → i ≤ length ys → same_numbers (drop i xs) (drop i ys) ≡ nat_eq i (length ys)
same_end xs ys i h k = rw (drop_all i xs h) (⊎_elim more none (cases_lt i (length ys)))
  where
    more : i < length ys → same_numbers [] (drop i ys) ≡ nat_eq i (length ys)
    more l = rw (drop_more ys i 0 l, ne_eqb i (length ys) (λ e. omega arith)) refl

    none : length ys ≤ i → same_numbers [] (drop i ys) ≡ nat_eq i (length ys)
    none l = rw (drop_all i ys l, eq-eqb i (length ys) (omega arith)) refl

-- The same at the end of the first list.
pub same_all : (xs ys : List ℕ) (i : ℕ) → length xs ≡ i → i ≤ length ys → nat_eq (length xs) (length ys) ≡ same_numbers (drop i xs) (drop i ys)
same_all xs ys i h k = ap (λ n. nat_eq n (length ys)) h ∙ sym (same_end xs ys i (omega arith) k)

-- Terms against objects: x is what the term at i stands for.
pub terms_differ : (b : List ℕ) (ts : List Term) (os : List ℕ) (i : ℕ) (d : Term) (x : ℕ) → i < length ts → i < length os → x ≡ object_of b (get_or ts i d) → (x ≡ get_or os i 0 → ⊥) → same_numbers (drop i (objects_of b ts)) (drop i os) ≡ false
terms_differ b ts os i d x h k e ne =
    let l : i < length (objects_of b ts) = rw (length-map ts (object_of b)) h in
    same_step (objects_of b ts) os i l k ∙ and_left _ _ (ne_eqb _ _ (λ q. ne (e ∙ sym (get_or-map (object_of b) ts i d 0 h) ∙ q)))

pub terms_agree : (b : List ℕ) (ts : List Term) (os : List ℕ) (i : ℕ) (d : Term) (x : ℕ) → i < length ts → i < length os → x ≡ object_of b (get_or ts i d) → x ≡ get_or os i 0 → same_numbers (drop (i + 1) (objects_of b ts)) (drop (i + 1) os) ≡ same_numbers (drop i (objects_of b ts)) (drop i os)
terms_agree b ts os i d x h k e q =
    let l : i < length (objects_of b ts) = rw (length-map ts (object_of b)) h in
    sym (same_step (objects_of b ts) os i l k ∙ ap (λ t. t && same_numbers (drop (i + 1) (objects_of b ts)) (drop (i + 1) os)) (eq-eqb _ _ (get_or-map (object_of b) ts i d 0 h ∙ sym e ∙ q)))

pub terms_short : (b : List ℕ) (ts : List Term) (os : List ℕ) (i : ℕ) → i < length ts → length os ≤ i → same_numbers (drop i (objects_of b ts)) (drop i os) ≡ false
terms_short b ts os i h k = same_short (objects_of b ts) os i (rw (length-map ts (object_of b)) h) k

pub terms_all : (b : List ℕ) (ts : List Term) (os : List ℕ) (i : ℕ) → length ts ≡ i → i ≤ length os → nat_eq (length ts) (length os) ≡ same_numbers (drop i (objects_of b ts)) (drop i os)
terms_all b ts os i h k = ap (λ n. nat_eq n (length os)) (sym (length-map ts (object_of b))) ∙ same_all (objects_of b ts) os i (length-map ts (object_of b) ∙ h) k
