-- What is left of a list at a step of a loop.
use Rattle.std.proofs.Common.{◌≡◌, ℕ, ◌+◌, ◌<◌, Bool, true, false, ◌&&◌, ◌||◌, List, ◌∷◌, length, get_or, drop, ap, sym, ◌∙◌}
use Rattle.std.specs.List.{list_all, list_any}
use Rattle.std.proofs.lemmas.List.{drop_more}

pub front_is : {X : Type 0} (xs : List X) (i : ℕ) (x : X) → i < length xs → x ≡ get_or xs i x → drop i xs ≡ x ∷ drop (i + 1) xs
front_is xs i x within is = drop_more xs i x within ∙ ap (λ y. y ∷ drop (i + 1) xs) (sym is)

right_none : (a b : Bool) → (a || b) ≡ false → b ≡ false
right_none true b e = cc
right_none false b e = e

right_all : (a b : Bool) → (a && b) ≡ true → b ≡ true
right_all true b e = e
right_all false b e = cc

module _ {X : Type 0} (p : X → Bool) (xs : List X) (i : ℕ) (x : X) (front : drop i xs ≡ x ∷ drop (i + 1) xs) where
  pub any_next : list_any p (drop i xs) ≡ false → list_any p (drop (i + 1) xs) ≡ false
  any_next e = right_none (p x) (list_any p (drop (i + 1) xs)) (sym (ap (list_any p) front) ∙ e)

  pub all_next : list_all p (drop i xs) ≡ true → list_all p (drop (i + 1) xs) ≡ true
  all_next e = right_all (p x) (list_all p (drop (i + 1) xs)) (sym (ap (list_all p) front) ∙ e)
