-- What stands in a list: by cases on the list, and in the list of a function's results.
use Rattle.std.proofs.Common.{◌≡◌, ℕ, zero, suc, ◌<◌, ◌⊎◌, List, [], ◌∷◌, Contains, length, get_or, map, refl, inl, inr, ⊎_elim, subst, arith}

pub not_in_nil : {X : Type 0} (x : X) → Contains [] x → ⊥
not_in_nil x c = let h = c.1 in omega arith

pub in_cons : {X : Type 0} (y : X) (ys : List X) (x : X) → Contains (y ∷ ys) x → (y ≡ x) ⊎ Contains ys x
in_cons {X} y ys x c = go c.0 c.1 c.2
  where
    go : (k : ℕ) → k < length (y ∷ ys) → get_or (y ∷ ys) k x ≡ x → (y ≡ x) ⊎ Contains ys x
    go zero h e = inl e
    go (suc k) h e = inr (k, omega arith, e)

pub in_first : {X : Type 0} (y : X) (ys : List X) → Contains (y ∷ ys) y
in_first y ys = (0, omega arith, refl)

pub in_later : {X : Type 0} (y : X) (ys : List X) (x : X) → Contains ys x → Contains (y ∷ ys) x
in_later y ys x c = (suc c.0, (let h = c.1 in omega arith), c.2)

pub in_map : {X Y : Type 0} (f : X → Y) (xs : List X) (x : X) → Contains xs x → Contains (map f xs) (f x)
in_map f [] x c = absurd (not_in_nil x c)
in_map f (z ∷ xs) x c =
    ⊎_elim
    (λ (e : z ≡ x). subst (λ t. Contains (f z ∷ map f xs) (f t)) e (in_first (f z) (map f xs)))
    (λ h. in_later (f z) (map f xs) (f x) (in_map f xs x h))
    (in_cons z xs x c)

pub from_map : {X Y : Type 0} (f : X → Y) (xs : List X) (y : Y) → Contains (map f xs) y → (x : X) × Contains xs x × (f x ≡ y)
from_map f [] y c = absurd (not_in_nil y c)
from_map f (z ∷ xs) y c =
    ⊎_elim
    (λ (e : f z ≡ y). (z, in_first z xs, e))
    (λ h. let r = from_map f xs y h in (r.0, in_later z xs r.0 r.1, r.2))
    (in_cons (f z) (map f xs) y c)
