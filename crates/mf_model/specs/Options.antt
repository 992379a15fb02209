-- Readings that may give nothing.
use Rattle.std.specs.Prelude.{Option, Some, None, List, [], ◌∷◌}

infixl 10 ◌>>=◌
abbrev pub ◌>>=◌ : {A B : Type 0} → Option A → (A → Option B) → Option B
None >>= f = None
(Some x) >>= f = f x

-- a value for each item
abbrev pub each : {A B : Type 0} → (A → Option B) → List A → Option (List B)
each f [] = Some []
each f (x ∷ xs) = f x >>= (λ y. each f xs >>= (λ ys. Some (y ∷ ys)))

-- each of several readings
abbrev pub all_some : {A : Type 0} → List (Option A) → Option (List A)
all_some [] = Some []
all_some (x ∷ xs) = x >>= (λ y. all_some xs >>= (λ ys. Some (y ∷ ys)))
