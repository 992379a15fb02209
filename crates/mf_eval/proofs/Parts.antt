-- The parts of a node, each under one binding.
use Rattle.std.proofs.Common.{◌≡◌, ℕ, Bool, ◌||◌, List, [], ◌∷◌, ◌++◌, map, refl, ap}
use Rattle.std.specs.List.{list_any, flat_map}

pub fused : {P E A : Type 0} (first : P → E) (f : E → List ℕ → A) (b : List ℕ) (ps : List P) → map (λ part. part b) (map f (map first ps)) ≡ map (λ p. f (first p) b) ps
fused first f b [] = refl
fused first f b (p ∷ ps) = ap (λ l. f (first p) b ∷ l) (fused first f b ps)

pub fused_any : {P E : Type 0} (first : P → E) (f : E → List ℕ → Bool) (b : List ℕ) (ps : List P) → list_any (λ part. part b) (map f (map first ps)) ≡ list_any (λ p. f (first p) b) ps
fused_any first f b [] = refl
fused_any first f b (p ∷ ps) = ap (λ (x : Bool). f (first p) b || x) (fused_any first f b ps)

pub fused_flat : {P E A : Type 0} (first : P → E) (f : E → List ℕ → List A) (b : List ℕ) (ps : List P) → flat_map (λ part. part b) (map f (map first ps)) ≡ flat_map (λ p. f (first p) b) ps
fused_flat first f b [] = refl
fused_flat first f b (p ∷ ps) = ap (λ l. f (first p) b ++ l) (fused_flat first f b ps)
