-- How many bindings there are does not depend on the binding that they go on from.
use Rattle.std.proofs.Common.{◌≡◌, refl, sym, ◌∙◌, ℕ, ◌*◌, List, [], ◌∷◌, ◌++◌, length, length-append, arith}
use Rattle.std.specs.List.{flat_map}
use Rattle.mf_model.specs.Objects.{bindings, having}
use Rattle.mf_ground.specs.Nodes.{ways}

flat_size : (f : ℕ → List (List ℕ)) (n : ℕ) (os : List ℕ) → ((o : ℕ) → length (f o) ≡ n) → length (flat_map f os) ≡ length os * n
flat_size f n [] each = omega arith
flat_size f n (o ∷ os) each =
    let here = each o in
    let rest = flat_size f n os each in
    let joined = length-append (f o) (flat_map f os) in
    omega arith

module _ (objects : List (List ℕ)) where
  more : (types : List ℕ) (others : List (List ℕ)) → ((b : List ℕ) → length (bindings objects others b) ≡ ways objects others) → (b : List ℕ) → length (bindings objects (types ∷ others) b) ≡ length (having types 0 objects) * ways objects others
  more types others each b =
      flat_size (λ o. bindings objects others (b ++ o ∷ [])) (ways objects others) (having types 0 objects) (λ o. each (b ++ o ∷ []))

  pub bindings_from : (types : List (List ℕ)) (b : List ℕ) → length (bindings objects types b) ≡ ways objects types
  bindings_from [] b = refl
  bindings_from (types ∷ others) b = more types others (bindings_from others) b ∙ sym (more types others (bindings_from others) [])

  pub ways_more : (types : List ℕ) (others : List (List ℕ)) → ways objects (types ∷ others) ≡ length (having types 0 objects) * ways objects others
  ways_more types others = more types others (bindings_from others) []
