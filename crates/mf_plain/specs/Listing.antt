-- Argument lists over all objects, one place at a time.
use Rattle.std.specs.Prelude.{ℕ, zero, suc, ◌+◌, List, [], ◌∷◌, ◌++◌, map}
use Rattle.std.specs.List.{flat_map}
use Rattle.mf_model.specs.declared.state.Instance.{Instance}

-- so many numbers from n on
abbrev pub numbers_from : ℕ → ℕ → List ℕ
numbers_from n zero = []
numbers_from n (suc count) = n ∷ numbers_from (n + 1) count

-- a list of objects with one more object, in every way
abbrev pub with_next : List ℕ → List ℕ → List (List ℕ)
with_next objects front = map (λ o. front ++ o ∷ []) objects

-- each of the lists with one more of the objects, in every way
abbrev pub extended : List ℕ → List (List ℕ) → List (List ℕ)
extended objects fronts = flat_map (with_next objects) fronts

-- the instances of one action
abbrev pub of_action : ℕ → List (List ℕ) → List Instance
of_action action fronts = map (λ arguments. record { action = action; objects = arguments }) fronts
