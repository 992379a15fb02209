-- Sorted plain states.
use Rattle.std.specs.Prelude.{◌≡◌, Bool, true, List, [], ◌∷◌}
use Rattle.std.specs.Bool.{⊤}
use Rattle.std.specs.List.{AllByRecursion}
use Rattle.mf_model.specs.declared.state.PlainState.{PlainState}
use Rattle.mf_model.specs.States.{atom_before, cell_before}

-- each element comes before all that follow it
abbrev pub IsSortedList : {X : Type 0} → (X → X → Bool) → List X → Type 0
IsSortedList before [] = ⊤
IsSortedList before (x ∷ xs) = AllByRecursion (λ y. before x y ≡ true) xs × IsSortedList before xs

-- each atom comes before those that follow it, and each term with a value does
pub record IsSortedState (state : PlainState) : Type 0 where
  pub atoms : IsSortedList atom_before state.atoms
  pub values : IsSortedList cell_before state.values
