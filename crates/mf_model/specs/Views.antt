-- What conditions, expressions and effects see of a state.
use Rattle.std.specs.Prelude.{ℕ, Bool, List, map, Option}
use Rattle.std.specs.List.{slice_index_or}
use Rattle.mf_fraction.specs.Exact.{Number}
use Rattle.mf_model.specs.declared.task.Term.{Term}
use Rattle.mf_model.specs.declared.task.Term.TheVariants.{Variable, Object}

-- a state as conditions and effects see it: which atoms are true, the values of the defined function terms,
-- and the number of steps so far, which a metric may read
pub record Look : Type 0 where
  pub atom : ℕ → List ℕ → Bool
  pub value : ℕ → List ℕ → Option Number
  pub steps : ℕ

-- the object that a term stands for: a variable is a place in the binding
abbrev pub object_of : List ℕ → Term → ℕ
object_of binding (Variable place) = slice_index_or binding place 0
object_of binding (Object number) = number

abbrev pub objects_of : List ℕ → List Term → List ℕ
objects_of binding terms = map (object_of binding) terms
