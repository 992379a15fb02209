-- States and rows that show the same.
use Rattle.std.specs.Prelude.{◌≡◌, ℕ, true, false, List, IfSome}
use Rattle.mf_fraction.specs.Exact.{Proper}
use Rattle.mf_model.specs.Functions.{is_constant, is_cost, is_static}
use Rattle.mf_model.specs.States.{look_of, start_of, value_at}
use Rattle.mf_model.specs.Views.{Look}
use Rattle.mf_task.specs.Grounding.{Numbering, atom_number, term_number}
use Rattle.mf_task.specs.Rows.{Sight}

-- A look at a typed state and a sight of a row that show the same.
pub record Shows (numbering : Numbering) (look : Look) (sight : Sight) : Type 0 where
  pub static_atom : (predicate : ℕ) (objects : List ℕ) → is_static numbering.task predicate ≡ true → look.atom predicate objects ≡ (look_of (start_of numbering.task)).atom predicate objects
  pub fluent_atom : (predicate : ℕ) (objects : List ℕ) → is_static numbering.task predicate ≡ false → look.atom predicate objects ≡ sight.bit (atom_number numbering.atoms predicate objects)
  pub constant : (function : ℕ) (objects : List ℕ) → is_constant numbering.task function ≡ true → look.value function objects ≡ value_at (start_of numbering.task).values function objects
  pub changing : (function : ℕ) (objects : List ℕ) → is_constant numbering.task function ≡ false → is_cost numbering.task function ≡ false → look.value function objects ≡ sight.value (term_number numbering.terms function objects)
  pub look_lowest : (function : ℕ) (objects : List ℕ) → IfSome (look.value function objects) Proper
  pub sight_lowest : (term : ℕ) → IfSome (sight.value term) Proper
