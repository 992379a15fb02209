-- Tables of the names of a task.
use Rattle.std.specs.Prelude.{◌≡◌, ℕ, List, [], ◌∷◌, length, Option, Result, Ok, Err, slice_get}
use Rattle.mf_model.specs.declared.state.Instance.{Instance}
use Rattle.mf_model.specs.declared.task.TypedTask.{TypedTask}
use Rattle.mf_model.specs.Options.{◌>>=◌}
use Rattle.mf_model.specs.Resolution.{number_of}
use Rattle.mf_validator.specs.declared.directory.Directory.{Directory}
use Rattle.mf_validator.specs.declared.directory.Lexicon.{Lexicon}
use Rattle.mf_validator.specs.declared.fault.PlanFault.{PlanFault}
use Rattle.mf_validator.specs.declared.fault.PlanFault.TheVariants as fault
use Rattle.mf_validator.specs.PlanText.{action_names, before, instance_of, object_names}

-- what a table has under a name
abbrev pub number_in : Directory → List ℕ → Option ℕ
number_in directory name = number_of directory.names name >>= slice_get directory.numbers.items

-- the table finds each of the names at its first place
pub record Lists (directory : Directory) (names : List (List ℕ)) : Type 0 where
  pub even : length directory.names ≡ length directory.numbers.items
  pub found : (name : List ℕ) → number_in directory name ≡ number_of names name

-- the tables have the names of the task
pub record Knows (lexicon : Lexicon) : Type 0 where
  pub actions : Lists lexicon.actions (action_names lexicon.task.now)
  pub objects : Lists lexicon.objects (object_names lexicon.task.now)

-- the step with these names, of which the first is its action's
abbrev pub named : TypedTask → ℕ → List (List ℕ) → Result Instance PlanFault
named task line [] = Err (fault.BadLine line)
named task line (action ∷ objects) = instance_of task line action objects

-- the steps were added to a plan
abbrev pub Adds : List Instance → Result (List Instance) PlanFault → List Instance → Result (Unit {0}) PlanFault → Type 0
Adds old steps new (Ok done) = before old steps ≡ Ok new
Adds old steps new (Err (fault.BadLine line)) = steps ≡ Err (fault.BadLine line)
Adds old steps new (Err (fault.UnknownAction line)) = steps ≡ Err (fault.UnknownAction line)
Adds old steps new (Err (fault.WrongArguments line)) = steps ≡ Err (fault.WrongArguments line)
Adds old steps new (Err fault.Memory) = Unit {0}
