-- The plan that a plan file writes.
use Rattle.std.specs.Prelude.{◌≡◌, ℕ, ◌+◌, if◌then◌else◌, List, [], ◌∷◌, ◌++◌, map, Option, Some, None, Result, Ok, Err, slice_get}
use Rattle.std.specs.Char.{to_ascii_lowercase}
use Rattle.std.specs.List.{slice_index_or}
use Rattle.mf_model.specs.declared.state.Instance.{Instance}
use Rattle.mf_model.specs.declared.task.Action.{Action}
use Rattle.mf_model.specs.declared.task.TypedTask.{TypedTask}
use Rattle.mf_model.specs.Objects.{kinds_of, meets}
use Rattle.mf_model.specs.Options.{◌>>=◌}
use Rattle.mf_model.specs.Resolution.{number_of}
use Rattle.mf_validator.specs.declared.fault.PlanFault.{PlanFault}
use Rattle.mf_validator.specs.declared.fault.PlanFault.TheVariants as fault
use Rattle.mf_validator.specs.PlanLines.{Line, Blank, Step, Bad, line_of, lines_of}

abbrev pub action_names : TypedTask → List (List ℕ)
action_names task = map (λ action. action.name) task.actions

abbrev pub object_names : TypedTask → List (List ℕ)
object_names task = map (λ object. object.name) task.objects

-- the object, where it has one of the types
abbrev pub fitting : TypedTask → List ℕ → ℕ → Option ℕ
fitting task types object = if meets types (slice_index_or (kinds_of task) object []) then Some object else None

abbrev pub argument_of : TypedTask → List ℕ → List ℕ → Option ℕ
argument_of task types name = number_of (object_names task) name >>= fitting task types

-- an object for each parameter, and no more
abbrev pub arguments_of : TypedTask → List (List ℕ) → List (List ℕ) → Option (List ℕ)
arguments_of task [] [] = Some []
arguments_of task [] (name ∷ names) = None
arguments_of task (types ∷ parameters) [] = None
arguments_of task (types ∷ parameters) (name ∷ names) =
    argument_of task types name >>= λ object. arguments_of task parameters names >>= λ objects. Some (object ∷ objects)

abbrev pub parameters_of : Option Action → List (List ℕ)
parameters_of (Some action) = action.parameters
parameters_of None = []

abbrev pub with_arguments : ℕ → ℕ → Option (List ℕ) → Result Instance PlanFault
with_arguments line action (Some objects) = Ok (record { action = action; objects = objects })
with_arguments line action None = Err (fault.WrongArguments line)

abbrev pub by_action : TypedTask → ℕ → List (List ℕ) → Option ℕ → Result Instance PlanFault
by_action task line names (Some action) = with_arguments line action (arguments_of task (parameters_of (slice_get task.actions action)) names)
by_action task line names None = Err (fault.UnknownAction line)

-- the instance that a step of the line with this number names
abbrev pub instance_of : TypedTask → ℕ → List ℕ → List (List ℕ) → Result Instance PlanFault
instance_of task line action names = by_action task line names (number_of (action_names task) action)

abbrev pub alone : Result Instance PlanFault → Result (List Instance) PlanFault
alone (Ok step) = Ok (step ∷ [])
alone (Err reason) = Err reason

abbrev pub steps_of : TypedTask → ℕ → Line → Result (List Instance) PlanFault
steps_of task line Blank = Ok []
steps_of task line (Step action names) = alone (instance_of task line action names)
steps_of task line Bad = Err (fault.BadLine line)

abbrev pub before : List Instance → Result (List Instance) PlanFault → Result (List Instance) PlanFault
before steps (Ok others) = Ok (steps ++ others)
before steps (Err reason) = Err reason

abbrev pub joined : Result (List Instance) PlanFault → Result (List Instance) PlanFault → Result (List Instance) PlanFault
joined (Ok steps) others = before steps others
joined (Err reason) others = Err reason

-- the steps of the lines from this number on, in order; or the fault of the first line at fault
abbrev pub steps_from : TypedTask → ℕ → List (List ℕ) → Result (List Instance) PlanFault
steps_from task n [] = Ok []
steps_from task n (line ∷ lines) = joined (steps_of task n (line_of line)) (steps_from task (n + 1) lines)

-- case does not count
abbrev pub folded : List ℕ → List ℕ
folded source = map to_ascii_lowercase source

abbrev pub plan_of : List ℕ → TypedTask → Result (List Instance) PlanFault
plan_of source task = steps_from task 1 (lines_of (folded source))

-- what was read; want of memory may come in the place of any
abbrev pub Reads : {A : Type 0} → Result A PlanFault → Result A PlanFault → Type 0
Reads written (Ok value) = written ≡ Ok value
Reads written (Err (fault.BadLine line)) = written ≡ Err (fault.BadLine line)
Reads written (Err (fault.UnknownAction line)) = written ≡ Err (fault.UnknownAction line)
Reads written (Err (fault.WrongArguments line)) = written ≡ Err (fault.WrongArguments line)
Reads written (Err fault.Memory) = Unit {0}
