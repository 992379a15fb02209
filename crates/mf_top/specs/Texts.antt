-- The texts that calls write.
use Rattle.std.specs.Prelude.{ℕ, List, [], ◌++◌, length, codes, slice_get, Result, Ok, Err}
use Rattle.std.specs.List.{flat_map}
use Rattle.std.specs.Option.{option_map_or}
use Rattle.std.specs.Fmt.{decimal}
use Rattle.mf_model.specs.declared.task.Object.{Object}
use Rattle.mf_model.specs.declared.task.Action.{Action}
use Rattle.mf_model.specs.declared.task.TypedTask.{TypedTask}
use Rattle.mf_model.specs.declared.state.Instance.{Instance}
use Rattle.mf_input.specs.declared.refusal.Refusal.{Refusal}
use Rattle.mf_input.specs.declared.refusal.RefusalKind.{RefusalKind}
use Rattle.mf_input.specs.declared.refusal.RefusalKind.TheVariants.{BadByte, WordTooLong, Unbalanced, TooDeep, UnknownRequirement, LeftOut, BadForm, DeclaredTwice, TypeCycle, UnknownName, WrongCount, WrongType, TooMany, WideNumber, NotLinear}
use Rattle.mf_fraction.specs.Text.{text_of}
use Rattle.mf_validator.specs.declared.fault.JudgeFault.{JudgeFault}
use Rattle.mf_validator.specs.declared.fault.JudgeFault.TheVariants as judge
use Rattle.mf_validator.specs.declared.fault.PlanFault.{PlanFault}
use Rattle.mf_validator.specs.declared.fault.PlanFault.TheVariants as fault
use Rattle.mf_validator.specs.declared.verdict.Reported.{Reported}
use Rattle.mf_validator.specs.declared.verdict.Reported.TheVariants as reported
use Rattle.mf_validator.specs.declared.verdict.Verdict.{Verdict}
use Rattle.mf_validator.specs.declared.verdict.Verdict.TheVariants as verdict

abbrev pub object_name : List Object → ℕ → List ℕ
object_name objects number = option_map_or (λ object. object.name) (slice_get objects number) []

abbrev pub action_name : List Action → ℕ → List ℕ
action_name actions number = option_map_or (λ action. action.name) (slice_get actions number) []

-- a blank and the object's name
abbrev pub object_text : List Object → ℕ → List ℕ
object_text objects number = codes " " ++ object_name objects number

-- a line `(name object ..)`
abbrev pub step_text : TypedTask → Instance → List ℕ
step_text task step = codes "(" ++ action_name task.actions step.action ++ flat_map (object_text task.objects) step.objects ++ codes ")\n"

-- a line per step, and then `; steps N`
abbrev pub plan_text : TypedTask → List Instance → List ℕ
plan_text task steps = flat_map (step_text task) steps ++ codes "; steps " ++ decimal (length steps) ++ codes "\n"

-- a line per instance, and then `; instances N, nodes M`
abbrev pub instances_text : TypedTask → List Instance → ℕ → List ℕ
instances_text task instances nodes =
    flat_map (step_text task) instances ++ codes "; instances " ++ decimal (length instances) ++ codes ", nodes " ++ decimal nodes ++ codes "\n"

abbrev pub budget_text : ℕ → List ℕ
budget_text expansions = codes "budget reached after " ++ decimal expansions ++ codes " expansions\n"

-- the metric's text comes after that of a valid plan
abbrev pub valid_text : Reported → List ℕ
valid_text reported.Absent = codes "valid\n"
valid_text reported.Undefined = codes "valid, metric undefined\n"
valid_text (reported.Value number) = codes "valid, metric " ++ text_of number ++ codes "\n"

abbrev pub step_fails_text : ℕ → List ℕ
step_fails_text step = codes "step " ++ decimal step ++ codes " fails\n"

abbrev pub verdict_text : Verdict → List ℕ
verdict_text (verdict.Valid metric) = valid_text metric
verdict_text (verdict.StepFails step why) = step_fails_text step
verdict_text verdict.GoalFails = codes "goal fails\n"

abbrev pub wide_text : ℕ → List ℕ
wide_text step = codes "width: step " ++ decimal step ++ codes "\n"

-- the text of what judging a plan gives
abbrev pub judgement_text : Result Verdict JudgeFault → List ℕ
judgement_text (Ok verdict) = verdict_text verdict
judgement_text (Err (judge.Wide step)) = wide_text step
judgement_text (Err judge.Memory) = []

abbrev pub kind_text : RefusalKind → List ℕ
kind_text BadByte = codes "bad byte"
kind_text WordTooLong = codes "word too long"
kind_text Unbalanced = codes "unbalanced"
kind_text TooDeep = codes "too deep"
kind_text UnknownRequirement = codes "unknown requirement"
kind_text LeftOut = codes "left out"
kind_text BadForm = codes "bad form"
kind_text DeclaredTwice = codes "declared twice"
kind_text TypeCycle = codes "type cycle"
kind_text UnknownName = codes "unknown name"
kind_text WrongCount = codes "wrong count"
kind_text WrongType = codes "wrong type"
kind_text TooMany = codes "too many"
kind_text WideNumber = codes "wide number"
kind_text NotLinear = codes "not linear"

-- a line `NAME:AT: KIND`
abbrev pub place_text : (name : List ℕ) → ℕ → (kind : List ℕ) → List ℕ
place_text name at kind = name ++ codes ":" ++ decimal at ++ codes ": " ++ kind ++ codes "\n"

abbrev pub refusal_text : List ℕ → Refusal → List ℕ
refusal_text name refusal = place_text name refusal.at (kind_text refusal.kind)

-- the line of a plan file at fault
abbrev pub plan_fault_text : List ℕ → PlanFault → List ℕ
plan_fault_text name (fault.BadLine line) = place_text name line (codes "bad line")
plan_fault_text name (fault.UnknownAction line) = place_text name line (codes "unknown action")
plan_fault_text name (fault.WrongArguments line) = place_text name line (codes "wrong arguments")
plan_fault_text name fault.Memory = []

abbrev pub unread_text : List ℕ → List ℕ
unread_text name = codes "cannot read " ++ name ++ codes "\n"

abbrev pub too_long_text : List ℕ → List ℕ
too_long_text name = name ++ codes ": longer than 16777216 bytes\n"
