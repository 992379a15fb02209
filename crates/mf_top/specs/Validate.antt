-- The command `validate`: what its three files decide, and what its calls keep.
use Rattle.std.specs.Prelude.{◌≡◌, ℕ, ◌≤◌, ◌⊎◌, Option, Some, Result, Ok, Err, List, [], ◌∷◌, length, All, Contains, codes}
use Rattle.mf_model.specs.declared.task.TypedTask.{TypedTask}
use Rattle.mf_model.specs.declared.state.Instance.{Instance}
use Rattle.mf_model.specs.Application.{instances_of}
use Rattle.mf_model.specs.States.{start_of}
use Rattle.mf_input.specs.Files.{IsTaskOfFiles}
use Rattle.mf_eval.specs.declared.fault.Why.{Why}
use Rattle.mf_validator.specs.declared.fault.JudgeFault.{JudgeFault}
use Rattle.mf_validator.specs.declared.fault.JudgeFault.TheVariants as judge
use Rattle.mf_validator.specs.declared.fault.PlanFault.{PlanFault}
use Rattle.mf_validator.specs.declared.verdict.Reported.{Reported}
use Rattle.mf_validator.specs.declared.verdict.Verdict.{Verdict}
use Rattle.mf_validator.specs.declared.verdict.Verdict.TheVariants as verdict
use Rattle.mf_validator.specs.PlanText.{plan_of}
use Rattle.mf_validator.specs.Validity.{Fails, IsValid, IsWideAt, MissesGoal, StopsAt}
use Rattle.mf_validator.specs.Verdicts.{verdict_of}
use Rattle.mf_top.specs.declared.decision.Decision.{Decision}
use Rattle.mf_top.specs.Call.{Call, Says, IsUnlessFault, LastLoadFails, IsFaultless}
use Rattle.mf_top.specs.Decision.{no_history, answers, refuses, out_of_memory, IsUnlessMemory, Then}
use Rattle.mf_top.specs.Loads.{AllFit, SomeIsTooLong, IsLengthRefusal}
use Rattle.mf_top.specs.Task.{ReadsTask, IsTaskRefusal}
use Rattle.mf_top.specs.Texts.{judgement_text, valid_text, step_fails_text, wide_text, plan_fault_text}

-- The steps

-- what a plan file writes: instances of the task, no more than the file has bytes
pub record IsPlanIn (source : List ℕ) (task : TypedTask) (plan : List Instance) : Type 0 where
  pub written : plan_of source task ≡ Ok plan
  pub instances : All (Contains (instances_of task)) plan
  pub few : length plan ≤ length source

-- the plan of a plan file, or its first line at fault
abbrev pub ReadsPlan : (name source : List ℕ) → TypedTask → Result (List Instance) Decision → Type 0
ReadsPlan name source task (Ok plan) = IsPlanIn source task plan
ReadsPlan name source task (Err decision) =
    (decision ≡ out_of_memory) ⊎ ((fault : PlanFault) × (plan_of source task ≡ Err fault) × (decision ≡ refuses (plan_fault_text name fault)))

abbrev pub judgement_status : Result Verdict JudgeFault → ℕ
judgement_status (Ok (verdict.Valid metric)) = 0
judgement_status (Ok (verdict.StepFails step why)) = 1
judgement_status (Ok verdict.GoalFails) = 1
judgement_status (Err (judge.Wide step)) = 7
judgement_status (Err judge.Memory) = 8

-- what judging a plan decides
abbrev pub judgement_of : Result Verdict JudgeFault → Decision
judgement_of result = answers (judgement_status result) (judgement_text result) no_history

abbrev pub Judges : TypedTask → List Instance → Decision → Type 0
Judges task plan decision = IsUnlessMemory (judgement_of (verdict_of task plan)) decision

-- the plan of a file is read, and then judged
abbrev pub JudgesSource : (name source : List ℕ) → TypedTask → Decision → Type 0
JudgesSource name source task = Then (ReadsPlan name source task) (Judges task)

-- the task of two files is read, and then the plan of the third
abbrev pub DecidesJudgement : (domain_name problem_name plan_name domain problem source : List ℕ) → Decision → Type 0
DecidesJudgement domain_name problem_name plan_name domain problem source =
    Then (ReadsTask domain_name problem_name domain problem) (JudgesSource plan_name source)

-- The input

-- the first two files have a task, and the third has this fault as a plan of it
pub record HasPlanFault (domain problem source : List ℕ) (fault : PlanFault) : Type 0 where
  pub task : TypedTask
  pub of_files : IsTaskOfFiles domain problem task
  pub first : plan_of source task ≡ Err fault

-- this text refuses the three files: for their lengths, or else for the first two, or else for the plan
abbrev pub IsFilesRefusal : (domain_name problem_name plan_name domain problem source text : List ℕ) → Type 0
IsFilesRefusal domain_name problem_name plan_name domain problem source text =
    IsLengthRefusal (domain_name ∷ problem_name ∷ plan_name ∷ []) (domain ∷ problem ∷ source ∷ []) text
    ⊎ (AllFit (domain ∷ problem ∷ source ∷ []) × IsTaskRefusal domain_name problem_name domain problem text)
    ⊎ (AllFit (domain ∷ problem ∷ source ∷ []) × ((fault : PlanFault) × HasPlanFault domain problem source fault × (text ≡ plan_fault_text plan_name fault)))

-- a file is longer than allowed, or the first two have no task, or the third writes no plan of it
abbrev pub AreRefusedFiles : (domain problem source : List ℕ) → Type 0
AreRefusedFiles domain problem source =
    SomeIsTooLong (domain ∷ problem ∷ source ∷ [])
    ⊎ ((task : TypedTask) → IsTaskOfFiles domain problem task → ⊥)
    ⊎ ((fault : PlanFault) × HasPlanFault domain problem source fault)

-- The judgement

-- the files have this task, and the plan file writes this plan of it
pub record WritesPlan (domain problem source : List ℕ) (task : TypedTask) (plan : List Instance) : Type 0 where
  pub allowed : AllFit (domain ∷ problem ∷ source ∷ [])
  pub of_files : IsTaskOfFiles domain problem task
  pub written : plan_of source task ≡ Ok plan

-- a step isn't applicable, or the goal doesn't hold after the last, and no value before that is too wide
abbrev pub IsInvalid : TypedTask → List Instance → Type 0
IsInvalid task plan = ((step : ℕ) × (why : Why) × StopsAt task (Fails task why) (start_of task) plan step) ⊎ MissesGoal task plan

abbrev pub IsValidFile : (domain problem source : List ℕ) → Type 0
IsValidFile domain problem source = (task : TypedTask) × (plan : List Instance) × (metric : Reported) × WritesPlan domain problem source task plan × IsValid task plan metric

abbrev pub IsInvalidFile : (domain problem source : List ℕ) → Type 0
IsInvalidFile domain problem source = (task : TypedTask) × (plan : List Instance) × WritesPlan domain problem source task plan × IsInvalid task plan

abbrev pub IsWideFile : (domain problem source : List ℕ) → Type 0
IsWideFile domain problem source = (task : TypedTask) × (plan : List Instance) × (step : ℕ) × WritesPlan domain problem source task plan × IsWideAt task plan step

-- the plan is valid, and its metric is written
pub record PrintsValid (domain problem source : List ℕ) (call : Call) : Type 0 where
  pub task : TypedTask
  pub plan : List Instance
  pub metric : Reported
  pub writes : WritesPlan domain problem source task plan
  pub valid : IsValid task plan metric
  pub printed : Says (valid_text metric) [] call

-- the first step that fails is written, or that the goal fails
abbrev pub SaysFailure : TypedTask → List Instance → Call → Type 0
SaysFailure task plan call =
    ((step : ℕ) × (why : Why) × StopsAt task (Fails task why) (start_of task) plan step × Says (step_fails_text step) [] call)
    ⊎ (MissesGoal task plan × Says (codes "goal fails\n") [] call)

pub record PrintsFailure (domain problem source : List ℕ) (call : Call) : Type 0 where
  pub task : TypedTask
  pub plan : List Instance
  pub writes : WritesPlan domain problem source task plan
  pub fails : SaysFailure task plan call

-- a value doesn't fit at this step, or after the last one, which is written
pub record PrintsWidth (domain problem source : List ℕ) (call : Call) : Type 0 where
  pub task : TypedTask
  pub plan : List Instance
  pub step : ℕ
  pub writes : WritesPlan domain problem source task plan
  pub wide : IsWideAt task plan step
  pub printed : Says (wide_text step) [] call

-- What the calls keep

-- of files with these bytes: what is printed of the plan is so, and it is printed wherever it is so
pub record JudgesFiles (domain_name problem_name plan_name domain problem source : List ℕ) (call : Call) : Type 0 where
  pub valid : call.status ≡ 0 → PrintsValid domain problem source call
  pub invalid : call.status ≡ 1 → PrintsFailure domain problem source call
  pub wide : call.status ≡ 7 → PrintsWidth domain problem source call
  pub refused : call.status ≡ 3 → AreRefusedFiles domain problem source
  pub refused_text : call.status ≡ 3 → (text : List ℕ) × IsFilesRefusal domain_name problem_name plan_name domain problem source text × Says [] text call
  pub refusal : (LastLoadFails (domain_name ∷ problem_name ∷ plan_name ∷ []) call → ⊥) → AreRefusedFiles domain problem source → IsUnlessFault 3 call.status
  pub is_valid : (LastLoadFails (domain_name ∷ problem_name ∷ plan_name ∷ []) call → ⊥) → IsValidFile domain problem source → IsUnlessFault 0 call.status
  pub is_invalid : (LastLoadFails (domain_name ∷ problem_name ∷ plan_name ∷ []) call → ⊥) → IsInvalidFile domain problem source → IsUnlessFault 1 call.status
  pub is_wide : (LastLoadFails (domain_name ∷ problem_name ∷ plan_name ∷ []) call → ⊥) → IsWideFile domain problem source → IsUnlessFault 7 call.status
  pub complete : IsFaultless (domain_name ∷ problem_name ∷ plan_name ∷ []) call → (AreRefusedFiles domain problem source → ⊥) →
      (call.status ≡ 0) ⊎ (call.status ≡ 1) ⊎ (call.status ≡ 7) ⊎ (call.status ≡ 8)

pub record Validates (domain_name problem_name plan_name : List ℕ) (call : Call) : Type 0 where
  pub searched_nothing : call.history ≡ no_history
  pub files : (domain problem source : List ℕ) → call.held domain_name ≡ Some domain → call.held problem_name ≡ Some problem → call.held plan_name ≡ Some source →
      JudgesFiles domain_name problem_name plan_name domain problem source call
