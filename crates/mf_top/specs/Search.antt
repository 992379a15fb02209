-- The step that searches for a plan of a task.
use Rattle.std.specs.Prelude.{◌≡◌, ℕ, ◌⊎◌, List, [], codes}
use Rattle.mf_model.specs.declared.task.TypedTask.{TypedTask}
use Rattle.mf_model.specs.declared.state.Instance.{Instance}
use Rattle.mf_model.specs.Plans.{IsPlan}
use Rattle.mf_search.specs.declared.status.Status.TheVariants as status
use Rattle.mf_plain.specs.declared.history.Searched.{Searched}
use Rattle.mf_plain.specs.PlainTask.{IsPlainTask}
use Rattle.mf_plain.specs.Searches.{IsSearched, IsTrace}
use Rattle.mf_top.specs.declared.decision.Decision.{Decision}
use Rattle.mf_top.specs.declared.search.Answer.{Answer}
use Rattle.mf_top.specs.Decision.{answers, refuses, out_of_memory, IsUnlessMemory}
use Rattle.mf_top.specs.Texts.{plan_text, budget_text}

-- a goal was taken, and these are the steps that lead to it: the kept instances by the makers
pub record FindsPlan (task : TypedTask) (searched : Searched) (text : List ℕ) : Type 0 where
  pub steps : List Instance
  pub plan : IsPlan task steps
  pub traced : IsTrace task searched steps
  pub text_is : text ≡ plan_text task steps

-- no list of steps is a plan
pub record FindsNone (task : TypedTask) (searched : Searched) : Type 0 where
  pub answered : searched.status ≡ status.NoPlan
  pub none : (steps : List Instance) → IsPlan task steps → ⊥

-- the status and the text of a search that returned
abbrev pub IsAnswer : TypedTask → ℕ → Searched → Answer → Type 0
IsAnswer task budget searched answer =
    ((answer.status ≡ 0) × FindsPlan task searched answer.text)
    ⊎ ((answer.status ≡ 1) × FindsNone task searched × (answer.text ≡ codes "no plan\n"))
    ⊎ ((answer.status ≡ 6) × (searched.status ≡ status.Budget) × (answer.text ≡ budget_text budget))

-- the search returned, and its answer decides, unless memory ran out for the text
pub record Answers (task : TypedTask) (budget : ℕ) (decision : Decision) : Type 0 where
  pub searched : Searched
  pub is_searched : IsSearched task budget searched
  pub said : (decision ≡ answers 8 [] searched.history)
      ⊎ ((answer : Answer) × IsAnswer task budget searched answer × (decision ≡ answers answer.status answer.text searched.history))

-- the task is searched; or it isn't plain, and refused
abbrev pub Searches : TypedTask → ℕ → Decision → Type 0
Searches task budget decision =
    (decision ≡ out_of_memory)
    ⊎ (IsPlainTask task × Answers task budget decision)
    ⊎ ((IsPlainTask task → ⊥) × IsUnlessMemory (refuses (codes "task: not built\n")) decision)
