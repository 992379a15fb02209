-- The value of a state by goal counting: how many conjuncts of the goal don't hold there.
use Rattle.std.specs.Prelude.{ℕ, not, List, [], ◌∷◌}
use Rattle.std.specs.List.{flat_map, count_by}
use Rattle.mf_model.specs.declared.task.Cond.{Cond, fold-Cond}
use Rattle.mf_model.specs.declared.task.Cond.TheOpen.{Cond-F}
use Rattle.mf_model.specs.declared.task.Cond.TheFolds.{map-Cond}
use Rattle.mf_model.specs.declared.task.TypedTask.{TypedTask}
use Rattle.mf_model.specs.declared.truth.Truth.{Truth}
use Rattle.mf_model.specs.declared.state.PlainState.{PlainState}
use Rattle.mf_model.specs.Meaning.{all_of, holds_step, is_yes}
use Rattle.mf_model.specs.Objects.{kinds_of}
use Rattle.mf_model.specs.States.{look_of}
use Rattle.mf_model.specs.Views.{Look}

-- what each top-level conjunct of a condition is, with nested `and` flattened
abbrev pub conjuncts_step : List (List ℕ) → Look → Cond-F (List ℕ → List Truth) → List ℕ → List Truth
conjuncts_step objects look (Cond-F.And parts) b = flat_map (λ part. part b) parts
conjuncts_step objects look layer b = holds_step objects look (map-Cond (List ℕ → List Truth) (List ℕ → Truth) (λ part binding. all_of (part binding)) layer) b ∷ []

abbrev pub conjuncts_in : List (List ℕ) → Look → Cond → List ℕ → List Truth
conjuncts_in objects look = fold-Cond (List ℕ → List Truth) (conjuncts_step objects look)

-- the number of conjuncts of the goal that don't hold in the state
abbrev pub goal_count : TypedTask → PlainState → ℕ
goal_count task state = count_by (λ truth. not (is_yes truth)) (conjuncts_in (kinds_of task) (look_of state) task.goal [])
