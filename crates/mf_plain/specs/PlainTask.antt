-- Plain tasks: every declared type of a parameter is `object`, conditions consist of atoms and conjunctions, effects of
-- added and deleted atoms and groups, and there is no function and no metric. Objects may be of any types.
use Rattle.std.specs.Prelude.{◌≡◌, ℕ, Bool, false, ◌&&◌, ◌==◌, IsTrue, List, [], ◌∷◌, None}
use Rattle.std.specs.List.{All, list_all}
use Rattle.mf_model.specs.declared.task.Action.{Action}
use Rattle.mf_model.specs.declared.task.Symbol.{Symbol}
use Rattle.mf_model.specs.declared.task.TypedTask.{TypedTask}
use Rattle.mf_plain.specs.Changes.{only_changes_atoms}
use Rattle.mf_plain.specs.Conjunctions.{is_conjunction}

-- every declared type of a parameter is `object`
abbrev pub is_object_type : List ℕ → Bool
is_object_type [] = false
is_object_type (n ∷ ns) = n == 0 && list_all (λ m. m == 0) ns

abbrev pub IsObjectType : List ℕ → Type 0
IsObjectType types = IsTrue (is_object_type types)

pub record IsPlainAction (action : Action) : Type 0 where
  pub types : All IsObjectType action.parameters
  pub condition : IsTrue (is_conjunction action.condition)
  pub effect : IsTrue (only_changes_atoms action.effect)

pub record IsPlainTask (task : TypedTask) : Type 0 where
  pub predicates : All (λ (s : Symbol). All IsObjectType s.parameters) task.predicates
  pub actions : All IsPlainAction task.actions
  pub goal : IsTrue (is_conjunction task.goal)
  pub functions : task.functions ≡ []
  pub metric : task.metric ≡ None
