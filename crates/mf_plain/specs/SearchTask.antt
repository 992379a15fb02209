-- Tasks that the plain search takes: plain tasks within the limits, of which each number names what is declared.
use Rattle.std.specs.Prelude.{◌≡◌, ℕ, ◌≤◌, IsTrue, List, [], length, None}
use Rattle.std.specs.List.{All}
use Rattle.mf_model.specs.declared.task.Symbol.{Symbol}
use Rattle.mf_model.specs.declared.task.Action.{Action}
use Rattle.mf_model.specs.declared.task.TypedTask.{TypedTask}
use Rattle.mf_model.specs.Plain.{is_plain_cond, is_plain_effect, is_plain_fact}
use Rattle.mf_plain.specs.PlainTask.{IsObjectType}

pub record IsSearchSymbol (symbol : Symbol) : Type 0 where
  pub types : All IsObjectType symbol.parameters
  pub limit : length symbol.parameters ≤ 32

pub record IsSearchAction (predicates : List Symbol) (objects : ℕ) (action : Action) : Type 0 where
  pub types : All IsObjectType action.parameters
  pub limit : length action.parameters ≤ 32
  pub condition : IsTrue (is_plain_cond predicates (length action.parameters) objects action.condition)
  pub effect : IsTrue (is_plain_effect predicates (length action.parameters) objects action.effect)

pub record IsSearchTask (task : TypedTask) : Type 0 where
  pub object_limit : length task.objects ≤ 65535
  pub predicates : All IsSearchSymbol task.predicates
  pub predicate_limit : length task.predicates ≤ 10000
  pub functions : task.functions ≡ []
  pub actions : All (IsSearchAction task.predicates (length task.objects)) task.actions
  pub action_limit : length task.actions ≤ 1000
  pub atoms : All (λ atom. IsTrue (is_plain_fact task.predicates (length task.objects) atom)) task.atoms
  pub values : task.values ≡ []
  pub goal : IsTrue (is_plain_cond task.predicates 0 (length task.objects) task.goal)
  pub metric : task.metric ≡ None
