-- The task of two files without faults keeps the limits.
use Rattle.std.proofs.Common.{◌≡◌, ℕ, ◌+◌, ◌≤◌, max, [], length, All, arith}
use Rattle.std.proofs.lemmas.List.{length-map}
use Rattle.mf_model.specs.declared.form.RawAction.{RawAction}
use Rattle.mf_model.specs.declared.form.Domain.{Domain}
use Rattle.mf_model.specs.declared.form.Problem.{Problem}
use Rattle.mf_model.specs.declared.task.TypedTask.{TypedTask}
use Rattle.mf_types.specs.Names.{Declared, declared_by, item_types}
use Rattle.mf_types.specs.Typing.{inside, types_in, cond_of, effect_of}
use Rattle.mf_types.specs.Tasks.{action_of, IsTaskOf}
use Rattle.mf_types.specs.AllFaults.{faults_of}
use Rattle.mf_types.proofs.Given.{IfGiven, taken, then_given, made_given, each_all}
use Rattle.mf_types.proofs.FewParameters.{parameters_few}
use Rattle.mf_types.proofs.TaskReadings.{at_most}
use Rattle.mf_types.proofs.ValidConditions as inside
use Rattle.mf_types.proofs.ValidConditions.{inside_valid}
use Rattle.mf_model.specs.VariableScopes.{scope_of, effect_scope_of, BindsFewVariables}
use Rattle.mf_model.specs.TaskLimits.{IsWithinLimits}
use Rattle.mf_model.specs.ValidTasks.{IsValidTask}
use Rattle.mf_types.proofs.RoomConditions.{cond_fits}
use Rattle.mf_types.proofs.RoomEffects.{effect_fits}

-- actions

recounted : (n m left right : ℕ) → n ≡ m → n + left ≤ 64 → n + right ≤ 64 → m + max left right ≤ 64
recounted n m left right e h k = omega (arith, e, h, k)

action_fits : (declared : Declared) (raw : RawAction) → IfGiven BindsFewVariables (action_of declared raw)
unfolding action_of
action_fits declared raw =
    let types = types_in declared raw.parameters in
    then_given (inside.HasRoom [] raw.parameters) BindsFewVariables (inside [] raw.parameters) _ (inside_valid [] raw.parameters) (λ binders has.
    let count = has.count in
    let limit = at_most _ _ has.room in
    let types_are : length types ≡ length raw.parameters = length-map raw.parameters (item_types declared.types) in
    let room : length binders ≤ 64 = omega (arith, count, limit) in
    let same : length binders ≡ length types = omega (arith, count, types_are) in
    then_given (λ a. length binders + scope_of a ≤ 64) BindsFewVariables (cond_of declared raw.condition binders) _ (cond_fits declared raw.condition binders room) (λ condition h.
    made_given (λ a. length binders + effect_scope_of a ≤ 64) BindsFewVariables (λ effect. record { name = raw.word.text; parameters = types; condition = condition; effect = effect }) (effect_of declared raw.effect binders)
    (effect_fits declared raw.effect binders room) (λ effect k. recounted (length binders) (length types) (scope_of condition) (effect_scope_of effect) same h k)))

-- the task

without_parameters : (scope : ℕ) → 0 + scope ≤ 64 → scope ≤ 64
without_parameters scope h = omega (arith, h)

pub task_fits : (d : Domain) (p : Problem) (task : TypedTask) → IsValidTask task → faults_of d p ≡ [] → IsTaskOf d p task → IsWithinLimits task
task_fits d p task valid e is =
    let declared = declared_by d p in
    record {
      objects = valid.object_limit;
      actions = valid.action_limit;
      parameters = parameters_few d p task e is;
      variables = taken (All BindsFewVariables) _ task.actions is.actions (each_all BindsFewVariables (action_of declared) (action_fits declared) d.actions);
      goal = without_parameters (scope_of task.goal) (taken (λ a. 0 + scope_of a ≤ 64) (cond_of declared p.goal []) task.goal is.goal (cond_fits declared p.goal [] (omega arith)));
    }
