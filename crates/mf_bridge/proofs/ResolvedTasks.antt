-- What a resolved task says of its conditions and effects.
use Rattle.std.proofs.Common.{◌≡◌, ℕ, true, ◌&&◌, Some}
use Rattle.std.specs.Prelude.{slice_get, IsTrue}
use Rattle.std.specs.List.{list_all}
use Rattle.std.proofs.lemmas.Bool.{and_parts}
use Rattle.std.proofs.lemmas.List.Elements.{recursion_from_All}
use Rattle.mf_model.specs.declared.task.Action.{Action}
use Rattle.mf_model.specs.declared.task.TypedTask.{TypedTask}
use Rattle.mf_model.specs.Expressions.{every_change, every_side}
use Rattle.mf_model.specs.Functions.{is_constant}
use Rattle.mf_model.specs.Linearity.{is_linear, is_linear_change}
use Rattle.mf_model.specs.ResolvedTask.{IsResolvedTask, has_stored_numbers}
use Rattle.mf_meaning.proofs.ActionsOf.{action_is_free, all_at, goal_is_free}
use Rattle.mf_bridge.specs.Readable.{IsReadableCondition, IsReadableEffect}
use Rattle.mf_bridge.proofs.Lists.{at_found}

module _ (task : TypedTask) (resolved : IsResolvedTask task) where
  pub goal_readable : IsReadableCondition task task.goal
  goal_readable = record {
    linear = (and_parts (list_all (λ action. every_side (is_linear (is_constant task)) action.condition && every_change (is_linear_change (is_constant task)) (every_side (is_linear (is_constant task))) action.effect) task.actions) (every_side (is_linear (is_constant task)) task.goal) resolved.linear).1;
    numbers = resolved.numbers.goal;
    costless = goal_is_free task;
  }

  module _ (n : ℕ) (action : Action) (found : slice_get task.actions n ≡ Some action) where
    both_linear : (every_side (is_linear (is_constant task)) action.condition && every_change (is_linear_change (is_constant task)) (every_side (is_linear (is_constant task))) action.effect) ≡ true
    both_linear =
        all_at (λ action. every_side (is_linear (is_constant task)) action.condition && every_change (is_linear_change (is_constant task)) (every_side (is_linear (is_constant task))) action.effect) task.actions n action
        (and_parts (list_all (λ action. every_side (is_linear (is_constant task)) action.condition && every_change (is_linear_change (is_constant task)) (every_side (is_linear (is_constant task))) action.effect) task.actions) (every_side (is_linear (is_constant task)) task.goal) resolved.linear).0 found

    pub condition_readable : IsReadableCondition task action.condition
    condition_readable = record {
      linear = (and_parts (every_side (is_linear (is_constant task)) action.condition) (every_change (is_linear_change (is_constant task)) (every_side (is_linear (is_constant task))) action.effect) both_linear).0;
      numbers = at_found (λ action. IsTrue (every_side has_stored_numbers action.condition)) task.actions n action (recursion_from_All (λ action. IsTrue (every_side has_stored_numbers action.condition)) task.actions resolved.numbers.conditions) found;
      costless = (action_is_free task n action found).condition;
    }

    pub effect_readable : IsReadableEffect task action.effect
    effect_readable = record {
      linear = (and_parts (every_side (is_linear (is_constant task)) action.condition) (every_change (is_linear_change (is_constant task)) (every_side (is_linear (is_constant task))) action.effect) both_linear).1;
      numbers = at_found (λ action. IsTrue (every_change (λ op function value. has_stored_numbers value) (every_side has_stored_numbers) action.effect)) task.actions n action (recursion_from_All (λ action. IsTrue (every_change (λ op function value. has_stored_numbers value) (every_side has_stored_numbers) action.effect)) task.actions resolved.numbers.effects) found;
      costless = (action_is_free task n action found).effect;
    }
