-- From a dead sight no run of the packed task leads to a goal.
use Rattle.std.proofs.Common.{◌≡◌, Bool, true, false, not, ◌&&◌, List, [], ◌∷◌, refl, sym, ap, ◌∙◌, true≢false}
use Rattle.std.specs.List.{list_all}
use Rattle.std.proofs.lemmas.Bool.{and_parts}
use Rattle.mf_task.specs.declared.ground.GroundAction.{GroundAction}
use Rattle.mf_task.specs.declared.task.Task.{Task}
use Rattle.mf_task.specs.GroundMeaning.{action_firing, ground_holds, is_ground_apart, is_ground_defined, is_ground_goal}
use Rattle.mf_task.specs.LimitClosure.{Family, IsWithin, is_dead, limit_closure, next_family}
use Rattle.mf_task.specs.Rows.{Sight}
use Rattle.mf_limit.specs.GroundRuns.{IsGroundRun, end_of_run, sight_after}
use Rattle.mf_task.specs.NumberedTasks.{HasProperForms, IsProperSight, is_numbered}
use Rattle.mf_limit.proofs.Reached.{Reaches, reaches-start}
use Rattle.mf_limit.proofs.Rounds.{limit-closed}
use Rattle.mf_limit.proofs.Steps.{reaches-after}
use Rattle.mf_limit.proofs.Truths.{goal-may}

module _ (task : Task) (start : Sight) (f : Family) (forms : HasProperForms task) (proper : IsProperSight start) (closed : IsWithin (next_family task start f) f) where
  -- each sight of a run is reached
  pub reaches-end : (sight : Sight) (actions : List GroundAction) → Reaches f start sight → IsGroundRun task sight actions → Reaches f start (end_of_run task sight actions)
  reaches-end sight [] reaches run = reaches
  reaches-end sight (action ∷ actions) reaches run =
      let applicable = and_parts (ground_holds task sight action.condition && list_all (is_ground_defined task sight) (action_firing task sight action)) (list_all (is_ground_apart (action_firing task sight action)) (action_firing task sight action)) run.1 in
      let holds = (and_parts (ground_holds task sight action.condition) (list_all (is_ground_defined task sight) (action_firing task sight action)) applicable.0).0 in
      reaches-end (sight_after task sight action) actions (reaches-after task start f sight forms proper reaches action run.0 holds closed) run.2

pub no-goal : (task : Task) (sight : Sight) (actions : List GroundAction) → is_numbered task ≡ true → HasProperForms task → IsProperSight sight → is_dead task sight ≡ true → IsGroundRun task sight actions → is_ground_goal task (end_of_run task sight actions) ≡ false
no-goal task sight actions numbered forms proper dead run = by (is_ground_goal task (end_of_run task sight actions)) refl
  where
    f : Family
    f = limit_closure task sight

    reached : Reaches f sight (end_of_run task sight actions)
    reached =
        let closed = limit-closed task sight numbered in
        reaches-end task sight f forms proper closed.next sight actions (reaches-start f sight proper closed.first) run

    by : (b : Bool) → is_ground_goal task (end_of_run task sight actions) ≡ b → b ≡ false
    by false e = refl
    by true e = absurd (true≢false (sym dead ∙ ap not (goal-may task sight f (end_of_run task sight actions) forms proper reached task.goal e)))
