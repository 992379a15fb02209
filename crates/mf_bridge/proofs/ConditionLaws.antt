-- The goal and the preconditions of a resolved task, and those of its packed task.
use Rattle.std.proofs.Common.{◌≡◌, ℕ, List, [], Some, refl, sym, ap, ◌∙◌}
use Rattle.std.specs.Prelude.{Contains, slice_get}
use Rattle.mf_model.specs.declared.task.Action.{Action}
use Rattle.mf_model.specs.declared.task.Cond.{Cond}
use Rattle.mf_model.specs.declared.task.TypedTask.{TypedTask}
use Rattle.mf_model.specs.declared.state.Instance.{Instance}
use Rattle.mf_model.specs.Meaning.{holds_in, is_yes, truth_in}
use Rattle.mf_model.specs.Objects.{kinds_of}
use Rattle.mf_model.specs.ResolvedTask.{IsResolvedTask}
use Rattle.mf_model.specs.Views.{Look}
use Rattle.mf_task.specs.declared.ground.GroundAction.{GroundAction}
use Rattle.mf_task.specs.GroundMeaning.{ground_truth, is_ground_goal}
use Rattle.mf_task.specs.Grounding.{condition_forms, functions_in, ground_cond, ground_of, numbering_of}
use Rattle.mf_task.specs.Rows.{Sight}
use Rattle.mf_bridge.specs.Readable.{IsReadableCondition}
use Rattle.mf_bridge.specs.Shows.{Shows}
use Rattle.mf_bridge.specs.UnlistedAtoms.{HidesUnlistedAtoms}
use Rattle.mf_bridge.proofs.ActionsMade.{condition_listed, goal_listed, is_made}
use Rattle.mf_bridge.proofs.GroundConditions.{passes_all, truth_is_ground_truth}
use Rattle.mf_bridge.proofs.GoalConjuncts.{conjuncts_hold}
use Rattle.mf_bridge.specs.ListedForms.{AreListed}
use Rattle.mf_bridge.proofs.ResolvedTasks.{condition_readable, goal_readable}

pub condition_alike : (task : TypedTask) (instances : List Instance) (look : Look) (sight : Sight) → Shows (numbering_of task instances) look sight → HidesUnlistedAtoms (numbering_of task instances) sight →
    (condition : Cond) → IsReadableCondition task condition → (b : List ℕ) → AreListed (numbering_of task instances).forms (condition_forms (kinds_of task) (functions_in (numbering_of task instances)) condition b) →
    truth_in (kinds_of task) look condition b ≡ ground_truth (ground_of task instances) sight (ground_cond (numbering_of task instances) condition b)
condition_alike task instances look sight shows hides condition readable b listed =
    truth_is_ground_truth (numbering_of task instances) (ground_of task instances) look sight shows hides refl condition (passes_all task condition readable) b listed

pub goal_alike : (task : TypedTask) (instances : List Instance) (look : Look) (sight : Sight) → IsResolvedTask task → Shows (numbering_of task instances) look sight → HidesUnlistedAtoms (numbering_of task instances) sight →
    holds_in (kinds_of task) look task.goal [] ≡ is_ground_goal (ground_of task instances) sight
goal_alike task instances look sight resolved shows hides =
    ap is_yes (condition_alike task instances look sight shows hides task.goal (goal_readable task resolved) [] (goal_listed task instances))
    ∙ sym (conjuncts_hold (numbering_of task instances) (ground_of task instances) sight task.goal [])

pub precondition_alike : (task : TypedTask) (instances : List Instance) (look : Look) (sight : Sight) → IsResolvedTask task → Shows (numbering_of task instances) look sight → HidesUnlistedAtoms (numbering_of task instances) sight →
    (made : GroundAction) (action : Action) → Contains (ground_of task instances).actions made → slice_get task.actions made.instance.action ≡ Some action →
    truth_in (kinds_of task) look action.condition made.instance.objects ≡ ground_truth (ground_of task instances) sight made.condition
precondition_alike task instances look sight resolved shows hides made action contained found =
    let is = is_made task instances made contained in
    let same : Some is.action ≡ Some action = sym is.found ∙ found in
    let own : is.action ≡ action = cc in
    condition_alike task instances look sight shows hides action.condition (condition_readable task resolved made.instance.action action found) made.instance.objects (condition_listed task instances made.instance action is.contained found)
    ∙ ap (ground_truth (ground_of task instances) sight) (ap (λ (a : Action). ground_cond (numbering_of task instances) a.condition made.instance.objects) (sym own) ∙ sym is.condition)
