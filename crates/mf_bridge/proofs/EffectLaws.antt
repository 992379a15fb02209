-- The effects of the actions of a resolved task, and those of its packed task.
use Rattle.std.proofs.Common.{◌≡◌, ℕ, List, map, Some, refl, sym, ap, ◌∙◌}
use Rattle.std.specs.Prelude.{Contains, slice_get}
use Rattle.std.specs.List.{flat_map}
use Rattle.mf_model.specs.declared.task.Action.{Action}
use Rattle.mf_model.specs.declared.task.Effect.{Effect}
use Rattle.mf_model.specs.declared.task.TypedTask.{TypedTask}
use Rattle.mf_model.specs.declared.state.Instance.{Instance}
use Rattle.mf_model.specs.Application.{firing_of}
use Rattle.mf_model.specs.Objects.{kinds_of}
use Rattle.mf_model.specs.ResolvedTask.{IsResolvedTask}
use Rattle.mf_model.specs.Views.{Look}
use Rattle.mf_task.specs.declared.ground.GroundAction.{GroundAction}
use Rattle.mf_task.specs.declared.ground.GroundEffect.{GroundEffect}
use Rattle.mf_task.specs.GroundMeaning.{action_firing, ground_firing}
use Rattle.mf_task.specs.Grounding.{effect_forms, functions_in, ground_effects, ground_of, numbering_of}
use Rattle.mf_task.specs.Rows.{Sight}
use Rattle.mf_bridge.specs.Deeds.{deed_of, ground_deeds}
use Rattle.mf_bridge.specs.ListedForms.{AreListed}
use Rattle.mf_bridge.specs.Readable.{IsReadableEffect}
use Rattle.mf_bridge.specs.Shows.{Shows}
use Rattle.mf_bridge.specs.UnlistedAtoms.{HidesUnlistedAtoms}
use Rattle.mf_bridge.proofs.ActionsMade.{effect_listed, is_made}
use Rattle.mf_bridge.proofs.FiredDeeds.{fired_deeds}
use Rattle.mf_bridge.proofs.ResolvedTasks.{effect_readable}

pub effect_alike : (task : TypedTask) (instances : List Instance) (look : Look) (sight : Sight) → Shows (numbering_of task instances) look sight → HidesUnlistedAtoms (numbering_of task instances) sight →
    (effect : Effect) → IsReadableEffect task effect → (b : List ℕ) → AreListed (numbering_of task instances).forms (effect_forms (kinds_of task) (functions_in (numbering_of task instances)) effect b) →
    map (deed_of (numbering_of task instances)) (firing_of (kinds_of task) look effect b) ≡ flat_map (ground_deeds (ground_of task instances) sight) (ground_firing (ground_of task instances) sight (ground_effects (numbering_of task instances) effect b))
effect_alike task instances look sight shows hides effect readable b listed =
    fired_deeds (numbering_of task instances) (ground_of task instances) look sight shows hides refl effect readable b listed

pub action_alike : (task : TypedTask) (instances : List Instance) (look : Look) (sight : Sight) → IsResolvedTask task → Shows (numbering_of task instances) look sight → HidesUnlistedAtoms (numbering_of task instances) sight →
    (made : GroundAction) (action : Action) → Contains (ground_of task instances).actions made → slice_get task.actions made.instance.action ≡ Some action →
    map (deed_of (numbering_of task instances)) (firing_of (kinds_of task) look action.effect made.instance.objects) ≡ flat_map (ground_deeds (ground_of task instances) sight) (action_firing (ground_of task instances) sight made)
action_alike task instances look sight resolved shows hides made action contained found =
    let is = is_made task instances made contained in
    let same : Some is.action ≡ Some action = sym is.found ∙ found in
    let own : is.action ≡ action = cc in
    effect_alike task instances look sight shows hides action.effect (effect_readable task resolved made.instance.action action found) made.instance.objects (effect_listed task instances made.instance action is.contained found)
    ∙ ap (λ (es : List GroundEffect). flat_map (ground_deeds (ground_of task instances) sight) (ground_firing (ground_of task instances) sight es)) (ap (λ (a : Action). ground_effects (numbering_of task instances) a.effect made.instance.objects) (sym own) ∙ sym is.effects)
