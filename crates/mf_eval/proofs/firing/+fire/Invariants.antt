use Rattle.std.proofs.Common.{◌≡◌, ◌+◌, ◌*◌, drop, length, map}
use Rattle.mf_model.specs.Objects.{kinds_of, having}
use Rattle.mf_model.specs.States.{look_of}
use Rattle.mf_eval.specs.Fired.{changes_in, fired, fired_parts, fired_with, threaded}
use Rattle.mf_eval.specs.Judged.{kinds_of_object}
use Rattle.mf_eval.proofs.firing.+fire.Given as goal

abbrev pub decreases-fire : goal.decreases-fire
decreases-fire l = 1000 * goal.size-fire l

abbrev pub decreases-fire_when : goal.decreases-fire_when
decreases-fire_when l = 1000 * goal.size-fire_when l + 500

abbrev pub decreases-fire_parts : goal.decreases-fire_parts
decreases-fire_parts l = 1000 * goal.size-fire_parts l + 500

abbrev pub decreases-fire_each : goal.decreases-fire_each
decreases-fire_each l = 1000 * goal.size-fire_each l + 1 + 3 * length l.variables.now

abbrev pub decreases-fire_objects : goal.decreases-fire_objects
decreases-fire_objects l = 1000 * goal.size-fire_objects l + 3 + 3 * length l.others.now

abbrev pub decreases-fire_object : goal.decreases-fire_object
decreases-fire_object l = 1000 * goal.size-fire_object l + 2 + 3 * length l.others.now

abbrev pub invariant-fire_parts-loop-part : goal.invariant-fire_parts-loop-part
invariant-fire_parts-loop-part l =
    (threaded (fired_parts (kinds_of l.scene.task.now) (look_of l.scene.state.now) (drop l.part-index l.parts) l.fn.binding.items) (changes_in l.deeds.items)
    ≡ threaded (fired_parts (kinds_of l.scene.task.now) (look_of l.scene.state.now) l.parts l.fn.binding.items) (changes_in l.fn.deeds.items))
    × (l.binding ≡ l.fn.binding)

abbrev pub invariant-fire_objects-loop-number : goal.invariant-fire_objects-loop-number
invariant-fire_objects-loop-number l =
    let next = fired_with (kinds_of l.scene.task.now) (fired (kinds_of l.scene.task.now) (look_of l.scene.state.now) l.part) l.others l.fn.binding.items in
    (threaded (map next (having l.types l.number (map (kinds_of_object l.scene.task.now) (drop l.number l.scene.task.now.objects)))) (changes_in l.deeds.items)
    ≡ threaded (map next (having l.types 0 (kinds_of l.scene.task.now))) (changes_in l.fn.deeds.items))
    × (l.binding ≡ l.fn.binding)
