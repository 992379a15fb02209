use Rattle.std.proofs.Common.{◌≡◌, ◌+◌, ◌*◌, drop, length, map}
use Rattle.mf_model.specs.Objects.{kinds_of, having}
use Rattle.mf_model.specs.States.{look_of}
use Rattle.mf_eval.specs.Judged.{judged, judged_all, judged_front, judged_parts, judged_with, kinds_of_object}
use Rattle.mf_eval.proofs.condition.+judge.Given as goal

abbrev pub decreases-judge : goal.decreases-judge
decreases-judge l = 1000 * goal.size-judge l

abbrev pub decreases-judge_parts : goal.decreases-judge_parts
decreases-judge_parts l = 1000 * goal.size-judge_parts l + 500

abbrev pub decreases-judge_all : goal.decreases-judge_all
decreases-judge_all l = 1000 * goal.size-judge_all l + 1 + 3 * length l.variables.now

abbrev pub decreases-judge_objects : goal.decreases-judge_objects
decreases-judge_objects l = 1000 * goal.size-judge_objects l + 3 + 3 * length l.others.now

abbrev pub decreases-judge_object : goal.decreases-judge_object
decreases-judge_object l = 1000 * goal.size-judge_object l + 2 + 3 * length l.others.now

abbrev pub invariant-judge_parts-loop-part : goal.invariant-judge_parts-loop-part
invariant-judge_parts-loop-part l =
    (judged_front l.connective l.front (judged_parts (kinds_of l.scene.task.now) (look_of l.scene.state.now) (drop l.part-index l.parts) l.fn.binding.items) ≡ judged_all l.connective (judged_parts (kinds_of l.scene.task.now) (look_of l.scene.state.now) l.parts l.fn.binding.items))
    × (l.binding ≡ l.fn.binding)

abbrev pub invariant-judge_objects-loop-number : goal.invariant-judge_objects-loop-number
invariant-judge_objects-loop-number l =
    let next = judged_with (kinds_of l.scene.task.now) l.connective (judged (kinds_of l.scene.task.now) (look_of l.scene.state.now) l.part) l.others l.fn.binding.items in
    (judged_front l.connective l.front (map next (having l.types l.number (map (kinds_of_object l.scene.task.now) (drop l.number l.scene.task.now.objects))))
    ≡ judged_all l.connective (map next (having l.types 0 (kinds_of l.scene.task.now))))
    × (l.binding ≡ l.fn.binding)
