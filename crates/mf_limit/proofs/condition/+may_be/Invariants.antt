use Rattle.std.proofs.Common.{◌≡◌, ◌+◌, ◌*◌, drop, map}
use Rattle.std.specs.List.{list_all, list_any}
use Rattle.mf_task.specs.LimitClosure.{may_be}
use Rattle.mf_task.specs.Rows.{sight_of}
use Rattle.mf_limit.specs.Sets.{family_of}
use Rattle.mf_limit.proofs.condition.+may_be.Given as goal

abbrev pub decreases-may_be : goal.decreases-may_be
decreases-may_be l = 1000 * goal.size-may_be l

abbrev pub decreases-all_may : goal.decreases-all_may
decreases-all_may l = 1000 * goal.size-all_may l + 600

abbrev pub decreases-any_may : goal.decreases-any_may
decreases-any_may l = 1000 * goal.size-any_may l + 600

abbrev pub decreases-each_may_be : goal.decreases-each_may_be
decreases-each_may_be l = 1000 * goal.size-each_may_be l + 500

abbrev pub decreases-some_may_be : goal.decreases-some_may_be
decreases-some_may_be l = 1000 * goal.size-some_may_be l + 500

abbrev pub invariant-each_may_be-loop-part : goal.invariant-each_may_be-loop-part
invariant-each_may_be-loop-part l =
    list_all (λ part. part l.asked) (map (may_be l.scene.task.now (sight_of l.scene.row.now) (family_of l.sets)) (drop l.part-index l.parts)) ≡ list_all (λ part. part l.asked) (map (may_be l.scene.task.now (sight_of l.scene.row.now) (family_of l.sets)) l.parts)

abbrev pub invariant-some_may_be-loop-part : goal.invariant-some_may_be-loop-part
invariant-some_may_be-loop-part l =
    list_any (λ part. part l.asked) (map (may_be l.scene.task.now (sight_of l.scene.row.now) (family_of l.sets)) (drop l.part-index l.parts)) ≡ list_any (λ part. part l.asked) (map (may_be l.scene.task.now (sight_of l.scene.row.now) (family_of l.sets)) l.parts)
