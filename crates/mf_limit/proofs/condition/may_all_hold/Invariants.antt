use Rattle.std.proofs.Common.{◌≡◌, drop}
use Rattle.std.specs.List.{list_all}
use Rattle.mf_task.specs.LimitClosure.{may_hold}
use Rattle.mf_task.specs.Rows.{sight_of}
use Rattle.mf_limit.specs.Sets.{family_of}
use Rattle.mf_limit.proofs.condition.may_all_hold.Given as goal

abbrev pub invariant-loop-condition : goal.invariant-loop-condition
invariant-loop-condition l =
    list_all (may_hold l.scene.task.now (sight_of l.scene.row.now) (family_of l.sets)) (drop l.condition-index l.conditions) ≡ list_all (may_hold l.scene.task.now (sight_of l.scene.row.now) (family_of l.sets)) l.conditions
