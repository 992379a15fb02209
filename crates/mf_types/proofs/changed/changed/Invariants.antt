use Rattle.std.proofs.Common.{◌≡◌, [], drop}
use Rattle.mf_types.specs.Names.{changed_in}
use Rattle.mf_types.specs.Tables.{entered}
use Rattle.mf_types.proofs.changed.changed.Given as goal

abbrev pub invariant-loop-action : goal.invariant-loop-action
invariant-loop-action l = entered l.names (changed_in (drop l.action-index l.actions)) ≡ entered [] (changed_in l.actions)
