use Rattle.std.proofs.Common.{◌≡◌, drop}
use Rattle.mf_types.specs.Faults.{after}
use Rattle.mf_types.specs.Tables.{declared_of}
use Rattle.mf_types.specs.Uses.{action_faults}
use Rattle.mf_types.proofs.uses.actions.Given as goal

abbrev pub invariant-loop-action : goal.invariant-loop-action
invariant-loop-action l =
    after l.best (action_faults (declared_of l.fn.tables) (drop l.action-index l.actions)) ≡ after l.fn.best (action_faults (declared_of l.fn.tables) l.actions)
