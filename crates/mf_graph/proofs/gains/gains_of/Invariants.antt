use Rattle.std.proofs.Common.{◌≡◌, drop}
use Rattle.std.specs.List.{fold}
use Rattle.mf_graph.specs.Gained.{no_gains, with_action}
use Rattle.mf_graph.specs.LayerLists.{shown}
use Rattle.mf_graph.proofs.gains.gains_of.Given as goal

abbrev pub invariant-loop-action : goal.invariant-loop-action
invariant-loop-action l =
    fold (with_action l.task l.levels (shown l.layer)) l.gains (drop l.action-index l.task.actions) ≡ fold (with_action l.task l.levels (shown l.layer)) no_gains l.task.actions
