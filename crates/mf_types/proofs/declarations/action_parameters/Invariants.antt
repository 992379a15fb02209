use Rattle.std.proofs.Common.{◌≡◌, drop}
use Rattle.std.specs.List.{flat_map}
use Rattle.mf_types.specs.DeclarationFaults.{action_parameter_faults}
use Rattle.mf_types.specs.Faults.{after}
use Rattle.mf_types.specs.Sites.{site_of}
use Rattle.mf_types.proofs.declarations.action_parameters.Given as goal

abbrev pub invariant-loop-action : goal.invariant-loop-action
invariant-loop-action l = after l.best (flat_map (action_parameter_faults (site_of l.site)) (drop l.action-index l.actions)) ≡ after l.fn.best (flat_map (action_parameter_faults (site_of l.site)) l.actions)
