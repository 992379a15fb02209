use Rattle.std.proofs.Common.{◌≡◌, drop}
use Rattle.std.specs.List.{flat_map}
use Rattle.mf_types.specs.DeclarationFaults.{header_parameter_faults}
use Rattle.mf_types.specs.Faults.{after}
use Rattle.mf_types.specs.Sites.{site_of}
use Rattle.mf_types.proofs.declarations.header_parameters.Given as goal

abbrev pub invariant-loop-header : goal.invariant-loop-header
invariant-loop-header l = after l.best (flat_map (header_parameter_faults (site_of l.site)) (drop l.header-index l.headers)) ≡ after l.fn.best (flat_map (header_parameter_faults (site_of l.site)) l.headers)
