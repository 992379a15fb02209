use Rattle.std.proofs.Common.{◌≡◌, drop}
use Rattle.std.specs.List.{flat_map}
use Rattle.mf_types.specs.Faults.{after}
use Rattle.mf_types.specs.Sites.{site_of}
use Rattle.mf_types.specs.Uses.{value_term_faults}
use Rattle.mf_types.proofs.uses.terms.Given as goal

abbrev pub invariant-loop-value : goal.invariant-loop-value
invariant-loop-value l =
    after l.best (flat_map (value_term_faults (site_of l.site)) (drop l.value-index l.values)) ≡ after l.fn.best (flat_map (value_term_faults (site_of l.site)) l.values)
