use Rattle.std.proofs.Common.{◌≡◌, drop}
use Rattle.std.specs.List.{flat_map}
use Rattle.mf_types.specs.Faults.{after}
use Rattle.mf_types.specs.Sites.{site_of}
use Rattle.mf_types.specs.Uses.{closed_faults}
use Rattle.mf_types.proofs.uses.facts.Given as goal

abbrev pub invariant-loop-fact : goal.invariant-loop-fact
invariant-loop-fact l =
    after l.best (flat_map (closed_faults (site_of l.site)) (drop l.fact-index l.facts)) ≡ after l.fn.best (flat_map (closed_faults (site_of l.site)) l.facts)
