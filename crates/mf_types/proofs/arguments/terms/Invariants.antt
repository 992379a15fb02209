use Rattle.std.proofs.Common.{◌≡◌, drop}
use Rattle.std.specs.List.{flat_map}
use Rattle.mf_types.specs.Arguments.{term_faults}
use Rattle.mf_types.specs.Faults.{after}
use Rattle.mf_types.specs.Sites.{site_of}
use Rattle.mf_types.proofs.arguments.terms.Given as goal

abbrev pub invariant-loop-word : goal.invariant-loop-word
invariant-loop-word l =
    after l.best (flat_map (term_faults (site_of l.site) l.scope) (drop l.word-index l.words)) ≡ after l.fn.best (flat_map (term_faults (site_of l.site) l.scope) l.words)
