use Rattle.std.proofs.Common.{◌≡◌, drop}
use Rattle.mf_types.specs.Arguments.{argument_faults}
use Rattle.mf_types.specs.Faults.{after}
use Rattle.mf_types.specs.Sites.{site_of}
use Rattle.mf_types.proofs.arguments.arguments.Given as goal

abbrev pub invariant-loop-word : goal.invariant-loop-word
invariant-loop-word l =
    after l.best (argument_faults (site_of l.site) l.scope (drop l.word-index l.words) l.parameters) ≡ after l.fn.best (argument_faults (site_of l.site) l.scope l.words l.fn.parameters)
