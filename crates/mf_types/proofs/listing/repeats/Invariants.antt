use Rattle.std.proofs.Common.{◌≡◌, drop, map}
use Rattle.mf_types.specs.Declarations.{repeats}
use Rattle.mf_types.specs.Faults.{after}
use Rattle.mf_types.specs.Names.{text_of}
use Rattle.mf_types.specs.Tables.{entered, pointed}
use Rattle.mf_types.proofs.listing.repeats.Given as goal

abbrev pub invariant-loop-word : goal.invariant-loop-word
invariant-loop-word l = record {
  faults : after l.best (repeats l.file l.names (pointed (drop l.word-index l.words))) ≡ after l.fn.best (repeats l.file l.fn.names (pointed l.words));
  names : entered l.names (map text_of (pointed (drop l.word-index l.words))) ≡ entered l.fn.names (map text_of (pointed l.words));
}
