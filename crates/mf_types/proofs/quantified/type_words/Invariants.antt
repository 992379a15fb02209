use Rattle.std.proofs.Common.{◌≡◌, drop}
use Rattle.std.specs.List.{flat_map}
use Rattle.mf_types.specs.Faults.{after}
use Rattle.mf_types.specs.Quantified.{type_word_faults}
use Rattle.mf_types.specs.Sites.{site_of}
use Rattle.mf_types.proofs.quantified.type_words.Given as goal

abbrev pub invariant-loop-word : goal.invariant-loop-word
invariant-loop-word l =
    after l.best (flat_map (type_word_faults (site_of l.site)) (drop l.word-index l.words)) ≡ after l.fn.best (flat_map (type_word_faults (site_of l.site)) l.words)
