use Rattle.std.proofs.Common.{◌≡◌, ◌++◌, map, drop}
use Rattle.mf_types.specs.Names.{text_of, firsts}
use Rattle.mf_types.specs.Tables.{entered, pointed}
use Rattle.mf_types.proofs.type_table.add_words.Given as goal

abbrev pub invariant-loop-word : goal.invariant-loop-word
invariant-loop-word l = record {
  names : entered l.names (map text_of (pointed (drop l.word-index l.words))) ≡ entered l.fn.names (map text_of (pointed l.words));
  firsts : pointed l.firsts.items ++ firsts text_of l.names (pointed (drop l.word-index l.words)) ≡ firsts text_of l.fn.names (pointed l.words);
}
