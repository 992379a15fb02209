use Rattle.std.proofs.Common.{◌≡◌, ◌∷◌, map, take}
use Rattle.mf_types.specs.Names.{text_of, object_name}
use Rattle.mf_types.specs.Tables.{parent_by, pointed}
use Rattle.mf_types.proofs.type_table.parents.Given as goal

abbrev pub invariant-loop-word : goal.invariant-loop-word
invariant-loop-word l = l.parents ≡ map (parent_by l.own l.types) (object_name ∷ map text_of (pointed (take l.word-index l.words)))
