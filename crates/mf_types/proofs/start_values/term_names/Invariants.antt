use Rattle.std.proofs.Common.{◌≡◌, ◌∷◌, map, take}
use Rattle.mf_types.specs.Names.{text_of}
use Rattle.mf_types.proofs.start_values.term_names.Given as goal

abbrev pub invariant-loop-object : goal.invariant-loop-object
invariant-loop-object l = l.names ≡ l.value.function.text ∷ map text_of (take l.object-index l.object-items)
