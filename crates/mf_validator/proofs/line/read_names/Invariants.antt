use Rattle.std.proofs.Common.{◌≡◌, [], map, length}
use Rattle.mf_validator.specs.PlanLines.{names_behind, pieces_of}
use Rattle.mf_validator.proofs.line.read_names.Given as goal

abbrev pub invariant-loop-word : goal.invariant-loop-word
invariant-loop-word l = names_behind (map (λ name. name.now) l.names.items) (pieces_of l.rest) ≡ names_behind [] (pieces_of l.fn.text)

abbrev pub decreases-loop-word : goal.decreases-loop-word
decreases-loop-word l = length l.rest
