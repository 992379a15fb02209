use Rattle.std.proofs.Common.{◌≡◌, ◌≤◌, length}
use Rattle.mf_validator.specs.PlanLines.{pieces_of}
use Rattle.mf_validator.proofs.piece.without_blanks.Given as goal

abbrev pub invariant-loop-text : goal.invariant-loop-text
invariant-loop-text l = record {
  pieces : pieces_of l.text ≡ pieces_of l.fn.text;
  shorter : length l.text ≤ length l.fn.text;
}

abbrev pub decreases-loop-text : goal.decreases-loop-text
decreases-loop-text l = length l.text
