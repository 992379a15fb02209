use Rattle.std.proofs.Common.{◌≡◌, ◌≤◌, ◌+◌, length}
use Rattle.mf_validator.specs.PlanLines.{lines_of}
use Rattle.mf_validator.specs.PlanText.{before, steps_from}
use Rattle.mf_validator.proofs.reading.read_lines.Given as goal

abbrev pub invariant-loop-rest : goal.invariant-loop-rest
invariant-loop-rest l = record {
  size : l.number + length l.rest ≤ 16777217;
  read : before l.plan (steps_from l.lexicon.task.now l.number (lines_of l.rest)) ≡ steps_from l.lexicon.task.now 1 (lines_of l.fn.text);
}

abbrev pub decreases-loop-rest : goal.decreases-loop-rest
decreases-loop-rest l = length l.rest
