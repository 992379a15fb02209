use Rattle.std.proofs.Common.{◌≡◌, drop}
use Rattle.mf_reader.specs.Problems.{stands}
use Rattle.mf_reader.proofs.problem.stands.Given as goal

abbrev pub invariant-loop-section : goal.invariant-loop-section
invariant-loop-section l = stands l.key (drop l.section-index l.sections) ≡ stands l.key l.sections
