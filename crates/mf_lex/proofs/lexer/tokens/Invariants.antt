use Rattle.std.proofs.Common.{◌-◌, length}
use Rattle.mf_lex.specs.Reading.{Reading}
use Rattle.mf_lex.proofs.lexer.tokens.Given as goal

abbrev pub invariant-loop-at : goal.invariant-loop-at
invariant-loop-at l = Reading l.source l.at l.list

abbrev pub decreases-loop-at : goal.decreases-loop-at
decreases-loop-at l = length l.source - l.at
