use Rattle.std.proofs.Common.{◌≡◌, [], reverse, length}
use Rattle.std.specs.List.{All}
use Rattle.mf_lex.specs.Growth.{InFile, grow}
use Rattle.mf_lex.proofs.growth.grow.Given as goal

abbrev pub invariant-loop-tokens : goal.invariant-loop-tokens
invariant-loop-tokens l = record {
  same : grow l.source l.length l.tokens l.lists.top (reverse l.lists.below) ≡ grow l.source l.length l.fn.tokens l.fn.top [];
  inside : All (InFile l.source) l.tokens;
}

abbrev pub decreases-loop-tokens : goal.decreases-loop-tokens
decreases-loop-tokens l = length l.tokens
