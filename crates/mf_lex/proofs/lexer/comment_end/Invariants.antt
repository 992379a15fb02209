use Rattle.std.proofs.Common.{◌≡◌, ℕ, ◌-◌, ◌<◌, ◌≤◌, length, get_or}
use Rattle.mf_lex.proofs.lexer.comment_end.Given as goal

abbrev pub invariant-loop-end : goal.invariant-loop-end
invariant-loop-end l = record {
  order : l.at ≤ l.end;
  within : l.end ≤ length l.source;
  inside : (i : ℕ) → l.at ≤ i → i < l.end → get_or l.source i 0 ≡ 10 → ⊥;
}

abbrev pub decreases-loop-end : goal.decreases-loop-end
decreases-loop-end l = length l.source - l.end
