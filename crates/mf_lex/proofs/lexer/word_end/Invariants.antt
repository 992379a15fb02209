use Rattle.std.proofs.Common.{◌≡◌, ℕ, ◌-◌, ◌<◌, ◌≤◌, true, length, get_or}
use Rattle.mf_model.specs.Tokens.{is_word}
use Rattle.mf_lex.proofs.lexer.word_end.Given as goal

abbrev pub invariant-loop-end : goal.invariant-loop-end
invariant-loop-end l = record {
  order : l.at ≤ l.end;
  within : l.end ≤ length l.source;
  inside : (i : ℕ) → l.at ≤ i → i < l.end → is_word (get_or l.source i 0) ≡ true;
}

abbrev pub decreases-loop-end : goal.decreases-loop-end
decreases-loop-end l = length l.source - l.end
