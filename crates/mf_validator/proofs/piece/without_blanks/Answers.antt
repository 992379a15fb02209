use Rattle.std.proofs.Common.{◌≤◌, ◌-◌, sym, ◌∙◌, arith, length, take, drop}
use Rattle.mf_validator.proofs.PieceLemmas.{blank-front, rest-shorter}
use Rattle.mf_validator.proofs.piece.without_blanks.Goals as goal

pub loop-text-preserved : goal.loop-text-preserved
loop-text-preserved c =
    let text = c.loop-text.text.now in
    let less : length (take (length text - 1) (drop 1 text)) ≤ length text = rest-shorter text in
    record {
      pieces = blank-front text c.in-len1-up.len_at_least (sym c.is_blank.ensures ∙ c.if-not-is_blank.false) ∙ c.loop-text.invariant.pieces;
      shorter = omega (arith, less, c.loop-text.invariant.shorter);
    }
