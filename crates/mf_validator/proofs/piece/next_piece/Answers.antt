use Rattle.std.proofs.Common.{◌∙◌}
use Rattle.mf_validator.proofs.PieceLemmas.{open-front, close-front, word-front}
use Rattle.mf_validator.proofs.piece.next_piece.Goals as goal

pub returns-then-first-eq40-clause-pieces : goal.returns-then-first-eq40-clause-pieces
returns-then-first-eq40-clause-pieces c = open-front c.without_blanks-text.result.now c.in-len1-up.len_at_least c.if-first-eq40.true ∙ c.without_blanks-text.ensures.pieces

pub returns-then-first-eq41-clause-pieces : goal.returns-then-first-eq41-clause-pieces
returns-then-first-eq41-clause-pieces c = close-front c.without_blanks-text.result.now c.in-len1-up.len_at_least c.if-first-eq41.true ∙ c.without_blanks-text.ensures.pieces

pub next_word-requires : goal.next_word-requires
next_word-requires c = word-front c.without_blanks-text.result.now c.in-len1-up.len_at_least c.without_blanks-text.ensures.unblank c.if-first-eq40.false c.if-first-eq41.false
