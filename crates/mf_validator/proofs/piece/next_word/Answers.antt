use Rattle.std.proofs.Common.{sym, ◌∙◌, ap, List, ℕ, ◌∷◌, take}
use Rattle.std.proofs.lemmas.List.{take_rest}
use Rattle.mf_validator.specs.PlanLines.{Word, pieces_of}
use Rattle.mf_validator.proofs.PieceLemmas.{word-is, word-shorter}
use Rattle.mf_validator.proofs.piece.next_word.Goals as goal

pub returns-clause-pieces : goal.returns-clause-pieces
returns-clause-pieces c =
    let text = c.args.text.now in
    let size = c.word_end-end.result in
    ap (λ (rest : List ℕ). Word (take size text) ∷ pieces_of rest) (take_rest text size) ∙ sym (word-is text size c.requires c.word_end-end.ensures.end)

pub returns-clause-shorter : goal.returns-clause-shorter
returns-clause-shorter c =
    let text = c.args.text.now in
    let size = c.word_end-end.result in
    rw (take_rest text size) (word-shorter text size c.requires c.word_end-end.ensures.end)
