use Rattle.mf_validator.specs.PlanLines.{is_mark}
use Rattle.mf_validator.proofs.PieceLemmas.{place-is}
use Rattle.mf_validator.proofs.piece.word_end.Goals as goal

pub returns-clause-end : goal.returns-clause-end
returns-clause-end c = place-is is_mark c.args.text.now c.mark.result c.unwrap_or.result c.mark.ensures c.unwrap_or.ensures
