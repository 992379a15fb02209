use Rattle.mf_validator.specs.PlanLines.{is_semicolon}
use Rattle.mf_validator.proofs.PieceLemmas.{place-is}
use Rattle.mf_validator.proofs.line.comment_start.Goals as goal

pub returns-clause-start : goal.returns-clause-start
returns-clause-start c = place-is is_semicolon c.args.line.now c.semicolon.result c.unwrap_or.result c.semicolon.ensures c.unwrap_or.ensures
