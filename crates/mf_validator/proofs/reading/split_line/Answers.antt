use Rattle.std.proofs.Common.{sym, ◌∙◌}
use Rattle.mf_validator.proofs.LineLemmas.{first-line, only-line}
use Rattle.mf_validator.proofs.reading.split_line.Goals as goal

pub returns-in-Some-clause-lines : goal.returns-in-Some-clause-lines
returns-in-Some-clause-lines c = first-line c.args.text.now c.in-Some.at (sym c.line_feed.ensures ∙ c.in-Some.is)

pub returns-in-None-clause-lines : goal.returns-in-None-clause-lines
returns-in-None-clause-lines c = only-line c.args.text.now c.requires (sym c.line_feed.ensures ∙ c.in-None.is)
