use Rattle.mf_plain.proofs.Advancing.{at_end, at_budget}
use Rattle.mf_plain.proofs.searching.last_status.Goals as goal

pub returns-in-None : goal.returns-in-None
returns-in-None c task budget u = at_end task budget budget c.args.progress.now u c.in-None.ensures

pub returns-in-Some : goal.returns-in-Some
returns-in-Some c task budget u = at_budget task budget c.args.progress.now c.in-Some.field-0 u c.in-Some.ensures
