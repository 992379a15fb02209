use Rattle.std.proofs.Common.{refl}
use Rattle.mf_meaning.proofs.Kept.{constants_kept, constants_searched}
use Rattle.mf_meaning.proofs.start_values.constants_keep_their_values.Goals as goal

pub returns-clause-start : goal.returns-clause-start
returns-clause-start c task function objects constant = refl

pub returns-clause-step : goal.returns-clause-step
returns-clause-step c = constants_kept

pub returns-clause-search_state : goal.returns-clause-search_state
returns-clause-search_state c = constants_searched
