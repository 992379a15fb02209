use Rattle.std.proofs.Common.{refl}
use Rattle.mf_meaning.proofs.Kept.{atoms_kept}
use Rattle.mf_meaning.proofs.start_values.static_atoms_stay.Goals as goal

pub returns-clause-start : goal.returns-clause-start
returns-clause-start c task predicate objects static = refl

pub returns-clause-step : goal.returns-clause-step
returns-clause-step c = atoms_kept

pub returns-clause-search_state : goal.returns-clause-search_state
returns-clause-search_state c task state atoms = atoms

pub returns-clause-with_costs : goal.returns-clause-with_costs
returns-clause-with_costs c task state atoms = atoms
