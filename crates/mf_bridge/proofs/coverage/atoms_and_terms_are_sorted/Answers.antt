use Rattle.mf_bridge.proofs.CoveredTerms.{terms_are_sorted, terms_change}
use Rattle.mf_bridge.proofs.FluentAtoms.{atoms_are_fluent, atoms_are_sorted}
use Rattle.mf_bridge.proofs.coverage.atoms_and_terms_are_sorted.Goals as goal

pub returns-clause-atoms : goal.returns-clause-atoms
returns-clause-atoms c = atoms_are_sorted

pub returns-clause-terms : goal.returns-clause-terms
returns-clause-terms c = terms_are_sorted

pub returns-clause-fluent : goal.returns-clause-fluent
returns-clause-fluent c = atoms_are_fluent

pub returns-clause-changing : goal.returns-clause-changing
returns-clause-changing c = terms_change
