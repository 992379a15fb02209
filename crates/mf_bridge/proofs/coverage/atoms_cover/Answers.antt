use Rattle.mf_bridge.proofs.FluentAtoms.{changed_atoms_covered, start_atoms_covered}
use Rattle.mf_bridge.proofs.coverage.atoms_cover.Goals as goal

pub returns-clause-start : goal.returns-clause-start
returns-clause-start c = start_atoms_covered

pub returns-clause-changed : goal.returns-clause-changed
returns-clause-changed c = changed_atoms_covered
