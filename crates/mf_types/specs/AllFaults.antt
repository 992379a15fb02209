-- All faults of names, types and numbers of a domain and a problem.
use Rattle.std.specs.Prelude.{List, ◌++◌}
use Rattle.mf_model.specs.declared.form.Domain.{Domain}
use Rattle.mf_model.specs.declared.form.Problem.{Problem}
use Rattle.mf_types.specs.declared.least.Fault.{Fault}
use Rattle.mf_types.specs.DeclarationFaults.{declaration_faults_in}
use Rattle.mf_types.specs.Names.{Declared, declared_by}
use Rattle.mf_types.specs.Uses.{uses_in}

abbrev pub faults_in : Declared → Domain → Problem → List Fault
faults_in declared d p = declaration_faults_in declared d p ++ uses_in declared d p

abbrev pub faults_of : Domain → Problem → List Fault
faults_of d p = faults_in (declared_by d p) d p
