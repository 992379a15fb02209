-- What a domain file and a problem file say, and the task that they mean together.
use Rattle.std.specs.Prelude.{◌≡◌, ℕ, List, []}
use Rattle.mf_model.specs.declared.tree.Tree.{Tree}
use Rattle.mf_model.specs.declared.form.Domain.{Domain}
use Rattle.mf_model.specs.declared.form.Problem.{Problem}
use Rattle.mf_model.specs.declared.task.TypedTask.{TypedTask}
use Rattle.mf_model.specs.Trees.{IsTreeOf}
use Rattle.mf_reader.specs.GrammarFiles.{IsDomain, IsProblem}
use Rattle.mf_types.specs.Tasks.{IsTaskOf}
use Rattle.mf_types.specs.AllFaults.{faults_of}

-- the value that the tree of a file has by a form of the grammar
pub record IsFileOf {A : Type 0} (Form : A → Tree → Type 0) (source : List ℕ) (value : A) : Type 0 where
  pub tree : Tree
  pub is_tree : IsTreeOf source tree
  pub form : Form value tree

abbrev pub IsDomainFile : List ℕ → Domain → Type 0
IsDomainFile source domain = IsFileOf IsDomain source domain

abbrev pub IsProblemFile : List ℕ → Problem → Type 0
IsProblemFile source problem = IsFileOf IsProblem source problem

-- the task of a domain file and a problem file
pub record IsTaskOfFiles (domain_source problem_source : List ℕ) (task : TypedTask) : Type 0 where
  pub domain : Domain
  pub problem : Problem
  pub domain_file : IsDomainFile domain_source domain
  pub problem_file : IsProblemFile problem_source problem
  pub faultless : faults_of domain problem ≡ []
  pub task_of : IsTaskOf domain problem task
