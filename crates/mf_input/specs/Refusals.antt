-- Why two files have no task: the first refusal, in the order of reading. Of the domain its tokens, its tree and its
-- form are read, then the same of the problem, and then the names of both.
use Rattle.std.specs.Prelude.{◌≡◌, ℕ, ◌⊎◌, Result, Ok, Err, List, []}
use Rattle.mf_model.specs.declared.token.Span.{Span}
use Rattle.mf_model.specs.declared.token.Token.{Token}
use Rattle.mf_model.specs.declared.tree.Tree.{Tree}
use Rattle.mf_model.specs.declared.form.FileKind.TheVariants.{DomainFile, ProblemFile}
use Rattle.mf_model.specs.declared.form.Domain.{Domain}
use Rattle.mf_model.specs.declared.form.Problem.{Problem}
use Rattle.mf_model.specs.declared.task.TypedTask.{TypedTask}
use Rattle.mf_model.specs.Tokens.{IsTokens, BadByteAt, TooLongAt, IsCleanBelow}
use Rattle.mf_model.specs.Trees.{IsTreeOf, UnbalancedAt, TooDeepAt}
use Rattle.mf_reader.specs.declared.fault.FormFault.{FormFault}
use Rattle.mf_reader.specs.declared.fault.FormFault.TheVariants as form
use Rattle.mf_reader.specs.GrammarFiles.{IsProblem}
use Rattle.mf_reader.specs.Said.{FirstIs}
use Rattle.mf_reader.specs.Order as form_order
use Rattle.mf_reader.specs.Domains.{domain_of}
use Rattle.mf_reader.specs.Problems.{problem_of}
use Rattle.mf_types.specs.declared.least.Fault.{Fault}
use Rattle.mf_types.specs.declared.least.FaultKind.{FaultKind}
use Rattle.mf_types.specs.declared.least.FaultKind.TheVariants as names
use Rattle.mf_types.specs.Faults.{IsLeast}
use Rattle.mf_types.specs.AllFaults.{faults_of}
use Rattle.mf_input.specs.declared.refusal.Refusal.{Refusal}
use Rattle.mf_input.specs.declared.refusal.RefusalKind.{RefusalKind}
use Rattle.mf_input.specs.declared.refusal.RefusalKind.TheVariants.{BadByte, WordTooLong, Unbalanced, TooDeep, UnknownRequirement, LeftOut, BadForm, DeclaredTwice, TypeCycle, UnknownName, WrongCount, WrongType, TooMany, WideNumber, NotLinear}
use Rattle.mf_input.specs.declared.refusal.FileFault.{FileFault}
use Rattle.mf_input.specs.declared.refusal.FileFault.TheVariants as file
use Rattle.mf_input.specs.declared.refusal.InputFault.{InputFault}
use Rattle.mf_input.specs.declared.refusal.InputFault.TheVariants as input
use Rattle.mf_types.specs.Tasks.{IsTaskOf}
use Rattle.mf_input.specs.Files.{IsFileOf, IsDomainFile, IsProblemFile, IsTaskOfFiles}

-- One file

-- the first of the faults of the file's form, which is the one of the least start
pub record IsFormRefusal (faults : Tree → List FormFault) (source : List ℕ) (fault : Span → FormFault) (at : ℕ) : Type 0 where
  pub tree : Tree
  pub span : Span
  pub is_tree : IsTreeOf source tree
  pub first : FirstIs (fault span) (faults tree)
  pub least : form_order.IsLeast (fault span) (faults tree)
  pub place : at ≡ span.start

-- the bytes or the brackets are refused for this reason at this place
abbrev pub IsTextRefusal : List ℕ → RefusalKind → ℕ → Type 0
IsTextRefusal source BadByte at = BadByteAt source at × IsCleanBelow source at
IsTextRefusal source WordTooLong at = TooLongAt source at × IsCleanBelow source at
IsTextRefusal source Unbalanced at = (tokens : List Token) × IsTokens source tokens × UnbalancedAt source tokens at
IsTextRefusal source TooDeep at = (tokens : List Token) × IsTokens source tokens × TooDeepAt tokens at
IsTextRefusal source UnknownRequirement at = ⊥
IsTextRefusal source LeftOut at = ⊥
IsTextRefusal source BadForm at = ⊥
IsTextRefusal source DeclaredTwice at = ⊥
IsTextRefusal source TypeCycle at = ⊥
IsTextRefusal source UnknownName at = ⊥
IsTextRefusal source WrongCount at = ⊥
IsTextRefusal source WrongType at = ⊥
IsTextRefusal source TooMany at = ⊥
IsTextRefusal source WideNumber at = ⊥
IsTextRefusal source NotLinear at = ⊥

-- a file is refused for this reason at this place: for its bytes or brackets, or else for its form
abbrev pub IsFileRefusal : (Tree → List FormFault) → List ℕ → RefusalKind → ℕ → Type 0
IsFileRefusal faults source kind at =
    IsTextRefusal source kind at
    ⊎ (((kind ≡ UnknownRequirement) × IsFormRefusal faults source form.UnknownRequirement at)
    ⊎ (((kind ≡ LeftOut) × IsFormRefusal faults source form.LeftOut at)
    ⊎ ((kind ≡ BadForm) × IsFormRefusal faults source form.BadForm at)))

-- the tree of a file, or why it has none
abbrev pub ReadsTree : List ℕ → Result Tree FileFault → Type 0
ReadsTree source (Ok tree) = IsTreeOf source tree
ReadsTree source (Err (file.Refused kind at)) = IsTextRefusal source kind at × ((tree : Tree) → ¬ IsTreeOf source tree)
ReadsTree source (Err file.Memory) = Unit {0}

abbrev pub domain_form_faults : Tree → List FormFault
domain_form_faults tree = (domain_of tree).faults

abbrev pub problem_form_faults : Tree → List FormFault
problem_form_faults tree = (problem_of tree).faults

-- a file that is refused has no value by its form
pub record RefusesFile {A : Type 0} (Form : A → Tree → Type 0) (faults : Tree → List FormFault) (source : List ℕ) (kind : RefusalKind) (at : ℕ) : Type 0 where
  pub refusal : IsFileRefusal faults source kind at
  pub none : (value : A) → ¬ IsFileOf Form source value

-- what a file was read as, or why it was refused; want of memory says nothing of the file
abbrev pub ReadsFile : {A : Type 0} → (A → Tree → Type 0) → (Tree → List FormFault) → List ℕ → Result A FileFault → Type 0
ReadsFile Form faults source (Ok value) = IsFileOf Form source value
ReadsFile Form faults source (Err (file.Refused kind at)) = RefusesFile Form faults source kind at
ReadsFile Form faults source (Err file.Memory) = Unit {0}

-- Both files

abbrev pub kind_of : FaultKind → RefusalKind
kind_of names.Twice = DeclaredTwice
kind_of names.TypeCycle = TypeCycle
kind_of names.UnknownName = UnknownName
kind_of names.WrongCount = WrongCount
kind_of names.WrongType = WrongType
kind_of names.TooMany = TooMany
kind_of names.WideNumber = WideNumber
kind_of names.NotLinear = NotLinear

abbrev pub refusal_of : Fault → Refusal
refusal_of fault = record { file = fault.file; kind = kind_of fault.kind; at = fault.span.start }

-- both files have their forms, and this is the least fault of their names
pub record IsNameRefusal (domain_source problem_source : List ℕ) (refusal : Refusal) : Type 0 where
  pub domain : Domain
  pub problem : Problem
  pub fault : Fault
  pub domain_file : IsDomainFile domain_source domain
  pub problem_file : IsProblemFile problem_source problem
  pub least : IsLeast (faults_of domain problem) fault
  pub is : refusal ≡ refusal_of fault

abbrev pub IsDomainRefusal : List ℕ → Refusal → Type 0
IsDomainRefusal source refusal = (refusal.file ≡ DomainFile) × IsFileRefusal domain_form_faults source refusal.kind refusal.at

abbrev pub IsProblemRefusal : List ℕ → List ℕ → Refusal → Type 0
IsProblemRefusal domain_source source refusal =
    ((domain : Domain) × IsDomainFile domain_source domain) × (refusal.file ≡ ProblemFile) × IsFileRefusal problem_form_faults source refusal.kind refusal.at

-- the refusal that comes first
abbrev pub IsRefusal : List ℕ → List ℕ → Refusal → Type 0
IsRefusal domain_source problem_source refusal =
    IsDomainRefusal domain_source refusal
    ⊎ (IsProblemRefusal domain_source problem_source refusal
    ⊎ IsNameRefusal domain_source problem_source refusal)

-- files that are refused have no task
pub record RefusesFiles (domain_source problem_source : List ℕ) (refusal : Refusal) : Type 0 where
  pub refusal_is : IsRefusal domain_source problem_source refusal
  pub none : (task : TypedTask) → ¬ IsTaskOfFiles domain_source problem_source task

-- the task of a domain and a problem, or the least fault of their names
abbrev pub ReadsNames : Domain → Problem → Result TypedTask InputFault → Type 0
ReadsNames domain problem (Ok task) = (faults_of domain problem ≡ []) × IsTaskOf domain problem task
ReadsNames domain problem (Err (input.Refused refusal)) = (fault : Fault) × IsLeast (faults_of domain problem) fault × (refusal ≡ refusal_of fault)
ReadsNames domain problem (Err input.Memory) = Unit {0}

-- the task of a domain and a problem file, or the refusal of the problem, or of the names of both
abbrev pub ReadsProblem : Domain → List ℕ → Result TypedTask InputFault → Type 0
ReadsProblem domain source (Ok task) = (problem : Problem) × IsProblemFile source problem × (faults_of domain problem ≡ []) × IsTaskOf domain problem task
ReadsProblem domain source (Err (input.Refused refusal)) =
    ((refusal.file ≡ ProblemFile) × RefusesFile IsProblem problem_form_faults source refusal.kind refusal.at)
    ⊎ ((problem : Problem) × (fault : Fault) × IsProblemFile source problem × IsLeast (faults_of domain problem) fault × (refusal ≡ refusal_of fault))
ReadsProblem domain source (Err input.Memory) = Unit {0}

abbrev pub ReadsFiles : List ℕ → List ℕ → Result TypedTask InputFault → Type 0
ReadsFiles domain_source problem_source (Ok task) = IsTaskOfFiles domain_source problem_source task
ReadsFiles domain_source problem_source (Err (input.Refused refusal)) = RefusesFiles domain_source problem_source refusal
ReadsFiles domain_source problem_source (Err input.Memory) = Unit {0}

-- the fault of a call is the first refusal, unless memory is wanting
abbrev pub IsFirstRefusal : List ℕ → List ℕ → InputFault → Type 0
IsFirstRefusal domain_source problem_source (input.Refused refusal) = IsRefusal domain_source problem_source refusal
IsFirstRefusal domain_source problem_source input.Memory = Unit {0}

abbrev pub HaveNoTask : List ℕ → List ℕ → InputFault → Type 0
HaveNoTask domain_source problem_source (input.Refused refusal) = (task : TypedTask) → ¬ IsTaskOfFiles domain_source problem_source task
HaveNoTask domain_source problem_source input.Memory = Unit {0}
