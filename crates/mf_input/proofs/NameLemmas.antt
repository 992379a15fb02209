-- What both files say: they have a task, or a first refusal and none.
use Rattle.std.proofs.Common.{◌≡◌, ℕ, ◌<◌, inl, inr, Result, Ok, Err, List, [], Contains, refl, subst, arith}
use Rattle.mf_model.specs.declared.form.FileKind.TheVariants.{DomainFile, ProblemFile}
use Rattle.mf_model.specs.declared.form.Domain.{Domain}
use Rattle.mf_model.specs.declared.form.Problem.{Problem}
use Rattle.mf_model.specs.declared.task.TypedTask.{TypedTask}
use Rattle.mf_reader.specs.Domains.{domain_of}
use Rattle.mf_reader.specs.GrammarFiles.{IsDomain, IsProblem}
use Rattle.mf_reader.specs.Problems.{problem_of}
use Rattle.mf_reader.proofs.DomainReadings.{domain_reads}
use Rattle.mf_reader.proofs.ProblemReadings.{problem_reads}
use Rattle.mf_types.specs.declared.fault.NameFault.{NameFault}
use Rattle.mf_types.specs.declared.fault.NameFault.TheVariants as name
use Rattle.mf_types.specs.declared.least.Fault.{Fault}
use Rattle.mf_types.specs.declared.least.FaultKind.TheVariants.{Twice, TypeCycle, UnknownName, WrongCount, WrongType, TooMany, WideNumber, NotLinear}
use Rattle.mf_types.specs.Faults.{fault_at, IsLeast}
use Rattle.mf_types.specs.AllFaults.{faults_of}
use Rattle.mf_types.specs.Resolved.{NamesFirst, fault_named}
use Rattle.mf_input.specs.declared.refusal.FileFault.{FileFault}
use Rattle.mf_input.specs.declared.refusal.FileFault.TheVariants as file
use Rattle.mf_input.specs.declared.refusal.InputFault.{InputFault}
use Rattle.mf_input.specs.declared.refusal.InputFault.TheVariants as input
use Rattle.mf_input.specs.Files.{IsDomainFile, IsProblemFile, IsTaskOfFiles}
use Rattle.mf_input.specs.Kinds.{file_refusal, name_refusal}
use Rattle.mf_input.specs.Refusals.{ReadsFile, ReadsNames, ReadsProblem, ReadsFiles, domain_form_faults, problem_form_faults}
use Rattle.mf_input.proofs.FileLemmas.{only_value}

pub names_answer : (d : Domain) (p : Problem) (fault : NameFault) → NamesFirst d p (fault_named fault) → ReadsNames d p (Err (name_refusal fault))
names_answer d p (name.Twice f span) least = (fault_at Twice f span, least, refl)
names_answer d p (name.TypeCycle f span) least = (fault_at TypeCycle f span, least, refl)
names_answer d p (name.UnknownName f span) least = (fault_at UnknownName f span, least, refl)
names_answer d p (name.WrongCount f span) least = (fault_at WrongCount f span, least, refl)
names_answer d p (name.WrongType f span) least = (fault_at WrongType f span, least, refl)
names_answer d p (name.TooMany f span) least = (fault_at TooMany f span, least, refl)
names_answer d p (name.WideNumber f span) least = (fault_at WideNumber f span, least, refl)
names_answer d p (name.NotLinear f span) least = (fault_at NotLinear f span, least, refl)
names_answer d p name.Memory least = tt

-- the problem

pub problem_answer : (d : Domain) (p : Problem) (source : List ℕ) (result : Result TypedTask InputFault) → IsProblemFile source p → ReadsNames d p result → ReadsProblem d source result
problem_answer d p source (Ok task) is reads = (p, is, reads.0, reads.1)
problem_answer d p source (Err (input.Refused refusal)) is reads = inr (p, reads.0, is, reads.1, reads.2)
problem_answer d p source (Err input.Memory) is reads = tt

pub problem_refused : (d : Domain) (source : List ℕ) (fault : FileFault) → ReadsFile IsProblem problem_form_faults source (Err fault) → ReadsProblem d source (Err (file_refusal ProblemFile fault))
problem_refused d source (file.Refused kind at) refuses = inl (refl, refuses)
problem_refused d source file.Memory refuses = tt

-- both files

faults_remain : (d : Domain) (p : Problem) (fault : Fault) → IsLeast (faults_of d p) fault → faults_of d p ≡ [] → ⊥
faults_remain d p fault least none =
    let contained : Contains [] fault = subst (λ faults. Contains faults fault) none least.0 in
    let within : contained.0 < 0 = contained.1 in absurd (omega arith)

names_none : (domain_source problem_source : List ℕ) (d : Domain) (p : Problem) (fault : Fault) → IsDomainFile domain_source d → IsProblemFile problem_source p → IsLeast (faults_of d p) fault →
    (task : TypedTask) → IsTaskOfFiles domain_source problem_source task → ⊥
names_none domain_source problem_source d p fault d_is p_is least task has =
    let same_domain : has.domain ≡ d = only_value domain_of IsDomain domain_reads domain_source has.domain d has.domain_file d_is in
    let same_problem : has.problem ≡ p = only_value problem_of IsProblem problem_reads problem_source has.problem p has.problem_file p_is in
    faults_remain d p fault least (subst (λ it. faults_of it p ≡ []) same_domain (subst (λ it. faults_of has.domain it ≡ []) same_problem has.faultless))

pub files_answer : (domain_source problem_source : List ℕ) (d : Domain) (result : Result TypedTask InputFault) → IsDomainFile domain_source d → ReadsProblem d problem_source result →
    ReadsFiles domain_source problem_source result
files_answer domain_source problem_source d (Ok task) d_is (p, p_is, faultless, is) = record {
  domain = d;
  problem = p;
  domain_file = d_is;
  problem_file = p_is;
  faultless = faultless;
  task_of = is;
}
files_answer domain_source problem_source d (Err (input.Refused refusal)) d_is (inl (in_problem, refuses)) = record {
  refusal_is = inr (inl ((d, d_is), in_problem, refuses.refusal));
  none = λ task has. refuses.none has.problem has.problem_file;
}
files_answer domain_source problem_source d (Err (input.Refused refusal)) d_is (inr (p, fault, p_is, least, is)) = record {
  refusal_is = inr (inr (record { domain = d; problem = p; fault = fault; domain_file = d_is; problem_file = p_is; least = least; is = is }));
  none = names_none domain_source problem_source d p fault d_is p_is least;
}
files_answer domain_source problem_source d (Err input.Memory) d_is reads = tt

pub domain_refused : (domain_source problem_source : List ℕ) (fault : FileFault) → ReadsFile IsDomain domain_form_faults domain_source (Err fault) →
    ReadsFiles domain_source problem_source (Err (file_refusal DomainFile fault))
domain_refused domain_source problem_source (file.Refused kind at) refuses = record {
  refusal_is = inl (refl, refuses.refusal);
  none = λ task has. refuses.none has.domain has.domain_file;
}
domain_refused domain_source problem_source file.Memory refuses = tt

-- the clauses of the call
