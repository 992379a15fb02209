-- Two files have one task at most.
use Rattle.std.proofs.Common.{◌≡◌, ℕ, Option, Some, None, List, sym, ◌∙◌, ap, subst}
use Rattle.mf_model.specs.declared.form.Domain.{Domain}
use Rattle.mf_model.specs.declared.form.Problem.{Problem}
use Rattle.mf_model.specs.declared.task.TypeName.{TypeName}
use Rattle.mf_model.specs.declared.task.Object.{Object}
use Rattle.mf_model.specs.declared.task.Symbol.{Symbol}
use Rattle.mf_model.specs.declared.task.Action.{Action}
use Rattle.mf_model.specs.declared.task.Atom.{Atom}
use Rattle.mf_model.specs.declared.task.Valued.{Valued}
use Rattle.mf_model.specs.declared.task.Cond.{Cond}
use Rattle.mf_model.specs.declared.task.Metric.{Metric}
use Rattle.mf_model.specs.declared.task.TypedTask.{TypedTask}
use Rattle.mf_reader.specs.Domains.{domain_of}
use Rattle.mf_reader.specs.GrammarFiles.{IsDomain, IsProblem}
use Rattle.mf_reader.specs.Problems.{problem_of}
use Rattle.mf_reader.proofs.DomainReadings.{domain_reads}
use Rattle.mf_reader.proofs.ProblemReadings.{problem_reads}
use Rattle.mf_types.specs.Tasks.{IsTaskOf}
use Rattle.mf_input.specs.Files.{IsTaskOfFiles}
use Rattle.mf_input.proofs.FileLemmas.{only_value}

abbrev value_or : {A : Type 0} → A → Option A → A
value_or d None = d
value_or d (Some x) = x

one_value : {A : Type 0} (x y : A) (from : Option A) → from ≡ Some x → from ≡ Some y → x ≡ y
one_value x y from left right = ap (value_or x) (sym left ∙ right)

-- a task of these parts
abbrev task_with : List TypeName → List Object → List Symbol → List Symbol → List Action → List Atom → List Valued → Cond → Option Metric → TypedTask
task_with types objects predicates functions actions atoms values goal metric = record {
  types = types;
  objects = objects;
  predicates = predicates;
  functions = functions;
  actions = actions;
  atoms = atoms;
  values = values;
  goal = goal;
  metric = metric;
}

same_parts : (left right : TypedTask) → left.types ≡ right.types → left.objects ≡ right.objects → left.predicates ≡ right.predicates → left.functions ≡ right.functions → left.actions ≡ right.actions →
    left.atoms ≡ right.atoms → left.values ≡ right.values → left.goal ≡ right.goal → left.metric ≡ right.metric → left ≡ right
same_parts left right types objects predicates functions actions atoms values goal metric =
    ap (λ x. task_with x left.objects left.predicates left.functions left.actions left.atoms left.values left.goal left.metric) types
    ∙ (ap (λ x. task_with right.types x left.predicates left.functions left.actions left.atoms left.values left.goal left.metric) objects
    ∙ (ap (λ x. task_with right.types right.objects x left.functions left.actions left.atoms left.values left.goal left.metric) predicates
    ∙ (ap (λ x. task_with right.types right.objects right.predicates x left.actions left.atoms left.values left.goal left.metric) functions
    ∙ (ap (λ x. task_with right.types right.objects right.predicates right.functions x left.atoms left.values left.goal left.metric) actions
    ∙ (ap (λ x. task_with right.types right.objects right.predicates right.functions right.actions x left.values left.goal left.metric) atoms
    ∙ (ap (λ x. task_with right.types right.objects right.predicates right.functions right.actions right.atoms x left.goal left.metric) values
    ∙ (ap (λ x. task_with right.types right.objects right.predicates right.functions right.actions right.atoms right.values x left.metric) goal
    ∙ (ap (λ x. task_with right.types right.objects right.predicates right.functions right.actions right.atoms right.values right.goal x) metric))))))))

pub only_task_of : (d : Domain) (p : Problem) (left right : TypedTask) → IsTaskOf d p left → IsTaskOf d p right → left ≡ right
only_task_of d p left right one other =
    let types : left.types ≡ right.types = one.types ∙ sym other.types in
    let objects : left.objects ≡ right.objects = one.objects ∙ sym other.objects in
    let predicates : left.predicates ≡ right.predicates = one.predicates ∙ sym other.predicates in
    let functions : left.functions ≡ right.functions = one.functions ∙ sym other.functions in
    let actions : left.actions ≡ right.actions = one_value left.actions right.actions _ one.actions other.actions in
    let atoms : left.atoms ≡ right.atoms = one_value left.atoms right.atoms _ one.atoms other.atoms in
    let values : left.values ≡ right.values = one_value left.values right.values _ one.values other.values in
    let goal : left.goal ≡ right.goal = one_value left.goal right.goal _ one.goal other.goal in
    let metric : left.metric ≡ right.metric = one_value left.metric right.metric _ one.metric other.metric in
    same_parts left right types objects predicates functions actions atoms values goal metric

pub only_task : (domain problem : List ℕ) (left right : TypedTask) → IsTaskOfFiles domain problem left → IsTaskOfFiles domain problem right → left ≡ right
only_task domain problem left right one other =
    let same_domain : other.domain ≡ one.domain = only_value domain_of IsDomain domain_reads domain other.domain one.domain other.domain_file one.domain_file in
    let same_problem : other.problem ≡ one.problem = only_value problem_of IsProblem problem_reads problem other.problem one.problem other.problem_file one.problem_file in
    only_task_of one.domain one.problem left right one.task_of
    (subst (λ d. IsTaskOf d one.problem right) same_domain (subst (λ p. IsTaskOf other.domain p right) same_problem other.task_of))
