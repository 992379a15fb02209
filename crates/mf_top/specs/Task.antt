-- The step that reads the task of two files.
use Rattle.std.specs.Prelude.{◌≡◌, ℕ, ◌⊎◌, Result, Ok, Err, List}
use Rattle.mf_model.specs.declared.form.FileKind.{FileKind}
use Rattle.mf_model.specs.declared.form.FileKind.TheVariants.{DomainFile, ProblemFile}
use Rattle.mf_model.specs.declared.task.TypedTask.{TypedTask}
use Rattle.mf_input.specs.declared.refusal.Refusal.{Refusal}
use Rattle.mf_input.specs.Files.{IsTaskOfFiles}
use Rattle.mf_input.specs.Refusals.{RefusesFiles}
use Rattle.mf_top.specs.declared.decision.Decision.{Decision}
use Rattle.mf_top.specs.Decision.{refuses, out_of_memory}
use Rattle.mf_top.specs.Texts.{refusal_text}

-- the name of the file of this kind
abbrev pub name_of : FileKind → (domain problem : List ℕ) → List ℕ
name_of DomainFile domain problem = domain
name_of ProblemFile domain problem = problem

-- the two files are refused, and this is the text: the name of the file, the place and the kind
pub record IsTaskRefusal (domain_name problem_name domain problem text : List ℕ) : Type 0 where
  pub refusal : Refusal
  pub first : RefusesFiles domain problem refusal
  pub text_is : text ≡ refusal_text (name_of refusal.file domain_name problem_name) refusal

abbrev pub ReadsTask : (domain_name problem_name domain problem : List ℕ) → Result TypedTask Decision → Type 0
ReadsTask domain_name problem_name domain problem (Ok task) = IsTaskOfFiles domain problem task
ReadsTask domain_name problem_name domain problem (Err decision) =
    (decision ≡ out_of_memory) ⊎ ((text : List ℕ) × IsTaskRefusal domain_name problem_name domain problem text × (decision ≡ refuses text))
