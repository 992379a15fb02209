-- What the tables of two files give: a task where no fault stands, and else the fault that is named first.
use Rattle.std.proofs.Common.{◌≡◌, Option, Some, None, [], ap, sym, ◌∙◌, subst}
use Rattle.mf_model.specs.declared.form.Domain.{Domain}
use Rattle.mf_model.specs.declared.form.Problem.{Problem}
use Rattle.mf_model.specs.declared.task.TypedTask.{TypedTask}
use Rattle.mf_types.specs.declared.least.Fault.{Fault}
use Rattle.mf_types.specs.AllFaults.{faults_in, faults_of}
use Rattle.mf_types.specs.Faults.{after, IsLeast}
use Rattle.mf_types.specs.Names.{Declared, declared_by}
use Rattle.mf_types.specs.Resolved.{IsResolved, NamesFirst}
use Rattle.mf_types.specs.Tasks.{AreFew, AreNarrow, task_of}
use Rattle.mf_types.proofs.Narrow.{are_narrow}
use Rattle.mf_types.proofs.Order.{least_of_all, none_of_all}
use Rattle.mf_types.proofs.TaskReadings.{task_sound}
use Rattle.mf_types.proofs.There.{IsThere}
use Rattle.mf_types.proofs.ThereTask.{task_there}

pub narrow_tables : (declared : Declared) (d : Domain) (p : Problem) → declared ≡ declared_by d p → AreFew declared → AreNarrow declared
narrow_tables declared d p e few =
    subst (λ (own : Declared). AreNarrow own) (sym e) (are_narrow d p (subst (λ (own : Declared). AreFew own) e few))

not_there : {A : Type 0} (o : Option A) → IsThere o → o ≡ None → ⊥
not_there None h e = h
not_there (Some x) h e = let no : ⊥ = cc in no

pub never_refused : (declared : Declared) (d : Domain) (p : Problem) → declared ≡ declared_by d p → faults_of d p ≡ [] → task_of declared d p ≡ None → ⊥
never_refused declared d p e clean none =
    not_there (task_of (declared_by d p) d p) (task_there d p clean) (ap (λ (own : Declared). task_of own d p) (sym e) ∙ none)

pub resolved : (declared : Declared) (d : Domain) (p : Problem) (task : TypedTask) → declared ≡ declared_by d p → faults_of d p ≡ [] → task_of declared d p ≡ Some task → IsResolved d p task
resolved declared d p task e clean is = record {
  clean = clean;
  task_of = task_sound (declared_by d p) d p task (ap (λ (own : Declared). task_of own d p) (sym e) ∙ is);
}

pub none_stands : (declared : Declared) (d : Domain) (p : Problem) → declared ≡ declared_by d p → None ≡ after None (faults_in declared d p) → faults_of d p ≡ []
none_stands declared d p e is =
    none_of_all (faults_of d p) (ap (λ (own : Declared). after None (faults_in own d p)) (sym e) ∙ sym is)

first_by : (d : Domain) (p : Problem) (named : Option Fault) (fault : Fault) → named ≡ Some fault → IsLeast (faults_of d p) fault → NamesFirst d p named
first_by d p named fault e h = subst (λ (o : Option Fault). NamesFirst d p o) (sym e) h

pub names_first : (declared : Declared) (d : Domain) (p : Problem) (named : Option Fault) (fault : Fault) → declared ≡ declared_by d p → Some fault ≡ after None (faults_in declared d p) → named ≡ Some fault → NamesFirst d p named
names_first declared d p named fault e is n =
    first_by d p named fault n (least_of_all (faults_of d p) fault (ap (λ (own : Declared). after None (faults_in own d p)) (sym e) ∙ sym is))
