-- What the searches of a task have in common.
use Rattle.std.proofs.Common.{◌≡◌, ℕ, ◌<◌, List, length, ap, ◌∙◌, subst, arith}
use Rattle.std.proofs.lemmas.List.{length-map}
use Rattle.mf_model.specs.declared.task.TypedTask.{TypedTask}
use Rattle.mf_model.specs.declared.state.Instance.{Instance}
use Rattle.mf_plain.specs.SearchTask.{IsSearchTask}
use Rattle.mf_model.specs.Plans.{IsPlan}
use Rattle.mf_model.specs.States.{start_of}
use Rattle.mf_search.specs.declared.status.Status.{Status}
use Rattle.mf_search.specs.declared.status.Status.TheVariants.{NoPlan, Budget}
use Rattle.mf_search.specs.Answers.{Answers, InfiniteIsDead}
use Rattle.mf_search.proofs.Answering.{no_plan_is_right, one_answer}
use Rattle.mf_search.proofs.OneWorker.{only_history}
use Rattle.mf_search.proofs.Sound.{legal_sound}
use Rattle.mf_search.proofs.Counting.{budget_spent}
use Rattle.mf_plain.specs.declared.history.Searched.{Searched}
use Rattle.mf_plain.specs.PlainSpace.{space_of}
use Rattle.mf_plain.specs.Searches.{IsSearched, world_of}
use Rattle.mf_plain.proofs.Bridge.{valid_is_walk}

answers_as : (task : TypedTask) (budget : ℕ) (searched : Searched) (status : Status) → IsSearched task budget searched → searched.status ≡ status → Answers budget (world_of task searched.history) status
answers_as task budget searched status s e = subst (Answers budget (world_of task searched.history)) e s.answers

finite : (task : TypedTask) → InfiniteIsDead (space_of task)
finite task x reached e leads = absurd (cc)

pub no_plan_found : (task : TypedTask) (budget : ℕ) (searched : Searched) → IsSearchTask task → IsSearched task budget searched → searched.status ≡ NoPlan → (steps : List Instance) → IsPlan task steps → ⊥
no_plan_found task budget searched plain s e steps valid =
    no_plan_is_right (space_of task) budget 1 searched.history.entries s.legal (answers_as task budget searched NoPlan s e) (finite task) (valid_is_walk task (start_of task) steps plain valid)

pub one_search : (task : TypedTask) (budget : ℕ) (this that : Searched) → IsSearched task budget this → IsSearched task budget that → (this.history.entries ≡ that.history.entries) × (this.status ≡ that.status)
one_search task budget this that a b =
    let same : this.history.entries ≡ that.history.entries = only_history (space_of task) budget this.history.entries that.history.entries a.legal b.legal (this.status, a.answers) (that.status, b.answers) in
    (same, one_answer budget (world_of task that.history) this.status that.status (rw (← same) a.answers) b.answers)

pub budget_reached : (task : TypedTask) (budget : ℕ) (searched : Searched) → IsSearched task budget searched → searched.status ≡ Budget → budget < length searched.history.rows
budget_reached task budget searched s e =
    let w = world_of task searched.history in
    let more = budget_spent (space_of task) budget w (legal_sound (space_of task) budget 1 searched.history.entries s.legal) (answers_as task budget searched Budget s e) in
    let rows : length searched.history.rows ≡ length w.opened = ap length s.kept.rows ∙ length-map w.opened (λ o. o.state) in
    omega arith
