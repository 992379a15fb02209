-- What the answers of legal histories say: a plan leads to a goal, and no plan means that nothing does.
use Rattle.std.proofs.Common.{◌≡◌, ℕ, ◌<◌, ◌⊎◌, Bool, true, false, cond, List, Some, Contains, length, refl, sym, ap, ◌∙◌, inl, inr, subst, arith}
use Rattle.mf_search.specs.declared.entry.Entry.{Entry}
use Rattle.mf_search.specs.declared.status.Status.{Status}
use Rattle.mf_search.specs.declared.status.Status.TheVariants.{Running, Plan, NoPlan, Budget, Width, Halted}
use Rattle.mf_search.specs.Space.{Space, children_of}
use Rattle.mf_search.specs.World.{Going, World, WasOpened, at, IsOpen, MayTake, May, Legal, world}
use Rattle.mf_search.specs.declared.entry.Entry.TheVariants.{Take, Done, Wide}
use Rattle.mf_search.specs.Greedy.{Expanded}
use Rattle.mf_search.specs.Answers.{AllIdle, Answers, Ended, IsStatus, IsPlanFrom, LeadsToGoal, InfiniteIsDead, IsClosed, plan_to}
use Rattle.std.proofs.lemmas.Bool.{true≢false, false≢true}
use Rattle.std.proofs.lemmas.Option.{none-some}
use Rattle.mf_search.proofs.Sound.{IsDone, Sound, legal_sound}
use Rattle.mf_search.specs.Reaching.{LeadsToGoalBy, Covers}
use Rattle.mf_search.proofs.Walking.{trace_walks, closed_has_no_goal, ListStep, walk_along, covers_walks}
use Rattle.mf_search.proofs.Rebuilding.{within_itself, done_expanded}

pub plan_is_right : {S : Type 0} (sp : Space S) (budget workers : ℕ) (entries : List Entry) (i : ℕ) → Legal sp budget workers entries → Answers budget (world sp entries) (Plan i) → IsPlanFrom sp sp.start (plan_to sp (world sp entries).opened i)
plan_is_right {S} sp budget workers entries i legal e =
    let s = legal_sound sp budget workers entries legal in
    let goal = s.goal i e in
    let low = s.in_range i goal.0 in
    ((at sp (world sp entries).opened i).state, trace_walks sp (world sp entries) i s low, s.valued i low ∙ ap (λ v. Some v) goal.1)

-- Where the answer is no plan each opened state is done.
no_plan_done : {S : Type 0} (sp : Space S) (budget : ℕ) (w : World S) (i : ℕ) → Sound sp w → Answers budget w NoPlan → i < length w.opened → IsDone sp w i
no_plan_done sp budget w i s answer low = record { taken = answer.2 i low; at_rest = λ v h. none-some i (sym (answer.1 v) ∙ h); no_goal = s.no_goal answer.0 i (answer.2 i low) }

no_plan_closes : {S : Type 0} (sp : Space S) (budget : ℕ) (w : World S) → Sound sp w → Answers budget w NoPlan → IsClosed sp w.opened
no_plan_closes {S} sp budget w s answer = record {
  start = s.start_opened;
  expanded = λ x k. subst (Expanded sp) k.2 (done_expanded sp w w.opened k.0 s (within_itself sp w s) (no_plan_done sp budget w k.0 s answer k.1));
  onward = λ x y v k leads e. subst (WasOpened sp w.opened) leads.2 (s.done_opened k.0 leads.0 v (no_plan_done sp budget w k.0 s answer k.1) (subst (λ z. Contains (children_of (sp.grow z)) leads.0) (sym k.2) leads.1) (ap sp.value leads.2 ∙ e));
}

pub no_plan_is_closed : {S : Type 0} (sp : Space S) (budget workers : ℕ) (entries : List Entry) → Legal sp budget workers entries → Answers budget (world sp entries) NoPlan → IsClosed sp (world sp entries).opened
no_plan_is_closed sp budget workers entries legal answer = no_plan_closes sp budget (world sp entries) (legal_sound sp budget workers entries legal) answer

-- No steps that the space covers lead to a goal where the answer is no plan.
pub no_plan_by_steps : {S : Type 0} (sp : Space S) (budget workers : ℕ) (entries : List Entry) (Steps : S → ℕ → S → Type 0) (Goal : S → Type 0) → Legal sp budget workers entries → Answers budget (world sp entries) NoPlan → Covers sp Steps Goal → LeadsToGoalBy Steps Goal sp.start → ⊥
no_plan_by_steps sp budget workers entries Steps Goal legal answer covers plan = closed_has_no_goal sp (world sp entries).opened Steps Goal (no_plan_is_closed sp budget workers entries legal answer) covers plan

pub no_plan_is_right : {S : Type 0} (sp : Space S) (budget workers : ℕ) (entries : List Entry) → Legal sp budget workers entries → Answers budget (world sp entries) NoPlan → InfiniteIsDead sp → LeadsToGoal sp sp.start → ⊥
no_plan_is_right {S} sp budget workers entries legal answer dead plan =
    no_plan_by_steps sp budget workers entries (ListStep sp) (λ y. sp.value y ≡ Some 0) legal answer (covers_walks sp dead) (plan.0, (plan.1.0, walk_along sp sp.start plan.0 plan.1.0 plan.1.1, plan.1.2))

-- A history has one answer at most.
pub one_answer : {S : Type 0} (budget : ℕ) (w : World S) (a b : Status) → Answers budget w a → Answers budget w b → a ≡ b
one_answer budget w (Plan i) (Plan j) h k = cc
one_answer budget w (Plan i) (Width j n) h k = absurd (cc)
one_answer budget w (Plan i) NoPlan h k = let g = k.0 in absurd (cc)
one_answer budget w (Plan i) Budget h k = let g = k.0 in absurd (cc)
one_answer budget w (Width i n) (Plan j) h k = absurd (cc)
one_answer budget w (Width i n) (Width j m) h k = cc
one_answer budget w (Width i n) NoPlan h k = let g = k.0 in absurd (cc)
one_answer budget w (Width i n) Budget h k = let g = k.0 in absurd (cc)
one_answer budget w NoPlan (Plan j) h k = let g = h.0 in absurd (cc)
one_answer budget w NoPlan (Width j m) h k = let g = h.0 in absurd (cc)
one_answer budget w NoPlan NoPlan h k = refl
one_answer budget w NoPlan Budget h k = absurd (k.3.1.1 (h.2 k.3.0 k.3.1.0))
one_answer budget w Budget (Plan j) h k = let g = h.0 in absurd (cc)
one_answer budget w Budget (Width j m) h k = let g = h.0 in absurd (cc)
one_answer budget w Budget NoPlan h k = absurd (h.3.1.1 (k.2 h.3.0 h.3.1.0))
one_answer budget w Budget Budget h k = refl
one_answer budget w Running b h k = absurd h
one_answer budget w Halted b h k = absurd h
one_answer budget w (Plan i) Running h k = absurd k
one_answer budget w (Plan i) Halted h k = absurd k
one_answer budget w (Width i n) Running h k = absurd k
one_answer budget w (Width i n) Halted h k = absurd k
one_answer budget w NoPlan Running h k = absurd k
one_answer budget w NoPlan Halted h k = absurd k
one_answer budget w Budget Running h k = absurd k
one_answer budget w Budget Halted h k = absurd k

-- Where the search goes on and nothing is in expansion, no entry but a take may come.
idle_stops : {S : Type 0} (sp : Space S) (budget workers : ℕ) (w : World S) (e : Entry) → AllIdle w → ((worker i : ℕ) → MayTake sp budget workers w worker i → ⊥) → May sp budget workers w e → ⊥
idle_stops sp budget workers w (Take worker i) idle none may = none worker i may
idle_stops sp budget workers w (Done worker i) idle none may = none-some i (sym (idle worker) ∙ may.holds)
idle_stops sp budget workers w (Wide worker i n) idle none may = none-some i (sym (idle worker) ∙ may.holds)

may_going : {S : Type 0} (sp : Space S) (budget workers : ℕ) (w : World S) (e : Entry) → May sp budget workers w e → w.ending ≡ Going
may_going sp budget workers w (Take worker i) may = may.going
may_going sp budget workers w (Done worker i) may = may.going
may_going sp budget workers w (Wide worker i n) may = may.going

-- After an ended history no entry may come.
pub ended_stops : {S : Type 0} (sp : Space S) (budget workers : ℕ) (w : World S) (e : Entry) → Ended budget w → May sp budget workers w e → ⊥
ended_stops {S} sp budget workers w e ended may = go ended.0 ended.1
  where
    going : w.ending ≡ Going
    going = may_going sp budget workers w e may

    go : (a : Status) → Answers budget w a → ⊥
    go (Plan i) h = let g = going in absurd (cc)
    go (Width i n) h = let g = going in absurd (cc)
    go NoPlan h = idle_stops sp budget workers w e h.1 (λ worker i m. m.is_open.1 (h.2 i m.is_open.0)) may
    go Budget h = idle_stops sp budget workers w e h.1 (λ worker i m. let a = m.in_budget in let b = h.2 in omega arith) may
    go Running h = h
    go Halted h = h

-- While something is in expansion, or open within the budget, a search that goes on has no answer.
pub busy_runs : {S : Type 0} (budget : ℕ) (w : World S) (worker i : ℕ) → w.ending ≡ Going → w.busy worker ≡ Some i → (a : Status) → Answers budget w a → ⊥
busy_runs budget w worker i going held (Plan j) h = absurd (cc)
busy_runs budget w worker i going held (Width j n) h = absurd (cc)
busy_runs budget w worker i going held NoPlan h = none-some i (sym (h.1 worker) ∙ held)
busy_runs budget w worker i going held Budget h = none-some i (sym (h.1 worker) ∙ held)
busy_runs budget w worker i going held Running h = h
busy_runs budget w worker i going held Halted h = h

pub open_runs : {S : Type 0} (budget : ℕ) (w : World S) (i : ℕ) → w.ending ≡ Going → IsOpen w i → length w.taken < budget → (a : Status) → Answers budget w a → ⊥
open_runs budget w i going left low (Plan j) h = absurd (cc)
open_runs budget w i going left low (Width j n) h = absurd (cc)
open_runs budget w i going left low NoPlan h = left.1 (h.2 i left.0)
open_runs budget w i going left low Budget h = let e = h.2 in absurd (omega arith)
open_runs budget w i going left low Running h = h
open_runs budget w i going left low Halted h = h

status_answer : {S : Type 0} (budget : ℕ) (w : World S) (halted : Bool) (a : Status) → IsStatus budget w halted a → Answers budget w a ⊎ ((a ≡ cond halted Halted Running) × (Ended budget w → ⊥))
status_answer budget w true Running h = absurd (true≢false h.0)
status_answer budget w false Running h = inr (refl, h.1)
status_answer budget w true Halted h = inr (refl, h.1)
status_answer budget w false Halted h = absurd (false≢true h.0)
status_answer budget w halted (Plan i) h = inl h
status_answer budget w halted NoPlan h = inl h
status_answer budget w halted Budget h = inl h
status_answer budget w halted (Width i n) h = inl h

-- A search has one status.
pub one_status : {S : Type 0} (budget : ℕ) (w : World S) (halted : Bool) (a b : Status) → IsStatus budget w halted a → IsStatus budget w halted b → a ≡ b
one_status {S} budget w halted a b h k = go (status_answer budget w halted a h) (status_answer budget w halted b k)
  where
    go : Answers budget w a ⊎ ((a ≡ cond halted Halted Running) × (Ended budget w → ⊥)) → Answers budget w b ⊎ ((b ≡ cond halted Halted Running) × (Ended budget w → ⊥)) → a ≡ b
    go (inl x) (inl y) = one_answer budget w a b x y
    go (inl x) (inr y) = absurd (y.1 (a, x))
    go (inr x) (inl y) = absurd (x.1 (b, y))
    go (inr x) (inr y) = x.0 ∙ sym y.0
