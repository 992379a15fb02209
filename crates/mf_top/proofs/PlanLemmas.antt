-- What the calls of `plan` keep.
use Rattle.std.proofs.Common.{◌≡◌, ◌≢◌, ℕ, ◌<◌, ◌≤◌, ◌⊎◌, inl, inr, All, Option, Some, Result, Ok, Err, Contains, List, [], ◌∷◌, ◌++◌, length, codes, refl, sym, ◌∙◌, ap, subst, arith}
use Rattle.mf_io.specs.declared.folder.Loading.{Loading}
use Rattle.mf_model.specs.declared.task.TypedTask.{TypedTask}
use Rattle.mf_search.specs.declared.status.Status.TheVariants as status
use Rattle.mf_search.specs.Answers as answering
use Rattle.mf_search.specs.World.{AllDifferent, takes, world}
use Rattle.mf_search.proofs.OneStep.{taken_is}
use Rattle.mf_search.proofs.OneWorker.{takes_are_greedy, only_history}
use Rattle.mf_search.proofs.Sound.{legal_sound, apart_states}
use Rattle.mf_search.proofs.Taking.{greedy_run_to_take}
use Rattle.mf_search.proofs.Walking.{opened_reached}
use Rattle.mf_input.specs.Files.{IsTaskOfFiles}
use Rattle.mf_input.proofs.OneTask.{only_task}
use Rattle.mf_plain.proofs.Lawful.{budget_reached}
use Rattle.mf_plain.specs.declared.history.History.{History}
use Rattle.mf_plain.specs.declared.history.Searched.{Searched}
use Rattle.mf_plain.specs.PlainSpace.{space_of}
use Rattle.mf_plain.specs.PlainTask.{IsPlainTask}
use Rattle.mf_plain.specs.Searches.{IsSearched, world_of}
use Rattle.mf_top.specs.declared.decision.Decision.{Decision}
use Rattle.mf_top.specs.declared.search.Answer.{Answer}
use Rattle.mf_top.specs.Call.{Call, Says, IsUnlessFault, FailsAt, LastLoadFails, IsFaultless}
use Rattle.mf_top.specs.Decision.{no_history, answers, stops, refuses, out_of_memory}
use Rattle.mf_top.specs.Loads.{greatest_length, LoadsThen, AllFit, SomeIsTooLong, IsLengthRefusal}
use Rattle.mf_top.specs.Plan.{DecidesPlan, IsInputRefusal, IsRefusedInput, SearchOf, PrintsPlan, HasNoPlan, ReachesBudget, search_status, IsGreedySearch, IsSearchStatus}
use Rattle.mf_top.specs.Search.{Answers, IsAnswer}
use Rattle.mf_top.specs.Texts.{unread_text, plan_text, budget_text}
use Rattle.mf_top.proofs.CallLemmas.{Delivered, Concluded, stands, stands_as, memory_stands, concluded, says_as, says_text, status_as}
use Rattle.mf_top.proofs.LoadLemmas.{IsFine, IsDecided, memory_decided, refuses_decided, decided_as, ToldStops, length_refused, long_does_not_fit}

-- How a call ends, of files with these bytes

-- the search of a plain task of the files answers
pub record Found (domain problem : List ℕ) (budget : ℕ) (decision : Decision) : Type 0 where
  pub task : TypedTask
  pub of_files : IsTaskOfFiles domain problem task
  pub fit : AllFit (domain ∷ problem ∷ [])
  pub plain : IsPlainTask task
  pub searched : Searched
  pub is_searched : IsSearched task budget searched
  pub answer : Answer
  pub is_answer : IsAnswer task budget searched answer
  pub is : decision ≡ answers answer.status answer.text searched.history

-- memory ran out, before a search returned or after it
pub record RunsOut (domain problem : List ℕ) (budget : ℕ) (decision : Decision) : Type 0 where
  pub status_is : decision.status ≡ 8
  pub out_is : decision.out ≡ []
  pub history : (decision.history ≡ no_history) ⊎ SearchOf domain problem budget decision.history

abbrev pub PlanEnds : (names : List (List ℕ)) → (d p domain problem : List ℕ) → ℕ → (before after : List Loading) → Decision → Type 0
PlanEnds names d p domain problem budget before after decision =
    RunsOut domain problem budget decision
    ⊎ ((name : List ℕ) × FailsAt names name before after × (decision ≡ stops 4 (unread_text name)))
    ⊎ ((text : List ℕ) × IsInputRefusal d p domain problem text × (decision ≡ refuses text))
    ⊎ Found domain problem budget decision

runs_out : (domain problem : List ℕ) (budget : ℕ) (decision : Decision) → decision ≡ out_of_memory → RunsOut domain problem budget decision
runs_out domain problem budget decision memory =
    record { status_is = ap (λ d. d.status) memory; out_is = ap (λ d. d.out) memory; history = inl (ap (λ d. d.history) memory) }

search_ends : (names : List (List ℕ)) (d p domain problem : List ℕ) (budget : ℕ) (before after : List Loading) (decision : Decision) (task : TypedTask) →
    AllFit (domain ∷ problem ∷ []) → IsTaskOfFiles domain problem task → IsPlainTask task → Answers task budget decision →
    PlanEnds names d p domain problem budget before after decision
search_ends names d p domain problem budget before after decision task fit of_files plain answered = by answered.said
  where
    by : (decision ≡ answers 8 [] answered.searched.history)
        ⊎ ((answer : Answer) × IsAnswer task budget answered.searched answer × (decision ≡ answers answer.status answer.text answered.searched.history)) →
        PlanEnds names d p domain problem budget before after decision
    by (inl is) = inl (record {
      status_is = ap (λ e. e.status) is;
      out_is = ap (λ e. e.out) is;
      history = inr (record { task = task; of_files = of_files; searched = answered.searched; is_searched = answered.is_searched; returned = ap (λ e. e.history) is });
    })
    by (inr (answer, is_answer, is)) = inr (inr (inr (record {
      task = task;
      of_files = of_files;
      fit = fit;
      plain = plain;
      searched = answered.searched;
      is_searched = answered.is_searched;
      answer = answer;
      is_answer = is_answer;
      is = is;
    })))

pub plan_decides : (names : List (List ℕ)) (d p domain problem : List ℕ) (budget : ℕ) (before after : List Loading) (decision : Decision) →
    AllFit (domain ∷ problem ∷ []) → DecidesPlan d p budget domain problem decision → PlanEnds names d p domain problem budget before after decision
plan_decides names d p domain problem budget before after decision fit (inl (inl memory)) = inl (runs_out domain problem budget decision memory)
plan_decides names d p domain problem budget before after decision fit (inl (inr (text, refusal, is))) = inr (inr (inl (text, inr (inl (fit, refusal)), is)))
plan_decides names d p domain problem budget before after decision fit (inr (task, of_files, inl memory)) = inl (runs_out domain problem budget decision memory)
plan_decides names d p domain problem budget before after decision fit (inr (task, of_files, inr (inl (plain, answered)))) =
    search_ends names d p domain problem budget before after decision task fit of_files plain answered
plan_decides names d p domain problem budget before after decision fit (inr (task, of_files, inr (inr (not_plain, inl is)))) =
    let text = codes "task: not built\n" in
    inr (inr (inl (text, inr (inr (fit, record { task = task; of_files = of_files; not_plain = not_plain; text_is = refl })), is)))
plan_decides names d p domain problem budget before after decision fit (inr (task, of_files, inr (inr (not_plain, inr memory)))) =
    inl (runs_out domain problem budget decision memory)

pub plan_told : (d p domain problem : List ℕ) (budget : ℕ) (before after : List Loading) (decision : Decision) →
    ToldStops (d ∷ p ∷ []) (domain ∷ problem ∷ []) before after decision ⊎ (AllFit (domain ∷ problem ∷ []) × DecidesPlan d p budget domain problem decision) →
    PlanEnds (d ∷ p ∷ []) d p domain problem budget before after decision
plan_told d p domain problem budget before after decision (inl (inl memory)) = inl (runs_out domain problem budget decision memory)
plan_told d p domain problem budget before after decision (inl (inr (inl fails))) = inr (inl fails)
plan_told d p domain problem budget before after decision (inl (inr (inr (text, refusal, is)))) = inr (inr (inl (text, inl refusal, is)))
plan_told d p domain problem budget before after decision (inr (fit, decides)) =
    plan_decides (d ∷ p ∷ []) d p domain problem budget before after decision fit decides

-- The decision

answer_decided : (task : TypedTask) (budget : ℕ) (searched : Searched) (answer : Answer) → IsAnswer task budget searched answer → IsDecided (answers answer.status answer.text searched.history)
answer_decided task budget searched answer (inl (zero, finds)) =
    record { fine = record { most = omega arith; no_fault = λ e. omega arith; quiet = λ low high. absurd (omega arith) }; no_load = λ e. omega arith }
answer_decided task budget searched answer (inr (inl (one, finds, text))) =
    record { fine = record { most = omega arith; no_fault = λ e. omega arith; quiet = λ low high. absurd (omega arith) }; no_load = λ e. omega arith }
answer_decided task budget searched answer (inr (inr (six, status_is, text))) =
    record { fine = record { most = omega arith; no_fault = λ e. omega arith; quiet = λ low high. absurd (omega arith) }; no_load = λ e. omega arith }

answer_not_two : (task : TypedTask) (budget : ℕ) (searched : Searched) (answer : Answer) → IsAnswer task budget searched answer → answer.status ≢ 2
answer_not_two task budget searched answer (inl (zero, finds)) two = omega arith
answer_not_two task budget searched answer (inr (inl (one, finds, text))) two = omega arith
answer_not_two task budget searched answer (inr (inr (six, status_is, text))) two = omega arith

run_out_decided : (decision : Decision) → decision.status ≡ 8 → decision.out ≡ [] → IsDecided decision
run_out_decided decision eight empty =
    record { fine = record { most = omega arith; no_fault = λ e. omega arith; quiet = λ low high. empty }; no_load = λ e. omega arith }

pub plan_decided : (d p domain problem : List ℕ) (budget : ℕ) (decision : Decision) → DecidesPlan d p budget domain problem decision → IsDecided decision × (decision.status ≢ 2)
plan_decided d p domain problem budget decision (inl (inl memory)) =
    (decided_as out_of_memory decision memory_decided memory, λ two. let e = status_as decision out_of_memory 2 memory two in omega arith)
plan_decided d p domain problem budget decision (inl (inr (text, refusal, is))) =
    (decided_as (refuses text) decision (refuses_decided text) is, λ two. let e = status_as decision (refuses text) 2 is two in omega arith)
plan_decided d p domain problem budget decision (inr (task, of_files, inl memory)) =
    (decided_as out_of_memory decision memory_decided memory, λ two. let e = status_as decision out_of_memory 2 memory two in omega arith)
plan_decided d p domain problem budget decision (inr (task, of_files, inr (inr (not_plain, inl is)))) =
    let text = codes "task: not built\n" in
    (decided_as (refuses text) decision (refuses_decided text) is, λ two. let e = status_as decision (refuses text) 2 is two in omega arith)
plan_decided d p domain problem budget decision (inr (task, of_files, inr (inr (not_plain, inr memory)))) =
    (decided_as out_of_memory decision memory_decided memory, λ two. let e = status_as decision out_of_memory 2 memory two in omega arith)
plan_decided d p domain problem budget decision (inr (task, of_files, inr (inl (plain, answered)))) = by answered.said
  where
    by : (decision ≡ answers 8 [] answered.searched.history)
        ⊎ ((answer : Answer) × IsAnswer task budget answered.searched answer × (decision ≡ answers answer.status answer.text answered.searched.history)) →
        IsDecided decision × (decision.status ≢ 2)
    by (inl is) =
        let eight : decision.status ≡ 8 = ap (λ e. e.status) is in
        (run_out_decided decision eight (ap (λ e. e.out) is), λ two. omega arith)
    by (inr (answer, is_answer, is)) = (
      decided_as (answers answer.status answer.text answered.searched.history) decision (answer_decided task budget answered.searched answer is_answer) is,
      λ two. answer_not_two task budget answered.searched answer is_answer (status_as decision (answers answer.status answer.text answered.searched.history) 2 is two),
    )

-- The answers

-- the search that is returned
abbrev pub returned : (domain problem : List ℕ) (budget : ℕ) (call : Call) (decision : Decision) → Delivered decision call → (f : Found domain problem budget decision) →
    SearchOf domain problem budget call.history
returned domain problem budget call decision delivers f = record {
  task = f.task;
  of_files = f.of_files;
  searched = f.searched;
  is_searched = f.is_searched;
  returned = delivers.history_is ∙ ap (λ e. e.history) f.is;
}

-- what was found is written
found_says : (domain problem : List ℕ) (budget : ℕ) (call : Call) (decision : Decision) → (f : Found domain problem budget decision) → Says decision.out decision.err call →
    Says f.answer.text [] call
found_says domain problem budget call decision f said = says_as decision (answers f.answer.status f.answer.text f.searched.history) call f.is said

found_status : (domain problem : List ℕ) (budget : ℕ) (decision : Decision) → (f : Found domain problem budget decision) → (status : ℕ) → decision.status ≡ status → f.answer.status ≡ status
found_status domain problem budget decision f status at = status_as decision (answers f.answer.status f.answer.text f.searched.history) status f.is at

-- the call found an answer, wherever it ends with the status of one
pub at_answer : (names : List (List ℕ)) (d p domain problem : List ℕ) (budget : ℕ) (before after : List Loading) (decision : Decision) (status : ℕ) →
    IsSearchStatus status → decision.status ≡ status → PlanEnds names d p domain problem budget before after decision → Found domain problem budget decision
at_answer names d p domain problem budget before after decision status is at (inl runs) = absurd (off is)
  where
    off : IsSearchStatus status → ⊥
    off (inl zero) = let eight = runs.status_is in omega arith
    off (inr (inl one)) = let eight = runs.status_is in omega arith
    off (inr (inr six)) = let eight = runs.status_is in omega arith
at_answer names d p domain problem budget before after decision status is at (inr (inl (name, fails, stopped))) = absurd (off is)
  where
    off : IsSearchStatus status → ⊥
    off (inl zero) = let e = status_as decision (stops 4 (unread_text name)) status stopped at in omega arith
    off (inr (inl one)) = let e = status_as decision (stops 4 (unread_text name)) status stopped at in omega arith
    off (inr (inr six)) = let e = status_as decision (stops 4 (unread_text name)) status stopped at in omega arith
at_answer names d p domain problem budget before after decision status is at (inr (inr (inl (text, refusal, refused)))) = absurd (off is)
  where
    off : IsSearchStatus status → ⊥
    off (inl zero) = let e = status_as decision (refuses text) status refused at in omega arith
    off (inr (inl one)) = let e = status_as decision (refuses text) status refused at in omega arith
    off (inr (inr six)) = let e = status_as decision (refuses text) status refused at in omega arith
at_answer names d p domain problem budget before after decision status is at (inr (inr (inr f))) = f

pub prints_plan : (domain problem : List ℕ) (budget : ℕ) (call : Call) (decision : Decision) → Delivered decision call → (f : Found domain problem budget decision) →
    Concluded decision call 0 → PrintsPlan domain problem budget call
prints_plan domain problem budget call decision delivers f at = by f.is_answer
  where
    zero_is : f.answer.status ≡ 0
    zero_is = found_status domain problem budget decision f 0 at.decided

    by : IsAnswer f.task budget f.searched f.answer → PrintsPlan domain problem budget call
    by (inl (zero, finds)) = record {
      search = returned domain problem budget call decision delivers f;
      steps = finds.steps;
      valid = finds.plan;
      traced = finds.traced;
      printed = says_text f.answer.text (plan_text f.task finds.steps) call finds.text_is (found_says domain problem budget call decision f at.said);
    }
    by (inr (inl (one, finds, text))) = absurd (let zero = zero_is in omega arith)
    by (inr (inr (six, status_is, text))) = absurd (let zero = zero_is in omega arith)

pub has_no_plan : (domain problem : List ℕ) (budget : ℕ) (call : Call) (decision : Decision) → Delivered decision call → (f : Found domain problem budget decision) →
    decision.status ≡ 1 → HasNoPlan domain problem budget call.history
has_no_plan domain problem budget call decision delivers f at = by f.is_answer
  where
    one_is : f.answer.status ≡ 1
    one_is = found_status domain problem budget decision f 1 at

    by : IsAnswer f.task budget f.searched f.answer → HasNoPlan domain problem budget call.history
    by (inl (zero, finds)) = absurd (let one = one_is in omega arith)
    by (inr (inl (one, finds, text))) = record { search = returned domain problem budget call decision delivers f; answered = finds.answered; none = finds.none }
    by (inr (inr (six, status_is, text))) = absurd (let one = one_is in omega arith)

pub says_no_plan : (domain problem : List ℕ) (budget : ℕ) (call : Call) (decision : Decision) → (f : Found domain problem budget decision) → Concluded decision call 1 →
    Says (codes "no plan\n") [] call
says_no_plan domain problem budget call decision f at = by f.is_answer
  where
    one_is : f.answer.status ≡ 1
    one_is = found_status domain problem budget decision f 1 at.decided

    by : IsAnswer f.task budget f.searched f.answer → Says (codes "no plan\n") [] call
    by (inl (zero, finds)) = absurd (let one = one_is in omega arith)
    by (inr (inl (one, finds, text))) = says_text f.answer.text (codes "no plan\n") call text (found_says domain problem budget call decision f at.said)
    by (inr (inr (six, status_is, text))) = absurd (let one = one_is in omega arith)

taken_all : (task : TypedTask) (budget : ℕ) (searched : Searched) → IsSearched task budget searched → searched.status ≡ status.Budget → length (takes searched.history.entries) ≡ budget
taken_all task budget searched is at =
    let answered = subst (answering.Answers budget (world_of task searched.history)) at is.answers in
    subst (λ ts. length ts ≡ budget) (taken_is (space_of task) searched.history.entries) answered.2

pub reaches_budget : (domain problem : List ℕ) (budget : ℕ) (call : Call) (decision : Decision) → Delivered decision call → (f : Found domain problem budget decision) →
    Concluded decision call 6 → ReachesBudget domain problem budget call
reaches_budget domain problem budget call decision delivers f at = by f.is_answer
  where
    six_is : f.answer.status ≡ 6
    six_is = found_status domain problem budget decision f 6 at.decided

    by : IsAnswer f.task budget f.searched f.answer → ReachesBudget domain problem budget call
    by (inl (zero, finds)) = absurd (let six = six_is in omega arith)
    by (inr (inl (one, finds, text))) = absurd (let six = six_is in omega arith)
    by (inr (inr (six, status_is, text))) = record {
      search = returned domain problem budget call decision delivers f;
      answered = status_is;
      all_taken = taken_all f.task budget f.searched f.is_searched status_is;
      more_opened = budget_reached f.task budget f.searched f.is_searched status_is;
      reached = λ x. opened_reached (space_of f.task) (world (space_of f.task) f.searched.history.entries) x
          (legal_sound (space_of f.task) budget 1 f.searched.history.entries f.is_searched.legal);
      printed = says_text f.answer.text (budget_text budget) call text (found_says domain problem budget call decision f at.said);
    }

-- The history

pub is_greedy : (domain problem : List ℕ) (budget : ℕ) (history : History) (answer : ℕ) → (s : SearchOf domain problem budget history) →
    IsUnlessFault (search_status s.searched.status) answer → IsGreedySearch domain problem budget history answer
is_greedy domain problem budget history answer s is =
    let sp = space_of s.task in
    let entries = s.searched.history.entries in
    let legal = s.is_searched.legal in
    record {
      search = s;
      status_is = is;
      once = subst AllDifferent (taken_is sp entries) (legal_sound sp budget 1 entries legal).once;
      apart = apart_states sp (world sp entries).opened (legal_sound sp budget 1 entries legal).apart;
      reached = λ i taken. greedy_run_to_take sp budget 1 entries legal i (subst (λ ts. Contains ts i) (sym (taken_is sp entries)) taken);
      greedy = takes_are_greedy sp budget entries legal;
      only = λ others other_legal ended. only_history sp budget others entries other_legal legal ended (s.searched.status, s.is_searched.answers);
    }

pub found_greedy : (domain problem : List ℕ) (budget : ℕ) (call : Call) (decision : Decision) → Delivered decision call → (f : Found domain problem budget decision) →
    IsGreedySearch domain problem budget call.history call.status
found_greedy domain problem budget call decision delivers f =
    is_greedy domain problem budget call.history call.status (returned domain problem budget call decision delivers f)
    (stands_as (search_status f.searched.status) decision.status call.status (by f.is_answer) (stands decision call delivers))
  where
    status_is : decision.status ≡ f.answer.status
    status_is = ap (λ e. e.status) f.is

    by : IsAnswer f.task budget f.searched f.answer → decision.status ≡ search_status f.searched.status
    by (inl (zero, finds)) = status_is ∙ (zero ∙ sym (ap search_status finds.traced.found))
    by (inr (inl (one, finds, text))) = status_is ∙ (one ∙ sym (ap search_status finds.answered))
    by (inr (inr (six, answered, text))) = status_is ∙ (six ∙ sym (ap search_status answered))

pub plan_history : (names : List (List ℕ)) (d p domain problem : List ℕ) (budget : ℕ) (before after : List Loading) (call : Call) (decision : Decision) → Delivered decision call →
    PlanEnds names d p domain problem budget before after decision →
    (call.history ≡ no_history) ⊎ IsGreedySearch domain problem budget call.history call.status
plan_history names d p domain problem budget before after call decision delivers (inl runs) = by runs.history
  where
    by : (decision.history ≡ no_history) ⊎ SearchOf domain problem budget decision.history → (call.history ≡ no_history) ⊎ IsGreedySearch domain problem budget call.history call.status
    by (inl none) = inl (delivers.history_is ∙ none)
    by (inr s) = inr (is_greedy domain problem budget call.history call.status
        (record { task = s.task; of_files = s.of_files; searched = s.searched; is_searched = s.is_searched; returned = delivers.history_is ∙ s.returned })
        (memory_stands (search_status s.searched.status) decision.status call.status runs.status_is (stands decision call delivers)))
plan_history names d p domain problem budget before after call decision delivers (inr (inl (name, fails, is))) = inl (delivers.history_is ∙ ap (λ e. e.history) is)
plan_history names d p domain problem budget before after call decision delivers (inr (inr (inl (text, refusal, is)))) = inl (delivers.history_is ∙ ap (λ e. e.history) is)
plan_history names d p domain problem budget before after call decision delivers (inr (inr (inr f))) = inr (found_greedy domain problem budget call decision delivers f)

-- The input

pub refusal_refuses : (d p domain problem text : List ℕ) → IsInputRefusal d p domain problem text → IsRefusedInput domain problem
refusal_refuses d p domain problem text (inl refusal) = inl (length_refused (d ∷ p ∷ []) (domain ∷ problem ∷ []) text refusal)
refusal_refuses d p domain problem text (inr (inl (fit, refusal))) = inr (λ task of_files plain. refusal.first.none task of_files)
refusal_refuses d p domain problem text (inr (inr (fit, built))) =
    inr (λ other other_of plain. built.not_plain (subst IsPlainTask (only_task domain problem other built.task other_of built.of_files) plain))

found_not_refused : (domain problem : List ℕ) (budget : ℕ) (decision : Decision) → Found domain problem budget decision → IsRefusedInput domain problem → ⊥
found_not_refused domain problem budget decision f (inl long) = long_does_not_fit (domain ∷ problem ∷ []) long f.fit
found_not_refused domain problem budget decision f (inr none) = none f.task f.of_files f.plain

-- 3 at a refusal
pub at_refusal : (names : List (List ℕ)) (d p domain problem : List ℕ) (budget : ℕ) (before after : List Loading) (call : Call) (decision : Decision) →
    Concluded decision call 3 → PlanEnds names d p domain problem budget before after decision →
    (text : List ℕ) × IsInputRefusal d p domain problem text × Says [] text call
at_refusal names d p domain problem budget before after call decision at (inl runs) = absurd (let eight = runs.status_is in let three = at.decided in omega arith)
at_refusal names d p domain problem budget before after call decision at (inr (inl (name, fails, is))) =
    absurd (let e = status_as decision (stops 4 (unread_text name)) 3 is at.decided in omega arith)
at_refusal names d p domain problem budget before after call decision at (inr (inr (inl (text, refusal, is)))) =
    (text, refusal, says_as decision (refuses text) call is at.said)
at_refusal names d p domain problem budget before after call decision at (inr (inr (inr f))) = absurd (by f.is_answer)
  where
    three_is : f.answer.status ≡ 3
    three_is = found_status domain problem budget decision f 3 at.decided

    by : IsAnswer f.task budget f.searched f.answer → ⊥
    by (inl (zero, finds)) = let three = three_is in omega arith
    by (inr (inl (one, finds, text))) = let three = three_is in omega arith
    by (inr (inr (six, status_is, text))) = let three = three_is in omega arith

-- refused input has 3
pub refusal_stands : (names : List (List ℕ)) (d p domain problem : List ℕ) (budget : ℕ) (call : Call) (decision : Decision) → Delivered decision call →
    (LastLoadFails names call → ⊥) → IsRefusedInput domain problem → PlanEnds names d p domain problem budget call.log_before call.log_after decision → IsUnlessFault 3 call.status
refusal_stands names d p domain problem budget call decision delivers loaded refused (inl runs) = memory_stands 3 decision.status call.status runs.status_is (stands decision call delivers)
refusal_stands names d p domain problem budget call decision delivers loaded refused (inr (inl (name, fails, is))) = absurd (loaded (name, fails))
refusal_stands names d p domain problem budget call decision delivers loaded refused (inr (inr (inl (text, refusal, is)))) =
    stands_as 3 decision.status call.status (ap (λ e. e.status) is) (stands decision call delivers)
refusal_stands names d p domain problem budget call decision delivers loaded refused (inr (inr (inr f))) =
    absurd (found_not_refused domain problem budget decision f refused)

-- a call in which nothing failed, of input that isn't refused
pub plan_complete : (names : List (List ℕ)) (d p domain problem : List ℕ) (budget : ℕ) (call : Call) (decision : Decision) → Delivered decision call → (call.status ≢ 5) →
    (LastLoadFails names call → ⊥) → (IsRefusedInput domain problem → ⊥) → PlanEnds names d p domain problem budget call.log_before call.log_after decision →
    IsSearchStatus call.status ⊎ (call.status ≡ 8)
plan_complete names d p domain problem budget call decision delivers put loaded allowed (inl runs) = by (memory_stands 8 decision.status call.status runs.status_is (stands decision call delivers))
  where
    by : IsUnlessFault 8 call.status → IsSearchStatus call.status ⊎ (call.status ≡ 8)
    by (inl eight) = inr eight
    by (inr (inl five)) = absurd (put five)
    by (inr (inr eight)) = inr eight
plan_complete names d p domain problem budget call decision delivers put loaded allowed (inr (inl (name, fails, is))) = absurd (loaded (name, fails))
plan_complete names d p domain problem budget call decision delivers put loaded allowed (inr (inr (inl (text, refusal, is)))) =
    absurd (allowed (refusal_refuses d p domain problem text refusal))
plan_complete names d p domain problem budget call decision delivers put loaded allowed (inr (inr (inr f))) = by (stands decision call delivers) f.is_answer
  where
    status_is : decision.status ≡ f.answer.status
    status_is = ap (λ e. e.status) f.is

    by : IsUnlessFault decision.status call.status → IsAnswer f.task budget f.searched f.answer → IsSearchStatus call.status ⊎ (call.status ≡ 8)
    by (inr (inl five)) answer = absurd (put five)
    by (inr (inr eight)) answer = inr eight
    by (inl same) (inl (zero, finds)) = inl (inl (same ∙ (status_is ∙ zero)))
    by (inl same) (inr (inl (one, finds, text))) = inl (inr (inl (same ∙ (status_is ∙ one))))
    by (inl same) (inr (inr (six, answered, text))) = inl (inr (inr (same ∙ (status_is ∙ six))))
