-- What the calls of `validate` keep.
use Rattle.std.proofs.Common.{◌≡◌, ◌≢◌, ℕ, ◌<◌, ◌≤◌, ◌⊎◌, inl, inr, All, Option, Some, Result, Ok, Err, Contains, List, [], ◌∷◌, length, codes, refl, sym, ◌∙◌, ap, subst, arith}
use Rattle.mf_io.specs.declared.folder.Loading.{Loading}
use Rattle.mf_model.specs.declared.task.TypedTask.{TypedTask}
use Rattle.mf_model.specs.declared.state.Instance.{Instance}
use Rattle.mf_model.specs.Application.{instances_of}
use Rattle.mf_input.specs.Files.{IsTaskOfFiles}
use Rattle.mf_input.proofs.OneTask.{only_task}
use Rattle.mf_validator.specs.declared.fault.JudgeFault.{JudgeFault}
use Rattle.mf_validator.specs.declared.fault.JudgeFault.TheVariants as judge
use Rattle.mf_validator.specs.declared.fault.PlanFault.{PlanFault}
use Rattle.mf_validator.specs.declared.verdict.Verdict.{Verdict}
use Rattle.mf_validator.specs.declared.verdict.Verdict.TheVariants as verdict
use Rattle.mf_validator.specs.PlanText.{plan_of}
use Rattle.mf_validator.specs.Verdicts.{verdict_of}
use Rattle.mf_validator.proofs.Exactness.{verdict-says, verdict-wide, says-verdict, wide-verdict}
use Rattle.mf_top.specs.declared.decision.Decision.{Decision}
use Rattle.mf_top.specs.Call.{Call, Says, IsUnlessFault, FailsAt, LastLoadFails}
use Rattle.mf_top.specs.Decision.{no_history, answers, stops, refuses, out_of_memory}
use Rattle.mf_top.specs.Loads.{AllFit}
use Rattle.mf_top.specs.Texts.{unread_text, plan_fault_text, judgement_text}
use Rattle.mf_top.specs.Validate.{IsPlanIn, judgement_status, judgement_of, JudgesSource, DecidesJudgement, HasPlanFault, IsFilesRefusal, AreRefusedFiles, WritesPlan, IsValidFile, IsInvalidFile, IsWideFile, PrintsValid, PrintsFailure, PrintsWidth}
use Rattle.mf_top.proofs.CallLemmas.{Delivered, Concluded, stands, stands_as, memory_stands, says_as, status_as}
use Rattle.mf_top.proofs.LoadLemmas.{IsDecided, decided_as, memory_fine, refuses_fine, ToldStops, length_refused, long_does_not_fit}

-- How a call ends, of files with these bytes

-- the plan of the third file is judged
pub record IsJudged (domain problem source : List ℕ) (decision : Decision) : Type 0 where
  pub task : TypedTask
  pub plan : List Instance
  pub writes : WritesPlan domain problem source task plan
  pub instances : All (Contains (instances_of task)) plan
  pub is : decision ≡ judgement_of (verdict_of task plan)

abbrev pub JudgeEnds : (names : List (List ℕ)) → (d p pl domain problem source : List ℕ) → (before after : List Loading) → Decision → Type 0
JudgeEnds names d p pl domain problem source before after decision =
    (decision ≡ out_of_memory)
    ⊎ ((name : List ℕ) × FailsAt names name before after × (decision ≡ stops 4 (unread_text name)))
    ⊎ ((text : List ℕ) × IsFilesRefusal d p pl domain problem source text × (decision ≡ refuses text))
    ⊎ IsJudged domain problem source decision

judge_decides : (names : List (List ℕ)) (d p pl domain problem source : List ℕ) (before after : List Loading) (decision : Decision) → AllFit (domain ∷ problem ∷ source ∷ []) →
    DecidesJudgement d p pl domain problem source decision → JudgeEnds names d p pl domain problem source before after decision
judge_decides names d p pl domain problem source before after decision fit (inl (inl memory)) = inl memory
judge_decides names d p pl domain problem source before after decision fit (inl (inr (text, refusal, is))) = inr (inr (inl (text, inr (inl (fit, refusal)), is)))
judge_decides names d p pl domain problem source before after decision fit (inr (task, of_files, inl (inl memory))) = inl memory
judge_decides names d p pl domain problem source before after decision fit (inr (task, of_files, inl (inr (fault, first, is)))) =
    inr (inr (inl (plan_fault_text pl fault, inr (inr (fit, (fault, record { task = task; of_files = of_files; first = first }, refl))), is)))
judge_decides names d p pl domain problem source before after decision fit (inr (task, of_files, inr (plan, written, inl is))) =
    inr (inr (inr (record { task = task; plan = plan; writes = record { allowed = fit; of_files = of_files; written = written.written }; instances = written.instances; is = is })))
judge_decides names d p pl domain problem source before after decision fit (inr (task, of_files, inr (plan, written, inr memory))) = inl memory

pub judge_told : (d p pl domain problem source : List ℕ) (before after : List Loading) (decision : Decision) →
    ToldStops (d ∷ p ∷ pl ∷ []) (domain ∷ problem ∷ source ∷ []) before after decision
    ⊎ (AllFit (domain ∷ problem ∷ source ∷ []) × DecidesJudgement d p pl domain problem source decision) →
    JudgeEnds (d ∷ p ∷ pl ∷ []) d p pl domain problem source before after decision
judge_told d p pl domain problem source before after decision (inl (inl memory)) = inl memory
judge_told d p pl domain problem source before after decision (inl (inr (inl fails))) = inr (inl fails)
judge_told d p pl domain problem source before after decision (inl (inr (inr (text, refusal, is)))) = inr (inr (inl (text, inl refusal, is)))
judge_told d p pl domain problem source before after decision (inr (fit, decides)) =
    judge_decides (d ∷ p ∷ pl ∷ []) d p pl domain problem source before after decision fit decides

-- The decision

judged_decided : (result : Result Verdict JudgeFault) → IsDecided (judgement_of result) × (judgement_status result ≢ 2)
judged_decided (Ok (verdict.Valid metric)) =
    (record { fine = record { most = omega arith; no_fault = λ e. omega arith; quiet = λ low high. absurd (omega arith) }; no_load = λ e. omega arith }, λ two. omega arith)
judged_decided (Ok (verdict.StepFails step why)) =
    (record { fine = record { most = omega arith; no_fault = λ e. omega arith; quiet = λ low high. absurd (omega arith) }; no_load = λ e. omega arith }, λ two. omega arith)
judged_decided (Ok verdict.GoalFails) =
    (record { fine = record { most = omega arith; no_fault = λ e. omega arith; quiet = λ low high. absurd (omega arith) }; no_load = λ e. omega arith }, λ two. omega arith)
judged_decided (Err (judge.Wide step)) =
    (record { fine = record { most = omega arith; no_fault = λ e. omega arith; quiet = λ low high. absurd (omega arith) }; no_load = λ e. omega arith }, λ two. omega arith)
judged_decided (Err judge.Memory) =
    (record { fine = record { most = omega arith; no_fault = λ e. omega arith; quiet = λ low high. refl }; no_load = λ e. omega arith }, λ two. omega arith)

pub judgement_decided : (d p pl domain problem source : List ℕ) (decision : Decision) → DecidesJudgement d p pl domain problem source decision → IsDecided decision × (decision.status ≢ 2)
judgement_decided d p pl domain problem source decision (inl (inl memory)) = memory_fine decision memory
judgement_decided d p pl domain problem source decision (inl (inr (text, refusal, is))) = refuses_fine decision text is
judgement_decided d p pl domain problem source decision (inr (task, of_files, inl (inl memory))) = memory_fine decision memory
judgement_decided d p pl domain problem source decision (inr (task, of_files, inl (inr (fault, first, is)))) = refuses_fine decision (plan_fault_text pl fault) is
judgement_decided d p pl domain problem source decision (inr (task, of_files, inr (plan, written, inr memory))) = memory_fine decision memory
judgement_decided d p pl domain problem source decision (inr (task, of_files, inr (plan, written, inl is))) =
    let said = judged_decided (verdict_of task plan) in
    (decided_as (judgement_of (verdict_of task plan)) decision said.0 is, λ two. said.1 (status_as decision (judgement_of (verdict_of task plan)) 2 is two))

pub judgement_history : (d p pl domain problem source : List ℕ) (decision : Decision) → DecidesJudgement d p pl domain problem source decision → decision.history ≡ no_history
judgement_history d p pl domain problem source decision (inl (inl memory)) = ap (λ e. e.history) memory
judgement_history d p pl domain problem source decision (inl (inr (text, refusal, is))) = ap (λ e. e.history) is
judgement_history d p pl domain problem source decision (inr (task, of_files, inl (inl memory))) = ap (λ e. e.history) memory
judgement_history d p pl domain problem source decision (inr (task, of_files, inl (inr (fault, first, is)))) = ap (λ e. e.history) is
judgement_history d p pl domain problem source decision (inr (task, of_files, inr (plan, written, inl is))) = ap (λ e. e.history) is
judgement_history d p pl domain problem source decision (inr (task, of_files, inr (plan, written, inr memory))) = ap (λ e. e.history) memory

-- The judgement

abbrev pub IsVerdictStatus : ℕ → Type 0
IsVerdictStatus answer = (answer ≡ 0) ⊎ (answer ≡ 1) ⊎ (answer ≡ 7)

-- the plan is judged, wherever the call ends with the status of a judgement
pub at_judgement : (names : List (List ℕ)) (d p pl domain problem source : List ℕ) (before after : List Loading) (decision : Decision) (status : ℕ) →
    IsVerdictStatus status → decision.status ≡ status → JudgeEnds names d p pl domain problem source before after decision → IsJudged domain problem source decision
at_judgement names d p pl domain problem source before after decision status is at (inl memory) = absurd (off is)
  where
    off : IsVerdictStatus status → ⊥
    off (inl zero) = let e = status_as decision out_of_memory status memory at in omega arith
    off (inr (inl one)) = let e = status_as decision out_of_memory status memory at in omega arith
    off (inr (inr seven)) = let e = status_as decision out_of_memory status memory at in omega arith
at_judgement names d p pl domain problem source before after decision status is at (inr (inl (name, fails, stopped))) = absurd (off is)
  where
    off : IsVerdictStatus status → ⊥
    off (inl zero) = let e = status_as decision (stops 4 (unread_text name)) status stopped at in omega arith
    off (inr (inl one)) = let e = status_as decision (stops 4 (unread_text name)) status stopped at in omega arith
    off (inr (inr seven)) = let e = status_as decision (stops 4 (unread_text name)) status stopped at in omega arith
at_judgement names d p pl domain problem source before after decision status is at (inr (inr (inl (text, refusal, refused)))) = absurd (off is)
  where
    off : IsVerdictStatus status → ⊥
    off (inl zero) = let e = status_as decision (refuses text) status refused at in omega arith
    off (inr (inl one)) = let e = status_as decision (refuses text) status refused at in omega arith
    off (inr (inr seven)) = let e = status_as decision (refuses text) status refused at in omega arith
at_judgement names d p pl domain problem source before after decision status is at (inr (inr (inr j))) = j

judged_status : (domain problem source : List ℕ) (decision : Decision) (j : IsJudged domain problem source decision) (status : ℕ) → decision.status ≡ status →
    judgement_status (verdict_of j.task j.plan) ≡ status
judged_status domain problem source decision j status at = status_as decision (judgement_of (verdict_of j.task j.plan)) status j.is at

judged_says : (domain problem source : List ℕ) (call : Call) (decision : Decision) (j : IsJudged domain problem source decision) → Says decision.out decision.err call →
    Says (judgement_text (verdict_of j.task j.plan)) [] call
judged_says domain problem source call decision j said = says_as decision (judgement_of (verdict_of j.task j.plan)) call j.is said

valid_by : (domain problem source : List ℕ) (call : Call) (decision : Decision) (j : IsJudged domain problem source decision) (result : Result Verdict JudgeFault) →
    verdict_of j.task j.plan ≡ result → judgement_status result ≡ 0 → Says (judgement_text result) [] call → PrintsValid domain problem source call
valid_by domain problem source call decision j (Ok (verdict.Valid metric)) is at said =
    record { task = j.task; plan = j.plan; metric = metric; writes = j.writes; valid = verdict-says j.task j.plan (verdict.Valid metric) j.instances is; printed = said }
valid_by domain problem source call decision j (Ok (verdict.StepFails step why)) is at said = absurd (omega arith)
valid_by domain problem source call decision j (Ok verdict.GoalFails) is at said = absurd (omega arith)
valid_by domain problem source call decision j (Err (judge.Wide step)) is at said = absurd (omega arith)
valid_by domain problem source call decision j (Err judge.Memory) is at said = absurd (omega arith)

failure_by : (domain problem source : List ℕ) (call : Call) (decision : Decision) (j : IsJudged domain problem source decision) (result : Result Verdict JudgeFault) →
    verdict_of j.task j.plan ≡ result → judgement_status result ≡ 1 → Says (judgement_text result) [] call → PrintsFailure domain problem source call
failure_by domain problem source call decision j (Ok (verdict.Valid metric)) is at said = absurd (omega arith)
failure_by domain problem source call decision j (Ok (verdict.StepFails step why)) is at said =
    record { task = j.task; plan = j.plan; writes = j.writes; fails = inl (step, why, verdict-says j.task j.plan (verdict.StepFails step why) j.instances is, said) }
failure_by domain problem source call decision j (Ok verdict.GoalFails) is at said =
    record { task = j.task; plan = j.plan; writes = j.writes; fails = inr (verdict-says j.task j.plan verdict.GoalFails j.instances is, said) }
failure_by domain problem source call decision j (Err (judge.Wide step)) is at said = absurd (omega arith)
failure_by domain problem source call decision j (Err judge.Memory) is at said = absurd (omega arith)

width_by : (domain problem source : List ℕ) (call : Call) (decision : Decision) (j : IsJudged domain problem source decision) (result : Result Verdict JudgeFault) →
    verdict_of j.task j.plan ≡ result → judgement_status result ≡ 7 → Says (judgement_text result) [] call → PrintsWidth domain problem source call
width_by domain problem source call decision j (Ok (verdict.Valid metric)) is at said = absurd (omega arith)
width_by domain problem source call decision j (Ok (verdict.StepFails step why)) is at said = absurd (omega arith)
width_by domain problem source call decision j (Ok verdict.GoalFails) is at said = absurd (omega arith)
width_by domain problem source call decision j (Err (judge.Wide step)) is at said =
    record { task = j.task; plan = j.plan; step = step; writes = j.writes; wide = verdict-wide j.task j.plan step is; printed = said }
width_by domain problem source call decision j (Err judge.Memory) is at said = absurd (omega arith)

pub prints_valid : (domain problem source : List ℕ) (call : Call) (decision : Decision) → IsJudged domain problem source decision → Concluded decision call 0 → PrintsValid domain problem source call
prints_valid domain problem source call decision j at =
    valid_by domain problem source call decision j (verdict_of j.task j.plan) refl (judged_status domain problem source decision j 0 at.decided) (judged_says domain problem source call decision j at.said)

pub prints_failure : (domain problem source : List ℕ) (call : Call) (decision : Decision) → IsJudged domain problem source decision → Concluded decision call 1 → PrintsFailure domain problem source call
prints_failure domain problem source call decision j at =
    failure_by domain problem source call decision j (verdict_of j.task j.plan) refl (judged_status domain problem source decision j 1 at.decided) (judged_says domain problem source call decision j at.said)

pub prints_width : (domain problem source : List ℕ) (call : Call) (decision : Decision) → IsJudged domain problem source decision → Concluded decision call 7 → PrintsWidth domain problem source call
prints_width domain problem source call decision j at =
    width_by domain problem source call decision j (verdict_of j.task j.plan) refl (judged_status domain problem source decision j 7 at.decided) (judged_says domain problem source call decision j at.said)

-- The input

pub files_refused : (d p pl domain problem source text : List ℕ) → IsFilesRefusal d p pl domain problem source text → AreRefusedFiles domain problem source
files_refused d p pl domain problem source text (inl refusal) = inl (length_refused (d ∷ p ∷ pl ∷ []) (domain ∷ problem ∷ source ∷ []) text refusal)
files_refused d p pl domain problem source text (inr (inl (fit, refusal))) = inr (inl refusal.first.none)
files_refused d p pl domain problem source text (inr (inr (fit, (fault, at_fault, is)))) = inr (inr (fault, at_fault))

ok_err : (plan : List Instance) (fault : PlanFault) (result : Result (List Instance) PlanFault) → result ≡ Ok plan → result ≡ Err fault → ⊥
ok_err plan fault result ok err = let both : Ok plan ≡ Err fault = sym ok ∙ err in cc

-- files with a plan aren't refused
pub writes_not_refused : (domain problem source : List ℕ) (task : TypedTask) (plan : List Instance) → WritesPlan domain problem source task plan → AreRefusedFiles domain problem source → ⊥
writes_not_refused domain problem source task plan writes (inl long) = long_does_not_fit (domain ∷ problem ∷ source ∷ []) long writes.allowed
writes_not_refused domain problem source task plan writes (inr (inl none)) = none task writes.of_files
writes_not_refused domain problem source task plan writes (inr (inr (fault, flawed))) =
    ok_err plan fault (plan_of source task) writes.written
    (subst (λ t. plan_of source t ≡ Err fault) (only_task domain problem flawed.task task flawed.of_files writes.of_files) flawed.first)

-- 3 at a refusal
judged_not_three : (result : Result Verdict JudgeFault) → judgement_status result ≡ 3 → ⊥
judged_not_three (Ok (verdict.Valid metric)) three = omega arith
judged_not_three (Ok (verdict.StepFails step why)) three = omega arith
judged_not_three (Ok verdict.GoalFails) three = omega arith
judged_not_three (Err (judge.Wide step)) three = omega arith
judged_not_three (Err judge.Memory) three = omega arith

pub at_files_refusal : (names : List (List ℕ)) (d p pl domain problem source : List ℕ) (before after : List Loading) (call : Call) (decision : Decision) →
    Concluded decision call 3 → JudgeEnds names d p pl domain problem source before after decision →
    (text : List ℕ) × IsFilesRefusal d p pl domain problem source text × Says [] text call
at_files_refusal names d p pl domain problem source before after call decision at (inl memory) =
    absurd (let e = status_as decision out_of_memory 3 memory at.decided in omega arith)
at_files_refusal names d p pl domain problem source before after call decision at (inr (inl (name, fails, is))) =
    absurd (let e = status_as decision (stops 4 (unread_text name)) 3 is at.decided in omega arith)
at_files_refusal names d p pl domain problem source before after call decision at (inr (inr (inl (text, refusal, is)))) =
    (text, refusal, says_as decision (refuses text) call is at.said)
at_files_refusal names d p pl domain problem source before after call decision at (inr (inr (inr j))) =
    absurd (judged_not_three (verdict_of j.task j.plan) (judged_status domain problem source decision j 3 at.decided))

-- refused files have 3
pub files_stand : (names : List (List ℕ)) (d p pl domain problem source : List ℕ) (call : Call) (decision : Decision) → Delivered decision call →
    (LastLoadFails names call → ⊥) → AreRefusedFiles domain problem source → JudgeEnds names d p pl domain problem source call.log_before call.log_after decision → IsUnlessFault 3 call.status
files_stand names d p pl domain problem source call decision delivers loaded refused (inl memory) =
    memory_stands 3 decision.status call.status (ap (λ e. e.status) memory) (stands decision call delivers)
files_stand names d p pl domain problem source call decision delivers loaded refused (inr (inl (name, fails, is))) = absurd (loaded (name, fails))
files_stand names d p pl domain problem source call decision delivers loaded refused (inr (inr (inl (text, refusal, is)))) =
    stands_as 3 decision.status call.status (ap (λ e. e.status) is) (stands decision call delivers)
files_stand names d p pl domain problem source call decision delivers loaded refused (inr (inr (inr j))) =
    absurd (writes_not_refused domain problem source j.task j.plan j.writes refused)

-- Exactly where

same_plan : (one other : List Instance) (result : Result (List Instance) PlanFault) → result ≡ Ok one → result ≡ Ok other → one ≡ other
same_plan one other result first second = let both : Ok one ≡ Ok other = sym first ∙ second in cc

same_judgement : (domain problem source : List ℕ) (one other : TypedTask) (this that : List Instance) → WritesPlan domain problem source one this → WritesPlan domain problem source other that →
    verdict_of one this ≡ verdict_of other that
same_judgement domain problem source one other this that first second =
    let task : one ≡ other = only_task domain problem one other first.of_files second.of_files in
    let written : plan_of source other ≡ Ok this = subst (λ t. plan_of source t ≡ Ok this) task first.written in
    let plan : this ≡ that = same_plan this that (plan_of source other) written second.written in
    cc

-- what a plan is found to be gives the status
pub exact : (names : List (List ℕ)) (d p pl domain problem source : List ℕ) (call : Call) (decision : Decision) → Delivered decision call →
    (LastLoadFails names call → ⊥) → (task : TypedTask) (plan : List Instance) (result : Result Verdict JudgeFault) → WritesPlan domain problem source task plan →
    verdict_of task plan ≡ result → JudgeEnds names d p pl domain problem source call.log_before call.log_after decision → IsUnlessFault (judgement_status result) call.status
exact names d p pl domain problem source call decision delivers loaded task plan result writes is (inl memory) =
    memory_stands (judgement_status result) decision.status call.status (ap (λ e. e.status) memory) (stands decision call delivers)
exact names d p pl domain problem source call decision delivers loaded task plan result writes is (inr (inl (name, fails, stopped))) = absurd (loaded (name, fails))
exact names d p pl domain problem source call decision delivers loaded task plan result writes is (inr (inr (inl (text, refusal, refused)))) =
    absurd (writes_not_refused domain problem source task plan writes (files_refused d p pl domain problem source text refusal))
exact names d p pl domain problem source call decision delivers loaded task plan result writes is (inr (inr (inr j))) =
    let same = same_judgement domain problem source j.task task j.plan plan j.writes writes in
    stands_as (judgement_status result) decision.status call.status (ap (λ e. e.status) j.is ∙ ap judgement_status (same ∙ is)) (stands decision call delivers)

pub valid_stands : (names : List (List ℕ)) (d p pl domain problem source : List ℕ) (call : Call) (decision : Decision) → Delivered decision call → (LastLoadFails names call → ⊥) →
    IsValidFile domain problem source → JudgeEnds names d p pl domain problem source call.log_before call.log_after decision → IsUnlessFault 0 call.status
valid_stands names d p pl domain problem source call decision delivers loaded (task, plan, metric, writes, valid) ends =
    exact names d p pl domain problem source call decision delivers loaded task plan (Ok (verdict.Valid metric)) writes (says-verdict task plan (verdict.Valid metric) valid) ends

pub invalid_stands : (names : List (List ℕ)) (d p pl domain problem source : List ℕ) (call : Call) (decision : Decision) → Delivered decision call → (LastLoadFails names call → ⊥) →
    IsInvalidFile domain problem source → JudgeEnds names d p pl domain problem source call.log_before call.log_after decision → IsUnlessFault 1 call.status
invalid_stands names d p pl domain problem source call decision delivers loaded (task, plan, writes, inl (step, why, fails)) ends =
    exact names d p pl domain problem source call decision delivers loaded task plan (Ok (verdict.StepFails step why)) writes (says-verdict task plan (verdict.StepFails step why) fails) ends
invalid_stands names d p pl domain problem source call decision delivers loaded (task, plan, writes, inr misses) ends =
    exact names d p pl domain problem source call decision delivers loaded task plan (Ok verdict.GoalFails) writes (says-verdict task plan verdict.GoalFails misses) ends

pub wide_stands : (names : List (List ℕ)) (d p pl domain problem source : List ℕ) (call : Call) (decision : Decision) → Delivered decision call → (LastLoadFails names call → ⊥) →
    IsWideFile domain problem source → JudgeEnds names d p pl domain problem source call.log_before call.log_after decision → IsUnlessFault 7 call.status
wide_stands names d p pl domain problem source call decision delivers loaded (task, plan, step, writes, wide) ends =
    exact names d p pl domain problem source call decision delivers loaded task plan (Err (judge.Wide step)) writes (wide-verdict task plan step wide) ends

complete_by : (result : Result Verdict JudgeFault) (answer : ℕ) → answer ≢ 5 → IsUnlessFault (judgement_status result) answer →
    (answer ≡ 0) ⊎ (answer ≡ 1) ⊎ (answer ≡ 7) ⊎ (answer ≡ 8)
complete_by result answer put (inr (inl five)) = absurd (put five)
complete_by result answer put (inr (inr eight)) = inr (inr (inr eight))
complete_by (Ok (verdict.Valid metric)) answer put (inl is) = inl is
complete_by (Ok (verdict.StepFails step why)) answer put (inl is) = inr (inl is)
complete_by (Ok verdict.GoalFails) answer put (inl is) = inr (inl is)
complete_by (Err (judge.Wide step)) answer put (inl is) = inr (inr (inl is))
complete_by (Err judge.Memory) answer put (inl is) = inr (inr (inr is))

pub judge_complete : (names : List (List ℕ)) (d p pl domain problem source : List ℕ) (call : Call) (decision : Decision) → Delivered decision call → (call.status ≢ 5) →
    (LastLoadFails names call → ⊥) → (AreRefusedFiles domain problem source → ⊥) → JudgeEnds names d p pl domain problem source call.log_before call.log_after decision →
    (call.status ≡ 0) ⊎ (call.status ≡ 1) ⊎ (call.status ≡ 7) ⊎ (call.status ≡ 8)
judge_complete names d p pl domain problem source call decision delivers put loaded allowed (inl memory) =
    complete_by (Err judge.Memory) call.status put (memory_stands 8 decision.status call.status (ap (λ e. e.status) memory) (stands decision call delivers))
judge_complete names d p pl domain problem source call decision delivers put loaded allowed (inr (inl (name, fails, is))) = absurd (loaded (name, fails))
judge_complete names d p pl domain problem source call decision delivers put loaded allowed (inr (inr (inl (text, refusal, is)))) =
    absurd (allowed (files_refused d p pl domain problem source text refusal))
judge_complete names d p pl domain problem source call decision delivers put loaded allowed (inr (inr (inr j))) =
    complete_by (verdict_of j.task j.plan) call.status put
    (stands_as (judgement_status (verdict_of j.task j.plan)) decision.status call.status (ap (λ e. e.status) j.is) (stands decision call delivers))
