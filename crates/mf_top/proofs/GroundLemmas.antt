-- How the calls of `ground` end.
use Rattle.std.proofs.Common.{◌≡◌, ◌≢◌, ℕ, ◌≤◌, ◌⊎◌, inl, inr, List, [], ◌∷◌, length, ap, subst, arith}
use Rattle.mf_io.specs.declared.folder.Loading.{Loading}
use Rattle.mf_model.specs.declared.task.TypedTask.{TypedTask}
use Rattle.mf_model.specs.LiveInstances.{live_instances, live_prefix_count}
use Rattle.mf_ground.specs.Nodes.{node_count}
use Rattle.mf_input.specs.Files.{IsTaskOfFiles}
use Rattle.mf_input.proofs.OneTask.{only_task}
use Rattle.mf_top.specs.declared.decision.Decision.{Decision}
use Rattle.mf_top.specs.Call.{Call, Says, IsUnlessFault, FailsAt, LastLoadFails}
use Rattle.mf_top.specs.Decision.{no_history, answers, stops, refuses, out_of_memory}
use Rattle.mf_top.specs.Ground.{KeepsLimits, IsLimitRefusal, ground_text, DecidesGround, PassesLimit, IsGroundRefusal, IsRefusedGround, HaveInstances, PrintsInstances}
use Rattle.mf_top.specs.Loads.{AllFit}
use Rattle.mf_top.specs.Texts.{unread_text}
use Rattle.mf_top.proofs.CallLemmas.{Delivered, Concluded, stands, stands_as, memory_stands, says_as, status_as}
use Rattle.mf_top.proofs.LoadLemmas.{IsDecided, IsStopped, decided_as, memory_fine, refuses_fine, ToldStops, length_refused, long_does_not_fit}

-- The limits

-- a task that passes a limit doesn't keep the limits
limit_not_kept : (task : TypedTask) (text : List ℕ) → IsLimitRefusal task text → KeepsLimits task → ⊥
limit_not_kept task text (inl (many, is)) limits = let few : live_prefix_count task ≤ 20000000 = limits.prefixes in omega arith
limit_not_kept task text (inr (inl (few_prefixes, many, is))) limits = let few : length (live_instances task) ≤ 1000000 = limits.instances in omega arith
limit_not_kept task text (inr (inr (few_prefixes, few_instances, many, is))) limits = let few : node_count task ≤ 20000000 = limits.nodes in omega arith

-- How a call ends, of files with these bytes

-- the live instances of the files' task are listed
pub record Listed (domain problem : List ℕ) (decision : Decision) : Type 0 where
  pub task : TypedTask
  pub have : HaveInstances domain problem task
  pub is : decision ≡ answers 0 (ground_text task) no_history

abbrev pub GroundEnds : (names : List (List ℕ)) → (d p domain problem : List ℕ) → (before after : List Loading) → Decision → Type 0
GroundEnds names d p domain problem before after decision =
    (decision ≡ out_of_memory)
    ⊎ ((name : List ℕ) × FailsAt names name before after × (decision ≡ stops 4 (unread_text name)))
    ⊎ ((text : List ℕ) × IsGroundRefusal d p domain problem text × (decision ≡ refuses text))
    ⊎ Listed domain problem decision

ground_decides : (names : List (List ℕ)) (d p domain problem : List ℕ) (before after : List Loading) (decision : Decision) → AllFit (domain ∷ problem ∷ []) →
    DecidesGround d p domain problem decision → GroundEnds names d p domain problem before after decision
ground_decides names d p domain problem before after decision fit (inl (inl memory)) = inl memory
ground_decides names d p domain problem before after decision fit (inl (inr (text, refusal, is))) = inr (inr (inl (text, inr (inl (fit, refusal)), is)))
ground_decides names d p domain problem before after decision fit (inr (task, of_files, inl memory)) = inl memory
ground_decides names d p domain problem before after decision fit (inr (task, of_files, inr (inl (limits, is)))) =
    inr (inr (inr (record { task = task; have = record { allowed = fit; of_files = of_files; limits = limits }; is = is })))
ground_decides names d p domain problem before after decision fit (inr (task, of_files, inr (inr (text, first, is)))) =
    inr (inr (inl (text, inr (inr (fit, record { task = task; of_files = of_files; first = first })), is)))

pub ground_told : (d p domain problem : List ℕ) (before after : List Loading) (decision : Decision) →
    ToldStops (d ∷ p ∷ []) (domain ∷ problem ∷ []) before after decision ⊎ (AllFit (domain ∷ problem ∷ []) × DecidesGround d p domain problem decision) →
    GroundEnds (d ∷ p ∷ []) d p domain problem before after decision
ground_told d p domain problem before after decision (inl (inl memory)) = inl memory
ground_told d p domain problem before after decision (inl (inr (inl fails))) = inr (inl fails)
ground_told d p domain problem before after decision (inl (inr (inr (text, refusal, is)))) = inr (inr (inl (text, inl refusal, is)))
ground_told d p domain problem before after decision (inr (fit, decides)) = ground_decides (d ∷ p ∷ []) d p domain problem before after decision fit decides

-- The decision

listed_fine : (decision : Decision) (text : List ℕ) → decision ≡ answers 0 text no_history → IsDecided decision × (decision.status ≢ 2)
listed_fine decision text is = (
  decided_as (answers 0 text no_history) decision
      (record { fine = record { most = omega arith; no_fault = λ e. omega arith; quiet = λ low high. absurd (omega arith) }; no_load = λ e. omega arith }) is,
  λ two. let e = status_as decision (answers 0 text no_history) 2 is two in omega arith,
)

pub ground_decided : (d p domain problem : List ℕ) (decision : Decision) → DecidesGround d p domain problem decision → IsDecided decision × (decision.status ≢ 2)
ground_decided d p domain problem decision (inl (inl memory)) = memory_fine decision memory
ground_decided d p domain problem decision (inl (inr (text, refusal, is))) = refuses_fine decision text is
ground_decided d p domain problem decision (inr (task, of_files, inl memory)) = memory_fine decision memory
ground_decided d p domain problem decision (inr (task, of_files, inr (inl (limits, is)))) = listed_fine decision (ground_text task) is
ground_decided d p domain problem decision (inr (task, of_files, inr (inr (text, first, is)))) = refuses_fine decision text is

-- what a decision leaves out: the history, and at 0 the text for err; and its statuses
pub record IsGroundDecision (decision : Decision) : Type 0 where
  pub history : decision.history ≡ no_history
  pub status : (decision.status ≡ 0) ⊎ IsStopped decision
  pub quiet : decision.status ≡ 0 → decision.err ≡ []

memory_ends : (decision : Decision) → decision ≡ out_of_memory → IsGroundDecision decision
memory_ends decision memory = record {
  history = ap (λ e. e.history) memory;
  status = inr (inr (inr (ap (λ e. e.status) memory)));
  quiet = λ zero. ap (λ e. e.err) memory;
}

refusal_ends : (decision : Decision) (text : List ℕ) → decision ≡ refuses text → IsGroundDecision decision
refusal_ends decision text is = record {
  history = ap (λ e. e.history) is;
  status = inr (inl (ap (λ e. e.status) is));
  quiet = λ zero. absurd (let e = status_as decision (refuses text) 0 is zero in omega arith);
}

pub ground_decision : (d p domain problem : List ℕ) (decision : Decision) → DecidesGround d p domain problem decision → IsGroundDecision decision
ground_decision d p domain problem decision (inl (inl memory)) = memory_ends decision memory
ground_decision d p domain problem decision (inl (inr (text, refusal, is))) = refusal_ends decision text is
ground_decision d p domain problem decision (inr (task, of_files, inl memory)) = memory_ends decision memory
ground_decision d p domain problem decision (inr (task, of_files, inr (inl (limits, is)))) =
    record { history = ap (λ e. e.history) is; status = inl (ap (λ e. e.status) is); quiet = λ zero. ap (λ e. e.err) is }
ground_decision d p domain problem decision (inr (task, of_files, inr (inr (text, first, is)))) = refusal_ends decision text is

-- The answer

-- the instances are listed, wherever the call ends with 0
pub at_listing : (names : List (List ℕ)) (d p domain problem : List ℕ) (before after : List Loading) (decision : Decision) → decision.status ≡ 0 →
    GroundEnds names d p domain problem before after decision → Listed domain problem decision
at_listing names d p domain problem before after decision zero (inl memory) = absurd (let e = status_as decision out_of_memory 0 memory zero in omega arith)
at_listing names d p domain problem before after decision zero (inr (inl (name, fails, is))) =
    absurd (let e = status_as decision (stops 4 (unread_text name)) 0 is zero in omega arith)
at_listing names d p domain problem before after decision zero (inr (inr (inl (text, refusal, is)))) =
    absurd (let e = status_as decision (refuses text) 0 is zero in omega arith)
at_listing names d p domain problem before after decision zero (inr (inr (inr listed))) = listed

pub prints_instances : (domain problem : List ℕ) (call : Call) (decision : Decision) → Listed domain problem decision → Concluded decision call 0 → PrintsInstances domain problem call
prints_instances domain problem call decision listed at =
    record { task = listed.task; have = listed.have; printed = says_as decision (answers 0 (ground_text listed.task) no_history) call listed.is at.said }

-- The input

passed_not_kept : (domain problem text : List ℕ) → PassesLimit domain problem text → (task : TypedTask) → IsTaskOfFiles domain problem task → KeepsLimits task → ⊥
passed_not_kept domain problem text passes task of_files limits =
    let same : passes.task ≡ task = only_task domain problem passes.task task passes.of_files of_files in
    limit_not_kept task text (subst (λ t. IsLimitRefusal t text) same passes.first) limits

pub ground_refused : (d p domain problem text : List ℕ) → IsGroundRefusal d p domain problem text → IsRefusedGround domain problem
ground_refused d p domain problem text (inl refusal) = inl (length_refused (d ∷ p ∷ []) (domain ∷ problem ∷ []) text refusal)
ground_refused d p domain problem text (inr (inl (fit, refusal))) = inr (λ task of_files limits. refusal.first.none task of_files)
ground_refused d p domain problem text (inr (inr (fit, passes))) = inr (passed_not_kept domain problem text passes)

-- files whose task keeps the limits aren't refused
have_not_refused : (domain problem : List ℕ) (task : TypedTask) → HaveInstances domain problem task → IsRefusedGround domain problem → ⊥
have_not_refused domain problem task have (inl long) = long_does_not_fit (domain ∷ problem ∷ []) long have.allowed
have_not_refused domain problem task have (inr none) = none task have.of_files have.limits

-- 3 at a refusal
pub at_ground_refusal : (names : List (List ℕ)) (d p domain problem : List ℕ) (before after : List Loading) (call : Call) (decision : Decision) →
    Concluded decision call 3 → GroundEnds names d p domain problem before after decision →
    (text : List ℕ) × IsGroundRefusal d p domain problem text × Says [] text call
at_ground_refusal names d p domain problem before after call decision at (inl memory) =
    absurd (let e = status_as decision out_of_memory 3 memory at.decided in omega arith)
at_ground_refusal names d p domain problem before after call decision at (inr (inl (name, fails, is))) =
    absurd (let e = status_as decision (stops 4 (unread_text name)) 3 is at.decided in omega arith)
at_ground_refusal names d p domain problem before after call decision at (inr (inr (inl (text, refusal, is)))) =
    (text, refusal, says_as decision (refuses text) call is at.said)
at_ground_refusal names d p domain problem before after call decision at (inr (inr (inr listed))) =
    absurd (let e = status_as decision (answers 0 (ground_text listed.task) no_history) 3 listed.is at.decided in omega arith)

-- Exactly where

-- refused files have 3
pub ground_refusal_stands : (names : List (List ℕ)) (d p domain problem : List ℕ) (call : Call) (decision : Decision) → Delivered decision call →
    (LastLoadFails names call → ⊥) → IsRefusedGround domain problem → GroundEnds names d p domain problem call.log_before call.log_after decision → IsUnlessFault 3 call.status
ground_refusal_stands names d p domain problem call decision delivers loaded refused (inl memory) =
    memory_stands 3 decision.status call.status (ap (λ e. e.status) memory) (stands decision call delivers)
ground_refusal_stands names d p domain problem call decision delivers loaded refused (inr (inl (name, fails, is))) = absurd (loaded (name, fails))
ground_refusal_stands names d p domain problem call decision delivers loaded refused (inr (inr (inl (text, refusal, is)))) =
    stands_as 3 decision.status call.status (ap (λ e. e.status) is) (stands decision call delivers)
ground_refusal_stands names d p domain problem call decision delivers loaded refused (inr (inr (inr listed))) =
    absurd (have_not_refused domain problem listed.task listed.have refused)

-- files whose task keeps the limits have 0
pub instances_stand : (names : List (List ℕ)) (d p domain problem : List ℕ) (call : Call) (decision : Decision) → Delivered decision call →
    (LastLoadFails names call → ⊥) → (task : TypedTask) → HaveInstances domain problem task → GroundEnds names d p domain problem call.log_before call.log_after decision → IsUnlessFault 0 call.status
instances_stand names d p domain problem call decision delivers loaded task have (inl memory) =
    memory_stands 0 decision.status call.status (ap (λ e. e.status) memory) (stands decision call delivers)
instances_stand names d p domain problem call decision delivers loaded task have (inr (inl (name, fails, is))) = absurd (loaded (name, fails))
instances_stand names d p domain problem call decision delivers loaded task have (inr (inr (inl (text, refusal, is)))) =
    absurd (have_not_refused domain problem task have (ground_refused d p domain problem text refusal))
instances_stand names d p domain problem call decision delivers loaded task have (inr (inr (inr listed))) =
    stands_as 0 decision.status call.status (ap (λ e. e.status) listed.is) (stands decision call delivers)

zero_or_eight : (status : ℕ) → status ≢ 5 → IsUnlessFault 0 status → (status ≡ 0) ⊎ (status ≡ 8)
zero_or_eight status put (inl zero) = inl zero
zero_or_eight status put (inr (inl five)) = absurd (put five)
zero_or_eight status put (inr (inr eight)) = inr eight

pub ground_complete : (names : List (List ℕ)) (d p domain problem : List ℕ) (call : Call) (decision : Decision) → Delivered decision call → call.status ≢ 5 →
    (LastLoadFails names call → ⊥) → (IsRefusedGround domain problem → ⊥) → GroundEnds names d p domain problem call.log_before call.log_after decision → (call.status ≡ 0) ⊎ (call.status ≡ 8)
ground_complete names d p domain problem call decision delivers put loaded allowed (inl memory) =
    zero_or_eight call.status put (memory_stands 0 decision.status call.status (ap (λ e. e.status) memory) (stands decision call delivers))
ground_complete names d p domain problem call decision delivers put loaded allowed (inr (inl (name, fails, is))) = absurd (loaded (name, fails))
ground_complete names d p domain problem call decision delivers put loaded allowed (inr (inr (inl (text, refusal, is)))) =
    absurd (allowed (ground_refused d p domain problem text refusal))
ground_complete names d p domain problem call decision delivers put loaded allowed (inr (inr (inr listed))) =
    zero_or_eight call.status put (stands_as 0 decision.status call.status (ap (λ e. e.status) listed.is) (stands decision call delivers))
