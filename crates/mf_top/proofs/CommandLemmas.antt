-- What the calls of the commands keep.
use Rattle.std.proofs.Common.{◌≡◌, ◌≢◌, ℕ, ◌⊎◌, inl, inr, Option, Some, None, List, [], ◌∷◌, codes, refl, sym, ◌∙◌, ap, append-nil, arith}
use Rattle.mf_io.specs.declared.folder.Loading.{Loading}
use Rattle.mf_top.specs.declared.decision.Decision.{Decision}
use Rattle.mf_top.specs.declared.request.Request.{Request}
use Rattle.mf_top.specs.declared.request.Request.TheVariants.{Plan, Validate, Ground}
use Rattle.mf_top.specs.Call.{Call, Says, IsUnlessFault}
use Rattle.mf_top.specs.Commands.{files_of, Decides, Comes, CommandKeeps, Serves, Refuses, Runs}
use Rattle.mf_top.specs.Decision.{out_of_memory, IsUnlessMemory}
use Rattle.mf_top.specs.Words.{words_refused}
use Rattle.mf_top.proofs.CallLemmas.{Delivered, Concluded, concluded, stands, stands_as, memory_stands, says_as, status_as}
use Rattle.mf_top.proofs.LoadLemmas.{IsDecided, IsStopped, Logged, then_logged, keeps, ends_stopped, decided_unless}
use Rattle.mf_top.proofs.GroundCalls.{grounds}
use Rattle.mf_top.proofs.GroundLemmas.{ground_decided}
use Rattle.mf_top.proofs.PlanLemmas.{plan_decided}
use Rattle.mf_top.proofs.ValidateLemmas.{judgement_decided}
use Rattle.mf_top.proofs.PlanCalls.{plans}
use Rattle.mf_top.proofs.ValidateCalls.{validates}

-- The decisions of commands

decides : (request : Request) (sources : List (List ℕ)) (decision : Decision) → Decides request sources decision → IsDecided decision × (decision.status ≢ 2)
decides (Plan d p b) [] decision of = absurd of
decides (Plan d p b) (s ∷ []) decision of = absurd of
decides (Plan d p b) (domain ∷ problem ∷ []) decision of = plan_decided d p domain problem b decision of
decides (Plan d p b) (s ∷ t ∷ u ∷ sources) decision of = absurd of
decides (Validate d p pl) [] decision of = absurd of
decides (Validate d p pl) (s ∷ []) decision of = absurd of
decides (Validate d p pl) (s ∷ t ∷ []) decision of = absurd of
decides (Validate d p pl) (domain ∷ problem ∷ source ∷ []) decision of = judgement_decided d p pl domain problem source decision of
decides (Validate d p pl) (s ∷ t ∷ u ∷ v ∷ sources) decision of = absurd of
decides (Ground d p) [] decision of = absurd of
decides (Ground d p) (s ∷ []) decision of = absurd of
decides (Ground d p) (domain ∷ problem ∷ []) decision of = ground_decided d p domain problem decision of
decides (Ground d p) (s ∷ t ∷ u ∷ sources) decision of = absurd of

stopped_not_two : (decision : Decision) → IsStopped decision → decision.status ≢ 2
stopped_not_two decision (inl three) two = omega arith
stopped_not_two decision (inr (inl four)) two = omega arith
stopped_not_two decision (inr (inr eight)) two = omega arith

not_two : (held : List ℕ → Option (List ℕ)) (request : Request) (before after : List Loading) (decision : Decision) → Comes held request before after decision → decision.status ≢ 2
not_two held request before after decision (inl ends) = stopped_not_two decision (ends_stopped held (files_of request) before after decision ends)
not_two held request before after decision (inr (sources, are, of)) = (decides request sources decision of).1

accepted : (request : Request) (call : Call) (decision : Decision) → Comes call.held request call.log_before call.log_after decision → Delivered decision call → call.status ≢ 2
accepted request call decision comes delivers two =
    not_two call.held request call.log_before call.log_after decision comes (concluded decision call 2 (λ e. omega arith) (λ e. omega arith) delivers two).decided

no_fault_of : (held : List ℕ → Option (List ℕ)) (request : Request) (before after : List Loading) (decision : Decision) → Comes held request before after decision → decision.status ≢ 5
no_fault_of held request before after decision (inl ends) five = off (ends_stopped held (files_of request) before after decision ends)
  where
    off : IsStopped decision → ⊥
    off (inl s) = omega arith
    off (inr (inl s)) = omega arith
    off (inr (inr s)) = omega arith
no_fault_of held request before after decision (inr (sources, are, of)) five = (decides request sources decision of).0.fine.no_fault five

-- A call

command_keeps : (request : Request) (call : Call) (decision : Decision) → Comes call.held request call.log_before call.log_after decision → Delivered decision call → CommandKeeps request call
command_keeps (Plan d p b) call decision comes delivers =
    plans d p b call decision comes delivers (no_fault_of call.held (Plan d p b) call.log_before call.log_after decision comes)
command_keeps (Validate d p pl) call decision comes delivers =
    validates d p pl call decision comes delivers (no_fault_of call.held (Validate d p pl) call.log_before call.log_after decision comes)
command_keeps (Ground d p) call decision comes delivers =
    grounds d p call decision comes delivers (no_fault_of call.held (Ground d p) call.log_before call.log_after decision comes)

pub serves : (request : Request) (call : Call) (decision : Decision) → Comes call.held request call.log_before call.log_after decision → Delivered decision call → Serves request call
serves request call decision comes delivers = record {
  decision = decision;
  comes = comes;
  delivers = delivers;
  accepted = accepted request call decision comes delivers;
  keeps = keeps (files_of request) call decision
      (then_logged call.held (files_of request) (Decides request) call.log_before call.log_after decision (λ sources of. (decides request sources decision of).0) comes) delivers;
  command = command_keeps request call decision comes delivers;
}

-- Words

words_decided : IsDecided words_refused
words_decided = record { fine = record { most = omega arith; no_fault = λ e. omega arith; quiet = λ low high. refl }; no_load = λ e. omega arith }

refused_decided : (decision : Decision) → IsUnlessMemory words_refused decision → IsDecided decision
refused_decided decision is = decided_unless words_refused decision words_decided is

refused_stands : (decision : Decision) (call : Call) → IsUnlessMemory words_refused decision → Delivered decision call → IsUnlessFault 2 call.status
refused_stands decision call (inl is) delivers = stands_as 2 decision.status call.status (ap (λ e. e.status) is) (stands decision call delivers)
refused_stands decision call (inr memory) delivers = memory_stands 2 decision.status call.status (ap (λ e. e.status) memory) (stands decision call delivers)

refused_says : (decision : Decision) (call : Call) → IsUnlessMemory words_refused decision → Concluded decision call 2 → Says [] (codes "words refused\n") call
refused_says decision call (inl is) at = says_as decision words_refused call is at.said
refused_says decision call (inr memory) at = absurd (let e = status_as decision out_of_memory 2 memory at.decided in omega arith)

nothing_loaded : (names : List (List ℕ)) (call : Call) (decision : Decision) → call.log_after ≡ call.log_before → IsDecided decision → Logged names call.log_before call.log_after decision
nothing_loaded names call decision same decided =
    inl (record { front = []; rest = names; names_are = refl; log = same ∙ sym (append-nil call.log_before) }, decided)

refuses_words : (call : Call) (decision : Decision) → IsUnlessMemory words_refused decision → call.log_after ≡ call.log_before → Delivered decision call → Refuses call
refuses_words call decision is same delivers = record {
  decision = decision;
  decided = is;
  delivers = delivers;
  status = refused_stands decision call is delivers;
  text = λ two. refused_says decision call is (concluded decision call 2 (λ e. omega arith) (λ e. omega arith) delivers two);
  unloaded = same;
  keeps = keeps [] call decision (nothing_loaded [] call decision same (refused_decided decision is)) delivers;
}

-- memory ran out before the first load
memory_comes : (held : List ℕ → Option (List ℕ)) (request : Request) (before after : List Loading) (decision : Decision) → after ≡ before → decision ≡ out_of_memory →
    Comes held request before after decision
memory_comes held (Plan d p b) before after decision same memory = inl (inl (inl (same, memory)))
memory_comes held (Validate d p pl) before after decision same memory = inl (inl (inl (same, memory)))
memory_comes held (Ground d p) before after decision same memory = inl (inl (inl (same, memory)))

-- the words have no request, or memory ran out while they were read
pub runs_unread : (request : Option Request) (call : Call) (decision : Decision) → (decision ≡ out_of_memory) ⊎ ((request ≡ None) × IsUnlessMemory words_refused decision) →
    call.log_after ≡ call.log_before → Delivered decision call → Runs request call
runs_unread None call decision (inl memory) same delivers = refuses_words call decision (inr memory) same delivers
runs_unread None call decision (inr (none, is)) same delivers = refuses_words call decision is same delivers
runs_unread (Some request) call decision (inl memory) same delivers =
    serves request call decision (memory_comes call.held request call.log_before call.log_after decision same memory) delivers
runs_unread (Some request) call decision (inr (none, is)) same delivers = absurd cc
