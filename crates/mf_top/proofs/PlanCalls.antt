-- What the calls of `plan` keep, field by field.
use Rattle.std.proofs.Common.{◌≡◌, ◌≢◌, ℕ, inl, inr, Some, List, [], ◌∷◌, codes, refl, ap, arith}
use Rattle.mf_top.specs.declared.decision.Decision.{Decision}
use Rattle.mf_top.specs.declared.request.Request.TheVariants.{Plan}
use Rattle.mf_top.specs.Call.{Call, Says}
use Rattle.mf_top.specs.Commands.{Decides, Comes}
use Rattle.mf_top.specs.Plan.{PlansFiles, Plans, IsSearchStatus, IsInputRefusal}
use Rattle.mf_top.proofs.BegunLemmas.{begun_none}
use Rattle.mf_top.proofs.CallLemmas.{Delivered, Concluded, concluded, wrote_empty, no_put_fault}
use Rattle.mf_top.proofs.LoadLemmas.{IsStopped, then_told, ends_stopped, reads_fit}
use Rattle.mf_top.proofs.PlanLemmas.{Found, PlanEnds, plan_told, plan_decides, at_answer, prints_plan, has_no_plan, says_no_plan, reaches_budget, found_greedy, plan_history, at_refusal, refusal_refuses, refusal_stands, plan_complete}

plan_ends : (d p : List ℕ) (b : ℕ) (call : Call) (decision : Decision) → Comes call.held (Plan d p b) call.log_before call.log_after decision →
    (domain problem : List ℕ) → call.held d ≡ Some domain → call.held p ≡ Some problem →
    PlanEnds (d ∷ p ∷ []) d p domain problem b call.log_before call.log_after decision
plan_ends d p b call decision comes domain problem d_told p_told =
    plan_told d p domain problem b call.log_before call.log_after decision
    (then_told call.held (d ∷ p ∷ []) (domain ∷ problem ∷ []) (Decides (Plan d p b)) call.log_before call.log_after decision comes (d_told, (p_told, tt)))

-- what was found, whatever the bytes
record SomeFound (b : ℕ) (decision : Decision) : Type 0 where
  pub domain : List ℕ
  pub problem : List ℕ
  pub found : Found domain problem b decision

stopped_no_answer : (decision : Decision) (status : ℕ) → IsStopped decision → IsSearchStatus status → decision.status ≡ status → ⊥
stopped_no_answer decision status (inl s) (inl is) at = omega arith
stopped_no_answer decision status (inl s) (inr (inl is)) at = omega arith
stopped_no_answer decision status (inl s) (inr (inr is)) at = omega arith
stopped_no_answer decision status (inr (inl s)) (inl is) at = omega arith
stopped_no_answer decision status (inr (inl s)) (inr (inl is)) at = omega arith
stopped_no_answer decision status (inr (inl s)) (inr (inr is)) at = omega arith
stopped_no_answer decision status (inr (inr s)) (inl is) at = omega arith
stopped_no_answer decision status (inr (inr s)) (inr (inl is)) at = omega arith
stopped_no_answer decision status (inr (inr s)) (inr (inr is)) at = omega arith

some_found : (d p : List ℕ) (b : ℕ) (call : Call) (decision : Decision) (status : ℕ) → IsSearchStatus status → decision.status ≡ status →
    Comes call.held (Plan d p b) call.log_before call.log_after decision → SomeFound b decision
some_found d p b call decision status is at (inl ends) =
    absurd (stopped_no_answer decision status (ends_stopped call.held (d ∷ p ∷ []) call.log_before call.log_after decision ends) is at)
some_found d p b call decision status is at (inr ([], are, of)) = absurd of
some_found d p b call decision status is at (inr (s ∷ [], are, of)) = absurd of
some_found d p b call decision status is at (inr (domain ∷ problem ∷ [], are, of)) = record {
  domain = domain;
  problem = problem;
  found = at_answer (d ∷ p ∷ []) d p domain problem b call.log_before call.log_after decision status is at
      (plan_decides (d ∷ p ∷ []) d p domain problem b call.log_before call.log_after decision (reads_fit call.held (d ∷ p ∷ []) (domain ∷ problem ∷ []) are.read) of);
}
some_found d p b call decision status is at (inr (s ∷ t ∷ u ∷ sources, are, of)) = absurd of

not_five : (status : ℕ) → IsSearchStatus status → status ≢ 5
not_five status (inl s) five = omega arith
not_five status (inr (inl s)) five = omega arith
not_five status (inr (inr s)) five = omega arith

not_eight : (status : ℕ) → IsSearchStatus status → status ≢ 8
not_eight status (inl s) eight = omega arith
not_eight status (inr (inl s)) eight = omega arith
not_eight status (inr (inr s)) eight = omega arith

answer_at : (call : Call) (decision : Decision) (status : ℕ) → Delivered decision call → IsSearchStatus status → call.status ≡ status → Concluded decision call status
answer_at call decision status delivers is at = concluded decision call status (not_five status is) (not_eight status is) delivers at

plan_quiet : (d p : List ℕ) (b : ℕ) (call : Call) (decision : Decision) → Comes call.held (Plan d p b) call.log_before call.log_after decision → Delivered decision call →
    IsSearchStatus call.status → call.err.after ≡ call.err.before
plan_quiet d p b call decision comes delivers is =
    let at = answer_at call decision call.status delivers is refl in
    let some = some_found d p b call decision call.status is at.decided comes in
    wrote_empty decision.err call.err.before call.err.after (ap (λ e. e.err) some.found.is) at.said.on_err

plan_says_none : (d p : List ℕ) (b : ℕ) (call : Call) (decision : Decision) → Comes call.held (Plan d p b) call.log_before call.log_after decision → Delivered decision call →
    call.status ≡ 1 → Says (codes "no plan\n") [] call
plan_says_none d p b call decision comes delivers one =
    let at = answer_at call decision 1 delivers (inr (inl refl)) one in
    let some = some_found d p b call decision 1 (inr (inl refl)) at.decided comes in
    says_no_plan some.domain some.problem b call decision some.found at

plan_files : (d p : List ℕ) (b : ℕ) (call : Call) (decision : Decision) → Delivered decision call → (domain problem : List ℕ) → PlanEnds (d ∷ p ∷ []) d p domain problem b call.log_before call.log_after decision →
    decision.status ≢ 5 → PlansFiles d p b domain problem call
plan_files d p b call decision delivers domain problem ends no_fault =
    let names = d ∷ p ∷ [] in
    let found : (status : ℕ) → IsSearchStatus status → call.status ≡ status → Found domain problem b decision =
    λ status is at. at_answer names d p domain problem b call.log_before call.log_after decision status is (answer_at call decision status delivers is at).decided ends in
    let refused : call.status ≡ 3 → (text : List ℕ) × IsInputRefusal d p domain problem text × Says [] text call =
    λ three. at_refusal names d p domain problem b call.log_before call.log_after call decision (concluded decision call 3 (λ e. omega arith) (λ e. omega arith) delivers three) ends in
    record {
      plan = λ zero. prints_plan domain problem b call decision delivers (found 0 (inl refl) zero) (answer_at call decision 0 delivers (inl refl) zero);
      no_plan = λ one. has_no_plan domain problem b call decision delivers (found 1 (inr (inl refl)) one) (answer_at call decision 1 delivers (inr (inl refl)) one).decided;
      no_plan_begun = begun_none names d p domain problem b call decision delivers ends;
      budget_reached = λ six. reaches_budget domain problem b call decision delivers (found 6 (inr (inr refl)) six) (answer_at call decision 6 delivers (inr (inr refl)) six);
      searched = λ is. found_greedy domain problem b call decision delivers (found call.status is refl);
      history = plan_history names d p domain problem b call.log_before call.log_after call decision delivers ends;
      refused = λ three. let r = refused three in refusal_refuses d p domain problem r.0 r.1;
      refused_text = refused;
      refusal = λ loaded is. refusal_stands names d p domain problem b call decision delivers loaded is ends;
      complete = λ faultless allowed. plan_complete names d p domain problem b call decision delivers (no_put_fault call decision names no_fault delivers faultless) faultless.loaded allowed ends;
    }

pub plans : (d p : List ℕ) (b : ℕ) (call : Call) (decision : Decision) → Comes call.held (Plan d p b) call.log_before call.log_after decision → Delivered decision call →
    decision.status ≢ 5 → Plans d p b call
plans d p b call decision comes delivers no_fault = record {
  no_plan_text = plan_says_none d p b call decision comes delivers;
  quiet = plan_quiet d p b call decision comes delivers;
  files = λ domain problem d_told p_told. plan_files d p b call decision delivers domain problem
      (plan_ends d p b call decision comes domain problem d_told p_told) no_fault;
}
