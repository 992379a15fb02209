-- What the calls of `ground` keep, field by field.
use Rattle.std.proofs.Common.{◌≡◌, ◌≢◌, ℕ, ◌⊎◌, inl, inr, Some, List, [], ◌∷◌, ◌∙◌, arith}
use Rattle.mf_top.specs.declared.decision.Decision.{Decision}
use Rattle.mf_top.specs.declared.request.Request.TheVariants.{Ground}
use Rattle.mf_top.specs.Call.{Call, IsUnlessFault, Says}
use Rattle.mf_top.specs.Commands.{Decides, Comes}
use Rattle.mf_top.specs.Ground.{IsGroundRefusal, GroundsFiles, Grounds}
use Rattle.mf_top.proofs.CallLemmas.{Delivered, Concluded, concluded, stands, wrote_empty, no_put_fault}
use Rattle.mf_top.proofs.LoadLemmas.{IsStopped, then_told, ends_stopped, stops_no_history}
use Rattle.mf_top.proofs.GroundLemmas.{GroundEnds, IsGroundDecision, ground_told, ground_decision, at_listing, prints_instances, at_ground_refusal, ground_refused, ground_refusal_stands, instances_stand, ground_complete}

stopped_not_zero : (decision : Decision) → IsStopped decision → decision.status ≢ 0
stopped_not_zero decision (inl three) zero = omega arith
stopped_not_zero decision (inr (inl four)) zero = omega arith
stopped_not_zero decision (inr (inr eight)) zero = omega arith

comes_ground : (d p : List ℕ) (call : Call) (decision : Decision) → Comes call.held (Ground d p) call.log_before call.log_after decision → IsGroundDecision decision
comes_ground d p call decision (inl ends) =
    let stopped = ends_stopped call.held (d ∷ p ∷ []) call.log_before call.log_after decision ends in
    record {
      history = stops_no_history call.held (d ∷ p ∷ []) call.log_before call.log_after decision ends;
      status = inr stopped;
      quiet = λ zero. absurd (stopped_not_zero decision stopped zero);
    }
comes_ground d p call decision (inr ([], are, of)) = absurd of
comes_ground d p call decision (inr (s ∷ [], are, of)) = absurd of
comes_ground d p call decision (inr (domain ∷ problem ∷ [], are, of)) = ground_decision d p domain problem decision of
comes_ground d p call decision (inr (s ∷ t ∷ u ∷ sources, are, of)) = absurd of

ground_ends : (d p : List ℕ) (call : Call) (decision : Decision) → Comes call.held (Ground d p) call.log_before call.log_after decision →
    (domain problem : List ℕ) → call.held d ≡ Some domain → call.held p ≡ Some problem →
    GroundEnds (d ∷ p ∷ []) d p domain problem call.log_before call.log_after decision
ground_ends d p call decision comes domain problem d_told p_told =
    ground_told d p domain problem call.log_before call.log_after decision
    (then_told call.held (d ∷ p ∷ []) (domain ∷ problem ∷ []) (Decides (Ground d p)) call.log_before call.log_after decision comes (d_told, (p_told, tt)))

-- The statuses

abbrev IsGroundStatus : ℕ → Type 0
IsGroundStatus status = (status ≡ 0) ⊎ (status ≡ 3) ⊎ (status ≡ 4) ⊎ (status ≡ 5) ⊎ (status ≡ 8)

decided_status : (decision : Decision) (status : ℕ) → (decision.status ≡ 0) ⊎ IsStopped decision → status ≡ decision.status → IsGroundStatus status
decided_status decision status (inl zero) is = inl (is ∙ zero)
decided_status decision status (inr (inl three)) is = inr (inl (is ∙ three))
decided_status decision status (inr (inr (inl four))) is = inr (inr (inl (is ∙ four)))
decided_status decision status (inr (inr (inr eight))) is = inr (inr (inr (inr (is ∙ eight))))

status_of_call : (decision : Decision) (status : ℕ) → (decision.status ≡ 0) ⊎ IsStopped decision → IsUnlessFault decision.status status → IsGroundStatus status
status_of_call decision status decided (inl is) = decided_status decision status decided is
status_of_call decision status decided (inr (inl five)) = inr (inr (inr (inl five)))
status_of_call decision status decided (inr (inr eight)) = inr (inr (inr (inr eight)))

-- The fields

ground_quiet : (call : Call) (decision : Decision) → IsGroundDecision decision → Delivered decision call → call.status ≡ 0 → call.err.after ≡ call.err.before
ground_quiet call decision is delivers zero =
    let at = concluded decision call 0 (λ e. omega arith) (λ e. omega arith) delivers zero in
    wrote_empty decision.err call.err.before call.err.after (is.quiet at.decided) at.said.on_err

grounds_files : (d p : List ℕ) (call : Call) (decision : Decision) → Delivered decision call → (domain problem : List ℕ) →
    GroundEnds (d ∷ p ∷ []) d p domain problem call.log_before call.log_after decision → decision.status ≢ 5 → GroundsFiles d p domain problem call
grounds_files d p call decision delivers domain problem ends no_fault =
    let names = d ∷ p ∷ [] in
    let at : (status : ℕ) → status ≢ 5 → status ≢ 8 → call.status ≡ status → Concluded decision call status = λ status put enough is. concluded decision call status put enough delivers is in
    let refused : call.status ≡ 3 → (text : List ℕ) × IsGroundRefusal d p domain problem text × Says [] text call =
    λ three. at_ground_refusal names d p domain problem call.log_before call.log_after call decision (at 3 (λ e. omega arith) (λ e. omega arith) three) ends in
    record {
      instances = λ zero. let c = at 0 (λ e. omega arith) (λ e. omega arith) zero in
          prints_instances domain problem call decision (at_listing names d p domain problem call.log_before call.log_after decision c.decided ends) c;
      refused = λ three. let r = refused three in ground_refused d p domain problem r.0 r.1;
      refused_text = refused;
      refusal = λ loaded is. ground_refusal_stands names d p domain problem call decision delivers loaded is ends;
      have_instances = λ loaded task have. instances_stand names d p domain problem call decision delivers loaded task have ends;
      complete = λ faultless allowed. ground_complete names d p domain problem call decision delivers (no_put_fault call decision names no_fault delivers faultless) faultless.loaded allowed ends;
    }

pub grounds : (d p : List ℕ) (call : Call) (decision : Decision) → Comes call.held (Ground d p) call.log_before call.log_after decision → Delivered decision call →
    decision.status ≢ 5 → Grounds d p call
grounds d p call decision comes delivers no_fault =
    let is = comes_ground d p call decision comes in
    record {
      searched_nothing = delivers.history_is ∙ is.history;
      statuses = status_of_call decision call.status is.status (stands decision call delivers);
      quiet = ground_quiet call decision is delivers;
      files = λ domain problem d_told p_told. grounds_files d p call decision delivers domain problem
          (ground_ends d p call decision comes domain problem d_told p_told) no_fault;
    }
