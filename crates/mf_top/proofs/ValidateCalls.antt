-- What the calls of `validate` keep, field by field.
use Rattle.std.proofs.Common.{◌≡◌, ◌≢◌, ℕ, inl, inr, Some, List, [], ◌∷◌, refl, ◌∙◌, arith}
use Rattle.mf_top.specs.declared.decision.Decision.{Decision}
use Rattle.mf_top.specs.declared.request.Request.TheVariants.{Validate}
use Rattle.mf_top.specs.Call.{Call, Says}
use Rattle.mf_top.specs.Commands.{Decides, Comes}
use Rattle.mf_top.specs.Decision.{no_history}
use Rattle.mf_top.specs.Validate.{IsFilesRefusal, JudgesFiles, Validates}
use Rattle.mf_top.proofs.CallLemmas.{Delivered, Concluded, concluded, no_put_fault}
use Rattle.mf_top.proofs.LoadLemmas.{then_told, stops_no_history}
use Rattle.mf_top.proofs.ValidateLemmas.{JudgeEnds, judge_told, judgement_history, at_judgement, prints_valid, prints_failure, prints_width, at_files_refusal, files_refused, files_stand, valid_stands, invalid_stands, wide_stands, judge_complete}

judges_no_history : (d p pl : List ℕ) (call : Call) (decision : Decision) → Comes call.held (Validate d p pl) call.log_before call.log_after decision → decision.history ≡ no_history
judges_no_history d p pl call decision (inl ends) = stops_no_history call.held (d ∷ p ∷ pl ∷ []) call.log_before call.log_after decision ends
judges_no_history d p pl call decision (inr ([], are, of)) = absurd of
judges_no_history d p pl call decision (inr (s ∷ [], are, of)) = absurd of
judges_no_history d p pl call decision (inr (s ∷ t ∷ [], are, of)) = absurd of
judges_no_history d p pl call decision (inr (domain ∷ problem ∷ source ∷ [], are, of)) = judgement_history d p pl domain problem source decision of
judges_no_history d p pl call decision (inr (s ∷ t ∷ u ∷ v ∷ sources, are, of)) = absurd of

judge_ends : (d p pl : List ℕ) (call : Call) (decision : Decision) → Comes call.held (Validate d p pl) call.log_before call.log_after decision →
    (domain problem source : List ℕ) → call.held d ≡ Some domain → call.held p ≡ Some problem → call.held pl ≡ Some source →
    JudgeEnds (d ∷ p ∷ pl ∷ []) d p pl domain problem source call.log_before call.log_after decision
judge_ends d p pl call decision comes domain problem source d_told p_told pl_told =
    judge_told d p pl domain problem source call.log_before call.log_after decision
    (then_told call.held (d ∷ p ∷ pl ∷ []) (domain ∷ problem ∷ source ∷ []) (Decides (Validate d p pl)) call.log_before call.log_after decision comes (d_told, (p_told, (pl_told, tt))))

judges_files : (d p pl : List ℕ) (call : Call) (decision : Decision) → Delivered decision call → (domain problem source : List ℕ) →
    JudgeEnds (d ∷ p ∷ pl ∷ []) d p pl domain problem source call.log_before call.log_after decision → decision.status ≢ 5 → JudgesFiles d p pl domain problem source call
judges_files d p pl call decision delivers domain problem source ends no_fault =
    let names = d ∷ p ∷ pl ∷ [] in
    let at : (status : ℕ) → status ≢ 5 → status ≢ 8 → call.status ≡ status → Concluded decision call status = λ status put enough is. concluded decision call status put enough delivers is in
    let refused : call.status ≡ 3 → (text : List ℕ) × IsFilesRefusal d p pl domain problem source text × Says [] text call =
    λ three. at_files_refusal names d p pl domain problem source call.log_before call.log_after call decision (at 3 (λ e. omega arith) (λ e. omega arith) three) ends in
    record {
      valid = λ zero. let c = at 0 (λ e. omega arith) (λ e. omega arith) zero in
          prints_valid domain problem source call decision (at_judgement names d p pl domain problem source call.log_before call.log_after decision 0 (inl refl) c.decided ends) c;
      invalid = λ one. let c = at 1 (λ e. omega arith) (λ e. omega arith) one in
          prints_failure domain problem source call decision (at_judgement names d p pl domain problem source call.log_before call.log_after decision 1 (inr (inl refl)) c.decided ends) c;
      wide = λ seven. let c = at 7 (λ e. omega arith) (λ e. omega arith) seven in
          prints_width domain problem source call decision (at_judgement names d p pl domain problem source call.log_before call.log_after decision 7 (inr (inr refl)) c.decided ends) c;
      refused = λ three. let r = refused three in files_refused d p pl domain problem source r.0 r.1;
      refused_text = refused;
      refusal = λ loaded is. files_stand names d p pl domain problem source call decision delivers loaded is ends;
      is_valid = λ loaded is. valid_stands names d p pl domain problem source call decision delivers loaded is ends;
      is_invalid = λ loaded is. invalid_stands names d p pl domain problem source call decision delivers loaded is ends;
      is_wide = λ loaded is. wide_stands names d p pl domain problem source call decision delivers loaded is ends;
      complete = λ faultless allowed. judge_complete names d p pl domain problem source call decision delivers (no_put_fault call decision names no_fault delivers faultless) faultless.loaded allowed ends;
    }

pub validates : (d p pl : List ℕ) (call : Call) (decision : Decision) → Comes call.held (Validate d p pl) call.log_before call.log_after decision → Delivered decision call →
    decision.status ≢ 5 → Validates d p pl call
validates d p pl call decision comes delivers no_fault = record {
  searched_nothing = delivers.history_is ∙ judges_no_history d p pl call decision comes;
  files = λ domain problem source d_told p_told pl_told. judges_files d p pl call decision delivers domain problem source
      (judge_ends d p pl call decision comes domain problem source d_told p_told pl_told) no_fault;
}
