-- What follows from how a decision is delivered.
use Rattle.std.proofs.Common.{◌≡◌, ◌≢◌, ℕ, ◌≤◌, ◌⊎◌, inl, inr, Option, Some, None, Result, Ok, Err, List, [], refl, sym, ◌∙◌, ap, subst, append-nil, arith}
use Rattle.std.specs.Prelude.{OnOk}
use Rattle.mf_io.specs.declared.sink.PutFault.{PutFault}
use Rattle.mf_io.specs.declared.sink.PutFault.TheVariants.{Failed, Memory}
use Rattle.mf_io.specs.Sink.{Appends}
use Rattle.mf_top.specs.declared.decision.Decision.{Decision}
use Rattle.mf_top.specs.Call.{Call, IsFaultless, Written, Says, WritesBoth, final_status, SomeSinkFails, SomeCountRises, CountsStay, Delivers, IsUnlessFault}
use Rattle.mf_top.specs.Decision.{out_of_memory, IsUnlessMemory}

abbrev pub Delivered : Decision → Call → Type 0
Delivered decision call = Delivers decision call.out call.err call.status call.history

stands_by : (status answer : ℕ) (delivered : Result Unit PutFault) → answer ≡ final_status status delivered → IsUnlessFault status answer
stands_by status answer (Ok done) is = inl is
stands_by status answer (Err Failed) is = inr (inl is)
stands_by status answer (Err Memory) is = inr (inr is)

-- the decided status is the call's, unless a put failed or memory ran out
pub stands : (decision : Decision) (call : Call) → Delivered decision call → IsUnlessFault decision.status call.status
stands decision call delivers = stands_by decision.status call.status delivers.delivered delivers.status_is

-- the status by another name, and where memory ran out any status will do
pub stands_as : (status decided answer : ℕ) → decided ≡ status → IsUnlessFault decided answer → IsUnlessFault status answer
stands_as status decided answer same is = subst (λ n. IsUnlessFault n answer) same is

pub memory_stands : (status decided answer : ℕ) → decided ≡ 8 → IsUnlessFault decided answer → IsUnlessFault status answer
memory_stands status decided answer eight (inl is) = inr (inr (is ∙ eight))
memory_stands status decided answer eight (inr is) = inr is

-- at a status other than 5 and 8 the decision is written whole
pub record Concluded (decision : Decision) (call : Call) (status : ℕ) : Type 0 where
  pub decided : decision.status ≡ status
  pub said : Says decision.out decision.err call

concluded_by : (decision : Decision) (call : Call) (status : ℕ) (delivered : Result Unit PutFault) → status ≢ 5 → status ≢ 8 →
    call.status ≡ status → call.status ≡ final_status decision.status delivered → WritesBoth decision.out decision.err call.out call.err delivered →
    Concluded decision call status
concluded_by decision call status (Ok done) no_fault enough at is written = record { decided = sym is ∙ at; said = record { on_out = written.0; on_err = written.1 } }
concluded_by decision call status (Err Failed) no_fault enough at is written = absurd (no_fault (sym at ∙ is))
concluded_by decision call status (Err Memory) no_fault enough at is written = absurd (enough (sym at ∙ is))

pub concluded : (decision : Decision) (call : Call) (status : ℕ) → status ≢ 5 → status ≢ 8 → Delivered decision call → call.status ≡ status →
    Concluded decision call status
concluded decision call status no_fault enough delivers at =
    concluded_by decision call status delivers.delivered no_fault enough at delivers.status_is delivers.written

fault_by : (decision : Decision) (call : Call) (delivered : Result Unit PutFault) → decision.status ≢ 5 → call.status ≡ 5 →
    call.status ≡ final_status decision.status delivered → (delivered ≡ Err Failed → SomeSinkFails call.out call.err) → SomeSinkFails call.out call.err
fault_by decision call (Ok done) no_fault five is fault = absurd (no_fault (sym is ∙ five))
fault_by decision call (Err Failed) no_fault five is fault = fault refl
fault_by decision call (Err Memory) no_fault five is fault = absurd (let e : ◌≡◌ {A = ℕ} 8 5 = sym is ∙ five in omega arith)

pub put_failed : (decision : Decision) (call : Call) → decision.status ≢ 5 → Delivered decision call → call.status ≡ 5 → SomeSinkFails call.out call.err
put_failed decision call no_fault delivers five = fault_by decision call delivers.delivered no_fault five delivers.status_is delivers.fault

rise_by : (decided answer : ℕ) (delivered : Result Unit PutFault) (out err : Written) → OnOk delivered (CountsStay out err) → answer ≡ final_status decided delivered →
    SomeCountRises out err → IsUnlessFault 5 answer
rise_by decided answer (Ok done) out err stay is (inl rose) = absurd (let same = stay.0 in omega arith)
rise_by decided answer (Ok done) out err stay is (inr rose) = absurd (let same = stay.1 in omega arith)
rise_by decided answer (Err Failed) out err stay is rose = inl is
rise_by decided answer (Err Memory) out err stay is rose = inr (inr is)

-- a count that rose is answered
pub rise_answered : (decision : Decision) (call : Call) → Delivered decision call → SomeCountRises call.out call.err → IsUnlessFault 5 call.status
rise_answered decision call delivers rose = rise_by decision.status call.status delivers.delivered call.out call.err delivers.unfailed delivers.status_is rose

pub at_most : (status answer : ℕ) → status ≤ 8 → IsUnlessFault status answer → answer ≤ 8
at_most status answer most (inl is) = omega arith
at_most status answer most (inr (inl five)) = omega arith
at_most status answer most (inr (inr eight)) = omega arith

wrote_nothing : (before after : Option (List ℕ)) → Appends [] before after → after ≡ before
wrote_nothing None after none = none
wrote_nothing (Some bytes) after none = none ∙ ap (λ all. Some all) (append-nil bytes)

-- an empty text leaves the sink as it was
pub wrote_empty : (text : List ℕ) (before after : Option (List ℕ)) → text ≡ [] → Appends text before after → after ≡ before
wrote_empty text before after empty says = wrote_nothing before after (subst (λ t. Appends t before after) empty says)

-- what a decision says is what the call says
pub says_as : (decision wanted : Decision) (call : Call) → decision ≡ wanted → Says decision.out decision.err call → Says wanted.out wanted.err call
says_as decision wanted call same said = subst (λ d. Says d.out d.err call) same said

pub says_text : (text wanted : List ℕ) (call : Call) → text ≡ wanted → Says text [] call → Says wanted [] call
says_text text wanted call same said = subst (λ t. Says t [] call) same said

pub refuses_text : (text wanted : List ℕ) (call : Call) → text ≡ wanted → Says [] text call → Says [] wanted call
refuses_text text wanted call same said = subst (λ t. Says [] t call) same said

-- the status of a decision that is this one
pub status_as : (decision wanted : Decision) (status : ℕ) → decision ≡ wanted → decision.status ≡ status → wanted.status ≡ status
status_as decision wanted status same at = sym (ap (λ d. d.status) same) ∙ at

-- a call in which nothing failed isn't answered by 5
pub no_put_fault : (call : Call) (decision : Decision) (names : List (List ℕ)) → decision.status ≢ 5 → Delivered decision call → IsFaultless names call → call.status ≢ 5
no_put_fault call decision names no_fault delivers faultless five = faultless.put (put_failed decision call no_fault delivers five)
