-- What a call has, what it writes, and what every call keeps.
use Rattle.std.specs.Prelude.{◌≡◌, ℕ, ◌<◌, ◌≤◌, ◌⊎◌, Option, Some, Result, Ok, Err, OnOk, List, [], ◌∷◌, ◌++◌, map}
use Rattle.mf_io.specs.declared.folder.Loading.{Loading}
use Rattle.mf_io.specs.declared.sink.PutFault.{PutFault}
use Rattle.mf_io.specs.declared.sink.PutFault.TheVariants.{Failed, Memory}
use Rattle.mf_io.specs.Sink.{Appends, AppendsFront, Rose}
use Rattle.mf_plain.specs.declared.history.History.{History}
use Rattle.mf_top.specs.declared.decision.Decision.{Decision}
use Rattle.mf_top.specs.Loads.{found_load, failed_load}
use Rattle.mf_top.specs.Texts.{unread_text}

-- what is written on a sink, if it tells, and its count of faults, before a call and after it
pub record Written : Type 0 where
  pub before : Option (List ℕ)
  pub after : Option (List ℕ)
  pub faults_before : ℕ
  pub faults_after : ℕ

-- what a call has: the bytes that the folder holds under each name, if it tells them, its log before the call and after
-- it, out and err, and how the call ended
pub record Call : Type 0 where
  pub held : List ℕ → Option (List ℕ)
  pub log_before : List Loading
  pub log_after : List Loading
  pub out : Written
  pub err : Written
  pub status : ℕ
  pub history : History

abbrev pub written_of : {S : Type 0} → (S → Option (List ℕ)) → (S → ℕ) → S → S → Written
written_of written faults old new = record { before = written old; after = written new; faults_before = faults old; faults_after = faults new }

abbrev pub call_of : {F : Type 0} → (F → List ℕ → Option (List ℕ)) → (F → List Loading) → F → F → Written → Written → ℕ → History → Call
call_of held log old new out err status history =
    record { held = held old; log_before = log old; log_after = log new; out = out; err = err; status = status; history = history }

-- What is written

-- these texts are written, and nothing else
pub record Says (out err : List ℕ) (call : Call) : Type 0 where
  pub on_out : Appends out call.out.before call.out.after
  pub on_err : Appends err call.err.before call.err.after

-- a front part of the two texts, out first: nothing is written on err before all is on out
abbrev pub WritesFront : (out_text err_text : List ℕ) → (out err : Written) → Type 0
WritesFront out_text err_text out err =
    (AppendsFront out_text out.before out.after × (err.after ≡ err.before))
    ⊎ (Appends out_text out.before out.after × AppendsFront err_text err.before err.after)

-- both texts whole, or a front part of them and a fault
abbrev pub WritesBoth : (out_text err_text : List ℕ) → (out err : Written) → Result Unit PutFault → Type 0
WritesBoth out_text err_text out err (Ok done) = Appends out_text out.before out.after × Appends err_text err.before err.after
WritesBoth out_text err_text out err (Err fault) = WritesFront out_text err_text out err

-- 5 takes the place of the decided status where a put failed, and 8 where memory ran out
abbrev pub final_status : ℕ → Result Unit PutFault → ℕ
final_status decided (Ok done) = decided
final_status decided (Err Failed) = 5
final_status decided (Err Memory) = 8

-- a sink's count of faults rose
abbrev pub SomeSinkFails : (out err : Written) → Type 0
SomeSinkFails out err = Rose out.faults_before out.faults_after ⊎ Rose err.faults_before err.faults_after

-- a sink's count of faults is greater than before
abbrev pub SomeCountRises : (out err : Written) → Type 0
SomeCountRises out err = (out.faults_before < out.faults_after) ⊎ (err.faults_before < err.faults_after)

abbrev pub CountsStay : (out err : Written) → Type 0
CountsStay out err = (out.faults_after ≡ out.faults_before) × (err.faults_after ≡ err.faults_before)

-- the texts of the decision are written, out first and then err, and its status and history are handed back
pub record Delivers (decision : Decision) (out err : Written) (status : ℕ) (history : History) : Type 0 where
  pub delivered : Result Unit PutFault
  pub written : WritesBoth decision.out decision.err out err delivered
  pub status_is : status ≡ final_status decision.status delivered
  pub history_is : history ≡ decision.history
  pub fault : delivered ≡ Err Failed → SomeSinkFails out err
  pub unfailed : OnOk delivered (CountsStay out err)
  pub out_counted : out.faults_before ≤ out.faults_after
  pub err_counted : err.faults_before ≤ err.faults_after

-- What every call keeps

-- the status is this one, unless a put failed or memory ran out
abbrev pub IsUnlessFault : ℕ → ℕ → Type 0
IsUnlessFault status answer = (answer ≡ status) ⊎ (answer ≡ 5) ⊎ (answer ≡ 8)

-- the log has grown by the loads of a front part of these names, in their order and each once, and none of them failed
pub record LoadsFront (names : List (List ℕ)) (before after : List Loading) : Type 0 where
  pub front : List (List ℕ)
  pub rest : List (List ℕ)
  pub names_are : names ≡ front ++ rest
  pub log : after ≡ before ++ map found_load front

-- the same, and then by the load of the next name, which failed
pub record FailsAt (names : List (List ℕ)) (name : List ℕ) (before after : List Loading) : Type 0 where
  pub front : List (List ℕ)
  pub rest : List (List ℕ)
  pub names_are : names ≡ front ++ name ∷ rest
  pub log : after ≡ before ++ (map found_load front ++ failed_load name ∷ [])

abbrev pub LastLoadFails : List (List ℕ) → Call → Type 0
LastLoadFails names call = (name : List ℕ) × FailsAt names name call.log_before call.log_after

-- what every call keeps whose words name these files
pub record Keeps (names : List (List ℕ)) (call : Call) : Type 0 where
  pub loads : LoadsFront names call.log_before call.log_after ⊎ LastLoadFails names call
  -- 4 exactly where the last load failed, with its name
  pub unread : call.status ≡ 4 → (name : List ℕ) × FailsAt names name call.log_before call.log_after × Says [] (unread_text name) call
  pub read_fault : LastLoadFails names call → IsUnlessFault 4 call.status
  -- nothing is written on out where words, input or a load are refused
  pub quiet : 2 ≤ call.status → call.status ≤ 4 → call.out.after ≡ call.out.before
  -- 5 only where a sink failed, and wherever a count rose, unless memory ran out
  pub write_fault : call.status ≡ 5 → SomeSinkFails call.out call.err
  pub fault_answered : SomeCountRises call.out call.err → IsUnlessFault 5 call.status
  pub out_counted : call.out.faults_before ≤ call.out.faults_after
  pub err_counted : call.err.faults_before ≤ call.err.faults_after
  pub status : call.status ≤ 8

-- nothing failed in the call
pub record IsFaultless (names : List (List ℕ)) (call : Call) : Type 0 where
  pub loaded : LastLoadFails names call → ⊥
  pub put : SomeSinkFails call.out call.err → ⊥
