-- What follows from how the loads of a call end.
use Rattle.std.proofs.Common.{◌≡◌, ◌≢◌, ℕ, ◌≤◌, ◌<◌, ◌⊎◌, inl, inr, true, false, All, Option, Some, None, IfSome, List, [], ◌∷◌, ◌++◌, map, length, refl, sym, ◌∙◌, ap, subst, append-nil, arith}
use Rattle.std.proofs.lemmas.Bool.{false≢true}
use Rattle.std.proofs.lemmas.List.{append_assoc}
use Rattle.std.proofs.lemmas.List.Prefix.{front_rest}
use Rattle.std.specs.List.{AllZip}
use Rattle.mf_io.specs.declared.folder.Loading.{Loading}
use Rattle.mf_io.specs.Folder.{Notes}
use Rattle.mf_top.specs.declared.decision.Decision.{Decision}
use Rattle.mf_top.specs.Call.{Call, Says, SomeSinkFails, IsUnlessFault, LoadsFront, FailsAt, LastLoadFails, Keeps}
use Rattle.mf_top.specs.Decision.{no_history, stops, refuses, out_of_memory, IsUnlessMemory}
use Rattle.mf_top.specs.Loads.{greatest_length, found_load, failed_load, Reads, IsTooLong, EndsLoad, AreRead, EndsLoads, LoadsThen, Tells, AllFit, SomeIsTooLong, IsLengthRefusal}
use Rattle.mf_top.specs.Texts.{unread_text, too_long_text}
use Rattle.mf_top.proofs.CallLemmas.{Delivered, Concluded, stands, stands_as, memory_stands, concluded, put_failed, rise_answered, at_most, wrote_empty, says_as, status_as}

-- Steps

-- the load of a file that was read before the load that ends the call
pub ends_later : (held : List ℕ → Option (List ℕ)) (name : List ℕ) (names : List (List ℕ)) (bytes : List ℕ) (before middle after : List Loading) (decision : Decision) →
    Notes name false before middle → Reads (held name) bytes → EndsLoads held names middle after decision → EndsLoads held (name ∷ names) before after decision
ends_later held name names bytes before middle after decision noted reads ends =
    inr (bytes, reads, subst (λ log. EndsLoads held names log after decision) noted ends)

-- what is said of a folder that holds the same
pub ends_kept : (held kept : List ℕ → Option (List ℕ)) (name : List ℕ) (before after : List Loading) (decision : Decision) →
    kept ≡ held → EndsLoad (kept name) name before after decision → EndsLoad (held name) name before after decision
ends_kept held kept name before after decision same ends = subst (λ (h : List ℕ → Option (List ℕ)). EndsLoad (h name) name before after decision) same ends

pub reads_kept : (held kept : List ℕ → Option (List ℕ)) (name bytes : List ℕ) → kept ≡ held → Reads (kept name) bytes → Reads (held name) bytes
reads_kept held kept name bytes same reads = subst (λ (h : List ℕ → Option (List ℕ)). Reads (h name) bytes) same reads

-- The log

front_more : (name : List ℕ) (names : List (List ℕ)) (before after : List Loading) → LoadsFront names (before ++ found_load name ∷ []) after → LoadsFront (name ∷ names) before after
front_more name names before after loads = record {
  front = name ∷ loads.front;
  rest = loads.rest;
  names_are = ap (λ others. name ∷ others) loads.names_are;
  log = loads.log ∙ append_assoc before (found_load name ∷ []) (map found_load loads.front);
}

fails_more : (name other : List ℕ) (names : List (List ℕ)) (before after : List Loading) → FailsAt names other (before ++ found_load name ∷ []) after → FailsAt (name ∷ names) other before after
fails_more name other names before after fails = record {
  front = name ∷ fails.front;
  rest = fails.rest;
  names_are = ap (λ others. name ∷ others) fails.names_are;
  log = fails.log ∙ append_assoc before (found_load name ∷ []) (map found_load fails.front ++ failed_load other ∷ []);
}

no_lost : (names front : List (List ℕ)) (name : List ℕ) → map found_load names ≡ map found_load front ++ failed_load name ∷ [] → ⊥
no_lost [] [] name same = cc
no_lost [] (x ∷ front) name same = cc
no_lost (y ∷ names) [] name same =
    let first : found_load y ≡ failed_load name = cc in false≢true (ap (λ (l : Loading). l.failed) first)
no_lost (y ∷ names) (x ∷ front) name same =
    let rest : map found_load names ≡ map found_load front ++ failed_load name ∷ [] = cc in no_lost names front name rest

-- a log whose new loads all found their files has no failed last load
found_not_failed : (names others : List (List ℕ)) (name : List ℕ) (before after : List Loading) → LoadsFront names before after → FailsAt others name before after → ⊥
found_not_failed names others name before after loads fails =
    no_lost loads.front fails.front name
    (sym (front_rest after before (map found_load loads.front) loads.log) ∙ front_rest after before (map found_load fails.front ++ failed_load name ∷ []) fails.log)

-- Decisions

pub record IsFine (decision : Decision) : Type 0 where
  pub most : decision.status ≤ 8
  pub no_fault : decision.status ≢ 5
  pub quiet : 2 ≤ decision.status → decision.status ≤ 4 → decision.out ≡ []

-- a decision that isn't made by a load that failed
pub record IsDecided (decision : Decision) : Type 0 where
  pub fine : IsFine decision
  pub no_load : decision.status ≢ 4

pub memory_decided : IsDecided out_of_memory
memory_decided = record { fine = record { most = omega arith; no_fault = λ e. omega arith; quiet = λ low high. refl }; no_load = λ e. omega arith }

pub refuses_decided : (text : List ℕ) → IsDecided (refuses text)
refuses_decided text = record { fine = record { most = omega arith; no_fault = λ e. omega arith; quiet = λ low high. refl }; no_load = λ e. omega arith }

pub decided_as : (wanted decision : Decision) → IsDecided wanted → decision ≡ wanted → IsDecided decision
decided_as wanted decision decided same = subst IsDecided (sym same) decided

pub decided_unless : (wanted decision : Decision) → IsDecided wanted → IsUnlessMemory wanted decision → IsDecided decision
decided_unless wanted decision decided (inl same) = decided_as wanted decision decided same
decided_unless wanted decision decided (inr memory) = decided_as out_of_memory decision memory_decided memory

-- a decision where memory ran out, and one that refuses the input
pub memory_fine : (decision : Decision) → decision ≡ out_of_memory → IsDecided decision × (decision.status ≢ 2)
memory_fine decision memory = (decided_as out_of_memory decision memory_decided memory, λ two. let e = status_as decision out_of_memory 2 memory two in omega arith)

pub refuses_fine : (decision : Decision) (text : List ℕ) → decision ≡ refuses text → IsDecided decision × (decision.status ≢ 2)
refuses_fine decision text is = (decided_as (refuses text) decision (refuses_decided text) is, λ two. let e = status_as decision (refuses text) 2 is two in omega arith)

fails_fine : (text : List ℕ) (decision : Decision) → IsUnlessMemory (stops 4 text) decision → IsFine decision
fails_fine text decision (inl same) = subst IsFine (sym same) (record { most = omega arith; no_fault = λ e. omega arith; quiet = λ low high. refl })
fails_fine text decision (inr memory) = (decided_as out_of_memory decision memory_decided memory).fine

-- the loads all found their files, or the last one failed and decides
abbrev pub Logged : List (List ℕ) → (before after : List Loading) → Decision → Type 0
Logged names before after decision =
    (LoadsFront names before after × IsDecided decision)
    ⊎ ((name : List ℕ) × FailsAt names name before after × IsUnlessMemory (stops 4 (unread_text name)) decision)

load_logged : (held : Option (List ℕ)) (name : List ℕ) (names : List (List ℕ)) (before after : List Loading) (decision : Decision) →
    EndsLoad held name before after decision → Logged (name ∷ names) before after decision
load_logged held name names before after decision (inl (same, memory)) =
    inl (record { front = []; rest = name ∷ names; names_are = refl; log = same ∙ sym (append-nil before) }, decided_as out_of_memory decision memory_decided memory)
load_logged held name names before after decision (inr (inl (noted, is))) =
    inr (name, record { front = []; rest = names; names_are = refl; log = noted }, is)
load_logged held name names before after decision (inr (inr (noted, long, is))) =
    inl (record { front = name ∷ []; rest = names; names_are = refl; log = noted }, decided_unless (refuses (too_long_text name)) decision (refuses_decided (too_long_text name)) is)

logged_more : (name : List ℕ) (names : List (List ℕ)) (before after : List Loading) (decision : Decision) → Logged names (before ++ found_load name ∷ []) after decision →
    Logged (name ∷ names) before after decision
logged_more name names before after decision (inl (loads, decided)) = inl (front_more name names before after loads, decided)
logged_more name names before after decision (inr (other, fails, is)) = inr (other, fails_more name other names before after fails, is)

ends_logged : (held : List ℕ → Option (List ℕ)) (names : List (List ℕ)) (before after : List Loading) (decision : Decision) → EndsLoads held names before after decision →
    Logged names before after decision
ends_logged held [] before after decision ends = absurd ends
ends_logged held (name ∷ names) before after decision (inl ends) = load_logged (held name) name names before after decision ends
ends_logged held (name ∷ names) before after decision (inr (bytes, reads, ends)) =
    logged_more name names before after decision (ends_logged held names (before ++ found_load name ∷ []) after decision ends)

pub then_logged : (held : List ℕ → Option (List ℕ)) (names : List (List ℕ)) (Decides : List (List ℕ) → Decision → Type 0) (before after : List Loading) (decision : Decision) →
    ((sources : List (List ℕ)) → Decides sources decision → IsDecided decision) → LoadsThen held names Decides before after decision → Logged names before after decision
then_logged held names Decides before after decision decided (inl ends) = ends_logged held names before after decision ends
then_logged held names Decides before after decision decided (inr (sources, read, decides)) =
    inl (record { front = names; rest = []; names_are = sym (append-nil names); log = read.log }, decided sources decides)

-- What every call keeps

fine_of : (names : List (List ℕ)) (before after : List Loading) (decision : Decision) → Logged names before after decision → IsFine decision
fine_of names before after decision (inl (loads, decided)) = decided.fine
fine_of names before after decision (inr (name, fails, is)) = fails_fine (unread_text name) decision is

loads_of : (names : List (List ℕ)) (call : Call) (decision : Decision) → Logged names call.log_before call.log_after decision →
    LoadsFront names call.log_before call.log_after ⊎ LastLoadFails names call
loads_of names call decision (inl (loads, decided)) = inl loads
loads_of names call decision (inr (name, fails, is)) = inr (name, fails)

unread_of : (names : List (List ℕ)) (call : Call) (decision : Decision) → Logged names call.log_before call.log_after decision → Concluded decision call 4 →
    (name : List ℕ) × FailsAt names name call.log_before call.log_after × Says [] (unread_text name) call
unread_of names call decision (inl (loads, decided)) concluded = absurd (decided.no_load concluded.decided)
unread_of names call decision (inr (name, fails, inl is)) concluded = (name, fails, says_as decision (stops 4 (unread_text name)) call is concluded.said)
unread_of names call decision (inr (name, fails, inr memory)) concluded = absurd (let e = status_as decision out_of_memory 4 memory concluded.decided in omega arith)

fault_of : (names : List (List ℕ)) (call : Call) (decision : Decision) → Logged names call.log_before call.log_after decision → IsUnlessFault decision.status call.status →
    LastLoadFails names call → IsUnlessFault 4 call.status
fault_of names call decision (inl (loads, decided)) is (name, fails) = absurd (found_not_failed names names name call.log_before call.log_after loads fails)
fault_of names call decision (inr (name, fails, inl same)) is last = stands_as 4 decision.status call.status (ap (λ d. d.status) same) is
fault_of names call decision (inr (name, fails, inr memory)) is last = memory_stands 4 decision.status call.status (ap (λ d. d.status) memory) is

quiet_of : (decision : Decision) (call : Call) → IsFine decision → Delivered decision call → 2 ≤ call.status → call.status ≤ 4 → call.out.after ≡ call.out.before
quiet_of decision call fine delivers low high =
    let at = concluded decision call call.status (λ e. omega arith) (λ e. omega arith) delivers refl in
    let decided = at.decided in
    wrote_empty decision.out call.out.before call.out.after (fine.quiet (omega arith) (omega arith)) at.said.on_out

pub keeps : (names : List (List ℕ)) (call : Call) (decision : Decision) → Logged names call.log_before call.log_after decision → Delivered decision call → Keeps names call
keeps names call decision logged delivers =
    let fine = fine_of names call.log_before call.log_after decision logged in
    record {
      loads = loads_of names call decision logged;
      unread = λ four. unread_of names call decision logged (concluded decision call 4 (λ e. omega arith) (λ e. omega arith) delivers four);
      read_fault = fault_of names call decision logged (stands decision call delivers);
      quiet = quiet_of decision call fine delivers;
      write_fault = put_failed decision call fine.no_fault delivers;
      fault_answered = rise_answered decision call delivers;
      out_counted = delivers.out_counted;
      err_counted = delivers.err_counted;
      status = at_most decision.status call.status fine.most (stands decision call delivers);
    }

-- What the loads say where the folder tells the bytes

told_is : (held : Option (List ℕ)) (bytes told : List ℕ) → Reads held bytes → held ≡ Some told → bytes ≡ told
told_is held bytes told reads is = subst (λ h. IfSome h (λ t. bytes ≡ t)) is reads.told

told_long : (held : Option (List ℕ)) (told : List ℕ) → IsTooLong held → held ≡ Some told → greatest_length < length told
told_long held told long is = subst (λ h. IfSome h (λ bytes. greatest_length < length bytes)) is long

told_fits : (held : Option (List ℕ)) (bytes told : List ℕ) → Reads held bytes → held ≡ Some told → length told ≤ greatest_length
told_fits held bytes told reads is = subst (λ b. length b ≤ greatest_length) (told_is held bytes told reads is) reads.allowed

abbrev pub AreReads : (List ℕ → Option (List ℕ)) → (names sources : List (List ℕ)) → Type 0
AreReads held names sources = AllZip (λ name bytes. Reads (held name) bytes) names sources

told_are : (held : List ℕ → Option (List ℕ)) (names read sources : List (List ℕ)) → AreReads held names read → Tells held names sources → read ≡ sources
told_are held [] [] [] reads tells = refl
told_are held [] [] (s ∷ sources) reads tells = absurd tells
told_are held [] (r ∷ read) sources reads tells = absurd reads
told_are held (name ∷ names) [] sources reads tells = absurd reads
told_are held (name ∷ names) (r ∷ read) [] reads tells = absurd tells
told_are held (name ∷ names) (r ∷ read) (s ∷ sources) reads tells =
    let first : r ≡ s = told_is (held name) r s reads.0 tells.0 in
    let others : read ≡ sources = told_are held names read sources reads.1 tells.1 in
    cc

pub reads_fit : (held : List ℕ → Option (List ℕ)) (names sources : List (List ℕ)) → AreReads held names sources → AllFit sources
reads_fit held [] [] reads = tt
reads_fit held [] (s ∷ sources) reads = absurd reads
reads_fit held (name ∷ names) [] reads = absurd reads
reads_fit held (name ∷ names) (s ∷ sources) reads = (reads.0.allowed, reads_fit held names sources reads.1)

-- the ways in which the loads end a call, of files with these bytes
abbrev pub ToldStops : (names sources : List (List ℕ)) → (before after : List Loading) → Decision → Type 0
ToldStops names sources before after decision =
    (decision ≡ out_of_memory)
    ⊎ ((name : List ℕ) × FailsAt names name before after × (decision ≡ stops 4 (unread_text name)))
    ⊎ ((text : List ℕ) × IsLengthRefusal names sources text × (decision ≡ refuses text))

load_told : (held : Option (List ℕ)) (name told : List ℕ) (names sources : List (List ℕ)) (before after : List Loading) (decision : Decision) →
    EndsLoad held name before after decision → held ≡ Some told → ToldStops (name ∷ names) (told ∷ sources) before after decision
load_told held name told names sources before after decision (inl (same, memory)) is = inl memory
load_told held name told names sources before after decision (inr (inl (noted, inl stopped))) is =
    inr (inl (name, record { front = []; rest = names; names_are = refl; log = noted }, stopped))
load_told held name told names sources before after decision (inr (inl (noted, inr memory))) is = inl memory
load_told held name told names sources before after decision (inr (inr (noted, long, inl refused))) is =
    inr (inr (too_long_text name, inl (told_long held told long is, refl), refused))
load_told held name told names sources before after decision (inr (inr (noted, long, inr memory))) is = inl memory

told_more : (name told : List ℕ) (names sources : List (List ℕ)) (before after : List Loading) (decision : Decision) → length told ≤ greatest_length →
    ToldStops names sources (before ++ found_load name ∷ []) after decision → ToldStops (name ∷ names) (told ∷ sources) before after decision
told_more name told names sources before after decision fits (inl memory) = inl memory
told_more name told names sources before after decision fits (inr (inl (other, fails, is))) = inr (inl (other, fails_more name other names before after fails, is))
told_more name told names sources before after decision fits (inr (inr (text, refusal, is))) = inr (inr (text, inr (fits, refusal), is))

ends_told : (held : List ℕ → Option (List ℕ)) (names sources : List (List ℕ)) (before after : List Loading) (decision : Decision) →
    EndsLoads held names before after decision → Tells held names sources → ToldStops names sources before after decision
ends_told held [] sources before after decision ends tells = absurd ends
ends_told held (name ∷ names) [] before after decision ends tells = absurd tells
ends_told held (name ∷ names) (told ∷ sources) before after decision (inl ends) tells = load_told (held name) name told names sources before after decision ends tells.0
ends_told held (name ∷ names) (told ∷ sources) before after decision (inr (bytes, reads, ends)) tells =
    told_more name told names sources before after decision (told_fits (held name) bytes told reads tells.0)
    (ends_told held names sources (before ++ found_load name ∷ []) after decision ends tells.1)

-- and then the bytes decide
pub then_told : (held : List ℕ → Option (List ℕ)) (names sources : List (List ℕ)) (Decides : List (List ℕ) → Decision → Type 0) (before after : List Loading) (decision : Decision) →
    LoadsThen held names Decides before after decision → Tells held names sources →
    ToldStops names sources before after decision ⊎ (AllFit sources × Decides sources decision)
then_told held names sources Decides before after decision (inl ends) tells = inl (ends_told held names sources before after decision ends tells)
then_told held names sources Decides before after decision (inr (read, are, decides)) tells =
    let same : read ≡ sources = told_are held names read sources are.read tells in
    inr (reads_fit held names sources (subst (AreReads held names) same are.read), subst (λ s. Decides s decision) same decides)

-- Whatever the bytes

-- the loads end a call with one of these statuses
abbrev pub IsStopped : Decision → Type 0
IsStopped decision = (decision.status ≡ 3) ⊎ (decision.status ≡ 4) ⊎ (decision.status ≡ 8)

load_stopped : (held : Option (List ℕ)) (name : List ℕ) (before after : List Loading) (decision : Decision) → EndsLoad held name before after decision → IsStopped decision
load_stopped held name before after decision (inl (same, memory)) = inr (inr (ap (λ d. d.status) memory))
load_stopped held name before after decision (inr (inl (noted, inl is))) = inr (inl (ap (λ d. d.status) is))
load_stopped held name before after decision (inr (inl (noted, inr memory))) = inr (inr (ap (λ d. d.status) memory))
load_stopped held name before after decision (inr (inr (noted, long, inl is))) = inl (ap (λ d. d.status) is)
load_stopped held name before after decision (inr (inr (noted, long, inr memory))) = inr (inr (ap (λ d. d.status) memory))

pub ends_stopped : (held : List ℕ → Option (List ℕ)) (names : List (List ℕ)) (before after : List Loading) (decision : Decision) → EndsLoads held names before after decision →
    IsStopped decision
ends_stopped held [] before after decision ends = absurd ends
ends_stopped held (name ∷ names) before after decision (inl ends) = load_stopped (held name) name before after decision ends
ends_stopped held (name ∷ names) before after decision (inr (bytes, reads, ends)) = ends_stopped held names (before ++ found_load name ∷ []) after decision ends

-- Lengths

pub length_refused : (names sources : List (List ℕ)) (text : List ℕ) → IsLengthRefusal names sources text → SomeIsTooLong sources
length_refused [] sources text refusal = absurd refusal
length_refused (name ∷ names) [] text refusal = absurd refusal
length_refused (name ∷ names) (s ∷ sources) text (inl (long, is)) = inl long
length_refused (name ∷ names) (s ∷ sources) text (inr (fits, refusal)) = inr (length_refused names sources text refusal)

pub long_does_not_fit : (sources : List (List ℕ)) → SomeIsTooLong sources → AllFit sources → ⊥
long_does_not_fit [] long fit = long
long_does_not_fit (s ∷ sources) (inl long) fit = let fits : length s ≤ greatest_length = fit.0 in omega arith
long_does_not_fit (s ∷ sources) (inr long) fit = long_does_not_fit sources long fit.1

-- Histories

pub stops_no_history : (held : List ℕ → Option (List ℕ)) (names : List (List ℕ)) (before after : List Loading) (decision : Decision) → EndsLoads held names before after decision →
    decision.history ≡ no_history
stops_no_history held [] before after decision ends = absurd ends
stops_no_history held (name ∷ names) before after decision (inl ends) = by ends
  where
    by : EndsLoad (held name) name before after decision → decision.history ≡ no_history
    by (inl (same, memory)) = ap (λ e. e.history) memory
    by (inr (inl (noted, inl is))) = ap (λ e. e.history) is
    by (inr (inl (noted, inr memory))) = ap (λ e. e.history) memory
    by (inr (inr (noted, long, inl is))) = ap (λ e. e.history) is
    by (inr (inr (noted, long, inr memory))) = ap (λ e. e.history) memory
stops_no_history held (name ∷ names) before after decision (inr (bytes, reads, ends)) = stops_no_history held names (before ++ found_load name ∷ []) after decision ends
