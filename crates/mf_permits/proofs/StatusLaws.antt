-- The status of a ledger, and a halt.
use Rattle.std.proofs.Common.{◌≡◌, ◌≢◌, ℕ, ◌<◌, Bool, true, false, List, [], ◌∷◌, Contains, Option, length, Some, None, refl, sym, subst, inl, inr, ⊎_elim, ◌∙◌, arith}
use Rattle.std.specs.Prelude.{◌⊎◌, slice_get}
use Rattle.std.proofs.lemmas.Bool.{cases_eq}
use Rattle.mf_open.specs.declared.key.Key.{Key}
use Rattle.mf_open.specs.Keys.{IsRising}
use Rattle.mf_model.specs.declared.state.PlainState.{PlainState}
use Rattle.mf_search.specs.declared.status.Status.{Status}
use Rattle.mf_search.specs.declared.status.Status.TheVariants.{Budget, Halted, NoPlan, Plan, Running, Width}
use Rattle.mf_search.specs.Answers.{Ended, IsStatus}
use Rattle.mf_search.specs.World.{IsOpen, World}
use Rattle.mf_search.proofs.Answering.{busy_runs, open_runs}
use Rattle.mf_search.proofs.Members.{in_cons, in_first, in_later, not_in_nil}
use Rattle.mf_search.proofs.OneStep.{legal_in_budget}
use Rattle.mf_task.specs.Successors.{Case, space_of}
use Rattle.mf_permits.specs.declared.holding.Held.{Held}
use Rattle.mf_permits.specs.declared.ledger.Ledger.{Ledger}
use Rattle.mf_permits.specs.Core.{Seen, world_of}
use Rattle.mf_permits.specs.Ledger.{IsLeastHeld, Keeps, is_going, seen_of, status_of, unanswered}
use Rattle.mf_permits.proofs.TakeLaws.{all_are_idle, first_is_least, is_going_so, least_busy, nothing_open}

-- A number stands in a list, or it does not.
pub in_or_not : (xs : List ℕ) (x : ℕ) → Contains xs x ⊎ (Contains xs x → ⊥)
in_or_not [] x = inr (λ c. not_in_nil x c)
in_or_not (y ∷ ys) x = go (cases_eq y x) (in_or_not ys x)
  where
    go : (y ≡ x) ⊎ (y ≡ x → ⊥) → Contains ys x ⊎ (Contains ys x → ⊥) → Contains (y ∷ ys) x ⊎ (Contains (y ∷ ys) x → ⊥)
    go (inl e) r = inl (subst (λ (z : ℕ). Contains (y ∷ ys) z) e (in_first y ys))
    go (inr other) (inl c) = inl (in_later y ys x c)
    go (inr other) (inr out) = inr (λ c. ⊎_elim other out (in_cons y ys x c))

-- Where nothing is open each opened state was taken.
all_taken : (w : World PlainState) → ((i : ℕ) → IsOpen w i → ⊥) → (i : ℕ) → i < length w.opened → Contains w.taken i
all_taken w none i low = ⊎_elim (λ c. c) (λ out. absurd (none i (low, out))) (in_or_not w.taken i)

without_answer : (budget : ℕ) (w : World PlainState) (halted : Bool) → (Ended budget w → ⊥) → IsStatus budget w halted (unanswered halted)
without_answer budget w true running = (refl, running)
without_answer budget w false running = (refl, running)

pub status_is : (case : Case) (l : Ledger) (least : Option Held) (first : Option Key) (spent : Bool) → Keeps case l → is_going l.end ≡ true → IsRising l.tables.open_list.keys → IsLeastHeld l.busy.items l.tables.values.items (length l.busy.items) least → first ≡ slice_get l.tables.open_list.keys 0 →
    (spent ≡ true → l.takes ≡ l.budget) → (spent ≡ false → l.takes ≢ l.budget) → IsStatus case.budget (world_of case (seen_of l)) l.halted (status_of least first spent l.halted)
status_is case l None None spent keeps going rising least is spent_so not_yet =
    let w = world_of case (seen_of l) in
    (keeps.shows.ending ∙ is_going_so l.end going, all_are_idle case l keeps least, all_taken w (nothing_open case w.opened w.taken l.tables keeps.shows.tables (sym is)))
status_is case l None (Some key) true keeps going rising least is spent_so not_yet =
    let w = world_of case (seen_of l) in
    (keeps.shows.ending ∙ is_going_so l.end going, all_are_idle case l keeps least, sym keeps.shows.takes ∙ spent_so refl ∙ keeps.shows.budget, (key.state, (first_is_least case w.opened w.taken l.tables key keeps.shows.tables rising (sym is)).0))
status_is case l None (Some key) false keeps going rising least is spent_so not_yet =
    let w = world_of case (seen_of l) in
    let open_key = (first_is_least case w.opened w.taken l.tables key keeps.shows.tables rising (sym is)).0 in
    let most = legal_in_budget (space_of case) case.budget (length l.busy.items) l.entries.items keeps.legal in
    let takes = keeps.shows.takes in let budget = keeps.shows.budget in let differ = not_yet refl in
    let below : length w.taken < case.budget = omega arith in
    without_answer case.budget w l.halted (λ ended. open_runs case.budget w key.state (keeps.shows.ending ∙ is_going_so l.end going) open_key below ended.0 ended.1)
status_is case l (Some held) first spent keeps going rising least is spent_so not_yet =
    let w = world_of case (seen_of l) in
    let busy = least_busy case l held keeps least in
    without_answer case.budget w l.halted (λ ended. busy_runs case.budget w held.worker busy.state (keeps.shows.ending ∙ is_going_so l.end going) busy.holds ended.0 ended.1)

-- A halt

pub keeps_halt : (case : Case) (l : Ledger) → Keeps case l → Keeps case (record l { halted = true })
keeps_halt case l keeps = record { legal = keeps.legal; shows = record { tables = keeps.shows.tables; busy = keeps.shows.busy; takes = keeps.shows.takes; ending = keeps.shows.ending; budget = keeps.shows.budget }; whole = keeps.whole; room = keeps.room; some = keeps.some; few = keeps.few }

-- The status of an ended search is its answer; where it is another one the search is halted already, or goes on.
pub answered : (case : Case) (seen : Seen) (status : Status) → IsStatus case.budget (world_of case seen) seen.halted status → status ≢ Running → (Ended case.budget (world_of case seen) → ⊥) → seen.halted ≡ true
answered case seen Running is other running = absurd (other refl)
answered case seen Halted is other running = is.0
answered case seen (Plan i) is other running = absurd (running (Plan i, is))
answered case seen NoPlan is other running = absurd (running (NoPlan, is))
answered case seen Budget is other running = absurd (running (Budget, is))
answered case seen (Width i n) is other running = absurd (running (Width i n, is))
