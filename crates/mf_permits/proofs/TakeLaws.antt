-- A take: what is answered, and the ledger after it.
use Rattle.std.proofs.Common.{◌≡◌, ◌≢◌, ℕ, zero, suc, ◌<◌, ◌≤◌, ◌+◌, ◌-◌, Bool, true, false, List, [], ◌∷◌, Option, length, get_or, map, set, Some, None, refl, sym, ap, subst, inl, inr, ⊎_elim, rules, ◌∙◌, arith}
use Rattle.std.specs.Prelude.{◌⊎◌, slice_get, nat_lt, if◌then◌else◌}
use Rattle.std.proofs.lemmas.Bool.{cases_lt, ltb-true, ltb-false}
use Rattle.std.proofs.lemmas.List.{length-map, get_or_past}
use Rattle.mf_open.specs.declared.key.Key.{Key}
use Rattle.mf_open.specs.Keys.{IsBelow, IsRising, rank}
use Rattle.mf_open.proofs.Keys.{first_there, first_least, none_there}
use Rattle.mf_model.specs.declared.state.PlainState.{PlainState}
use Rattle.mf_search.specs.declared.entry.Entry.TheVariants.{Take}
use Rattle.mf_search.specs.Answers.{AllIdle}
use Rattle.mf_search.specs.Columns.{held_by}
use Rattle.mf_search.specs.Keys.{FieldsAtMost, KeyFields, OpenIn}
use Rattle.mf_search.specs.World.{Going, IsOpen, KeyAtMost, Opened, World, at}
use Rattle.mf_search.proofs.Checking.{goes_on}
use Rattle.mf_search.proofs.KeyOrder.{key_value}
use Rattle.mf_search.proofs.Listing.{nothing_held, value_of_at}
use Rattle.mf_search.proofs.OneStep.{legal_in_budget}
use Rattle.mf_search.proofs.OpenKeys.{least_held, none_held}
use Rattle.mf_search.proofs.Sound.{legal_sound}
use Rattle.mf_task.specs.Successors.{Case, space_of}
use Rattle.mf_permits.specs.declared.answers.Taken.TheVariants as taken
use Rattle.mf_permits.specs.declared.holding.Held.{Held}
use Rattle.mf_permits.specs.declared.ledger.End.{End}
use Rattle.mf_permits.specs.declared.ledger.End.TheVariants as ends
use Rattle.mf_permits.specs.declared.ledger.Ledger.{Ledger}
use Rattle.mf_permits.specs.declared.tables.Tables.{Tables}
use Rattle.mf_permits.specs.Core.{HasLeastBusy, IsOver, MayCome, TakeAnswers, value_in, world_of}
use Rattle.mf_permits.specs.Ledger.{HoldOpened, IsFirstLeast, IsLeastHeld, Keeps, Shows, choice_of, ending_of, idle_count, is_going, seen_of}
use Rattle.mf_permits.specs.Tables.{AreTables, fields_of}

-- Ends

pub going_is : (e : End) → ending_of e ≡ Going → is_going e ≡ true
going_is ends.Going same = refl
going_is (ends.Goal state) same = ap goes_on same
going_is (ends.Wide state instance) same = ap goes_on same

pub is_going_so : (e : End) → is_going e ≡ true → ending_of e ≡ Going
is_going_so ends.Going going = refl
is_going_so (ends.Goal state) going = absurd (search rules)
is_going_so (ends.Wide state instance) going = absurd (search rules)

pub not_going_so : (e : End) → is_going e ≡ false → ending_of e ≢ Going
not_going_so e not_going same = let going = going_is e same in let both : false ≡ true = sym not_going ∙ going in absurd (search rules)

-- Workers

pub held_at : (busy : List (Option ℕ)) (worker : ℕ) → 1 ≤ worker → held_by busy worker ≡ get_or busy (worker - 1) None
held_at busy zero low = absurd (omega arith)
held_at busy (suc k) low = let e : suc k - 1 ≡ k = omega arith in ap (λ (i : ℕ). get_or busy i None) (sym e)

within_busy : (busy : List (Option ℕ)) (k i : ℕ) → get_or busy k None ≡ Some i → (k < length busy) ⊎ (length busy ≤ k) → k < length busy
within_busy busy k i holds (inl low) = low
within_busy busy k i holds (inr high) = let past : get_or busy k None ≡ None = get_or_past busy k None high in let both : None ≡ Some i = sym past ∙ holds in absurd (search rules)

-- A worker that takes a state is one idle worker less.
pub idle_set : (busy : List (Option ℕ)) (k i : ℕ) → k < length busy → get_or busy k None ≡ None → idle_count (set busy k (Some i)) + 1 ≡ idle_count busy
idle_set [] k i low none = absurd (omega arith)
idle_set (None ∷ busy) zero i low none = omega arith
idle_set (Some j ∷ busy) zero i low none = absurd (search rules)
idle_set (None ∷ busy) (suc k) i low none = let r = idle_set busy k i (omega arith) none in omega arith
idle_set (Some j ∷ busy) (suc k) i low none = let r = idle_set busy k i (omega arith) none in omega arith

pub idle_most : (busy : List (Option ℕ)) → idle_count busy ≤ length busy
idle_most [] = omega arith
idle_most (None ∷ busy) = let r = idle_most busy in omega arith
idle_most (Some i ∷ busy) = let r = idle_most busy in omega arith

-- Values and keys

pub value_kept : (case : Case) (w : World PlainState) (l : Ledger) (i : ℕ) → Shows case w l → get_or l.tables.values.items i 0 ≡ value_in case w i
value_kept case w l i shows = ap (λ (xs : List ℕ). get_or xs i 0) shows.tables.values ∙ value_of_at (space_of case) w.opened i

-- Each state in expansion was opened.
pub hold_opened : (case : Case) (l : Ledger) → Keeps case l → HoldOpened l.busy.items (length l.tables.values.items)
hold_opened case l keeps k i low holds =
    let sound = legal_sound (space_of case) case.budget (length l.busy.items) l.entries.items keeps.legal in
    let busy : (world_of case (seen_of l)).busy (suc k) ≡ Some i = keeps.shows.busy (suc k) ∙ holds in
    let opened = sound.in_range i (sound.busy_taken (suc k) i busy) in
    let long : length l.tables.values.items ≡ length (map (λ (o : Opened PlainState). o.value) (world_of case (seen_of l)).opened) = ap length keeps.shows.tables.values in
    let same = length-map (world_of case (seen_of l)).opened (λ (o : Opened PlainState). o.value) in
    omega arith

to_fields : (u i v j : ℕ) (p q : Bool) → (u < v) ⊎ (u ≡ v) × (rank p < rank q) ⊎ (u ≡ v) × (rank p ≡ rank q) × (i < j) → (u < v) ⊎ (u ≡ v) × (p ≡ false) × (q ≡ true) ⊎ (u ≡ v) × (p ≡ q) × (i ≤ j)
to_fields u i v j true true h = grind arith
to_fields u i v j true false h = grind arith
to_fields u i v j false true h = grind arith
to_fields u i v j false false h = grind arith

below_at_most : (a b : Key) → IsBelow a b → FieldsAtMost (fields_of a) (fields_of b)
below_at_most a b below = to_fields a.value a.state b.value b.state a.plain b.plain below

at_most_itself : (a b : Key) → a ≡ b → FieldsAtMost (fields_of a) (fields_of b)
at_most_itself a b e = subst (λ (k : Key). FieldsAtMost (fields_of a) (fields_of k)) e (inr (inr (refl, refl, omega arith)))

-- The first key is that of the open state that comes first.
pub first_is_least : (case : Case) (os : List (Opened PlainState)) (taken : List ℕ) (t : Tables) (key : Key) → AreTables case os taken t → IsRising t.open_list.keys → slice_get t.open_list.keys 0 ≡ Some key →
    OpenIn os taken key.state × ((j : ℕ) → OpenIn os taken j → KeyAtMost (at (space_of case) os key.state) key.state (at (space_of case) os j) j)
first_is_least case os taken t key tables rising first =
    least_held (space_of case) os taken fields_of t.open_list.keys key tables.open_keys (first_there key t.open_list.keys first)
    (λ other held. ⊎_elim (λ (e : key ≡ other). at_most_itself key other e) (λ below. below_at_most key other below) (first_least key other t.open_list.keys rising first held))

first_value : (case : Case) (os : List (Opened PlainState)) (taken : List ℕ) (t : Tables) (key : Key) → AreTables case os taken t → slice_get t.open_list.keys 0 ≡ Some key → key.value ≡ (at (space_of case) os key.state).value
first_value case os taken t key tables first = ap (λ (f : KeyFields). f.value) (tables.open_keys.only key (first_there key t.open_list.keys first)).1

pub nothing_open : (case : Case) (os : List (Opened PlainState)) (taken : List ℕ) (t : Tables) → AreTables case os taken t → slice_get t.open_list.keys 0 ≡ None → (i : ℕ) → OpenIn os taken i → ⊥
nothing_open case os taken t tables none = none_held (space_of case) os taken fields_of t.open_list.keys tables.open_keys (λ key held. none_there key t.open_list.keys none held)

-- What is answered

-- What is known where a worker may be given a state.
pub record Asks (case : Case) (l : Ledger) (worker : ℕ) : Type 0 where
  pub keeps : Keeps case l
  pub low : 1 ≤ worker
  pub high : worker ≤ length l.busy.items
  pub idle : get_or l.busy.items (worker - 1) None ≡ None
  pub going : is_going l.end ≡ true
  pub halted : l.halted ≡ false
  pub takes : l.takes ≢ l.budget
  pub rising : IsRising l.tables.open_list.keys

pub is_idle : (case : Case) (l : Ledger) (worker : ℕ) → Keeps case l → 1 ≤ worker → get_or l.busy.items (worker - 1) None ≡ None → (world_of case (seen_of l)).busy worker ≡ None
is_idle case l worker keeps low none = keeps.shows.busy worker ∙ held_at l.busy.items worker low ∙ none

pub all_are_idle : (case : Case) (l : Ledger) → Keeps case l → IsLeastHeld l.busy.items l.tables.values.items (length l.busy.items) None → AllIdle (world_of case (seen_of l))
all_are_idle case l keeps none v = keeps.shows.busy v ∙ nothing_held l.busy.items none v

goes_on_so : (case : Case) (l : Ledger) (worker : ℕ) → Asks case l worker → (world_of case (seen_of l)).ending ≡ Going
goes_on_so case l worker asks = asks.keeps.shows.ending ∙ is_going_so l.end asks.going

-- Where something is open or in expansion the search is not over.
not_over : (case : Case) (l : Ledger) (worker : ℕ) → Asks case l worker → ((((i : ℕ) → IsOpen (world_of case (seen_of l)) i → ⊥) × AllIdle (world_of case (seen_of l))) → ⊥) → IsOver case (world_of case (seen_of l)) l.halted → ⊥
not_over case l worker asks some (inl ended) = ended (goes_on_so case l worker asks)
not_over case l worker asks some (inr (inl halted)) = let both : false ≡ true = sym asks.halted ∙ halted in absurd (search rules)
not_over case l worker asks some (inr (inr (inl spent))) = asks.takes (asks.keeps.shows.takes ∙ spent ∙ sym asks.keeps.shows.budget)
not_over case l worker asks some (inr (inr (inr none))) = some none

-- The least state in expansion.
pub least_busy : (case : Case) (l : Ledger) (held : Held) → Keeps case l → IsFirstLeast l.busy.items l.tables.values.items (length l.busy.items) held → HasLeastBusy case (world_of case (seen_of l)) held.worker held.value
least_busy case l held keeps first = record {
  state = first.state;
  holds = keeps.shows.busy held.worker ∙ first.holds;
  value_is = sym (value_kept case (world_of case (seen_of l)) l first.state keeps.shows) ∙ first.value_is;
  least = λ v i busy. least v i (sym (keeps.shows.busy v) ∙ busy);
}
  where
    least : (v i : ℕ) → held_by l.busy.items v ≡ Some i → (held.value < value_in case (world_of case (seen_of l)) i) ⊎ (held.value ≡ value_in case (world_of case (seen_of l)) i) × (held.worker ≤ v)
    least zero i busy = absurd (search rules)
    least (suc k) i busy =
        let r = first.least k i (within_busy l.busy.items k i busy (cases_lt k (length l.busy.items))) busy in
        let e = value_kept case (world_of case (seen_of l)) l i keeps.shows in
        grind arith

permit_idle : (case : Case) (l : Ledger) (v j u : ℕ) → AllIdle (world_of case (seen_of l)) → (world_of case (seen_of l)).busy v ≡ Some j → u ≤ value_in case (world_of case (seen_of l)) j
permit_idle case l v j u idle busy = let both : None ≡ Some j = sym (idle v) ∙ busy in absurd (search rules)

-- The state of least key may be taken where no state in expansion has less value.
may_take : (case : Case) (l : Ledger) (worker : ℕ) (key : Key) → Asks case l worker → slice_get l.tables.open_list.keys 0 ≡ Some key →
    ((v j : ℕ) → (world_of case (seen_of l)).busy v ≡ Some j → key.value ≤ value_in case (world_of case (seen_of l)) j) → MayCome case (seen_of l) (Take worker key.state)
may_take case l worker key asks first permit =
    let least = first_is_least case (world_of case (seen_of l)).opened (world_of case (seen_of l)).taken l.tables key asks.keeps.shows.tables asks.rising first in
    let spent = legal_in_budget (space_of case) case.budget (length l.busy.items) l.entries.items asks.keeps.legal in
    record {
      going = goes_on_so case l worker asks;
      low = asks.low;
      high = asks.high;
      idle = is_idle case l worker asks.keeps asks.low asks.idle;
      in_budget = (let t = asks.keeps.shows.takes in let b = asks.keeps.shows.budget in let d = asks.takes in omega arith);
      is_open = least.0;
      least = least.1;
      permit = λ v j busy. let u = permit v j busy in let e = first_value case (world_of case (seen_of l)).opened (world_of case (seen_of l)).taken l.tables key asks.keeps.shows.tables first in omega arith;
    }

some_busy : (case : Case) (l : Ledger) (held : Held) → Keeps case l → IsFirstLeast l.busy.items l.tables.values.items (length l.busy.items) held → AllIdle (world_of case (seen_of l)) → ⊥
some_busy case l held keeps first idle = let both : None ≡ Some first.state = sym (idle held.worker) ∙ keeps.shows.busy held.worker ∙ first.holds in absurd (search rules)

pub chosen : (case : Case) (l : Ledger) (worker : ℕ) (first : Option Key) (least : Option Held) → Asks case l worker → first ≡ slice_get l.tables.open_list.keys 0 → IsLeastHeld l.busy.items l.tables.values.items (length l.busy.items) least →
    TakeAnswers case (length l.busy.items) (world_of case (seen_of l)) l.halted worker (choice_of first least)
chosen case l worker None None asks is least =
    (is_idle case l worker asks.keeps asks.low asks.idle, inr (inr (inr (nothing_open case (world_of case (seen_of l)).opened (world_of case (seen_of l)).taken l.tables asks.keeps.shows.tables (sym is), all_are_idle case l asks.keeps least))))
chosen case l worker None (Some held) asks is least = (
  is_idle case l worker asks.keeps asks.low asks.idle,
  not_over case l worker asks (λ none. some_busy case l held asks.keeps least none.1),
  least_busy case l held asks.keeps least,
  λ i open_i. absurd (nothing_open case (world_of case (seen_of l)).opened (world_of case (seen_of l)).taken l.tables asks.keeps.shows.tables (sym is) i open_i),
)
chosen case l worker (Some key) None asks is least =
    (asks.halted, may_take case l worker key asks (sym is) (λ v j busy. permit_idle case l v j key.value (all_are_idle case l asks.keeps least) busy))
chosen case l worker (Some key) (Some held) asks is least = go (nat_lt held.value key.value) refl
  where
    w : World PlainState
    w = world_of case (seen_of l)

    go : (b : Bool) → nat_lt held.value key.value ≡ b → TakeAnswers case (length l.busy.items) w l.halted worker (if b then taken.NotYet held.worker held.value else taken.Go key.state)
    go true e =
        let below : held.value < key.value = ltb-true held.value key.value e in
        let first = first_is_least case w.opened w.taken l.tables key asks.keeps.shows.tables asks.rising (sym is) in
        let value = first_value case w.opened w.taken l.tables key asks.keeps.shows.tables (sym is) in (
          is_idle case l worker asks.keeps asks.low asks.idle,
          not_over case l worker asks (λ none. some_busy case l held asks.keeps least none.1),
          least_busy case l held asks.keeps least,
          λ i open_i. let at_most = key_value (at (space_of case) w.opened key.state) key.state (at (space_of case) w.opened i) i (first.1 i open_i) in omega arith,
        )
    go false e =
        let above : key.value ≤ held.value = ltb-false held.value key.value e in
        let busiest = least_busy case l held asks.keeps least in
        (asks.halted, may_take case l worker key asks (sym is) (λ v j busy. let r = busiest.least v j busy in grind arith))
