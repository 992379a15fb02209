-- Types that begin no cycle, and the walks up that find them.
use Rattle.std.proofs.Common.{◌≡◌, ℕ, zero, suc, ◌+◌, ◌<◌, ◌≤◌, ◌⊎◌, inl, inr, Bool, true, false, ◌&&◌, ◌||◌, not, if◌then◌else◌, nat_eq, Option, List, [], ◌∷◌, ◌++◌, drop, get_or, length, refl, sym, subst, ap, ◌∙◌, arith, below_more}
use Rattle.std.proofs.lemmas.Bool.Decides.{Decides-eqb}
use Rattle.std.proofs.lemmas.List.{append-nil, drop_all, drop_more}
use Rattle.mf_model.specs.declared.form.Typed.{Typed}
use Rattle.mf_model.specs.Objects.{meets, member}
use Rattle.mf_types.specs.declared.cycles.Climb.{Climb}
use Rattle.mf_types.specs.declared.least.Fault.{Fault}
use Rattle.mf_types.specs.Ascent.{parent_at, up, IsOnCycle, BeginsNone, Settles, IsClimb, SettlesMore}
use Rattle.mf_types.specs.Cycles.{is_top, all_above, begins_cycle, type_number, with_type, cycle_at, cycles_from, types_before, cycle_faults}
use Rattle.mf_types.specs.Faults.{after}
use Rattle.mf_types.specs.Names.{Declared, kept_types, says_nothing}
use Rattle.mf_types.proofs.After.{after_append}
use Rattle.mf_types.proofs.Ascent.{up_last, parent_on_cycle, in_round, met_above, above_itself, some_above, steps_above, on_cycle}
use Rattle.mf_types.proofs.Firsts.{any-push}

-- One more type

still_member : (types : List ℕ) (s w : ℕ) → member w types ≡ true → member w (with_type types s) ≡ true
still_member types s w e = by (member s types)
  where
    by : (b : Bool) → member w (if b then types else types ++ s ∷ []) ≡ true
    by true = e
    by false = any-push (nat_eq w) types s ∙ ap (λ (b : Bool). b || nat_eq w s) e

member_itself : (types : List ℕ) (s : ℕ) → member s (with_type types s) ≡ true
member_itself types s = by (member s types) refl
  where
    by : (b : Bool) → member s types ≡ b → member s (if b then types else types ++ s ∷ []) ≡ true
    by true e = e
    by false e = any-push (nat_eq s) types s ∙ (ap (λ (b : Bool). b || nat_eq s s) e ∙ (Decides-eqb s s).1 refl)

member_cases : (types : List ℕ) (s w : ℕ) → member w (with_type types s) ≡ true → (member w types ≡ true) ⊎ (w ≡ s)
member_cases types s w = by (member s types)
  where
    last : (b : Bool) → member w types ≡ b → (b || nat_eq w s) ≡ true → (member w types ≡ true) ⊎ (w ≡ s)
    last true e h = inl e
    last false e h = inr ((Decides-eqb w s).0 h)

    by : (b : Bool) → member w (if b then types else types ++ s ∷ []) ≡ true → (member w types ≡ true) ⊎ (w ≡ s)
    by true h = inl h
    by false h = last (member w types) refl (sym (any-push (nat_eq w) types s) ∙ h)

-- Types that begin no cycle

none_below : (parents before : List ℕ) (n t : ℕ) → BeginsNone parents before (up parents n t) → BeginsNone parents before t
none_below parents before zero t h on = h on
none_below parents before (suc n) t h on =
    let met = none_below parents before n (parent_at parents t) h (parent_on_cycle parents t on) in
    record { steps = suc met.steps; there = met.there }

none_at_top : (parents before : List ℕ) (t : ℕ) → is_top parents t ≡ true → BeginsNone parents before t
none_at_top parents before t top on = let open_first = on.open_below 0 on.some in let no : ⊥ = cc in absurd no

none_with_more : (parents before : List ℕ) (s t : ℕ) → BeginsNone parents before t → BeginsNone parents (with_type before s) t
none_with_more parents before s t h on =
    let met = h on in
    record { steps = met.steps; there = still_member before s (up parents met.steps t) met.there }

none_itself : (parents before : List ℕ) (t : ℕ) → BeginsNone parents (with_type before t) t
none_itself parents before t on = record { steps = 0; there = member_itself before t }

shared_meets : (w : ℕ) (xs ys : List ℕ) → member w xs ≡ true → member w ys ≡ true → meets xs ys ≡ true
shared_meets w [] ys e h = let no : ⊥ = cc in absurd no
shared_meets w (x ∷ xs) ys e h = by (nat_eq w x) refl e (λ f. shared_meets w xs ys f h)
  where
    further : (b : Bool) → meets xs ys ≡ true → (b || meets xs ys) ≡ true
    further true f = refl
    further false f = f

    by : (b : Bool) → nat_eq w x ≡ b → (b || member w xs) ≡ true → (member w xs ≡ true → meets xs ys ≡ true) → (member x ys || meets xs ys) ≡ true
    by true same f rest = ap (λ (b : Bool). b || meets xs ys) (ap (λ (u : ℕ). member u ys) (sym ((Decides-eqb w x).0 same)) ∙ h)
    by false other f rest = further (member x ys) (rest f)

met_in_round : (parents : List ℕ) (t : ℕ) (on : IsOnCycle parents t) (place : ℕ) → place < on.steps → member (up parents place t) (all_above parents t) ≡ true
met_in_round parents t on zero h = above_itself parents t on
met_in_round parents t on (suc place) h =
    let few = on.few in
    met_above parents (length parents) (suc place) t (omega arith) (omega (arith, few, h)) (λ i l. on.open_below i (omega (arith, l, h)))

meets_before : (parents before : List ℕ) (t : ℕ) → BeginsNone parents before t → IsOnCycle parents t → meets (all_above parents t) before ≡ true
meets_before parents before t none on =
    let met = none on in
    let round = in_round parents t on.steps on.some on.back met.steps in
    shared_meets (up parents round.place t) (all_above parents t) before (met_in_round parents t on round.place round.within)
    (ap (λ (u : ℕ). member u before) round.there ∙ met.there)

not_begun : (parents before : List ℕ) (t : ℕ) → BeginsNone parents before t → begins_cycle parents before t ≡ false
not_begun parents before t none = by (member t (all_above parents t)) refl
  where
    by : (a : Bool) → member t (all_above parents t) ≡ a → (a && not (meets (all_above parents t) before)) ≡ false
    by false e = refl
    by true e = ap not (meets_before parents before t none (on_cycle parents t e))

begun : (parents before : List ℕ) (t : ℕ) (on : IsOnCycle parents t) → ((i : ℕ) → i < on.steps → member (up parents i t) before ≡ false) → begins_cycle parents before t ≡ true
begun parents before t on fresh = by (meets (all_above parents t) before) refl
  where
    by : (b : Bool) → meets (all_above parents t) before ≡ b → (member t (all_above parents t) && not b) ≡ true
    by false e = ap (λ (a : Bool). a && true) (above_itself parents t on)
    by true e =
        let met = some_above parents (length parents) t before e in
        let round = in_round parents t on.steps on.some on.back met.steps in
        let there : member (up parents round.place t) before ≡ true = ap (λ (u : ℕ). member u before) round.there ∙ met.there in
        let away = fresh round.place round.within in
        let no : ⊥ = cc in absurd no

-- A type that isn't met above itself

no_climb : (parents before : List ℕ) (t : ℕ) → (member t (all_above parents t) ≡ true → ⊥) → IsClimb parents before t (record { steps = 0; returned = false })
no_climb parents before t never = record { returned = sym (by (member t (all_above parents t)) refl); leads = none_itself parents before t }
  where
    by : (a : Bool) → member t (all_above parents t) ≡ a → (a && not (meets (all_above parents t) before)) ≡ false
    by true e = absurd (never e)
    by false e = refl

pub climb_spared : (parents before : List ℕ) (t : ℕ) → (IsOnCycle parents t → ⊥) → IsClimb parents before t (record { steps = 0; returned = false })
climb_spared parents before t off = no_climb parents before t (λ e. off (on_cycle parents t e))

-- The walk up

first_false : (a b : Bool) → (a || b) ≡ false → a ≡ false
first_false true b e = e
first_false false b e = refl

second_false : (a b : Bool) → (a || b) ≡ false → b ≡ false
second_false true b e = let no : ⊥ = cc in absurd no
second_false false b e = e

-- so many steps up, neither the top nor a settled type nor the type itself was met
pub record IsWalked (parents settled : List ℕ) (t n current : ℕ) : Type 0 where
  pub at : current ≡ up parents n t
  pub open_below : (i : ℕ) → i < n → is_top parents (up parents i t) ≡ false
  pub fresh : (i : ℕ) → i < n → member (up parents i t) settled ≡ false
  pub away : (i : ℕ) → i < n → up parents (suc i) t ≡ t → ⊥

pub walk_begins : (parents settled : List ℕ) (t : ℕ) → IsWalked parents settled t 0 t
walk_begins parents settled t = record { at = refl; open_below = λ i h. absurd (omega arith); fresh = λ i h. absurd (omega arith); away = λ i h. absurd (omega arith) }

module _ (parents settled : List ℕ) (t n current : ℕ) (walked : IsWalked parents settled t n current) where
  step_up : (next : ℕ) → next ≡ parent_at parents current → up parents (n + 1) t ≡ next
  step_up next e =
      let more : n + 1 ≡ suc n = omega arith in
      ap (λ (m : ℕ). up parents m t) more ∙ (up_last parents n t ∙ (ap (parent_at parents) (sym walked.at) ∙ sym e))

  open_more : (is_top parents current || member current settled) ≡ false → (i : ℕ) → i < n + 1 → is_top parents (up parents i t) ≡ false
  open_more e = below_more (λ i. is_top parents (up parents i t) ≡ false) n walked.open_below (ap (is_top parents) (sym walked.at) ∙ first_false (is_top parents current) (member current settled) e)

  fresh_more : (is_top parents current || member current settled) ≡ false → (i : ℕ) → i < n + 1 → member (up parents i t) settled ≡ false
  fresh_more e = below_more (λ i. member (up parents i t) settled ≡ false) n walked.fresh (ap (λ (u : ℕ). member u settled) (sym walked.at) ∙ second_false (is_top parents current) (member current settled) e)

  pub walk_goes_on : (next : ℕ) → (is_top parents current || member current settled) ≡ false → next ≡ parent_at parents current → (next ≡ t → ⊥) → IsWalked parents settled t (n + 1) next
  walk_goes_on next passed e other =
      let more : n + 1 ≡ suc n = omega arith in
      record {
        at = sym (step_up next e);
        open_below = open_more passed;
        fresh = fresh_more passed;
        away = below_more (λ i. up parents (suc i) t ≡ t → ⊥) n walked.away (λ back. other (sym (step_up next e) ∙ (ap (λ (m : ℕ). up parents m t) more ∙ back)));
      }

  none_at_end : (before : List ℕ) → Settles parents before settled → (is_top parents current || member current settled) ≡ true → BeginsNone parents before current
  none_at_end before settles e = by (is_top parents current) refl e
    where
      by : (b : Bool) → is_top parents current ≡ b → (b || member current settled) ≡ true → BeginsNone parents before current
      by true top f = none_at_top parents before current top
      by false other f = settles.none current f

  pub climb_ends : (before : List ℕ) → Settles parents before settled → (is_top parents current || member current settled) ≡ true → IsClimb parents before t (record { steps = n; returned = false })
  climb_ends before settles e =
      let none = subst (BeginsNone parents before) walked.at (none_at_end before settles e) in
      record {
        returned = sym (not_begun parents before t (none_below parents before n t none));
        leads = none_with_more parents before t (up parents n t) none;
      }

  not_before : (before : List ℕ) → Settles parents before settled → (s : ℕ) → member s settled ≡ false → member s before ≡ false
  not_before before settles s e = by (member s before) refl
    where
      by : (b : Bool) → member s before ≡ b → b ≡ false
      by true f = let there = settles.each s f in let no : ⊥ = cc in absurd no
      by false f = refl

  pub climb_returns : (before : List ℕ) (next : ℕ) → Settles parents before settled → n < length parents → (is_top parents current || member current settled) ≡ false → next ≡ parent_at parents current → next ≡ t → IsClimb parents before t (record { steps = n + 1; returned = true })
  climb_returns before next settles within passed e back =
      let round : up parents (n + 1) t ≡ t = step_up next e ∙ back in
      let on : IsOnCycle parents t = record { steps = n + 1; some = omega arith; few = omega (arith, within); back = round; open_below = open_more passed } in
      record {
        returned = sym (begun parents before t on (λ i h. not_before before settles (up parents i t) (fresh_more passed i h)));
        leads = subst (BeginsNone parents (with_type before t)) (sym round) (none_itself parents before t);
      }

  never_back : length parents ≤ n → member t (all_above parents t) ≡ true → ⊥
  never_back all e =
      let way = steps_above parents t (length parents) t e in
      by way.steps way.some way.few way.there
    where
      by : (steps : ℕ) → 0 < steps → steps ≤ length parents → up parents steps t ≡ t → ⊥
      by zero some few there = absurd (omega arith)
      by (suc steps) some few there = walked.away steps (omega (arith, few, all)) there

  pub climb_endless : (before : List ℕ) → length parents ≤ n → IsClimb parents before t (record { steps = 0; returned = false })
  climb_endless before all = no_climb parents before t (never_back all)

-- Settling the types that were passed

pub record IsSettled (parents : List ℕ) (t n current : ℕ) (old new : List ℕ) : Type 0 where
  pub at : current ≡ up parents n t
  pub more : SettlesMore parents t n old new

pub settling_begins : (parents old new : List ℕ) (t : ℕ) → new ≡ with_type old t → IsSettled parents t 0 t old new
settling_begins parents old new t e = subst (IsSettled parents t 0 t old) (sym e) (record {
  at = refl;
  more = record {
    kept = still_member old t;
    itself = member_itself old t;
    none = λ before h k s m. by before h k s (member_cases old t s m);
  };
})
  where
    by : (before : List ℕ) → ((s : ℕ) → member s old ≡ true → BeginsNone parents before s) → BeginsNone parents before t → (s : ℕ) → (member s old ≡ true) ⊎ (s ≡ t) → BeginsNone parents before s
    by before h k s (inl m) = h s m
    by before h k s (inr same) = subst (BeginsNone parents before) (sym same) k

pub settling_goes_on : (parents old between new : List ℕ) (t n current next : ℕ) → IsSettled parents t n current old between → next ≡ parent_at parents current → new ≡ with_type between next → IsSettled parents t (n + 1) next old new
settling_goes_on parents old between new t n current next settled e made = subst (IsSettled parents t (n + 1) next old) (sym made) (record {
  at = at;
  more = record {
    kept = λ s m. still_member between next s (settled.more.kept s m);
    itself = still_member between next t settled.more.itself;
    none = λ before h k s m. by before h (subst (BeginsNone parents before) (sym at) k) s (member_cases between next s m);
  };
})
  where
    at : next ≡ up parents (n + 1) t
    at =
        let more : n + 1 ≡ suc n = omega arith in
        e ∙ (ap (parent_at parents) settled.at ∙ (sym (up_last parents n t) ∙ ap (λ (m : ℕ). up parents m t) (sym more)))

    by : (before : List ℕ) → ((s : ℕ) → member s old ≡ true → BeginsNone parents before s) → BeginsNone parents before next → (s : ℕ) → (member s between ≡ true) ⊎ (s ≡ next) → BeginsNone parents before s
    by before h k s (inr same) = subst (BeginsNone parents before) (sym same) k
    by before h k s (inl m) =
        let here : BeginsNone parents before current = none_below parents before 1 current (subst (BeginsNone parents before) e k) in
        settled.more.none before h (subst (BeginsNone parents before) settled.at here) s m

pub settles_more : (parents before old new : List ℕ) (t : ℕ) (way : Climb) → Settles parents before old → IsClimb parents before t way → SettlesMore parents t way.steps old new → Settles parents (with_type before t) new
settles_more parents before old new t way settles climb more = record {
  each = λ s m. by s (member_cases before t s m);
  none = more.none (with_type before t) (λ s m. none_with_more parents before t s (settles.none s m)) climb.leads;
}
  where
    by : (s : ℕ) → (member s before ≡ true) ⊎ (s ≡ t) → member s new ≡ true
    by s (inl m) = more.kept s (settles.each s m)
    by s (inr same) = ap (λ (u : ℕ). member u new) same ∙ more.itself

pub item_settled : (declared : Declared) (parents old new : List ℕ) (item : Typed) (t : ℕ) (way : Climb) → parents ≡ declared.parents → says_nothing item ≡ false → t ≡ type_number declared.types item
    → ((before : List ℕ) → Settles declared.parents before old → IsClimb declared.parents before t way) → SettlesMore parents t way.steps old new
    → (before : List ℕ) → Settles declared.parents before old → Settles declared.parents (types_before declared before (kept_types (item ∷ []))) new
item_settled declared parents old new item t way same says number climb more before settles =
    let own : SettlesMore declared.parents t way.steps old new = subst (λ (ps : List ℕ). SettlesMore ps t way.steps old new) same more in
    let later : Settles declared.parents (with_type before t) new = settles_more declared.parents before old new t way settles (climb before settles) own in
    subst (λ (b : Bool). Settles declared.parents (types_before declared before (if b then [] else item ∷ [])) new) (sym says)
    (subst (λ (n : ℕ). Settles declared.parents (with_type before n) new) number later)

-- One item after another

items_more : (declared : Declared) (before : List ℕ) (item : Typed) (items : List Typed) → cycles_from declared before (kept_types (item ∷ items)) ≡ cycles_from declared before (kept_types (item ∷ [])) ++ cycles_from declared (types_before declared before (kept_types (item ∷ []))) (kept_types items)
items_more declared before item items =
    elim (says_nothing item) as (λ b. cycles_from declared before (if b then kept_types items else item ∷ kept_types items) ≡ cycles_from declared before (if b then [] else item ∷ []) ++ cycles_from declared (types_before declared before (if b then [] else item ∷ [])) (kept_types items))
    [ true ↦ refl | false ↦ ap (λ (fs : List Fault). fs ++ cycles_from declared (with_type before (type_number declared.types item)) (kept_types items)) (sym (append-nil (cycle_at declared.parents before (type_number declared.types item) item.word))) ]

pub record IsUnderWay (declared : Declared) (items rest : List Typed) (first best : Option Fault) (settled : List ℕ) : Type 0 where
  pub before : List ℕ
  pub settles : Settles declared.parents before settled
  pub left : after best (cycles_from declared before (kept_types rest)) ≡ after first (cycle_faults declared items)

pub way_begins : (declared : Declared) (items : List Typed) (best : Option Fault) (settled : List ℕ) → settled ≡ [] → IsUnderWay declared items items best best settled
way_begins declared items best settled e = subst (IsUnderWay declared items items best best) (sym e) (record {
  before = [];
  settles = record { each = λ t m. m; none = λ t m. let no : ⊥ = cc in absurd no };
  left = refl;
})

item_passed : (declared : Declared) (items rest : List Typed) (item : Typed) (first best next : Option Fault) (old new : List ℕ)
    → IsUnderWay declared items (item ∷ rest) first best old
    → ((before : List ℕ) → Settles declared.parents before old → next ≡ after best (cycles_from declared before (kept_types (item ∷ []))))
    → ((before : List ℕ) → Settles declared.parents before old → Settles declared.parents (types_before declared before (kept_types (item ∷ []))) new)
    → IsUnderWay declared items rest first next new
item_passed declared items rest item first best next old new way fault settled =
    let here = cycles_from declared way.before (kept_types (item ∷ [])) in
    let behind = cycles_from declared (types_before declared way.before (kept_types (item ∷ []))) (kept_types rest) in
    record {
      before = types_before declared way.before (kept_types (item ∷ []));
      settles = settled way.before way.settles;
      left =
          ap (λ (f : Option Fault). after f behind) (fault way.before way.settles)
          ∙ (after_append best here behind ∙ (ap (after best) (sym (items_more declared way.before item rest)) ∙ way.left));
    }

pub way_goes_on : (declared : Declared) (items : List Typed) (i : ℕ) (item : Typed) (first best next : Option Fault) (old new : List ℕ) → i < length items → item ≡ get_or items i item
    → IsUnderWay declared items (drop i items) first best old
    → ((before : List ℕ) → Settles declared.parents before old → next ≡ after best (cycles_from declared before (kept_types (item ∷ []))))
    → ((before : List ℕ) → Settles declared.parents before old → Settles declared.parents (types_before declared before (kept_types (item ∷ []))) new)
    → IsUnderWay declared items (drop (i + 1) items) first next new
way_goes_on declared items i item first best next old new within is way =
    let front : drop i items ≡ item ∷ drop (i + 1) items = drop_more items i item within ∙ ap (λ (it : Typed). it ∷ drop (i + 1) items) (sym is) in
    item_passed declared items (drop (i + 1) items) item first best next old new (subst (λ (rest : List Typed). IsUnderWay declared items rest first best old) front way)

pub way_ends : (declared : Declared) (items : List Typed) (i : ℕ) (first best : Option Fault) (settled : List ℕ) → length items ≤ i → IsUnderWay declared items (drop i items) first best settled → best ≡ after first (cycle_faults declared items)
way_ends declared items i first best settled all way =
    let none = drop_all i items all in
    sym (ap (λ (rest : List Typed). after best (cycles_from declared way.before (kept_types rest))) none) ∙ way.left
