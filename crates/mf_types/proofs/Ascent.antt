-- Going up: on a cycle the way leads round, and what is met above a type is so many steps up.
use Rattle.std.proofs.Common.{◌≡◌, ℕ, zero, suc, ◌+◌, ◌<◌, ◌≤◌, ◌⊎◌, inl, inr, Bool, true, false, ◌||◌, if◌then◌else◌, nat_eq, List, [], ◌∷◌, length, refl, sym, ap, ◌∙◌, arith}
use Rattle.std.proofs.lemmas.Bool.{cases_lt}
use Rattle.std.proofs.lemmas.Bool.Decides.{Decides-eqb}
use Rattle.mf_model.specs.Objects.{meets, member}
use Rattle.mf_types.specs.Ascent.{parent_at, up, IsOnCycle, Meets}
use Rattle.mf_types.specs.Cycles.{is_top, above, all_above}

pub up_last : (parents : List ℕ) (n t : ℕ) → up parents (suc n) t ≡ parent_at parents (up parents n t)
up_last parents zero t = refl
up_last parents (suc n) t = up_last parents n (parent_at parents t)

pub up_further : (parents : List ℕ) (n k m t : ℕ) → n ≡ k + m → up parents n t ≡ up parents m (up parents k t)
up_further parents n zero m t is =
    let same : n ≡ m = omega (arith, is) in
    ap (λ (i : ℕ). up parents i t) same
up_further parents zero (suc k) m t is = absurd (omega (arith, is))
up_further parents (suc n) (suc k) m t is = up_further parents n k m (parent_at parents t) (omega (arith, is))

-- Cycles

open_above : (parents : List ℕ) (t : ℕ) (on : IsOnCycle parents t) (i : ℕ) → i < on.steps → (suc i < on.steps) ⊎ (on.steps ≤ suc i) → is_top parents (up parents (suc i) t) ≡ false
open_above parents t on i h (inl l) = on.open_below (suc i) l
open_above parents t on i h (inr l) =
    let last : suc i ≡ on.steps = omega (arith, h, l) in
    ap (λ (n : ℕ). is_top parents (up parents n t)) last ∙ (ap (is_top parents) on.back ∙ on.open_below 0 on.some)

pub parent_on_cycle : (parents : List ℕ) (t : ℕ) → IsOnCycle parents t → IsOnCycle parents (parent_at parents t)
parent_on_cycle parents t on = record {
  steps = on.steps;
  some = on.some;
  few = on.few;
  back = up_last parents on.steps t ∙ ap (parent_at parents) on.back;
  open_below = λ i h. open_above parents t on i h (cases_lt (suc i) on.steps);
}

pub above_on_cycle : (parents : List ℕ) (n t : ℕ) → IsOnCycle parents t → IsOnCycle parents (up parents n t)
above_on_cycle parents zero t on = on
above_on_cycle parents (suc n) t on = above_on_cycle parents n (parent_at parents t) (parent_on_cycle parents t on)

-- a place within one round
pub record IsInRound (parents : List ℕ) (t steps w : ℕ) : Type 0 where
  pub place : ℕ
  pub within : place < steps
  pub there : up parents place t ≡ w

-- each type above one on a cycle is met in the first round
pub in_round : (parents : List ℕ) (t steps : ℕ) → 0 < steps → up parents steps t ≡ t → (n : ℕ) → IsInRound parents t steps (up parents n t)
in_round parents t steps some back zero = record { place = 0; within = some; there = refl }
in_round parents t steps some back (suc n) = by (in_round parents t steps some back n)
  where
    next : (round : IsInRound parents t steps (up parents n t)) → (suc round.place < steps) ⊎ (steps ≤ suc round.place) → IsInRound parents t steps (up parents (suc n) t)
    next round (inl l) = record { place = suc round.place; within = l; there = up_last parents round.place t ∙ (ap (parent_at parents) round.there ∙ sym (up_last parents n t)) }
    next round (inr l) =
        let within = round.within in
        let last : steps ≡ suc round.place = omega (arith, within, l) in
        record { place = 0; within = some; there = sym back ∙ (ap (λ (m : ℕ). up parents m t) last ∙ (up_last parents round.place t ∙ (ap (parent_at parents) round.there ∙ sym (up_last parents n t)))) }

    by : IsInRound parents t steps (up parents n t) → IsInRound parents t steps (up parents (suc n) t)
    by round = next round (cases_lt (suc round.place) steps)

-- A type so many steps up is met above

met_here : (w : ℕ) (ts : List ℕ) → member w (w ∷ ts) ≡ true
met_here w ts = ap (λ (b : Bool). b || member w ts) ((Decides-eqb w w).1 refl)

met_further : (w t : ℕ) (ts : List ℕ) → member w ts ≡ true → member w (t ∷ ts) ≡ true
met_further w t ts e = by (nat_eq w t)
  where
    by : (b : Bool) → (b || member w ts) ≡ true
    by true = refl
    by false = e

past_top : (parents : List ℕ) (w n t : ℕ) → is_top parents t ≡ false → member w (parent_at parents t ∷ above parents n (parent_at parents t)) ≡ true → member w (above parents (suc n) t) ≡ true
past_top parents w n t h e = ap (λ (b : Bool). member w (if b then [] else parent_at parents t ∷ above parents n (parent_at parents t))) h ∙ e

pub met_above : (parents : List ℕ) (n m t : ℕ) → 0 < m → m ≤ n → ((i : ℕ) → i < m → is_top parents (up parents i t) ≡ false) → member (up parents m t) (above parents n t) ≡ true
met_above parents zero m t some few passed = absurd (omega arith)
met_above parents (suc n) zero t some few passed = absurd (omega arith)
met_above parents (suc n) (suc zero) t some few passed =
    past_top parents (parent_at parents t) n t (passed 0 some) (met_here (parent_at parents t) (above parents n (parent_at parents t)))
met_above parents (suc n) (suc (suc m)) t some few passed =
    let top = up parents (suc m) (parent_at parents t) in
    past_top parents top n t (passed 0 some)
    (met_further top (parent_at parents t) (above parents n (parent_at parents t))
    (met_above parents n (suc m) (parent_at parents t) (omega arith) (omega arith) (λ i h. passed (suc i) (omega arith))))

pub above_itself : (parents : List ℕ) (t : ℕ) → IsOnCycle parents t → member t (all_above parents t) ≡ true
above_itself parents t on =
    let all = all_above parents t in
    ap (λ (w : ℕ). member w all) (sym on.back) ∙ met_above parents (length parents) on.steps t on.some on.few on.open_below

-- What is met above a type is so many steps up

pub some_above : (parents : List ℕ) (n t : ℕ) (before : List ℕ) → meets (above parents n t) before ≡ true → Meets parents t before
some_above parents zero t before e = let no : ⊥ = cc in absurd no
some_above parents (suc n) t before e = by (is_top parents t) e (some_above parents n (parent_at parents t) before)
  where
    here : (b : Bool) → member (parent_at parents t) before ≡ b → (b || meets (above parents n (parent_at parents t)) before) ≡ true → (meets (above parents n (parent_at parents t)) before ≡ true → Meets parents (parent_at parents t) before) → Meets parents t before
    here true met e rest = record { steps = 1; there = met }
    here false met e rest = let further = rest e in record { steps = suc further.steps; there = further.there }

    by : (b : Bool) → meets (if b then [] else parent_at parents t ∷ above parents n (parent_at parents t)) before ≡ true → (meets (above parents n (parent_at parents t)) before ≡ true → Meets parents (parent_at parents t) before) → Meets parents t before
    by true e rest = let no : ⊥ = cc in absurd no
    by false e rest = here (member (parent_at parents t) before) refl e rest

pub record IsStepsAbove (parents : List ℕ) (n t w : ℕ) : Type 0 where
  pub steps : ℕ
  pub some : 0 < steps
  pub few : steps ≤ n
  pub there : up parents steps t ≡ w
  pub open_below : (i : ℕ) → i < steps → is_top parents (up parents i t) ≡ false

pub steps_above : (parents : List ℕ) (w n t : ℕ) → member w (above parents n t) ≡ true → IsStepsAbove parents n t w
steps_above parents w zero t e = let no : ⊥ = cc in absurd no
steps_above parents w (suc n) t e = by (is_top parents t) refl e (steps_above parents w n (parent_at parents t))
  where
    open_first : is_top parents t ≡ false → (i : ℕ) → i < 1 → is_top parents (up parents i t) ≡ false
    open_first h zero l = h
    open_first h (suc i) l = absurd (omega arith)

    open_more : is_top parents t ≡ false → (further : IsStepsAbove parents n (parent_at parents t) w) (i : ℕ) → i < suc further.steps → is_top parents (up parents i t) ≡ false
    open_more h further zero l = h
    open_more h further (suc i) l = further.open_below i (omega arith)

    here : is_top parents t ≡ false → (b : Bool) → nat_eq w (parent_at parents t) ≡ b → (b || member w (above parents n (parent_at parents t))) ≡ true → (member w (above parents n (parent_at parents t)) ≡ true → IsStepsAbove parents n (parent_at parents t) w) → IsStepsAbove parents (suc n) t w
    here h true same e rest = record { steps = 1; some = omega arith; few = omega arith; there = sym ((Decides-eqb w (parent_at parents t)).0 same); open_below = open_first h }
    here h false other e rest =
        let further = rest e in
        let few = further.few in
        record { steps = suc further.steps; some = omega arith; few = omega (arith, few); there = further.there; open_below = open_more h further }

    by : (b : Bool) → is_top parents t ≡ b → member w (if b then [] else parent_at parents t ∷ above parents n (parent_at parents t)) ≡ true → (member w (above parents n (parent_at parents t)) ≡ true → IsStepsAbove parents n (parent_at parents t) w) → IsStepsAbove parents (suc n) t w
    by true h e rest = let no : ⊥ = cc in absurd no
    by false h e rest = here h (nat_eq w (parent_at parents t)) refl e rest

pub on_cycle : (parents : List ℕ) (t : ℕ) → member t (all_above parents t) ≡ true → IsOnCycle parents t
on_cycle parents t e =
    let way = steps_above parents t (length parents) t e in
    record { steps = way.steps; some = way.some; few = way.few; back = way.there; open_below = way.open_below }
