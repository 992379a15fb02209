-- The rebuilt run of each take is a greedy run: the induction over the takes.
use Rattle.std.proofs.Common.{◌≡◌, ℕ, ◌<◌, ◌⊎◌, List, Some, Contains, length, sym, ap, ◌∙◌, inl, inr, ⊎_elim, subst, arith}
use Rattle.std.proofs.lemmas.Option.{same_Some}
use Rattle.mf_search.specs.Space.{Space, children_of, Leads}
use Rattle.mf_search.specs.World.{Opened, World, WasOpened, at, MayTake}
use Rattle.mf_search.specs.Greedy.{OpenAfter, Expanded, AllExpanded}
use Rattle.mf_search.specs.Rebuilt.{states_of}
use Rattle.mf_search.proofs.Members.{in_map, from_map}
use Rattle.mf_search.proofs.Opening.{Extends, extends_refl, extends_trans, Apart, Valued}
use Rattle.mf_search.proofs.Sound.{IsDone, Sound, Grows}
use Rattle.mf_search.proofs.KeyOrder.{key_value}
use Rattle.mf_search.proofs.Candidates.{in_or_out}

-- The opened states of a world are the first ones of the list os, which is that of a later world.
pub record Within {S : Type 0} (sp : Space S) (w : World S) (os : List (Opened S)) : Type 0 where
  pub extends : Extends sp w.opened os
  pub apart : Apart sp os
  pub valued : Valued sp os

pub within_itself : {S : Type 0} (sp : Space S) (w : World S) → Sound sp w → Within sp w w.opened
within_itself sp w s = record { extends = extends_refl sp w.opened; apart = s.apart; valued = s.valued }

pub within_grows : {S : Type 0} (sp : Space S) (w z : World S) (os : List (Opened S)) → Grows sp w z → Within sp z os → Within sp w os
within_grows sp w z os g h = record { extends = extends_trans sp w.opened z.opened os g.extends h.extends; apart = h.apart; valued = h.valued }

-- Each member of the run is done.
abbrev pub AllDone : {S : Type 0} → Space S → World S → List ℕ → Type 0
AllDone sp w run = (k : ℕ) → Contains run k → IsDone sp w k

pub done_in_range : {S : Type 0} (sp : Space S) (w : World S) (os : List (Opened S)) (k : ℕ) → Sound sp w → Within sp w os → IsDone sp w k → k < length os
done_in_range sp w os k s within d = let a = s.in_range k d.taken in let b = within.extends.longer in omega arith

pub done_same : {S : Type 0} (sp : Space S) (w : World S) (os : List (Opened S)) (k : ℕ) → Sound sp w → Within sp w os → IsDone sp w k → at sp os k ≡ at sp w.opened k
done_same sp w os k s within d = within.extends.same k (s.in_range k d.taken)

-- A done state may be followed: it is no goal, and it has a successor list.
pub done_expanded : {S : Type 0} (sp : Space S) (w : World S) (os : List (Opened S)) (k : ℕ) → Sound sp w → Within sp w os → IsDone sp w k → Expanded sp (at sp os k).state
done_expanded {S} sp w os k s within d = rw (done_same sp w os k s within d) (record {
  no_goal = λ e. d.no_goal (same_Some (at sp w.opened k).value 0 (sym (s.valued k (s.in_range k d.taken)) ∙ e));
  listed = s.done_listed k d;
})

pub all_expanded : {S : Type 0} (sp : Space S) (w : World S) (os : List (Opened S)) (run : List ℕ) → Sound sp w → Within sp w os → AllDone sp w run → AllExpanded sp (states_of sp os run)
all_expanded {S} sp w os run s within done x h =
    let m = from_map (λ i. (at sp os i).state) run x h in
    subst (Expanded sp) m.2 (done_expanded sp w os m.0 s within (done m.0 m.1))

-- A state of the run, from a number in it.
pub state_in : {S : Type 0} (sp : Space S) (os : List (Opened S)) (run : List ℕ) (k : ℕ) → Contains run k → Contains (states_of sp os run) (at sp os k).state
state_in sp os run k h = in_map (λ i. (at sp os i).state) run k h

-- The number of an opened state, from the state in the run.
pub number_in : {S : Type 0} (sp : Space S) (w : World S) (os : List (Opened S)) (run : List ℕ) (k : ℕ) → Sound sp w → Within sp w os → AllDone sp w run → k < length os → Contains (states_of sp os run) (at sp os k).state → Contains run k
number_in {S} sp w os run k s within done low h =
    let m = from_map (λ i. (at sp os i).state) run (at sp os k).state h in
    subst (λ t. Contains run t) (within.apart m.0 k (done_in_range sp w os m.0 s within (done m.0 m.1)) low m.2) m.1

-- What a state is, that is open after a run of done states: an opened one, outside the run.
pub record IsFound {S : Type 0} (sp : Space S) (w : World S) (os : List (Opened S)) (run : List ℕ) (y : S) (u : ℕ) : Type 0 where
  pub number : ℕ
  pub opened : number < length w.opened
  pub state_is : (at sp os number).state ≡ y
  pub value_is : (at sp os number).value ≡ u
  pub outside : Contains run number → ⊥

pub child_opened : {S : Type 0} (sp : Space S) (w : World S) (os : List (Opened S)) (m : ℕ) (y : S) (u : ℕ) → Sound sp w → Within sp w os → IsDone sp w m → Leads sp (at sp os m).state y → sp.value y ≡ Some u → WasOpened sp w.opened y
child_opened {S} sp w os m y u s within d leads value =
    let c = leads.0 in
    let stands : Contains (children_of (sp.grow (at sp w.opened m).state)) c = rw (← done_same sp w os m s within d) leads.1 in
    subst (WasOpened sp w.opened) leads.2 (s.done_opened m c u d stands (ap sp.value leads.2 ∙ value))

pub found : {S : Type 0} (sp : Space S) (w : World S) (os : List (Opened S)) (run : List ℕ) (y : S) (u : ℕ) → Sound sp w → Within sp w os → AllDone sp w run → OpenAfter sp (states_of sp os run) y u → IsFound sp w os run y u
found {S} sp w os run y u s within done open_after = named (known open_after.reached)
  where
    known : (y ≡ sp.start) ⊎ ((x : S) × Contains (states_of sp os run) x × Leads sp x y) → WasOpened sp w.opened y
    known (inl e) = subst (WasOpened sp w.opened) (sym e) (s.start_opened u (ap sp.value (sym e) ∙ open_after.valued))
    known (inr r) = let m = from_map (λ i. (at sp os i).state) run r.0 r.1 in
        child_opened sp w os m.0 y u s within (done m.0 m.1) (subst (λ x. Leads sp x y) (sym m.2) r.2) open_after.valued

    named : WasOpened sp w.opened y → IsFound sp w os run y u
    named k = let same = within.extends.same k.0 k.1 in
        let here : (at sp os k.0).state ≡ y = ap (λ (o : Opened S). o.state) same ∙ k.2 in
        let low : k.0 < length os = (let a = k.1 in let b = within.extends.longer in omega arith) in
        record {
          number = k.0;
          opened = k.1;
          state_is = here;
          value_is = same_Some (at sp os k.0).value u (sym (within.valued k.0 low) ∙ ap sp.value here ∙ open_after.valued);
          outside = λ h. open_after.fresh (subst (λ t. Contains (states_of sp os run) t) here (state_in sp os run k.0 h));
        }

-- Where a state may be taken, each opened state of less value is done.
pub done_below : {S : Type 0} (sp : Space S) (budget workers : ℕ) (w : World S) (worker i c : ℕ) → Sound sp w → MayTake sp budget workers w worker i → c < length w.opened → (at sp w.opened c).value < (at sp w.opened i).value → IsDone sp w c
done_below {S} sp budget workers w worker i c s may low less = ⊎_elim
    (λ h. record { taken = h; at_rest = λ v k. let p = may.permit v c k in omega arith; no_goal = s.no_goal may.going c h })
    (λ h. let p = key_value (at sp w.opened i) i (at sp w.opened c) c (may.least c (low, h)) in absurd (omega arith))
    (in_or_out w.taken c)
