-- Where a state may be taken, the best candidates follow the run one after the other, and at last the state itself.
use Rattle.std.proofs.Common.{◌≡◌, ℕ, zero, suc, ◌<◌, ◌≤◌, ◌⊎◌, ◌++◌, List, [], ◌∷◌, Option, Some, None, Contains, length, refl, sym, ap, ◌∙◌, inl, inr, ⊎_elim, subst, arith}
use Rattle.std.proofs.lemmas.Bool.{cases_lt}
use Rattle.std.proofs.lemmas.List.{map_push}
use Rattle.std.proofs.lemmas.List.Elements.{Contains-append_left, Contains-push_cases}
use Rattle.std.proofs.lemmas.Option.{same_Some}
use Rattle.mf_search.specs.Space.{Space, Leads}
use Rattle.mf_search.specs.World.{Opened, World, WasOpened, at, MayTake}
use Rattle.mf_search.specs.Greedy.{OpenAfter, Follows, Greedy}
use Rattle.mf_search.specs.Rebuilt.{best_below, appended, completed, states_of}
use Rattle.mf_search.proofs.Members.{from_map}
use Rattle.mf_search.proofs.Sound.{IsDone, IsStart, Sound}
use Rattle.mf_search.proofs.Candidates.{IsCandidate, IsBest, BestIs, best_is, free, free_pos, free_less, completed_stays}
use Rattle.mf_search.proofs.Runs.{greedy_push, starts}
use Rattle.mf_search.proofs.Rebuilding.{Within, AllDone, all_expanded, state_in, number_in, IsFound, child_opened, found, done_below}

-- A run of done states that is a greedy run.
pub record IsRun {S : Type 0} (sp : Space S) (w : World S) (os : List (Opened S)) (run : List ℕ) : Type 0 where
  pub done : AllDone sp w run
  pub greedy : Greedy sp (states_of sp os run)

-- A run that was completed: there is no candidate below v any more.
pub record IsFull {S : Type 0} (sp : Space S) (w : World S) (os : List (Opened S)) (v : ℕ) (run : List ℕ) (out : List ℕ) : Type 0 where
  pub is_run : IsRun sp w os out
  pub keeps : (k : ℕ) → Contains run k → Contains out k
  pub full : (k : ℕ) → k < length os → IsCandidate sp os out v k → ⊥

-- The state of number i is the start, or it stands in the successor list of a member of the run.
pub record IsChildIn {S : Type 0} (sp : Space S) (os : List (Opened S)) (run : List ℕ) (i : ℕ) : Type 0 where
  pub parent : ℕ
  pub in_run : Contains run parent
  pub leads : Leads sp (at sp os parent).state (at sp os i).state

-- A world, within the list os, where the worker may take the state of number i.
pub record Moment {S : Type 0} (sp : Space S) (budget : ℕ) (workers : ℕ) (w : World S) (worker : ℕ) (i : ℕ) (os : List (Opened S)) : Type 0 where
  pub sound : Sound sp w
  pub within : Within sp w os
  pub may : MayTake sp budget workers w worker i

pub push_run : {S : Type 0} (sp : Space S) (w : World S) (os : List (Opened S)) (run : List ℕ) (c : ℕ) → Sound sp w → Within sp w os → IsRun sp w os run → IsDone sp w c → Follows sp (states_of sp os run) (at sp os c).state (at sp os c).value → IsRun sp w os (run ++ c ∷ [])
push_run {S} sp w os run c s within r d follows = record {
  done = λ k h. ⊎_elim (r.done k) (λ (e : c ≡ k). subst (IsDone sp w) e d) (Contains-push_cases run c k h);
  greedy = rw (map_push (λ i. (at sp os i).state) run c) (greedy_push sp (states_of sp os run) (at sp os c).state (at sp os c).value r.greedy (all_expanded sp w os run s within r.done) follows);
}

module _ {S : Type 0} (sp : Space S) (w : World S) (os : List (Opened S)) (s : Sound sp w) (within : Within sp w os) where
  candidate_opened : (run : List ℕ) (v c : ℕ) → AllDone sp w run → c < length os → IsCandidate sp os run v c → c < length w.opened
  candidate_opened run v c done low is = go (child_opened sp w os is.reached.from (at sp os c).state (at sp os c).value s within (done is.reached.from is.reached.in_run) is.reached.leads (within.valued c low))
    where
      go : WasOpened sp w.opened (at sp os c).state → c < length w.opened
      go k = let a = k.1 in let b = within.extends.longer in let l : k.0 < length os = omega arith in
          subst (λ t. t < length w.opened) (within.apart k.0 c l low (ap (λ (o : Opened S). o.state) (within.extends.same k.0 k.1) ∙ k.2)) k.1

  -- A state that is open after a run with a member is of value v at least, or it is a candidate below v.
  above : (run : List ℕ) (m v : ℕ) → IsRun sp w os run → Contains run m → (y : S) (u : ℕ) → OpenAfter sp (states_of sp os run) y u → (v ≤ u) ⊎ ((k : ℕ) × (k < length os) × IsCandidate sp os run v k × ((at sp os k).value ≡ u))
  above run m v r in_run y u open_after = ⊎_elim (λ l. inr (below l (found sp w os run y u s within r.done open_after) open_after.reached)) inl (cases_lt u v)
    where
      below : u < v → IsFound sp w os run y u → (y ≡ sp.start) ⊎ ((x : S) × Contains (states_of sp os run) x × Leads sp x y) → (k : ℕ) × (k < length os) × IsCandidate sp os run v k × ((at sp os k).value ≡ u)
      below l f (inl e) = absurd (open_after.fresh (subst (λ t. Contains (states_of sp os run) t) (sym e) (starts sp (states_of sp os run) (at sp os m).state r.greedy (state_in sp os run m in_run))))
      below l f (inr x) =
          let p = from_map (λ i. (at sp os i).state) run x.0 x.1 in
          let a = f.opened in let b = within.extends.longer in let e = f.value_is in
          let leads : Leads sp (at sp os p.0).state (at sp os f.number).state = rw (p.2, f.state_is) x.2 in
          (f.number, omega arith, record { less = omega arith; outside = f.outside; reached = record { from = p.0; in_run = p.1; leads = leads } }, f.value_is)

  best_follows : (run : List ℕ) (v c : ℕ) → IsRun sp w os run → IsBest sp os run v (length os) c → Follows sp (states_of sp os run) (at sp os c).state (at sp os c).value
  best_follows run v c r best = record {
    is_open = record {
      reached = inr ((at sp os best.is.reached.from).state, state_in sp os run best.is.reached.from best.is.reached.in_run, best.is.reached.leads);
      valued = within.valued c best.in_range;
      fresh = λ h. best.is.outside (number_in sp w os run c s within r.done best.in_range h);
    };
    least = λ y u o. least u (above run best.is.reached.from v r best.is.reached.in_run y u o);
  }
    where
      least : (u : ℕ) → (v ≤ u) ⊎ ((k : ℕ) × (k < length os) × IsCandidate sp os run v k × ((at sp os k).value ≡ u)) → (at sp os c).value ≤ u
      least u (inl h) = let a = best.is.less in omega arith
      least u (inr k) = let a = best.least k.0 k.1 k.2 in let b = k.3 in omega arith

module _ {S : Type 0} (sp : Space S) (budget : ℕ) (workers : ℕ) (w : World S) (worker : ℕ) (i : ℕ) (os : List (Opened S)) (now : Moment sp budget workers w worker i os) where
  same_taken : at sp os i ≡ at sp w.opened i
  same_taken = now.within.extends.same i now.may.is_open.0

  candidate_done : (run : List ℕ) (c : ℕ) → AllDone sp w run → c < length os → IsCandidate sp os run (at sp os i).value c → IsDone sp w c
  candidate_done run c done low is =
      let opened = candidate_opened sp w os now.sound now.within run (at sp os i).value c done low is in
      let less : (at sp w.opened c).value < (at sp w.opened i).value = rw (← now.within.extends.same c opened, ← same_taken) is.less in
      done_below sp budget workers w worker i c now.sound now.may opened less

  pub completing : (fuel : ℕ) (run : List ℕ) → IsRun sp w os run → free run (length os) ≤ fuel → IsFull sp w os (at sp os i).value run (completed sp os (at sp os i).value fuel run)
  completing zero run r few = record { is_run = r; keeps = λ k h. h; full = λ k low is. let p = free_pos run (length os) k low is.outside in omega arith }
  completing (suc fuel) run r few = go (best_below sp os run (at sp os i).value (length os)) refl (best_is sp os run (at sp os i).value (length os)) (λ more ok less. completing fuel more ok less)
    where
      go : (best : Option ℕ) → best_below sp os run (at sp os i).value (length os) ≡ best → BestIs sp os run (at sp os i).value (length os) best
          → ((more : List ℕ) → IsRun sp w os more → free more (length os) ≤ fuel → IsFull sp w os (at sp os i).value more (completed sp os (at sp os i).value fuel more))
          → IsFull sp w os (at sp os i).value run (completed sp os (at sp os i).value fuel (appended run best))
      go None e none ih = rw (completed_stays sp os (at sp os i).value fuel run e) (record { is_run = r; keeps = λ k h. h; full = none })
      go (Some c) e best ih =
          let d = candidate_done run c r.done best.in_range best.is in
          let less = free_less run c (length os) best.in_range best.is.outside in
          let full = ih (run ++ c ∷ []) (push_run sp w os run c now.sound now.within r d (best_follows sp w os now.sound now.within run (at sp os i).value c r best)) (omega arith) in
          record { is_run = full.is_run; keeps = λ k h. full.keeps k (Contains-append_left run (c ∷ []) k h); full = full.full }

  -- After the completed run the state itself follows.
  pub taken_follows : (run out : List ℕ) → IsFull sp w os (at sp os i).value run out → IsStart sp os i ⊎ IsChildIn sp os run i → Follows sp (states_of sp os out) (at sp os i).state (at sp os i).value
  taken_follows run out f from = record {
    is_open = record { reached = reached from; valued = now.within.valued i low; fresh = λ h. fresh (number_in sp w os out i now.sound now.within f.is_run.done low h) };
    least = λ y u o. least y u o from o.reached;
  }
    where
      low : i < length os
      low = let a = now.may.is_open.0 in let b = now.within.extends.longer in omega arith

      fresh : Contains out i → ⊥
      fresh h = now.may.is_open.1 (f.is_run.done i h).taken

      reached : IsStart sp os i ⊎ IsChildIn sp os run i → ((at sp os i).state ≡ sp.start) ⊎ ((x : S) × Contains (states_of sp os out) x × Leads sp x (at sp os i).state)
      reached (inl start) = inl start.state_is
      reached (inr child) = inr ((at sp os child.parent).state, state_in sp os out child.parent (f.keeps child.parent child.in_run), child.leads)

      after : (m : ℕ) → Contains out m → (y : S) (u : ℕ) → OpenAfter sp (states_of sp os out) y u → (at sp os i).value ≤ u
      after m h y u o = ⊎_elim (λ l. l) (λ k. absurd (f.full k.0 k.1 k.2)) (above sp w os now.sound now.within out m (at sp os i).value f.is_run h y u o)

      least : (y : S) (u : ℕ) → OpenAfter sp (states_of sp os out) y u → IsStart sp os i ⊎ IsChildIn sp os run i → (y ≡ sp.start) ⊎ ((x : S) × Contains (states_of sp os out) x × Leads sp x y) → (at sp os i).value ≤ u
      least y u o (inr child) r = after child.parent (f.keeps child.parent child.in_run) y u o
      least y u o (inl start) (inr x) = let m = from_map (λ k. (at sp os k).state) out x.0 x.1 in after m.0 m.1 y u o
      least y u o (inl start) (inl e) =
          let v = now.within.valued i low in
          let same : (at sp os i).value ≡ u = same_Some (at sp os i).value u (sym v ∙ ap sp.value (start.state_is ∙ sym e) ∙ o.valued) in
          omega arith
