-- The bounds of the recursions are enough: the rebuilt run and the trace by parents, and the completed run step by step.
use Rattle.std.proofs.Common.{◌≡◌, ℕ, zero, suc, ◌<◌, ◌≤◌, ◌⊎◌, ◌++◌, Bool, List, [], ◌∷◌, Option, Some, None, length, refl, sym, ap, ◌∙◌, inl, inr, arith}
use Rattle.std.proofs.lemmas.Option.{same_Some}
use Rattle.std.proofs.lemmas.Option.{none-some}
use Rattle.mf_search.specs.declared.entry.Entry.{Entry}
use Rattle.mf_search.specs.declared.maker.Maker.{Maker}
use Rattle.mf_search.specs.declared.maker.Maker.TheVariants.{Start, Step}
use Rattle.mf_search.specs.Space.{Space}
use Rattle.mf_search.specs.World.{Opened, World, at, Legal, world}
use Rattle.mf_search.specs.Rebuilt.{best_below, appended, completed, parent_of, with_parent, run_before, rebuilt}
use Rattle.mf_search.specs.Answers.{with_step, trace, plan_to}
use Rattle.mf_search.proofs.Members.{not_in_nil}
use Rattle.mf_search.proofs.Sound.{IsStart, MadeByDone, Sound, legal_sound}
use Rattle.mf_search.proofs.Candidates.{BestIs, best_is, free, free_le, free_pos, free_less, completed_stays}

none_left : {S : Type 0} (sp : Space S) (os : List (Opened S)) (v : ℕ) (run : List ℕ) (best : Option ℕ) → best_below sp os run v (length os) ≡ best → BestIs sp os run v (length os) best → free run (length os) ≤ 0 → best_below sp os run v (length os) ≡ None
none_left sp os v run None e h few = e
none_left sp os v run (Some c) e h few = let p = free_pos run (length os) c h.in_range h.is.outside in absurd (omega arith)

-- A candidate can be appended only while a number stands outside the run.
pub completed_enough : {S : Type 0} (sp : Space S) (os : List (Opened S)) (v f g : ℕ) (run : List ℕ) → free run (length os) ≤ f → free run (length os) ≤ g → completed sp os v f run ≡ completed sp os v g run
completed_enough {S} sp os v zero g run a b = sym (completed_stays sp os v g run (none_left sp os v run (best_below sp os run v (length os)) refl (best_is sp os run v (length os)) (omega arith)))
completed_enough {S} sp os v (suc f) zero run a b = completed_stays sp os v (suc f) run (none_left sp os v run (best_below sp os run v (length os)) refl (best_is sp os run v (length os)) (omega arith))
completed_enough {S} sp os v (suc f) (suc g) run a b = go (best_below sp os run v (length os)) refl (best_is sp os run v (length os)) (λ more c d. completed_enough sp os v f g more c d)
  where
    go : (best : Option ℕ) → best_below sp os run v (length os) ≡ best → BestIs sp os run v (length os) best
        → ((more : List ℕ) → free more (length os) ≤ f → free more (length os) ≤ g → completed sp os v f more ≡ completed sp os v g more)
        → completed sp os v f (appended run best) ≡ completed sp os v g (appended run best)
    go None e h ih = completed_stays sp os v f run e ∙ sym (completed_stays sp os v g run e)
    go (Some c) e h ih = let less = free_less run c (length os) h.in_range h.is.outside in ih (run ++ c ∷ []) (omega arith) (omega arith)

-- While there is a candidate the completed run is that of the run with the best one, and then it is the run itself.
pub completed_step : {S : Type 0} (sp : Space S) (os : List (Opened S)) (v : ℕ) (run : List ℕ) (c : ℕ) → best_below sp os run v (length os) ≡ Some c → completed sp os v (length os) run ≡ completed sp os v (length os) (run ++ c ∷ [])
completed_step {S} sp os v run c e =
    completed_enough sp os v (length os) (suc (length os)) run (free_le run (length os)) (let a = free_le run (length os) in omega arith)
    ∙ ap (λ best. completed sp os v (length os) (appended run best)) e

pub completed_none : {S : Type 0} (sp : Space S) (os : List (Opened S)) (v : ℕ) (run : List ℕ) → best_below sp os run v (length os) ≡ None → completed sp os v (length os) run ≡ run
completed_none sp os v run e = completed_stays sp os v (length os) run e

-- Nothing is a candidate of the empty run.
nothing_first : {S : Type 0} (sp : Space S) (os : List (Opened S)) (v n : ℕ) → best_below sp os [] v n ≡ None
nothing_first sp os v n = go (best_below sp os [] v n) (best_is sp os [] v n)
  where
    go : (best : Option ℕ) → BestIs sp os [] v n best → best ≡ None
    go None h = refl
    go (Some c) h = absurd (not_in_nil h.is.reached.from h.is.reached.in_run)

-- The parent of each opened state has a lower number.
abbrev pub ParentsLower : {S : Type 0} → Space S → List (Opened S) → Type 0
ParentsLower sp os = (i p : ℕ) → i < length os → parent_of (at sp os i).maker ≡ Some p → p < i

pub sound_parents : {S : Type 0} (sp : Space S) (w : World S) → Sound sp w → ParentsLower sp w.opened
sound_parents {S} sp w s i p low e = go (s.made i low)
  where
    go : IsStart sp w.opened i ⊎ MadeByDone sp w i → p < i
    go (inl start) = absurd (none-some p (sym (ap parent_of start.maker_is) ∙ e))
    go (inr made) = let same : made.parent ≡ p = same_Some made.parent p (sym (ap parent_of made.entry.maker_is) ∙ e) in let l = made.lower in omega arith

pub run_before_enough : {S : Type 0} (sp : Space S) (os : List (Opened S)) (f g i : ℕ) → ParentsLower sp os → i < length os → i < f → i < g → run_before sp os f i ≡ run_before sp os g i
run_before_enough sp os zero g i lower inside a b = absurd (omega arith)
run_before_enough sp os (suc f) zero i lower inside a b = absurd (omega arith)
run_before_enough {S} sp os (suc f) (suc g) i lower inside a b = ap (completed sp os (at sp os i).value (length os)) (go (parent_of (at sp os i).maker) refl (λ p l c d. run_before_enough sp os f g p lower l c d))
  where
    go : (parent : Option ℕ) → parent_of (at sp os i).maker ≡ parent → ((p : ℕ) → p < length os → p < f → p < g → run_before sp os f p ≡ run_before sp os g p) → with_parent (run_before sp os f) parent ≡ with_parent (run_before sp os g) parent
    go None e ih = refl
    go (Some p) e ih = let l = lower i p inside e in ap (λ run. run ++ p ∷ []) (ih p (omega arith) (omega arith) (omega arith))

pub trace_enough : {S : Type 0} (sp : Space S) (os : List (Opened S)) (f g i : ℕ) → ParentsLower sp os → i < length os → i < f → i < g → trace sp os f i ≡ trace sp os g i
trace_enough sp os zero g i lower inside a b = absurd (omega arith)
trace_enough sp os (suc f) zero i lower inside a b = absurd (omega arith)
trace_enough {S} sp os (suc f) (suc g) i lower inside a b = go (at sp os i).maker refl (λ p l c d. trace_enough sp os f g p lower l c d)
  where
    go : (maker : Maker) → (at sp os i).maker ≡ maker → ((p : ℕ) → p < length os → p < f → p < g → trace sp os f p ≡ trace sp os g p) → with_step (trace sp os f) maker ≡ with_step (trace sp os g) maker
    go Start e ih = refl
    go (Step p n h) e ih = let l = lower i p inside (ap parent_of e) in ap (λ instances. instances ++ n ∷ []) (ih p (omega arith) (omega arith) (omega arith))

-- The rebuilt run begins with that of the parent.
pub rebuilt_step : {S : Type 0} (sp : Space S) (os : List (Opened S)) (i p n : ℕ) (h : Bool) → ParentsLower sp os → i < length os → (at sp os i).maker ≡ Step p n h → rebuilt sp os i ≡ completed sp os (at sp os i).value (length os) (rebuilt sp os p) ++ i ∷ []
rebuilt_step {S} sp os i p n h lower inside e =
    let l = lower i p inside (ap parent_of e) in
    ap (λ run. run ++ i ∷ [])
    (run_before_enough sp os (length os) (suc (length os)) i lower inside inside (omega arith)
    ∙ ap (λ m. completed sp os (at sp os i).value (length os) (with_parent (run_before sp os (length os)) (parent_of m))) e)

pub rebuilt_start : {S : Type 0} (sp : Space S) (os : List (Opened S)) (i : ℕ) → ParentsLower sp os → i < length os → (at sp os i).maker ≡ Start → rebuilt sp os i ≡ i ∷ []
rebuilt_start {S} sp os i lower inside e =
    ap (λ run. run ++ i ∷ [])
    (run_before_enough sp os (length os) (suc (length os)) i lower inside inside (omega arith)
    ∙ ap (λ m. completed sp os (at sp os i).value (length os) (with_parent (run_before sp os (length os)) (parent_of m))) e
    ∙ completed_none sp os (at sp os i).value [] (nothing_first sp os (at sp os i).value (length os)))

-- The trace to a state is that of its parent and then the kept instance.
pub plan_step : {S : Type 0} (sp : Space S) (os : List (Opened S)) (i p n : ℕ) (h : Bool) → ParentsLower sp os → i < length os → (at sp os i).maker ≡ Step p n h → plan_to sp os i ≡ plan_to sp os p ++ n ∷ []
plan_step {S} sp os i p n h lower inside e =
    trace_enough sp os (length os) (suc (length os)) i lower inside inside (omega arith) ∙ ap (with_step (trace sp os (length os))) e

pub plan_start : {S : Type 0} (sp : Space S) (os : List (Opened S)) (i : ℕ) → ParentsLower sp os → i < length os → (at sp os i).maker ≡ Start → plan_to sp os i ≡ []
plan_start {S} sp os i lower inside e =
    trace_enough sp os (length os) (suc (length os)) i lower inside inside (omega arith) ∙ ap (with_step (trace sp os (length os))) e

pub legal_parents : {S : Type 0} (sp : Space S) (budget workers : ℕ) (entries : List Entry) → Legal sp budget workers entries → ParentsLower sp (world sp entries).opened
legal_parents sp budget workers entries legal = sound_parents sp (world sp entries) (legal_sound sp budget workers entries legal)
