-- What holds in the world of each legal history: one record, kept by each entry that may come.
use Rattle.std.proofs.Common.{◌≡◌, ◌≢◌, ℕ, zero, suc, ◌<◌, ◌≤◌, ◌⊎◌, ◌++◌, Bool, true, false, cond, eqb, List, [], ◌∷◌, Option, Some, None, Contains, length, get_or, map, refl, sym, ap, ◌∙◌, inl, inr, ⊎_elim, subst, arith}
use Rattle.std.proofs.lemmas.Bool.{eqb-true, eqb-false, eq-eqb, ne_eqb, cases_eq, cases_lt}
use Rattle.std.proofs.lemmas.List.{get_or-map, length-map}
use Rattle.std.proofs.lemmas.List.Elements.{Contains-append_left, Contains-push, Contains-push_cases, Contains-get_or}
use Rattle.std.proofs.lemmas.List.Quantifiers.{all_pairs_push}
use Rattle.std.proofs.lemmas.Option.{same_Some}
use Rattle.std.proofs.lemmas.Option.{none-some}
use Rattle.mf_search.specs.declared.entry.Entry.{Entry}
use Rattle.mf_search.specs.declared.entry.Entry.TheVariants.{Take, Done, Wide}
use Rattle.mf_search.specs.declared.maker.Maker.TheVariants.{Start}
use Rattle.mf_search.specs.Space.{Child, Space, children_of, IsListed}
use Rattle.mf_search.specs.World.{Opened, Going, AtGoal, AtWide, World, AllDifferent, WasOpened, at, opened_first, begin, open_all, put, took, finished, next, after, MayTake, MayDone, MayWide, May, LegalFrom, Legal, world}
use Rattle.mf_search.proofs.Members.{not_in_nil}
use Rattle.mf_search.proofs.Opening.{Extends, extends_refl, extends_trans, extends_opened, Apart, Valued, MadeBy, Opens, opens_all}

-- The state of number i was taken and done: it is no goal, and nobody has it in expansion.
pub record IsDone {S : Type 0} (sp : Space S) (w : World S) (i : ℕ) : Type 0 where
  pub taken : Contains w.taken i
  pub at_rest : (v : ℕ) → w.busy v ≡ Some i → ⊥
  pub no_goal : (at sp w.opened i).value ≢ 0

-- The state of number i was opened by the successor list of a done state of lower number.
pub record MadeByDone {S : Type 0} (sp : Space S) (w : World S) (i : ℕ) : Type 0 where
  pub parent : ℕ
  pub lower : parent < i
  pub done : IsDone sp w parent
  pub entry : MadeBy parent (children_of (sp.grow (at sp w.opened parent).state)) (at sp w.opened i)

-- The state of number i is the start, as its maker says.
pub record IsStart {S : Type 0} (sp : Space S) (os : List (Opened S)) (i : ℕ) : Type 0 where
  pub maker_is : (at sp os i).maker ≡ Start
  pub state_is : (at sp os i).state ≡ sp.start

pub record Sound {S : Type 0} (sp : Space S) (w : World S) : Type 0 where
  pub apart : Apart sp w.opened
  pub valued : Valued sp w.opened
  pub made : (i : ℕ) → i < length w.opened → IsStart sp w.opened i ⊎ MadeByDone sp w i
  pub start_opened : (v : ℕ) → sp.value sp.start ≡ Some v → WasOpened sp w.opened sp.start
  pub in_range : (i : ℕ) → Contains w.taken i → i < length w.opened
  pub once : AllDifferent w.taken
  pub busy_taken : (v i : ℕ) → w.busy v ≡ Some i → Contains w.taken i
  pub busy_alone : (u v i : ℕ) → w.busy u ≡ Some i → w.busy v ≡ Some i → u ≡ v
  pub done_listed : (i : ℕ) → IsDone sp w i → IsListed (sp.grow (at sp w.opened i).state)
  pub done_opened : (i : ℕ) (c : Child S) (v : ℕ) → IsDone sp w i → Contains (children_of (sp.grow (at sp w.opened i).state)) c → sp.value c.state ≡ Some v → WasOpened sp w.opened c.state
  pub no_goal : w.ending ≡ Going → (i : ℕ) → Contains w.taken i → (at sp w.opened i).value ≢ 0
  pub goal : (i : ℕ) → w.ending ≡ AtGoal i → Contains w.taken i × ((at sp w.opened i).value ≡ 0)

-- The later world has opened and taken what the earlier one has, and what was done there is done.
pub record Grows {S : Type 0} (sp : Space S) (w : World S) (z : World S) : Type 0 where
  pub extends : Extends sp w.opened z.opened
  pub taken : (i : ℕ) → Contains w.taken i → Contains z.taken i
  pub done : (i : ℕ) → IsDone sp w i → IsDone sp z i

pub grows_refl : {S : Type 0} (sp : Space S) (w : World S) → Grows sp w w
grows_refl sp w = record { extends = extends_refl sp w.opened; taken = λ i h. h; done = λ i h. h }

pub grows_trans : {S : Type 0} (sp : Space S) (w z y : World S) → Grows sp w z → Grows sp z y → Grows sp w y
grows_trans sp w z y a b = record { extends = extends_trans sp w.opened z.opened y.opened a.extends b.extends; taken = λ i h. b.taken i (a.taken i h); done = λ i h. b.done i (a.done i h) }

-- What each worker has in expansion after one entry of it.
pub put_some : (busy : ℕ → Option ℕ) (worker j v i : ℕ) → put busy worker (Some j) v ≡ Some i → ((v ≡ worker) × (i ≡ j)) ⊎ ((v ≡ worker → ⊥) × (busy v ≡ Some i))
put_some busy worker j v i e = go (eqb v worker) refl e
  where
    go : (b : Bool) → eqb v worker ≡ b → cond b (Some j) (busy v) ≡ Some i → ((v ≡ worker) × (i ≡ j)) ⊎ ((v ≡ worker → ⊥) × (busy v ≡ Some i))
    go true t h = inl (eqb-true v worker t, sym (same_Some j i h))
    go false t h = inr (eqb-false v worker t, h)

pub put_none : (busy : ℕ → Option ℕ) (worker v i : ℕ) → put busy worker None v ≡ Some i → (v ≡ worker → ⊥) × (busy v ≡ Some i)
put_none busy worker v i e = go (eqb v worker) refl e
  where
    go : (b : Bool) → eqb v worker ≡ b → cond b None (busy v) ≡ Some i → (v ≡ worker → ⊥) × (busy v ≡ Some i)
    go true t h = absurd (none-some i h)
    go false t h = (eqb-false v worker t, h)

pub put_same : (busy : ℕ → Option ℕ) (worker : ℕ) (held : Option ℕ) → put busy worker held worker ≡ held
put_same busy worker held = rw (eq-eqb worker worker refl) refl

pub put_other : (busy : ℕ → Option ℕ) (worker : ℕ) (held : Option ℕ) (v : ℕ) → (v ≡ worker → ⊥) → put busy worker held v ≡ busy v
put_other busy worker held v other = rw (ne_eqb v worker other) refl

-- How a state was made is kept as the world grows.
made_grows : {S : Type 0} (sp : Space S) (w z : World S) (i : ℕ) → Sound sp w → Grows sp w z → i < length w.opened → IsStart sp w.opened i ⊎ MadeByDone sp w i → IsStart sp z.opened i ⊎ MadeByDone sp z i
made_grows sp w z i s g h (inl start) = inl (record { maker_is = rw (g.extends.same i h) start.maker_is; state_is = rw (g.extends.same i h) start.state_is })
made_grows sp w z i s g h (inr made) = inr (record { parent = made.parent; lower = made.lower; done = g.done made.parent made.done; entry = rw (g.extends.same made.parent (s.in_range made.parent made.done.taken), g.extends.same i h) made.entry })

-- A number that was not taken differs from each that was.
pub not_among : (taken : List ℕ) (i : ℕ) → (Contains taken i → ⊥) → (k d : ℕ) → k < length taken → get_or taken k d ≢ i
not_among taken i new k d h e = new (subst (λ t. Contains taken t) e (Contains-get_or taken k d h))

pub once_push : (taken : List ℕ) (i : ℕ) → AllDifferent taken → (Contains taken i → ⊥) → AllDifferent (taken ++ i ∷ [])
once_push taken i once new = all_pairs_push (λ (x : ℕ) (y : ℕ). x ≢ y) taken i once (not_among taken i new)

-- The take of a goal.
grows_goal : {S : Type 0} (sp : Space S) (w : World S) (worker i : ℕ) → Grows sp w (took true w worker i)
grows_goal sp w worker i = record {
  extends = extends_refl sp w.opened;
  taken = λ k h. Contains-append_left w.taken (i ∷ []) k h;
  done = λ k d. record { taken = Contains-append_left w.taken (i ∷ []) k d.taken; at_rest = d.at_rest; no_goal = d.no_goal };
}

sound_goal : {S : Type 0} (sp : Space S) (budget workers : ℕ) (w : World S) (worker i : ℕ) → Sound sp w → MayTake sp budget workers w worker i → (at sp w.opened i).value ≡ 0 → Sound sp (took true w worker i)
sound_goal {S} sp budget workers w worker i s may zero_value = record {
  apart = s.apart;
  valued = s.valued;
  made = λ k h. made_grows sp w (took true w worker i) k s (grows_goal sp w worker i) h (s.made k h);
  start_opened = s.start_opened;
  in_range = λ k h. ⊎_elim (s.in_range k) (λ (e : i ≡ k). subst (λ t. t < length w.opened) e may.is_open.0) (Contains-push_cases w.taken i k h);
  once = once_push w.taken i s.once may.is_open.1;
  busy_taken = λ v k h. Contains-append_left w.taken (i ∷ []) k (s.busy_taken v k h);
  busy_alone = s.busy_alone;
  done_listed = λ k d. s.done_listed k (back k d);
  done_opened = λ k c v d. s.done_opened k c v (back k d);
  no_goal = λ e k h. absurd (cc);
  goal = λ k e. let same : i ≡ k = cc in subst (λ t. Contains (w.taken ++ i ∷ []) t × ((at sp w.opened t).value ≡ 0)) same (Contains-push w.taken i, zero_value);
}
  where
    back : (k : ℕ) → IsDone sp (took true w worker i) k → IsDone sp w k
    back k d = record { taken = ⊎_elim (λ h. h) (λ (e : i ≡ k). absurd (d.no_goal (subst (λ t. (at sp w.opened t).value ≡ 0) e zero_value))) (Contains-push_cases w.taken i k d.taken); at_rest = d.at_rest; no_goal = d.no_goal }

-- The take of a state that is no goal.
grows_busy : {S : Type 0} (sp : Space S) (budget workers : ℕ) (w : World S) (worker i : ℕ) → MayTake sp budget workers w worker i → Grows sp w (took false w worker i)
grows_busy {S} sp budget workers w worker i may = record {
  extends = extends_refl sp w.opened;
  taken = λ k h. Contains-append_left w.taken (i ∷ []) k h;
  done = λ k d. record { taken = Contains-append_left w.taken (i ∷ []) k d.taken; at_rest = λ v h. rest k d v (put_some w.busy worker i v k h); no_goal = d.no_goal };
}
  where
    rest : (k : ℕ) → IsDone sp w k → (v : ℕ) → ((v ≡ worker) × (k ≡ i)) ⊎ ((v ≡ worker → ⊥) × (w.busy v ≡ Some k)) → ⊥
    rest k d v (inl e) = may.is_open.1 (subst (λ t. Contains w.taken t) e.1 d.taken)
    rest k d v (inr e) = d.at_rest v e.1

sound_busy : {S : Type 0} (sp : Space S) (budget workers : ℕ) (w : World S) (worker i : ℕ) → Sound sp w → MayTake sp budget workers w worker i → ((at sp w.opened i).value ≡ 0 → ⊥) → Sound sp (took false w worker i)
sound_busy {S} sp budget workers w worker i s may above = record {
  apart = s.apart;
  valued = s.valued;
  made = λ k h. made_grows sp w (took false w worker i) k s (grows_busy sp budget workers w worker i may) h (s.made k h);
  start_opened = s.start_opened;
  in_range = λ k h. ⊎_elim (s.in_range k) (λ (e : i ≡ k). subst (λ t. t < length w.opened) e may.is_open.0) (Contains-push_cases w.taken i k h);
  once = once_push w.taken i s.once may.is_open.1;
  busy_taken = λ v k h. held v k (put_some w.busy worker i v k h);
  busy_alone = λ u v k a b. alone u v k (put_some w.busy worker i u k a) (put_some w.busy worker i v k b);
  done_listed = λ k d. s.done_listed k (back k d);
  done_opened = λ k c v d. s.done_opened k c v (back k d);
  no_goal = λ e k h. ⊎_elim (s.no_goal may.going k) (λ (same : i ≡ k). subst (λ t. (at sp w.opened t).value ≢ 0) same above) (Contains-push_cases w.taken i k h);
  goal = λ k e. let going = may.going in absurd (cc);
}
  where
    held : (v k : ℕ) → ((v ≡ worker) × (k ≡ i)) ⊎ ((v ≡ worker → ⊥) × (w.busy v ≡ Some k)) → Contains (w.taken ++ i ∷ []) k
    held v k (inl e) = subst (λ t. Contains (w.taken ++ i ∷ []) t) (sym e.1) (Contains-push w.taken i)
    held v k (inr e) = Contains-append_left w.taken (i ∷ []) k (s.busy_taken v k e.1)

    taken_again : (v k : ℕ) → k ≡ i → w.busy v ≡ Some k → ⊥
    taken_again v k e h = may.is_open.1 (subst (λ t. Contains w.taken t) e (s.busy_taken v k h))

    alone : (u v k : ℕ) → ((u ≡ worker) × (k ≡ i)) ⊎ ((u ≡ worker → ⊥) × (w.busy u ≡ Some k)) → ((v ≡ worker) × (k ≡ i)) ⊎ ((v ≡ worker → ⊥) × (w.busy v ≡ Some k)) → u ≡ v
    alone u v k (inl a) (inl b) = a.0 ∙ sym b.0
    alone u v k (inl a) (inr b) = absurd (taken_again v k a.1 b.1)
    alone u v k (inr a) (inl b) = absurd (taken_again u k b.1 a.1)
    alone u v k (inr a) (inr b) = s.busy_alone u v k a.1 b.1

    back : (k : ℕ) → IsDone sp (took false w worker i) k → IsDone sp w k
    back k d = record {
      taken = ⊎_elim (λ h. h) (λ (e : i ≡ k). absurd (d.at_rest worker (put_same w.busy worker (Some i) ∙ ap (λ t. Some t) e))) (Contains-push_cases w.taken i k d.taken);
      at_rest = λ v h. d.at_rest v (put_other w.busy worker (Some i) v (λ e. none-some k (sym may.idle ∙ ap w.busy (sym e) ∙ h)) ∙ h);
      no_goal = d.no_goal;
    }

-- A state is done, and its children are opened.
grows_done : {S : Type 0} (sp : Space S) (w : World S) (worker i : ℕ) → Sound sp w → Grows sp w (finished sp w worker i)
grows_done {S} sp w worker i s = record {
  extends = opens.extends;
  taken = λ k h. h;
  done = λ k d. record { taken = d.taken; at_rest = λ v h. d.at_rest v (put_none w.busy worker v k h).1; no_goal = rw (opens.extends.same k (s.in_range k d.taken)) d.no_goal };
}
  where
    opens : Opens sp i (children_of (sp.grow (at sp w.opened i).state)) w.opened (open_all sp i (children_of (sp.grow (at sp w.opened i).state)) w.opened)
    opens = opens_all sp i (children_of (sp.grow (at sp w.opened i).state)) w.opened

sound_done : {S : Type 0} (sp : Space S) (w : World S) (worker i : ℕ) → Sound sp w → MayDone sp w worker i → Sound sp (finished sp w worker i)
sound_done {S} sp w worker i s may = record {
  apart = opens.apart s.apart;
  valued = opens.valued s.valued;
  made = λ k h. made k h (cases_lt k (length w.opened));
  start_opened = λ v e. extends_opened sp w.opened news sp.start opens.extends (s.start_opened v e);
  in_range = λ k h. let a = s.in_range k h in let b = opens.extends.longer in omega arith;
  once = s.once;
  busy_taken = λ v k h. s.busy_taken v k (put_none w.busy worker v k h).1;
  busy_alone = λ u v k a b. s.busy_alone u v k (put_none w.busy worker u k a).1 (put_none w.busy worker v k b).1;
  done_listed = λ k d. rw (same k d.taken) (listed k (back k d));
  done_opened = λ k c v d. rw (same k d.taken) (λ h e. opened k c v h e (back k d));
  no_goal = λ e k h. rw (same k h) (s.no_goal may.going k h);
  goal = λ k e. let going = may.going in absurd (cc);
}
  where
    cs : List (Child S)
    cs = children_of (sp.grow (at sp w.opened i).state)

    news : List (Opened S)
    news = open_all sp i cs w.opened

    opens : Opens sp i cs w.opened news
    opens = opens_all sp i cs w.opened

    taken : Contains w.taken i
    taken = s.busy_taken worker i may.holds

    same : (k : ℕ) → Contains w.taken k → at sp news k ≡ at sp w.opened k
    same k h = opens.extends.same k (s.in_range k h)

    grows : Grows sp w (finished sp w worker i)
    grows = grows_done sp w worker i s

    done : IsDone sp (finished sp w worker i) i
    done = record {
      taken = taken;
      at_rest = λ v h. let p = put_none w.busy worker v i h in p.0 (s.busy_alone v worker i p.1 may.holds);
      no_goal = rw (same i taken) (s.no_goal may.going i taken);
    }

    made : (k : ℕ) → k < length news → (k < length w.opened) ⊎ (length w.opened ≤ k) → IsStart sp news k ⊎ MadeByDone sp (finished sp w worker i) k
    made k h (inl a) = made_grows sp w (finished sp w worker i) k s grows a (s.made k a)
    made k h (inr a) = let low = s.in_range i taken in inr (record { parent = i; lower = omega arith; done = done; entry = rw (same i taken) (opens.made k a h) })

    back : (k : ℕ) → IsDone sp (finished sp w worker i) k → (k ≡ i) ⊎ IsDone sp w k
    back k d = ⊎_elim inl (λ other. inr (record {
      taken = d.taken;
      at_rest = λ v h. d.at_rest v (put_other w.busy worker None v (λ (e : v ≡ worker). other (same_Some k i (sym h ∙ ap w.busy e ∙ may.holds))) ∙ h);
      no_goal = rw (← same k d.taken) d.no_goal;
    })) (cases_eq k i)

    listed : (k : ℕ) → (k ≡ i) ⊎ IsDone sp w k → IsListed (sp.grow (at sp w.opened k).state)
    listed k (inl e) = rw e may.listed
    listed k (inr d) = s.done_listed k d

    opened : (k : ℕ) (c : Child S) (v : ℕ) → Contains (children_of (sp.grow (at sp w.opened k).state)) c → sp.value c.state ≡ Some v → (k ≡ i) ⊎ IsDone sp w k → WasOpened sp news c.state
    opened k c v h e (inl same) = opens.all c v (subst (λ t. Contains (children_of (sp.grow (at sp w.opened t).state)) c) same h) e
    opened k c v h e (inr d) = extends_opened sp w.opened news c.state opens.extends (s.done_opened k c v d h e)

-- An instance leads out of the width.
grows_wide : {S : Type 0} (sp : Space S) (w : World S) (i n : ℕ) → Grows sp w (record w { ending = AtWide i n })
grows_wide sp w i n = record { extends = extends_refl sp w.opened; taken = λ k h. h; done = λ k d. record { taken = d.taken; at_rest = d.at_rest; no_goal = d.no_goal } }

sound_wide : {S : Type 0} (sp : Space S) (w : World S) (worker i n : ℕ) → Sound sp w → MayWide sp w worker i n → Sound sp (record w { ending = AtWide i n })
sound_wide {S} sp w worker i n s may = record {
  apart = s.apart;
  valued = s.valued;
  made = λ k h. made_grows sp w z k s grows h (s.made k h);
  start_opened = s.start_opened;
  in_range = s.in_range;
  once = s.once;
  busy_taken = s.busy_taken;
  busy_alone = s.busy_alone;
  done_listed = λ k d. s.done_listed k (back k d);
  done_opened = λ k c v d. s.done_opened k c v (back k d);
  no_goal = λ e k h. absurd (cc);
  goal = λ k e. absurd (cc);
}
  where
    z : World S
    z = record w { ending = AtWide i n }

    grows : Grows sp w z
    grows = grows_wide sp w i n

    back : (k : ℕ) → IsDone sp z k → IsDone sp w k
    back k d = record { taken = d.taken; at_rest = d.at_rest; no_goal = d.no_goal }

-- Every entry that may come keeps all this, and the world grows by it.
pub next_grows : {S : Type 0} (sp : Space S) (budget workers : ℕ) (w : World S) (e : Entry) → Sound sp w → May sp budget workers w e → Grows sp w (next sp w e)
next_grows {S} sp budget workers w (Take worker i) s may = go (eqb (at sp w.opened i).value 0)
  where
    go : (b : Bool) → Grows sp w (took b w worker i)
    go true = grows_goal sp w worker i
    go false = grows_busy sp budget workers w worker i may
next_grows sp budget workers w (Done worker i) s may = grows_done sp w worker i s
next_grows sp budget workers w (Wide worker i n) s may = grows_wide sp w i n

pub next_sound : {S : Type 0} (sp : Space S) (budget workers : ℕ) (w : World S) (e : Entry) → Sound sp w → May sp budget workers w e → Sound sp (next sp w e)
next_sound {S} sp budget workers w (Take worker i) s may = go (eqb (at sp w.opened i).value 0) refl
  where
    go : (b : Bool) → eqb (at sp w.opened i).value 0 ≡ b → Sound sp (took b w worker i)
    go true e = sound_goal sp budget workers w worker i s may (eqb-true (at sp w.opened i).value 0 e)
    go false e = sound_busy sp budget workers w worker i s may (eqb-false (at sp w.opened i).value 0 e)
next_sound sp budget workers w (Done worker i) s may = sound_done sp w worker i s may
next_sound sp budget workers w (Wide worker i n) s may = sound_wide sp w worker i n s may

-- Nothing is taken in the first world, and only the start is opened.
sound_first : {S : Type 0} (sp : Space S) (value : Option ℕ) → sp.value sp.start ≡ value → Sound sp (record { opened = opened_first sp value; taken = []; busy = λ v. None; ending = Going })
sound_first {S} sp value e = record {
  apart = apart value;
  valued = valued value e;
  made = made value;
  start_opened = λ v h. opened value e v h;
  in_range = λ i h. absurd (not_in_nil i h);
  once = λ i j d low h. absurd (omega arith);
  busy_taken = λ v i h. absurd (none-some i h);
  busy_alone = λ u v i h k. absurd (none-some i h);
  done_listed = λ i d. absurd (not_in_nil i d.taken);
  done_opened = λ i c v d h k. absurd (not_in_nil i d.taken);
  no_goal = λ h i k. absurd (not_in_nil i k);
  goal = λ i h. absurd (cc);
}
  where
    apart : (v : Option ℕ) → Apart sp (opened_first sp v)
    apart None i j hi hj e = absurd (omega arith)
    apart (Some v) i j hi hj e = omega arith

    valued : (v : Option ℕ) → sp.value sp.start ≡ v → Valued sp (opened_first sp v)
    valued None e i h = absurd (omega arith)
    valued (Some v) e zero h = e
    valued (Some v) e (suc i) h = absurd (omega arith)

    made : (v : Option ℕ) → (i : ℕ) → i < length (opened_first sp v) → IsStart sp (opened_first sp v) i ⊎ MadeByDone sp (record { opened = opened_first sp v; taken = []; busy = λ v. None; ending = Going }) i
    made None i h = absurd (omega arith)
    made (Some v) zero h = inl (record { maker_is = refl; state_is = refl })
    made (Some v) (suc i) h = absurd (omega arith)

    opened : (v : Option ℕ) → sp.value sp.start ≡ v → (u : ℕ) → sp.value sp.start ≡ Some u → WasOpened sp (opened_first sp v) sp.start
    opened None e u h = absurd (none-some u (sym e ∙ h))
    opened (Some v) e u h = (0, omega arith, refl)

pub begin_sound : {S : Type 0} (sp : Space S) → Sound sp (begin sp)
begin_sound sp = sound_first sp (sp.value sp.start) refl

pub after_sound : {S : Type 0} (sp : Space S) (budget workers : ℕ) (w : World S) (entries : List Entry) → Sound sp w → LegalFrom sp budget workers w entries → Sound sp (after sp w entries)
after_sound sp budget workers w [] s legal = s
after_sound sp budget workers w (e ∷ entries) s legal = after_sound sp budget workers (next sp w e) entries (next_sound sp budget workers w e s legal.0) legal.1

pub after_grows : {S : Type 0} (sp : Space S) (budget workers : ℕ) (w : World S) (entries : List Entry) → Sound sp w → LegalFrom sp budget workers w entries → Grows sp w (after sp w entries)
after_grows sp budget workers w [] s legal = grows_refl sp w
after_grows sp budget workers w (e ∷ entries) s legal = grows_trans sp w (next sp w e) (after sp (next sp w e) entries) (next_grows sp budget workers w e s legal.0) (after_grows sp budget workers (next sp w e) entries (next_sound sp budget workers w e s legal.0) legal.1)

pub legal_sound : {S : Type 0} (sp : Space S) (budget workers : ℕ) (entries : List Entry) → Legal sp budget workers entries → Sound sp (world sp entries)
legal_sound sp budget workers entries legal = after_sound sp budget workers (begin sp) entries (begin_sound sp) legal

pub apart_states : {S : Type 0} (sp : Space S) (os : List (Opened S)) → Apart sp os → AllDifferent (map (λ o. o.state) os)
apart_states {S} sp os apart i j d low h e = go (length-map os (λ (o : Opened S). o.state))
  where
    here : (k : ℕ) → k < length os → get_or (map (λ o. o.state) os) k d ≡ (at sp os k).state
    here k l = get_or-map (λ (o : Opened S). o.state) os k (record { state = sp.start; value = 0; maker = Start }) d l

    go : length (map (λ (o : Opened S). o.state) os) ≡ length os → ⊥
    go size = let b : j < length os = omega arith in let a : i < length os = omega arith in
        let same : i ≡ j = apart i j a b (sym (here i a) ∙ e ∙ here j b) in omega arith

-- Number 0 is the start.
pub first_is_start : {S : Type 0} (sp : Space S) (w : World S) → Sound sp w → 0 < length w.opened → IsStart sp w.opened 0
first_is_start {S} sp w s low = ⊎_elim (λ (start : IsStart sp w.opened 0). start) (λ (made : MadeByDone sp w 0). let l = made.lower in absurd (omega arith)) (s.made 0 low)
