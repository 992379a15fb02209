-- One take after the other: what keeps a search under way, and what ends it.
use Rattle.std.proofs.Common.{◌≡◌, ℕ, ◌+◌, ◌<◌, ◌≤◌, ◌⊎◌, ◌++◌, Bool, true, false, cond, eqb, List, [], ◌∷◌, Option, Some, None, length, get_or, set, refl, sym, ap, ◌∙◌, inl, inr, ⊎_elim, subst, arith}
use Rattle.std.proofs.lemmas.Bool.{cases_Bool}
use Rattle.std.proofs.lemmas.List.{length-map, length_push}
use Rattle.mf_model.specs.declared.task.TypedTask.{TypedTask}
use Rattle.mf_model.specs.declared.state.PlainState.{PlainState}
use Rattle.mf_search.specs.declared.entry.Entry.{Entry}
use Rattle.mf_search.specs.declared.entry.Entry.TheVariants.{Take, Done}
use Rattle.mf_search.specs.declared.status.Status.TheVariants.{Plan, NoPlan, Budget}
use Rattle.mf_search.specs.Space.{Space}
use Rattle.mf_search.specs.World.{Opened, World, AtGoal, Legal, IsOpen, KeyAtMost, MayTake, MayDone, at, mark_rank, put, finished, next, open_all, world}
use Rattle.mf_search.proofs.Keeping.{value_at, open_at, columns_take}
use Rattle.mf_search.proofs.OneStep.{legal_push, world_push, next_goal, next_take}
use Rattle.mf_search.proofs.Sound.{legal_sound}
use Rattle.mf_plain.specs.declared.history.History.{History}
use Rattle.mf_plain.specs.declared.progress.Progress.{Progress}
use Rattle.mf_plain.specs.PlainSpace.{space_of, children_in}
use Rattle.mf_plain.specs.Searches.{IsSearched, world_of}
use Rattle.mf_plain.specs.UnderWay.{Tracks, TakenBelow, IsUnderWay, IsLeast}
use Rattle.mf_plain.proofs.Marks.{unmarked}

-- The columns are as long as the opened states are many.
pub values_len : (task : TypedTask) (budget takes : ℕ) (p : Progress) → IsUnderWay task budget takes p → length p.history.values ≡ length (world_of task p.history).opened
values_len task budget takes p u = ap length u.columns.values_are ∙ length-map (world_of task p.history).opened (λ o. o.value)

pub flags_len : (task : TypedTask) (budget takes : ℕ) (p : Progress) → IsUnderWay task budget takes p → length p.taken.items ≡ length p.history.values
flags_len task budget takes p u = u.columns.flags_len ∙ sym (values_len task budget takes p u)

-- A state that isn't flagged is open, and the other way round.
is_open : (task : TypedTask) (budget takes : ℕ) (p : Progress) (i : ℕ) → IsUnderWay task budget takes p → i < length p.history.values → get_or p.taken.items i false ≡ false → IsOpen (world_of task p.history) i
is_open task budget takes p i u h f = open_at (world_of task p.history) p.history.rows p.history.values p.history.makers p.taken.items i u.columns (rw (sym (values_len task budget takes p u)) h) f

not_flagged : (task : TypedTask) (budget takes : ℕ) (p : Progress) (i : ℕ) → IsUnderWay task budget takes p → IsOpen (world_of task p.history) i → (i < length p.history.values) × (get_or p.taken.items i false ≡ false)
not_flagged task budget takes p i u o =
    (rw (values_len task budget takes p u) o.0, ⊎_elim (λ (t : get_or p.taken.items i false ≡ true). absurd (o.1 ((u.columns.flags_are i o.0).0 t))) (λ f. f) (cases_Bool (get_or p.taken.items i false)))

-- The least open state by its value is the one of least key.
key_from : (sp : Space PlainState) (os : List (Opened PlainState)) (i j : ℕ) → mark_rank (at sp os i).maker ≡ 1 → mark_rank (at sp os j).maker ≡ 1 → ((at sp os i).value < (at sp os j).value) ⊎ ((at sp os i).value ≡ (at sp os j).value) × (i ≤ j) → KeyAtMost (at sp os i) i (at sp os j) j
key_from sp os i j a b (inl l) = inl l
key_from sp os i j a b (inr e) = inr (inr (e.0, a ∙ sym b, e.1))

pub may_take : (task : TypedTask) (budget takes : ℕ) (p : Progress) (i : ℕ) → IsUnderWay task budget takes p → takes < budget → IsLeast p.history.values p.taken.items (length p.history.values) (Some i) → MayTake (space_of task) budget 1 (world_of task p.history) 1 i
may_take task budget takes p i u room least = record {
  going = u.going;
  low = omega arith;
  high = omega arith;
  idle = u.idle 1;
  in_budget = rw u.count room;
  is_open = is_open task budget takes p i u least.0 least.1;
  least = λ j o.
      let n = not_flagged task budget takes p j u o in
      let open_i = is_open task budget takes p i u least.0 least.1 in
      key_from (space_of task) (world_of task p.history).opened i j (unmarked task p.history.entries i) (unmarked task p.history.entries j)
      (rw (
        value_at (space_of task) (world_of task p.history).opened (world_of task p.history).taken p.history.rows p.history.values p.history.makers p.taken.items i 0 u.columns open_i.0,
        value_at (space_of task) (world_of task p.history).opened (world_of task p.history).taken p.history.rows p.history.values p.history.makers p.taken.items j 0 u.columns o.0,
      )
      (least.2 j n.0 n.1));
  permit = λ v j h. let idle = u.idle v in absurd (cc);
}

-- No state is open.
pub at_end : (task : TypedTask) (budget takes : ℕ) (p : Progress) → IsUnderWay task budget takes p → IsLeast p.history.values p.taken.items (length p.history.values) None → IsSearched task budget (record { history = p.history; status = NoPlan })
at_end task budget takes p u least = record {
  legal = u.legal;
  answers = (u.going, u.idle, λ i h. (u.columns.flags_are i h).0 (least i (rw (values_len task budget takes p u) h)));
  kept = record { rows = u.columns.states_are; values = u.columns.values_are; makers = u.columns.makers_are };
}

-- A state is open, and the budget is spent.
pub at_budget : (task : TypedTask) (budget : ℕ) (p : Progress) (i : ℕ) → IsUnderWay task budget budget p → IsLeast p.history.values p.taken.items (length p.history.values) (Some i) → IsSearched task budget (record { history = p.history; status = Budget })
at_budget task budget p i u least = record {
  legal = u.legal;
  answers = (u.going, u.idle, u.count, (i, is_open task budget budget p i u least.0 least.1));
  kept = record { rows = u.columns.states_are; values = u.columns.values_are; makers = u.columns.makers_are };
}

least_value : (task : TypedTask) (budget takes : ℕ) (p : Progress) (i : ℕ) → IsUnderWay task budget takes p → i < length p.history.values → (at (space_of task) (world_of task p.history).opened i).value ≡ get_or p.history.values i 0
least_value task budget takes p i u h = value_at (space_of task) (world_of task p.history).opened (world_of task p.history).taken p.history.rows p.history.values p.history.makers p.taken.items i 0 u.columns (rw (sym (values_len task budget takes p u)) h)

abbrev with_entry : History → Entry → History
with_entry history entry = record history { entries = history.entries ++ entry ∷ [] }

-- A goal was taken.
pub after_goal : (task : TypedTask) (budget takes : ℕ) (p q : Progress) (i : ℕ) → IsUnderWay task budget takes p → takes < budget → IsLeast p.history.values p.taken.items (length p.history.values) (Some i) → get_or p.history.values i 0 ≡ 0 → q.history ≡ record p.history { entries = p.history.entries ++ Take 1 i ∷ [] } → IsSearched task budget (record { history = q.history; status = Plan i })
after_goal task budget takes p q i u room least zero_value e =
    subst (λ (h : History). IsSearched task budget (record { history = h; status = Plan i })) (sym e) (record {
      legal = legal_push (space_of task) budget 1 p.history.entries (Take 1 i) u.legal (may_take task budget takes p i u room least);
      answers = rw same refl;
      kept = rw same (record { rows = u.columns.states_are; values = u.columns.values_are; makers = u.columns.makers_are });
    })
  where
    same : world_of task (with_entry p.history (Take 1 i)) ≡ record (world_of task p.history) { taken = (world_of task p.history).taken ++ i ∷ []; ending = AtGoal i }
    same = world_push (space_of task) p.history.entries (Take 1 i) ∙ next_goal (space_of task) (world_of task p.history) 1 i (least_value task budget takes p i u least.0 ∙ zero_value)

-- A state was taken and is done.
abbrev taking : World PlainState → ℕ → World PlainState
taking w i = record w { taken = w.taken ++ i ∷ []; busy = put w.busy 1 (Some i) }

idle_again : (busy : ℕ → Option ℕ) (i v : ℕ) → busy v ≡ None → put (put busy 1 (Some i)) 1 None v ≡ None
idle_again busy i v e = go (eqb v 1)
  where
    go : (b : Bool) → cond b None (cond b (Some i) (busy v)) ≡ None
    go true = refl
    go false = e

pub after_step : (task : TypedTask) (budget takes : ℕ) (p mid q : Progress) (i : ℕ) → IsUnderWay task budget takes p → takes < budget → IsLeast p.history.values p.taken.items (length p.history.values) (Some i) → (get_or p.history.values i 0 ≡ 0 → ⊥) →
    mid.history ≡ record p.history { entries = p.history.entries ++ Take 1 i ∷ [] } → mid.taken.items ≡ set p.taken.items i true → q.history.entries ≡ mid.history.entries ++ Done 1 i ∷ [] →
    ((os : List (Opened PlainState)) (taken : List ℕ) → TakenBelow taken os → Tracks os taken mid → Tracks (open_all (space_of task) i (children_in task (at (space_of task) os i).state) os) taken q) →
    IsUnderWay task budget (takes + 1) q
after_step task budget takes p mid q i u room least above m f d opens = record {
  legal = rw entries legal_q;
  going = rw whole u.going;
  idle = rw whole (λ v. idle_again w.busy i v (u.idle v));
  columns = rw whole (opens w.opened (w.taken ++ i ∷ []) below (rw (ap (λ (h : History). h.rows) m, ap (λ (h : History). h.values) m, ap (λ (h : History). h.makers) m, f) (columns_take w.opened w.taken p.history.rows p.history.values p.history.makers p.taken.items i inside u.columns)));
  count = rw whole (length_push w.taken i ∙ ap (λ n. n + 1) u.count);
}
  where
    w : World PlainState
    w = world_of task p.history

    es : List Entry
    es = p.history.entries ++ Take 1 i ∷ []

    inside : i < length w.opened
    inside = rw (sym (values_len task budget takes p u)) least.0

    legal_mid : Legal (space_of task) budget 1 es
    legal_mid = legal_push (space_of task) budget 1 p.history.entries (Take 1 i) u.legal (may_take task budget takes p i u room least)

    after_take : world (space_of task) es ≡ taking w i
    after_take = world_push (space_of task) p.history.entries (Take 1 i) ∙ next_take (space_of task) w 1 i (λ e. above (sym (least_value task budget takes p i u least.0) ∙ e))

    may_done : MayDone (space_of task) (world (space_of task) es) 1 i
    may_done = rw after_take (record { going = u.going; holds = refl; listed = tt })

    legal_q : Legal (space_of task) budget 1 (es ++ Done 1 i ∷ [])
    legal_q = legal_push (space_of task) budget 1 es (Done 1 i) legal_mid may_done

    entries : q.history.entries ≡ es ++ Done 1 i ∷ []
    entries = d ∙ ap (λ (h : History). h.entries ++ Done 1 i ∷ []) m

    whole : world_of task q.history ≡ finished (space_of task) (taking w i) 1 i
    whole = ap (world (space_of task)) entries ∙ world_push (space_of task) es (Done 1 i) ∙ ap (λ (x : World PlainState). next (space_of task) x (Done 1 i)) after_take

    below : TakenBelow (w.taken ++ i ∷ []) w.opened
    below = subst (λ (x : World PlainState). TakenBelow x.taken x.opened) after_take (λ k h. (legal_sound (space_of task) budget 1 es legal_mid).in_range k h)
