-- Walks from the start: each opened state is reached, and no steps leave closed states.
use Rattle.std.proofs.Common.{◌≡◌, ℕ, zero, suc, ◌<◌, ◌⊎◌, ◌++◌, List, [], ◌∷◌, Option, Some, None, Contains, length, refl, sym, ap, ◌∙◌, inl, inr, subst, arith}
use Rattle.std.proofs.lemmas.Option.{same_Some}
use Rattle.mf_search.specs.declared.entry.Entry.{Entry}
use Rattle.mf_search.specs.Space.{Child, Space, children_of, Leads}
use Rattle.mf_search.specs.World.{Opened, World, WasOpened, at, Legal, world}
use Rattle.mf_search.specs.Reaching.{HasValue, GoesOn, OnwardWalk, IsReached, KeptByOpening, KeptByLists, Along, LeadsToGoalBy, IsReachedBy, Covers}
use Rattle.mf_search.specs.Answers.{Walk, InfiniteIsDead, IsClosed, with_step, trace, plan_to}
use Rattle.mf_search.proofs.Sound.{IsStart, MadeByDone, Sound, legal_sound}
use Rattle.mf_search.proofs.Rebuilding.{within_itself, done_expanded}

onward_push : {S : Type 0} (sp : Space S) (x : S) (instances : List ℕ) (y : S) (c : Child S) → OnwardWalk sp x instances y → GoesOn sp y → Contains (children_of (sp.grow y)) c → OnwardWalk sp x (instances ++ c.instance ∷ []) c.state
onward_push {S} sp x [] y c e on h = (subst (GoesOn sp) (sym e) on, (c, subst (λ z. Contains (children_of (sp.grow z)) c) (sym e) h, refl, refl))
onward_push sp x (n ∷ instances) y c w on h = (w.0, (w.1.0, w.1.1, w.1.2, onward_push sp w.1.0.state instances y c w.1.3 on h))

pub onward_is_walk : {S : Type 0} (sp : Space S) (x : S) (instances : List ℕ) (y : S) → OnwardWalk sp x instances y → Walk sp x instances y
onward_is_walk sp x [] y e = e
onward_is_walk sp x (n ∷ instances) y w = (w.1.0, w.1.1, w.1.2, onward_is_walk sp w.1.0.state instances y w.1.3)

pub start_reached : {S : Type 0} (sp : Space S) → IsReached sp sp.start
start_reached sp = ([], refl)

pub reached_onward : {S : Type 0} (sp : Space S) (x y : S) → IsReached sp x → GoesOn sp x → Leads sp x y → IsReached sp y
reached_onward {S} sp x y r on leads = subst (IsReached sp) leads.2 (r.0 ++ leads.0.instance ∷ [], onward_push sp sp.start r.0 x leads.0 r.1 on leads.1)

-- The trace to an opened state leads to it from the start.
trace_goes : {S : Type 0} (sp : Space S) (w : World S) (fuel i : ℕ) → Sound sp w → i < fuel → i < length w.opened → OnwardWalk sp sp.start (trace sp w.opened fuel i) (at sp w.opened i).state
trace_goes sp w zero i s low h = absurd (omega arith)
trace_goes {S} sp w (suc fuel) i s low h = go (s.made i h) (λ p below inside. trace_goes sp w fuel p s below inside)
  where
    go : IsStart sp w.opened i ⊎ MadeByDone sp w i → ((p : ℕ) → p < fuel → p < length w.opened → OnwardWalk sp sp.start (trace sp w.opened fuel p) (at sp w.opened p).state) → OnwardWalk sp sp.start (with_step (trace sp w.opened fuel) (at sp w.opened i).maker) (at sp w.opened i).state
    go (inl start) ih = rw start.maker_is (sym start.state_is)
    go (inr made) ih =
        let a = made.lower in
        let inside : made.parent < length w.opened = omega arith in
        let on : GoesOn sp (at sp w.opened made.parent).state = record { finite = ((at sp w.opened made.parent).value, s.valued made.parent inside); expanded = done_expanded sp w w.opened made.parent s (within_itself sp w s) made.done } in
        rw (made.entry.maker_is, ← made.entry.state_is) (onward_push sp sp.start (trace sp w.opened fuel made.parent) (at sp w.opened made.parent).state made.entry.child (ih made.parent (omega arith) inside) on made.entry.stands)

pub trace_reaches : {S : Type 0} (sp : Space S) (w : World S) (i : ℕ) → Sound sp w → i < length w.opened → OnwardWalk sp sp.start (plan_to sp w.opened i) (at sp w.opened i).state
trace_reaches sp w i s low = trace_goes sp w (length w.opened) i s low low

pub trace_walks : {S : Type 0} (sp : Space S) (w : World S) (i : ℕ) → Sound sp w → i < length w.opened → Walk sp sp.start (plan_to sp w.opened i) (at sp w.opened i).state
trace_walks sp w i s low = onward_is_walk sp sp.start (plan_to sp w.opened i) (at sp w.opened i).state (trace_reaches sp w i s low)

pub opened_reached : {S : Type 0} (sp : Space S) (w : World S) (x : S) → Sound sp w → WasOpened sp w.opened x → IsReached sp x
opened_reached sp w x s k = subst (IsReached sp) k.2 (plan_to sp w.opened k.0, trace_reaches sp w k.0 s k.1)

-- What is kept from state to state holds of each state that is reached.
front_value : {S : Type 0} (sp : Space S) (x : S) (instances : List ℕ) (y : S) → OnwardWalk sp x instances y → HasValue sp y → HasValue sp x
front_value sp x [] y e h = subst (HasValue sp) (sym e) h
front_value sp x (n ∷ instances) y w h = w.0.finite

kept_along : {S : Type 0} (sp : Space S) (Holds : S → Type 0) (x : S) (instances : List ℕ) (y : S) → KeptByOpening sp Holds → Holds x → OnwardWalk sp x instances y → HasValue sp y → Holds y
kept_along sp Holds x [] y kept h e finite = subst Holds e h
kept_along sp Holds x (n ∷ instances) y kept h w finite = kept_along sp Holds w.1.0.state instances y kept (kept x w.1.0.state h w.0 (w.1.0, w.1.1, refl) (front_value sp w.1.0.state instances y w.1.3 finite)) w.1.3 finite

kept_to_any : {S : Type 0} (sp : Space S) (Holds : S → Type 0) (x : S) (instances : List ℕ) (y : S) → KeptByLists sp Holds → Holds x → OnwardWalk sp x instances y → Holds y
kept_to_any sp Holds x [] y kept h e = subst Holds e h
kept_to_any sp Holds x (n ∷ instances) y kept h w = kept_to_any sp Holds w.1.0.state instances y kept (kept x w.1.0.state h w.0 (w.1.0, w.1.1, refl)) w.1.3

pub kept_finite : {S : Type 0} (sp : Space S) (Holds : S → Type 0) (x : S) → Holds sp.start → KeptByOpening sp Holds → IsReached sp x → HasValue sp x → Holds x
kept_finite sp Holds x start kept r finite = kept_along sp Holds sp.start r.0 x kept start r.1 finite

pub kept_reached : {S : Type 0} (sp : Space S) (Holds : S → Type 0) (x : S) → Holds sp.start → KeptByLists sp Holds → IsReached sp x → Holds x
kept_reached sp Holds x start kept r = kept_to_any sp Holds sp.start r.0 x kept start r.1

pub kept_opened : {S : Type 0} (sp : Space S) (budget workers : ℕ) (entries : List Entry) (Holds : S → Type 0) (x : S) → Legal sp budget workers entries → Holds sp.start → KeptByOpening sp Holds → WasOpened sp (world sp entries).opened x → Holds x
kept_opened {S} sp budget workers entries Holds x legal start kept k =
    let s = legal_sound sp budget workers entries legal in
    kept_finite sp Holds x start kept (opened_reached sp (world sp entries) x s k) (subst (HasValue sp) k.2 ((at sp (world sp entries).opened k.0).value, s.valued k.0 k.1))

-- Steps one after the other.
along_push : {S : Type 0} (Steps : S → ℕ → S → Type 0) (x : S) (instances : List ℕ) (y : S) (n : ℕ) (z : S) → Along Steps x instances y → Steps y n z → Along Steps x (instances ++ n ∷ []) z
along_push Steps x [] y n z e h = (z, subst (λ t. Steps t n z) (sym e) h, refl)
along_push Steps x (m ∷ instances) y n z a h = (a.0, a.1, along_push Steps a.0 instances y n z a.2 h)

-- From a state among closed ones no steps lead to a goal.
closed_steps : {S : Type 0} (sp : Space S) (os : List (Opened S)) (Steps : S → ℕ → S → Type 0) (Goal : S → Type 0) (x : S) (v : ℕ) (instances : List ℕ) (y : S) → IsClosed sp os → Covers sp Steps Goal → IsReachedBy sp Steps x → sp.value x ≡ Some v → WasOpened sp os x → Along Steps x instances y → Goal y → ⊥
closed_steps {S} sp os Steps Goal x v [] y closed covers r e k a goal = (closed.expanded x k).no_goal (e ∙ ap (λ u. Some u) (covers.goals x v r e (subst Goal (sym a) goal)))
closed_steps {S} sp os Steps Goal x v (n ∷ instances) y closed covers r e k a goal =
    go (sp.value a.0) refl (λ u f h. closed_steps sp os Steps Goal a.0 u instances y closed covers next f h a.2 goal)
  where
    on : GoesOn sp x
    on = record { finite = (v, e); expanded = closed.expanded x k }

    leads : Leads sp x a.0
    leads = covers.listed x n a.0 r on a.1

    next : IsReachedBy sp Steps a.0
    next = record { reached = reached_onward sp x a.0 r.reached on leads; instances = r.instances ++ n ∷ []; along = along_push Steps sp.start r.instances x n a.0 r.along a.1 }

    go : (value : Option ℕ) → sp.value a.0 ≡ value → ((u : ℕ) → sp.value a.0 ≡ Some u → WasOpened sp os a.0 → ⊥) → ⊥
    go None f ih = covers.dead a.0 next f (instances, (y, a.2, goal))
    go (Some u) f ih = ih u f (closed.onward x a.0 u k leads f)

pub closed_has_no_goal : {S : Type 0} (sp : Space S) (os : List (Opened S)) (Steps : S → ℕ → S → Type 0) (Goal : S → Type 0) → IsClosed sp os → Covers sp Steps Goal → LeadsToGoalBy Steps Goal sp.start → ⊥
closed_has_no_goal {S} sp os Steps Goal closed covers plan = go (sp.value sp.start) refl
  where
    here : IsReachedBy sp Steps sp.start
    here = record { reached = start_reached sp; instances = []; along = refl }

    go : (value : Option ℕ) → sp.value sp.start ≡ value → ⊥
    go None e = covers.dead sp.start here e plan
    go (Some v) e = closed_steps sp os Steps Goal sp.start v plan.0 plan.1.0 closed covers here e (closed.start v e) plan.1.1 plan.1.2

-- Steps by successor lists, which make walks.
abbrev pub ListStep : {S : Type 0} → Space S → S → ℕ → S → Type 0
ListStep {S} sp x n y = (c : Child S) × Contains (children_of (sp.grow x)) c × (c.instance ≡ n) × (c.state ≡ y)

pub walk_along : {S : Type 0} (sp : Space S) (x : S) (instances : List ℕ) (y : S) → Walk sp x instances y → Along (ListStep sp) x instances y
walk_along sp x [] y e = e
walk_along sp x (n ∷ instances) y w = (w.0.state, (w.0, w.1, w.2, refl), walk_along sp w.0.state instances y w.3)

pub along_walk : {S : Type 0} (sp : Space S) (x : S) (instances : List ℕ) (y : S) → Along (ListStep sp) x instances y → Walk sp x instances y
along_walk sp x [] y e = e
along_walk sp x (n ∷ instances) y a = (a.1.0, a.1.1, a.1.2, subst (λ z. Walk sp z instances y) (sym a.1.3) (along_walk sp a.0 instances y a.2))

-- A space covers its own walks, where infinite is dead.
pub covers_walks : {S : Type 0} (sp : Space S) → InfiniteIsDead sp → Covers sp (ListStep sp) (λ y. sp.value y ≡ Some 0)
covers_walks {S} sp dead = record {
  listed = λ x n y r on s. (s.0, s.1, s.3);
  goals = λ x v r e goal. same_Some v 0 (sym e ∙ goal);
  dead = λ x r e plan. dead x r.reached e (plan.0, (plan.1.0, along_walk sp x plan.0 plan.1.0 plan.1.1, plan.1.2));
}
