-- The terms of costs that the instances of a task change are defined at the start.
use Rattle.std.proofs.Common.{◌≡◌, ℕ, zero, suc, ◌+◌, ◌<◌, ◌≤◌, ◌⊎◌, inl, inr, Bool, true, false, not, ◌&&◌, ◌||◌, nat_eq, List, [], ◌∷◌, ◌++◌, map, length, slice_index_or, Some, slice_get, refl, sym, subst, ap, ◌∙◌, arith}
use Rattle.std.specs.Prelude.{nat_le, nat_lt, if◌then◌else◌, is_some, Contains}
use Rattle.std.specs.List.{AllByRecursion, flat_map, list_all}
use Rattle.std.proofs.lemmas.Bool.{and_from, and_parts, cases_lt, eq-eqb, eqb-true, false≢true, ltb-true, or_cases, or_left, or_right}
use Rattle.std.proofs.lemmas.List.{get_or_past, length-append}
use Rattle.std.proofs.lemmas.List.Elements.{All-contains, All-from_recursion, All-get_or, All-map, recursion_from_All}
use Rattle.std.proofs.lemmas.List.Folds.{list_any-append}
use Rattle.mf_model.specs.declared.task.Action.{Action}
use Rattle.mf_model.specs.declared.task.Effect.{Effect, fold-Effect}
use Rattle.mf_model.specs.declared.task.Effect.TheOpen.{Effect-F}
use Rattle.mf_model.specs.declared.task.Effect.TheFolds.{ind-Effect, fold-roll-Effect, map-Effect}
use Rattle.mf_model.specs.declared.task.Object.{Object}
use Rattle.mf_model.specs.declared.task.Symbol.{Symbol}
use Rattle.mf_model.specs.declared.task.Term.{Term}
use Rattle.mf_model.specs.declared.task.Term.TheVariants.{Variable, Object as ObjectTerm}
use Rattle.mf_model.specs.declared.task.TypedTask.{TypedTask}
use Rattle.mf_model.specs.declared.state.Instance.{Instance}
use Rattle.mf_model.specs.Application.{Change, Added, Deleted, Changed, firing_of, firing_step, instances_from, instances_of}
use Rattle.mf_model.specs.Functions.{all_lie_under, argument_types, declared_types, fitting_step, is_cost, is_fitting, is_never_read, is_only_summed, is_started, lie_under, parameters_of_function, types_of_object}
use Rattle.mf_model.specs.Meaning.{holds_in}
use Rattle.mf_model.specs.Objects.{ancestors, bindings, kinds_of, meets, member, parents_of}
use Rattle.mf_model.specs.Plain.{all_true}
use Rattle.mf_model.specs.ResolvedTask.{IsResolvedTask}
use Rattle.mf_model.specs.Resolution.{takes}
use Rattle.mf_model.specs.States.{start_of, value_at}
use Rattle.mf_model.specs.ValidTasks.{IsValidAction, are_type_lists, are_types, are_valid_terms, counts_of, effect_step, is_valid_cond, is_valid_effect, is_valid_expr, is_valid_term, is_valid_use, parameter_count}
use Rattle.mf_model.specs.Views.{Look, object_of, objects_of}
use Rattle.mf_meaning.proofs.ActionsOf.{all_at}
use Rattle.mf_bridge.proofs.Ancestry.{ancestors_closed}
use Rattle.mf_bridge.proofs.TypedArguments.{are_of, are_of_at, binding_passes, bindings_fit, is_of}
use Rattle.mf_bridge.proofs.Lists.{all_append, at_found}

-- types

meets_more : (ns xs ys : List ℕ) → ((a : ℕ) → member a xs ≡ true → member a ys ≡ true) → meets ns xs ≡ true → meets ns ys ≡ true
meets_more [] xs ys more e = absurd (false≢true e)
meets_more (n ∷ ns) xs ys more e = by (or_cases (member n xs) (meets ns xs) e) (meets_more ns xs ys more)
  where
    by : (member n xs ≡ true) ⊎ (meets ns xs ≡ true) → (meets ns xs ≡ true → meets ns ys ≡ true) → (member n ys || meets ns ys) ≡ true
    by (inl here) rest = or_left (member n ys) (meets ns ys) (more n here)
    by (inr later) rest = or_right (member n ys) (meets ns ys) (rest later)

member_front : (a : ℕ) (xs ys : List ℕ) → member a xs ≡ true → member a (xs ++ ys) ≡ true
member_front a xs ys e = list_any-append (λ m. nat_eq a m) xs ys ∙ or_left (member a xs) (member a ys) e

member_back : (a : ℕ) (xs ys : List ℕ) → member a ys ≡ true → member a (xs ++ ys) ≡ true
member_back a xs ys e = list_any-append (λ m. nat_eq a m) xs ys ∙ or_right (member a xs) (member a ys) e

-- how many parameters a function has
count_is : (functions : List Symbol) (f n : ℕ) → takes (slice_get (map parameter_count functions) f) n ≡ true → length (declared_types (slice_get functions f)) ≡ n
count_is [] f n e = absurd (false≢true e)
count_is (s ∷ functions) zero n e = eqb-true (length s.parameters) n e
count_is (s ∷ functions) (suc f) n e = count_is functions f n e

module _ (task : TypedTask) (resolved : IsResolvedTask task) where
  abbrev above : ℕ → List ℕ
  above = ancestors (parents_of task) (length task.types)

  abbrev kind : Object → List ℕ
  kind o = flat_map (ancestors (parents_of task) (length task.types)) o.types

  abbrev IsClosed : List ℕ → Type 0
  IsClosed types = (u a : ℕ) → member u types ≡ true → member a (ancestors (parents_of task) (length task.types) u) ≡ true → member a types ≡ true

  inside : (t : ℕ) → slice_index_or (parents_of task) t 0 < length task.types
  inside t = by (cases_lt t (length (parents_of task)))
    where
      by : (t < length (parents_of task)) ⊎ (length (parents_of task) ≤ t) → slice_index_or (parents_of task) t 0 < length task.types
      by (inl h) = All-get_or (λ n. n < length task.types) (parents_of task) t 0 h (All-map (λ n. n < length task.types) (λ t. t.parent) task.types resolved.valid.parents)
      by (inr h) = let past = get_or_past (parents_of task) t 0 h in let some = resolved.valid.some_type in omega (arith, past, some)

  closed_types : (types : List ℕ) → list_all (λ n. nat_lt n (length task.types)) types ≡ true → IsClosed (flat_map (ancestors (parents_of task) (length task.types)) types)
  closed_types [] all u a one other = absurd (false≢true one)
  closed_types (t ∷ types) all u a one other =
      let both = and_parts (nat_lt t (length task.types)) (list_all (λ n. nat_lt n (length task.types)) types) all in
      let split = sym (list_any-append (λ m. nat_eq u m) (above t) (flat_map above types)) ∙ one in
      by (ancestors_closed (parents_of task) (length task.types) inside t (ltb-true t (length task.types) both.0) u a) (closed_types types both.1 u a) (or_cases (member u (above t)) (member u (flat_map above types)) split)
    where
      by : (member u (above t) ≡ true → member a (above u) ≡ true → member a (above t) ≡ true) → (member u (flat_map above types) ≡ true → member a (above u) ≡ true → member a (flat_map above types) ≡ true) →
          (member u (above t) ≡ true) ⊎ (member u (flat_map above types) ≡ true) → member a (above t ++ flat_map above types) ≡ true
      by here rest (inl e) = member_front a (above t) (flat_map above types) (here e other)
      by here rest (inr e) = member_back a (above t) (flat_map above types) (rest e other)

  closed_at : (objects : List Object) → AllByRecursion (λ o. are_types (counts_of task) o.types ≡ true) objects → (o : ℕ) → IsClosed (slice_index_or (map kind objects) o [])
  closed_at [] all o u a one other = absurd (false≢true one)
  closed_at (object ∷ objects) all zero u a one other = closed_types object.types all.0 u a one other
  closed_at (object ∷ objects) all (suc o) u a one other = closed_at objects all.1 o u a one other

  closed_kind : (o : ℕ) → IsClosed (slice_index_or (kinds_of task) o [])
  closed_kind = closed_at task.objects (recursion_from_All (λ o. are_types (counts_of task) o.types ≡ true) task.objects resolved.valid.object_types)

  through : (own : List ℕ) → IsClosed own → (declared types : List ℕ) → lie_under task declared types ≡ true → meets types own ≡ true → meets declared own ≡ true
  through own closed declared [] under e = absurd (false≢true e)
  through own closed declared (t ∷ types) under e =
      let both = and_parts (meets declared (above t)) (lie_under task declared types) under in
      by (meets_more declared (above t) own) (through own closed declared types both.1) (or_cases (member t own) (meets types own) e)
    where
      by : (((a : ℕ) → member a (above t) ≡ true → member a own ≡ true) → meets declared (above t) ≡ true → meets declared own ≡ true) → (meets types own ≡ true → meets declared own ≡ true) →
          (member t own ≡ true) ⊎ (meets types own ≡ true) → meets declared own ≡ true
      by more rest (inl here) = more (λ a e. closed t a here e) (and_parts (meets declared (above t)) (lie_under task declared types) under).0
      by more rest (inr later) = rest later

  some_type : (declared types : List ℕ) → meets (0 ∷ []) (flat_map above types) ≡ true → lie_under task declared types ≡ true → meets declared (flat_map above types) ≡ true
  some_type declared [] top under = absurd (false≢true top)
  some_type declared (t ∷ types) top under =
      meets_more declared (above t) (above t ++ flat_map above types) (λ a e. member_front a (above t) (flat_map above types) e) (and_parts (meets declared (above t)) (lie_under task declared types) under).0

  object_fits : (declared : List ℕ) (objects : List Object) (number : ℕ) → number < length objects → AllByRecursion (λ own. meets (0 ∷ []) own ≡ true) (map kind objects) → lie_under task declared (types_of_object (slice_get objects number)) ≡ true → meets declared (slice_index_or (map kind objects) number []) ≡ true
  object_fits declared [] number h top under = absurd (omega (arith, h))
  object_fits declared (object ∷ objects) zero h top under = some_type declared object.types top.0 under
  object_fits declared (object ∷ objects) (suc number) h top under = object_fits declared objects number (omega (arith, h)) top.1 under

  term_fits : (scope : List (List ℕ)) (b : List ℕ) → are_of (kinds_of task) scope b ≡ true → (term : Term) → is_valid_term (counts_of task) (length scope) term ≡ true → (declared : List ℕ) → lie_under task declared (argument_types task scope term) ≡ true → is_of (kinds_of task) declared (object_of b term) ≡ true
  term_fits scope b fit (Variable place) valid declared under =
      through (slice_index_or (kinds_of task) (slice_index_or b place 0) []) (closed_kind (slice_index_or b place 0)) declared (slice_index_or scope place []) under (are_of_at (kinds_of task) scope b place fit (ltb-true place (length scope) valid))
  term_fits scope b fit (ObjectTerm number) valid declared under =
      object_fits declared task.objects number (ltb-true number (length task.objects) valid) (recursion_from_All (λ own. meets (0 ∷ []) own ≡ true) (kinds_of task) resolved.top) under

  terms_fit : (scope : List (List ℕ)) (b : List ℕ) → are_of (kinds_of task) scope b ≡ true → (parameters : List (List ℕ)) (terms : List Term) → length parameters ≡ length terms → are_valid_terms (counts_of task) (length scope) terms ≡ true → all_lie_under task parameters (map (argument_types task scope) terms) ≡ true → are_of (kinds_of task) parameters (objects_of b terms) ≡ true
  terms_fit scope b fit [] [] long valid under = refl
  terms_fit scope b fit [] (t ∷ terms) long valid under = absurd (omega (arith, long))
  terms_fit scope b fit (p ∷ parameters) [] long valid under = absurd (omega (arith, long))
  terms_fit scope b fit (p ∷ parameters) (t ∷ terms) long valid under =
      let v = and_parts (is_valid_term (counts_of task) (length scope) t) (are_valid_terms (counts_of task) (length scope) terms) valid in
      let u = and_parts (lie_under task p (argument_types task scope t)) (all_lie_under task parameters (map (argument_types task scope) terms)) under in
      and_from (is_of (kinds_of task) p (object_of b t)) (are_of (kinds_of task) parameters (objects_of b terms)) (term_fits scope b fit t v.0 p u.0) (terms_fit scope b fit parameters terms (omega (arith, long)) v.1 u.1)

  -- effects

  abbrev fitting : ℕ → Effect → List (List ℕ) → Bool
  fitting f = fold-Effect (List (List ℕ) → Bool) (fitting_step task f)

  abbrev pub FitsCost : Change → Type 0
  FitsCost (Added predicate os) = Unit {0}
  FitsCost (Deleted predicate os) = Unit {0}
  FitsCost (Changed op function os value) = is_cost task function ≡ true → are_of (kinds_of task) (parameters_of_function task function) os ≡ true

  module _ (look : Look) where
    abbrev fired : Effect → List ℕ → List Change
    fired = firing_of (kinds_of task) look

    abbrev Claim : Effect → Type 0
    Claim e = (scope : List (List ℕ)) (b : List ℕ) → are_of (kinds_of task) scope b ≡ true → (n : ℕ) → n ≡ length scope → is_valid_effect (counts_of task) e n ≡ true → ((f : ℕ) → is_cost task f ≡ true → fitting f e scope ≡ true) → AllByRecursion FitsCost (firing_of (kinds_of task) look e b)

    abbrev Piece : Type 0
    Piece = (e : Effect) × Claim e

    abbrev effects_in : List Piece → List Effect
    effects_in ps = map (λ p. p.0) ps

    change_fits : (scope : List (List ℕ)) (b : List ℕ) → are_of (kinds_of task) scope b ≡ true → (n : ℕ) → n ≡ length scope → (f : ℕ) (terms : List Term) → is_valid_use (counts_of task).functions (counts_of task) n f terms ≡ true → (not (nat_eq f f) || all_lie_under task (parameters_of_function task f) (map (argument_types task scope) terms)) ≡ true → are_of (kinds_of task) (parameters_of_function task f) (objects_of b terms) ≡ true
    change_fits scope b fit n long f terms valid under =
        let v = and_parts (takes (slice_get (map parameter_count task.functions) f) (length terms)) (are_valid_terms (counts_of task) n terms) valid in
        let lies = sym (ap (λ (x : Bool). not x || all_lie_under task (parameters_of_function task f) (map (argument_types task scope) terms)) (eq-eqb f f refl)) ∙ under in
        terms_fit scope b fit (parameters_of_function task f) terms (count_is task.functions f (length terms) v.0) (ap (λ k. are_valid_terms (counts_of task) k terms) (sym long) ∙ v.1) lies

    group : (ps : List Piece) (scope : List (List ℕ)) (b : List ℕ) → are_of (kinds_of task) scope b ≡ true → (n : ℕ) → n ≡ length scope → all_true (map (λ part. part n) (map (is_valid_effect (counts_of task)) (effects_in ps))) ≡ true → ((f : ℕ) → is_cost task f ≡ true → list_all (λ part. part scope) (map (fitting f) (effects_in ps)) ≡ true) →
        AllByRecursion FitsCost (flat_map (λ part. part b) (map (firing_of (kinds_of task) look) (effects_in ps)))
    group [] scope b fit n long valid under = tt
    group (p ∷ ps) scope b fit n long valid under =
        let v = and_parts (is_valid_effect (counts_of task) p.0 n) (all_true (map (λ part. part n) (map (is_valid_effect (counts_of task)) (effects_in ps)))) valid in
        all_append FitsCost (fired p.0 b) (flat_map (λ part. part b) (map (firing_of (kinds_of task) look) (effects_in ps)))
        (p.1 scope b fit n long v.0 (λ f cost. (and_parts (fitting f p.0 scope) (list_all (λ part. part scope) (map (fitting f) (effects_in ps))) (under f cost)).0))
        (group ps scope b fit n long v.1 (λ f cost. (and_parts (fitting f p.0 scope) (list_all (λ part. part scope) (map (fitting f) (effects_in ps))) (under f cost)).1))

    each : (p : Piece) (scope : List (List ℕ)) (n : ℕ) → n ≡ length scope → is_valid_effect (counts_of task) p.0 n ≡ true → ((f : ℕ) → is_cost task f ≡ true → fitting f p.0 scope ≡ true) → (bs : List (List ℕ)) → AllByRecursion (λ c. are_of (kinds_of task) scope c ≡ true) bs →
        AllByRecursion FitsCost (flat_map (firing_of (kinds_of task) look p.0) bs)
    each p scope n long valid under [] fit = tt
    each p scope n long valid under (b ∷ bs) fit =
        all_append FitsCost (fired p.0 b) (flat_map (firing_of (kinds_of task) look p.0) bs) (p.1 scope b fit.0 n long valid under) (each p scope n long valid under bs fit.1)

    when : (holds : Bool) (changes : List Change) → AllByRecursion FitsCost changes → AllByRecursion FitsCost (if holds then changes else [])
    when true changes all = all
    when false changes all = tt

    Layer : Effect-F Effect → Type 0
    Layer x = (scope : List (List ℕ)) (b : List ℕ) → are_of (kinds_of task) scope b ≡ true → (n : ℕ) → n ≡ length scope → effect_step (counts_of task) (map-Effect Effect (ℕ → Bool) (is_valid_effect (counts_of task)) x) n ≡ true → ((f : ℕ) → is_cost task f ≡ true → fitting_step task f (map-Effect Effect (List (List ℕ) → Bool) (fold-Effect (List (List ℕ) → Bool) (fitting_step task f)) x) scope ≡ true) →
        AllByRecursion FitsCost (firing_step (kinds_of task) look (map-Effect Effect (List ℕ → List Change) (firing_of (kinds_of task) look) x) b)

    level : (y : Effect-F Piece) → Layer (map-Effect Piece Effect (λ p. p.0) y)
    unfolding Layer
    level (Effect-F.Add predicate terms) scope b fit n long valid under = (tt, tt)
    level (Effect-F.Delete predicate terms) scope b fit n long valid under = (tt, tt)
    level (Effect-F.Change op function terms value) scope b fit n long valid under =
        (λ cost. change_fits scope b fit n long function terms (and_parts (is_valid_use (counts_of task).functions (counts_of task) n function terms) (is_valid_expr (counts_of task) false n value) valid).0 (under function cost), tt)
    level (Effect-F.Group parts) scope b fit n long valid under = group parts scope b fit n long valid under
    level (Effect-F.Each variables part) scope b fit n long valid under =
        let inner = (and_parts (are_type_lists (counts_of task) variables && nat_le (n + length variables) 64) (is_valid_effect (counts_of task) part.0 (n + length variables)) valid).1 in
        each part (scope ++ variables) (n + length variables) (ap (λ k. k + length variables) long ∙ sym (length-append scope variables)) inner under (bindings (kinds_of task) variables b) (bindings_fit (kinds_of task) variables scope b fit)
    level (Effect-F.When condition part) scope b fit n long valid under =
        when (holds_in (kinds_of task) look condition b) (fired part.0 b) (part.1 scope b fit n long (and_parts (is_valid_cond (counts_of task) condition n) (is_valid_effect (counts_of task) part.0 n) valid).1 under)

    costs_fit : (e : Effect) → Claim e
    unfolding Layer
    costs_fit = ind-Effect Claim (λ x y is scope b fit n long valid under.
        let v = ap (λ (test : ℕ → Bool). test n) (fold-roll-Effect (ℕ → Bool) (effect_step (counts_of task)) x) in
        let at_layer = subst (λ z. Layer z) is (level y) scope b fit n long (sym v ∙ valid) (λ f cost. sym (ap (λ (test : List (List ℕ) → Bool). test scope) (fold-roll-Effect (List (List ℕ) → Bool) (fitting_step task f) x)) ∙ under f cost) in
        subst (AllByRecursion FitsCost) (sym (ap (λ (f : List ℕ → List Change). f b) (fold-roll-Effect (List ℕ → List Change) (firing_step (kinds_of task) look) x))) at_layer)

  -- instances

  abbrev ArgumentsFit : Instance → Type 0
  ArgumentsFit instance = (action : Action) → slice_get task.actions instance.action ≡ Some action → are_of (kinds_of task) action.parameters instance.objects ≡ true

  of_one : (n : ℕ) (action : Action) → slice_get task.actions n ≡ Some action → (bs : List (List ℕ)) → AllByRecursion (λ c. are_of (kinds_of task) action.parameters c ≡ true) bs → AllByRecursion ArgumentsFit (map (λ arguments. record { action = n; objects = arguments }) bs)
  of_one n action found [] fit = tt
  of_one n action found (b ∷ bs) fit = (own, of_one n action found bs fit.1)
    where
      own : (other : Action) → slice_get task.actions n ≡ Some other → are_of (kinds_of task) other.parameters b ≡ true
      own other e =
          let both : Some action ≡ Some other = sym found ∙ e in
          let same : action ≡ other = cc in
          ap (λ (a : Action). are_of (kinds_of task) a.parameters b) (sym same) ∙ fit.0

  all_fit : (n : ℕ) (actions : List Action) → ((k : ℕ) → slice_get task.actions (n + k) ≡ slice_get actions k) → AllByRecursion ArgumentsFit (instances_from (kinds_of task) n actions)
  all_fit n [] found = tt
  all_fit n (action ∷ actions) found =
      let zeroth : n + 0 ≡ n = omega arith in
      let own : slice_get task.actions n ≡ Some action = ap (slice_get task.actions) (sym zeroth) ∙ found 0 in
      all_append ArgumentsFit (map (λ arguments. record { action = n; objects = arguments }) (bindings (kinds_of task) action.parameters [])) (instances_from (kinds_of task) (n + 1) actions)
      (of_one n action own (bindings (kinds_of task) action.parameters []) (bindings_fit (kinds_of task) action.parameters [] [] refl))
      (all_fit (n + 1) actions (λ k. let next : n + 1 + k ≡ n + suc k = omega arith in ap (slice_get task.actions) next ∙ found (suc k)))

  pub arguments_fit : (instance : Instance) → Contains (instances_of task) instance → ArgumentsFit instance
  arguments_fit instance contained =
      All-contains ArgumentsFit (instances_of task) instance (All-from_recursion ArgumentsFit (instances_of task) (all_fit 0 task.actions (λ k. let same : 0 + k ≡ k = omega arith in ap (slice_get task.actions) same))) contained

  -- the terms of costs are defined at the start

  parts_of_cost : (f : ℕ) → is_cost task f ≡ true → (is_fitting task f ≡ true) × (is_started task f ≡ true)
  parts_of_cost f cost =
      let whole = and_parts ((is_never_read task f && is_only_summed task f) && is_fitting task f) (is_started task f) cost in
      ((and_parts (is_never_read task f && is_only_summed task f) (is_fitting task f) whole.0).1, whole.1)

  pub cost_started : (f : ℕ) (os : List ℕ) → is_cost task f ≡ true → are_of (kinds_of task) (parameters_of_function task f) os ≡ true → is_some (value_at (start_of task).values f os) ≡ true
  cost_started f os cost fit =
      binding_passes (kinds_of task) (λ objects. is_some (value_at (start_of task).values f objects)) (parameters_of_function task f) [] os (parts_of_cost f cost).1 fit

  pub instance_costs : (look : Look) (instance : Instance) (action : Action) → Contains (instances_of task) instance → slice_get task.actions instance.action ≡ Some action → AllByRecursion FitsCost (firing_of (kinds_of task) look action.effect instance.objects)
  instance_costs look instance action contained found =
      let valid = at_found (IsValidAction (counts_of task)) task.actions instance.action action (recursion_from_All (IsValidAction (counts_of task)) task.actions resolved.valid.actions) found in
      costs_fit look action.effect action.parameters instance.objects (arguments_fit instance contained action found) (length action.parameters) refl valid.effect
      (λ f cost. all_at (λ action. fold-Effect (List (List ℕ) → Bool) (fitting_step task f) action.effect action.parameters) task.actions instance.action action (parts_of_cost f cost).0 found)
