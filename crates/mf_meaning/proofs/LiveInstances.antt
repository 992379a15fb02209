-- The live instances are those of all instances that pass the static tests, and the only ones that can be applicable.
use Rattle.std.proofs.Common.{◌≡◌, ℕ, zero, suc, ◌+◌, Bool, true, false, ◌&&◌, cond, List, [], ◌∷◌, ◌++◌, map, Option, Some, None, slice_get, refl, sym, subst, ap, ◌∙◌, arith}
use Rattle.std.specs.List.{Contains, filter, list_all}
use Rattle.std.proofs.lemmas.Bool.{and_parts}
use Rattle.std.proofs.lemmas.List.Elements.{filter-append, Contains-append_right}
use Rattle.mf_model.specs.declared.task.Action.{Action}
use Rattle.mf_model.specs.declared.task.TypedTask.{TypedTask}
use Rattle.mf_model.specs.declared.state.Instance.{Instance}
use Rattle.mf_model.specs.declared.state.PlainState.{PlainState}
use Rattle.mf_model.specs.Application.{changes_of, instances_from, instances_of, is_applicable, is_apart, is_defined, precondition_holds}
use Rattle.mf_model.specs.Functions.{is_static}
use Rattle.mf_model.specs.LiveInstances.{is_live_front, live_from, live_instances, static_tests}
use Rattle.mf_model.specs.Objects.{bindings, kinds_of}
use Rattle.mf_model.specs.States.{look_of, start_of}
use Rattle.mf_meaning.specs.LiveTests.{are_live_arguments, is_live}
use Rattle.mf_meaning.specs.StartValues.{HasStartAtoms}
use Rattle.mf_meaning.proofs.StaticTests.{front_is_live}

-- lists

filter-map : {X Y : Type 0} (f : X → Y) (p : Y → Bool) (q : X → Bool) → ((x : X) → p (f x) ≡ q x) → (xs : List X) → map f (filter q xs) ≡ filter p (map f xs)
filter-map f p q same [] = refl
filter-map {X} {Y} f p q same (x ∷ xs) = kept (filter-map f p q same xs) (q x) ∙ ap (λ (b : Bool). cond b (f x ∷ filter p (map f xs)) (filter p (map f xs))) (sym (same x))
  where
    kept : (map f (filter q xs) ≡ filter p (map f xs)) → (b : Bool) → map f (cond b (x ∷ filter q xs) (filter q xs)) ≡ cond b (f x ∷ filter p (map f xs)) (filter p (map f xs))
    kept rest true = ap (λ ys. f x ∷ ys) rest
    kept rest false = rest

pub contains_filter : {X : Type 0} (p : X → Bool) (xs : List X) (x : X) → Contains xs x → p x ≡ true → Contains (filter p xs) x
contains_filter p [] x within passes = absurd (omega (arith, within.1))
contains_filter {X} p (y ∷ ys) x (zero, below, is) passes =
    let here : p y ≡ true = ap p is ∙ passes in
    rw here (zero, omega arith, is)
contains_filter {X} p (y ∷ ys) x (suc k, below, is) passes = later (contains_filter p ys x (k, omega arith, is) passes) (p y)
  where
    later : Contains (filter p ys) x → (b : Bool) → Contains (cond b (y ∷ filter p ys) (filter p ys)) x
    later rest true = Contains-append_right (y ∷ []) (filter p ys) x rest
    later rest false = rest

contained_in_filter : {X : Type 0} (p : X → Bool) (xs : List X) (x : X) → Contains (filter p xs) x → Contains xs x
contained_in_filter p [] x within = within
contained_in_filter {X} p (y ∷ ys) x within = at (contained_in_filter p ys x) (p y) within
  where
    at : (Contains (filter p ys) x → Contains ys x) → (b : Bool) → Contains (cond b (y ∷ filter p ys) (filter p ys)) x → Contains (y ∷ ys) x
    at rest true (zero, below, is) = (zero, omega arith, is)
    at rest true (suc k, below, is) = Contains-append_right (y ∷ []) ys x (rest (k, omega arith, is))
    at rest false later = Contains-append_right (y ∷ []) ys x (rest later)

-- the live instances

module _ (task : TypedTask) where
  abbrev instance_with : ℕ → List ℕ → Instance
  instance_with n arguments = record { action = n; objects = arguments }

  live_is : (n : ℕ) (actions : List Action) → ((k : ℕ) → slice_get task.actions (n + k) ≡ slice_get actions k) → live_from task n actions ≡ filter (is_live task) (instances_from (kinds_of task) n actions)
  live_is n [] found = refl
  live_is n (action ∷ actions) found =
      let zeroth : n + 0 ≡ n = omega arith in
      let own = ap (λ (k : ℕ). slice_get task.actions k) (sym zeroth) ∙ found 0 in
      let all = bindings (kinds_of task) action.parameters [] in
      let here = filter-map (instance_with n) (is_live task) (is_live_front (look_of (start_of task)) (static_tests task action)) (λ arguments. ap (are_live_arguments task arguments) own) all in
      let rest = live_is (n + 1) actions (λ k. let next : n + 1 + k ≡ n + suc k = omega arith in ap (λ (m : ℕ). slice_get task.actions m) next ∙ found (suc k)) in
      ap (λ (is : List Instance). is ++ live_from task (n + 1) actions) here
      ∙ ap (λ (is : List Instance). filter (is_live task) (map (instance_with n) all) ++ is) rest
      ∙ sym (filter-append (is_live task) (map (instance_with n) all) (instances_from (kinds_of task) (n + 1) actions))

  pub live_are_filtered : live_instances task ≡ filter (is_live task) (instances_of task)
  live_are_filtered = live_is 0 task.actions (λ k. let same : 0 + k ≡ k = omega arith in ap (λ (m : ℕ). slice_get task.actions m) same)

  pub live_is_own : (instance : Instance) → Contains (live_instances task) instance → Contains (instances_of task) instance
  live_is_own instance live = contained_in_filter (is_live task) (instances_of task) instance (subst (λ (is : List Instance). Contains is instance) live_are_filtered live)

  module _ (state : PlainState) (atoms : HasStartAtoms task state) where
    holding_is_live : (objects : List ℕ) (found : Option Action) → precondition_holds task state objects found ≡ true → are_live_arguments task objects found ≡ true
    holding_is_live objects (Some action) holds = front_is_live (is_static task) (kinds_of task) (look_of state) (look_of (start_of task)) atoms action.condition objects holds
    holding_is_live objects None holds = holds

    pub applicable_is_live : (instance : Instance) → Contains (instances_of task) instance → is_applicable task state instance ≡ true → Contains (live_instances task) instance
    applicable_is_live instance own applicable =
        let changes = changes_of task state instance in
        let holds = (and_parts (precondition_holds task state instance.objects (slice_get task.actions instance.action)) (list_all (is_defined (look_of state)) changes)
        (and_parts (precondition_holds task state instance.objects (slice_get task.actions instance.action) && list_all (is_defined (look_of state)) changes) (list_all (is_apart changes) changes) applicable).0).0 in
        let live = contains_filter (is_live task) (instances_of task) instance own (holding_is_live instance.objects (slice_get task.actions instance.action) holds) in
        subst (λ (is : List Instance). Contains is instance) (sym live_are_filtered) live
