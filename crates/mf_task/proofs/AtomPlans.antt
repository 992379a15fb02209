-- The layers, relaxed plans, values and helpful instances of tasks whose preconditions are lists of atoms and whose effects
-- have no conditions.
use Rattle.std.proofs.Common.{◌≡◌, ℕ, zero, suc, ◌+◌, Bool, true, false, ◌&&◌, not, if◌then◌else◌, nat_eq, List, [], ◌∷◌, ◌++◌, map, filter, Option, Some, None, refl, sym, ap, ap₂, ◌∙◌}
use Rattle.std.specs.Prelude.{⊤, find, slice_get, take}
use Rattle.std.specs.List.{AllByRecursion, flat_map, fold, list_any}
use Rattle.mf_task.specs.declared.form.Form.{Form}
use Rattle.mf_task.specs.declared.ground.GroundCond.{GroundCond}
use Rattle.mf_task.specs.declared.ground.GroundCond.TheVariants as node
use Rattle.mf_task.specs.declared.ground.GroundAction.{GroundAction}
use Rattle.mf_task.specs.declared.task.Task.{Task}
use Rattle.mf_task.specs.declared.value.HeuristicKind.TheVariants.{Ff}
use Rattle.mf_task.specs.HeuristicValues.{helpful_of, length_at, live_value, state_value}
use Rattle.mf_task.specs.Layers.{FiringEffect, Layer, Want, all_layers, all_levels, first_layer, firing_at, firing_from, goal_level, has_range, layer_at, layers_to, level_of, listed, next_layer_by}
use Rattle.mf_task.specs.LimitClosure.{is_dead}
use Rattle.mf_task.specs.RelaxedPlan.{AtomNeed, FormNeed, LayerNeed, Need, Relaxation, Relaxed, Service, Serving, Step, at_layer, at_this_layer, condition_of_action, effect_fits, form_service, helpful_from, helpful_instances, is_counted_part, is_helpful, needs_after, needs_of_effect, plan_length, relaxation_of, relaxed_at, relaxed_from, relaxed_plan, required, selected_in, served, serves_atom, take_term, want_for, with_assign}
use Rattle.mf_task.specs.Rows.{Sight}
use Rattle.mf_task.proofs.AtomTasks.{AtomAction, action_of, applicable-atoms, atoms_applicable, atoms_firing, atoms_needs, first_layers, firing-atoms, later_by, required-atoms, required-true}

abbrev served_form_by : List FiringEffect → Relaxation → ℕ → Want → Form → Serving
served_form_by firing r k want form =
    fold (take_term r (at_layer r k) want firing)
    (fold (with_assign r (at_layer r k) firing) (record { form = form; selected = []; ended = false }) (filter (λ p. not (has_range (at_layer r k) p.term)) form.parts))
    (filter (is_counted_part (at_layer r k)) form.parts)

-- a need served by these effects
abbrev served_by : List FiringEffect → Relaxation → ℕ → Need → Service
served_by firing r k (AtomNeed asked atom) = record { selected = listed (find (λ effect. serves_atom asked atom effect.change) firing); rests = [] }
served_by firing r k (FormNeed strict form) = form_service r k strict (served_form_by firing r k (want_for strict) form)

module _ (task : Task) (actions : List AtomAction) (are : task.actions ≡ map action_of actions) (sight : Sight) where
  abbrev fires_in : List Layer → List FiringEffect
  fires_in layers = atoms_firing layers 0 actions

  fires : (layers : List Layer) → firing_at task layers ≡ fires_in layers
  fires layers = ap (λ (all : List GroundAction). firing_from task layers 0 all) are ∙ firing-atoms task layers 0 actions

  -- layers

  abbrev pub atoms_layers : ℕ → List Layer
  atoms_layers zero = first_layer sight ∷ []
  atoms_layers (suc k) = atoms_layers k ++ next_layer_by task (layer_at sight (atoms_layers k) k) (fires_in (atoms_layers k)) ∷ []

  layers_are : (k : ℕ) → layers_to task sight k ≡ atoms_layers k
  layers_are zero = refl
  layers_are (suc k) =
      ap (λ (layers : List Layer). layers ++ next_layer_by task (layer_at sight layers k) (firing_at task layers) ∷ []) (layers_are k)
      ∙ ap (λ (firing : List FiringEffect). atoms_layers k ++ next_layer_by task (layer_at sight (atoms_layers k) k) firing ∷ []) (fires (atoms_layers k))

  abbrev pub relaxation_in : List Layer → Relaxation
  relaxation_in layers = record { task = task; sight = sight; layers = layers }

  -- the relaxed plan

  abbrev needs_at : ℕ → List ℕ
  needs_at n = flat_map (λ a. a.needs) (listed (slice_get actions n))

  module _ (layers : List Layer) where
    abbrev r : Relaxation
    r = relaxation_in layers

    abbrev services_here : ℕ → List LayerNeed → List Service
    services_here k needs = map (λ n. served_by (fires_in (take (k + 1) layers)) r k n.need) (at_this_layer (k + 1) needs)

    served_is : (k : ℕ) (need : Need) → served r k need ≡ served_by (fires_in (take (k + 1) layers)) r k need
    served_is k (AtomNeed asked atom) = ap (λ firing. served_by firing r k (AtomNeed asked atom)) (fires (take (k + 1) layers))
    served_is k (FormNeed strict form) = ap (λ firing. served_by firing r k (FormNeed strict form)) (fires (take (k + 1) layers))

    services_are : (k : ℕ) (needs : List LayerNeed) → map (λ n. served r k n.need) needs ≡ map (λ n. served_by (fires_in (take (k + 1) layers)) r k n.need) needs
    services_are k [] = refl
    services_are k (n ∷ ns) = ap₂ (λ (s : Service) (ss : List Service). s ∷ ss) (served_is k n.need) (services_are k ns)

    abbrev asks : FiringEffect → List LayerNeed
    asks effect = flat_map (λ a. atoms_needs r a.needs) (listed (slice_get actions effect.action))

    abbrev HasNoCondition : FiringEffect → Type 0
    HasNoCondition effect = effect.condition ≡ node.Fact true

    found : (acts : List AtomAction) (n : ℕ) → flat_map (required r) (condition_of_action (map action_of acts) n ++ node.Fact true ∷ []) ≡ flat_map (λ a. atoms_needs r a.needs) (listed (slice_get acts n))
    found [] n = ap (λ needs. needs ++ []) (required-true r)
    found (a ∷ others) zero = ap₂ (λ (needs none : List LayerNeed). needs ++ (none ++ [])) (required-atoms r a.needs) (required-true r)
    found (a ∷ others) (suc n) = found others n

    one_asks : (effect : FiringEffect) → HasNoCondition effect → needs_of_effect r effect ≡ asks effect
    one_asks effect none =
        ap (λ (all : List GroundAction). flat_map (required r) (condition_of_action all effect.action ++ effect.condition ∷ [])) are
        ∙ ap (λ (c : GroundCond). flat_map (required r) (condition_of_action (map action_of actions) effect.action ++ c ∷ [])) none
        ∙ found actions effect.action

    all_ask : (effects : List FiringEffect) → AllByRecursion HasNoCondition effects → flat_map (needs_of_effect r) effects ≡ flat_map asks effects
    all_ask [] none = refl
    all_ask (e ∷ es) none = ap₂ (λ (ns ms : List LayerNeed). ns ++ ms) (one_asks e none.0) (all_ask es none.1)

    abbrev needs_below : ℕ → List LayerNeed → List LayerNeed
    needs_below k needs = needs ++ (flat_map asks (selected_in (services_here k needs)) ++ flat_map (λ s. s.rests) (services_here k needs))

    abbrev steps_below : ℕ → List LayerNeed → List Step → List Step
    steps_below k needs steps = steps ++ map (λ effect. record { layer = k; action = effect.action }) (selected_in (services_here k needs))

    abbrev pub atoms_relaxed : ℕ → List LayerNeed → List Step → Relaxed
    atoms_relaxed zero needs steps = record { steps = steps; needs = needs }
    atoms_relaxed (suc k) needs steps = atoms_relaxed k (needs_below k needs) (steps_below k needs steps)

    -- the effects that are selected have no conditions
    abbrev pub AreUnguarded : ℕ → List LayerNeed → Type 0
    AreUnguarded zero needs = ⊤
    AreUnguarded (suc k) needs = AllByRecursion HasNoCondition (selected_in (services_here k needs)) × AreUnguarded k (needs_below k needs)

    pub relaxed_is : (k : ℕ) (needs : List LayerNeed) (steps : List Step) → AreUnguarded k needs → relaxed_from r k needs steps ≡ atoms_relaxed k needs steps
    relaxed_is zero needs steps free = refl
    relaxed_is (suc k) needs steps free =
        ap (λ (here : List Service). relaxed_from r k (needs_after r needs here) (steps ++ map (λ effect. record { layer = k; action = effect.action }) (selected_in here))) (services_are k (at_this_layer (k + 1) needs))
        ∙ ap (λ asked. relaxed_from r k (needs ++ (asked ++ flat_map (λ s. s.rests) (services_here k needs))) (steps_below k needs steps)) (all_ask (selected_in (services_here k needs)) free.0)
        ∙ relaxed_is k (needs_below k needs) (steps_below k needs steps) free.1

    -- helpful instances

    abbrev is_helpful_here : List LayerNeed → ℕ → AtomAction → Bool
    is_helpful_here needs n a =
        atoms_applicable task sight a
        && list_any (λ effect. nat_eq n effect.action && list_any (λ need. effect_fits r effect need.need) needs) (fires_in (take 1 layers))

    abbrev pub helpful_here : List LayerNeed → ℕ → List AtomAction → List ℕ
    helpful_here needs n [] = []
    helpful_here needs n (a ∷ others) = if is_helpful_here needs n a then n ∷ helpful_here needs (n + 1) others else helpful_here needs (n + 1) others

    helpful_is : (needs : List LayerNeed) (n : ℕ) (a : AtomAction) → is_helpful r needs n (action_of a) ≡ is_helpful_here needs n a
    helpful_is needs n a =
        ap₂ (λ (b : Bool) (firing : List FiringEffect). b && list_any (λ effect. nat_eq n effect.action && list_any (λ need. effect_fits r effect need.need) needs) firing) (applicable-atoms task sight a) (fires (take 1 layers))

    helpful_are : (needs : List LayerNeed) (n : ℕ) (acts : List AtomAction) → helpful_from r needs n (map action_of acts) ≡ helpful_here needs n acts
    helpful_are needs n [] = refl
    helpful_are needs n (a ∷ others) = ap₂ (λ (b : Bool) (rest : List ℕ). if b then n ∷ rest else rest) (helpful_is needs n a) (helpful_are needs (n + 1) others)

    -- values

    abbrev pub level_here : Option ℕ
    level_here = all_levels (map (level_of task layers) task.goal)

    abbrev pub goal_needs : List LayerNeed
    goal_needs = flat_map (required r) task.goal

    module _ (alive : is_dead task sight ≡ false) (all : all_layers task sight ≡ layers) (level : ℕ) (has_level : level_here ≡ Some level) (needs : List LayerNeed) (needed : goal_needs ≡ needs) (free : AreUnguarded level needs) where
      goal_has_level : goal_level task sight ≡ Some level
      goal_has_level = ap (λ (ls : List Layer). all_levels (map (level_of task ls) task.goal)) all ∙ has_level

      plan_is : relaxed_plan task sight ≡ atoms_relaxed level needs []
      plan_is =
          ap (relaxed_at (relaxation_of task sight)) goal_has_level
          ∙ ap (λ (ls : List Layer). relaxed_from (relaxation_in ls) level (flat_map (required (relaxation_in ls)) task.goal) []) all
          ∙ ap (λ (ns : List LayerNeed). relaxed_from r level ns []) needed
          ∙ relaxed_is level needs [] free

      pub value_is : state_value Ff task sight ≡ Some (plan_length (atoms_relaxed level needs []))
      value_is =
          ap (λ (b : Bool). if b then None else Some (live_value Ff task sight)) alive
          ∙ ap (λ (l : Option ℕ). Some (length_at task sight l)) goal_has_level
          ∙ ap (λ plan. Some (plan_length plan)) plan_is

      pub helpful_instances_are : helpful_of Ff task sight ≡ helpful_here (at_this_layer 1 (atoms_relaxed level needs []).needs) 0 actions
      helpful_instances_are =
          ap (λ (b : Bool). if b then [] else helpful_instances task sight) alive
          ∙ ap (λ (plan : Relaxed). helpful_from (relaxation_of task sight) (at_this_layer 1 plan.needs) 0 task.actions) plan_is
          ∙ ap (λ (ls : List Layer). helpful_from (relaxation_in ls) (at_this_layer 1 (atoms_relaxed level needs []).needs) 0 task.actions) all
          ∙ ap (λ (acts : List GroundAction). helpful_from r (at_this_layer 1 (atoms_relaxed level needs []).needs) 0 acts) are
          ∙ helpful_are (at_this_layer 1 (atoms_relaxed level needs []).needs) 0 actions

  -- all layers begin with the first ones
  pub all_begin : (more n : ℕ) → later_by more n ≡ 1000 → (rest : List Layer) × (all_layers task sight ≡ atoms_layers n ++ rest)
  all_begin more n far =
      let begin = first_layers task sight n more in
      (begin.0, ap (λ (k : ℕ). layers_to task sight k) (sym far) ∙ begin.1 ∙ ap (λ (ls : List Layer). ls ++ begin.0) (layers_are n))

  -- what is so of a state whatever layers follow the first n: the level of the goal, its needs, the length of the relaxed plan and
  -- the helpful instances
  pub record HasPlan (goal_level_in : List Layer → Option ℕ) (goal_needs_in : List Layer → List LayerNeed) (n level value : ℕ) (needs : List LayerNeed) (helpful : List ℕ) : Type 0 where
    pub level_is : (layers : List Layer) → level_here layers ≡ goal_level_in layers
    pub needs_are : (layers : List Layer) → goal_needs layers ≡ goal_needs_in layers
    pub is_alive : is_dead task sight ≡ false
    pub has_level : (rest : List Layer) → goal_level_in (atoms_layers n ++ rest) ≡ Some level
    pub has_needs : (rest : List Layer) → goal_needs_in (atoms_layers n ++ rest) ≡ needs
    pub free : (rest : List Layer) → AreUnguarded (atoms_layers n ++ rest) level needs
    pub has_length : (rest : List Layer) → plan_length (atoms_relaxed (atoms_layers n ++ rest) level needs []) ≡ value
    pub are_helpful : (rest : List Layer) → helpful_here (atoms_layers n ++ rest) (at_this_layer 1 (atoms_relaxed (atoms_layers n ++ rest) level needs []).needs) 0 actions ≡ helpful

  module _ {goal_level_in : List Layer → Option ℕ} {goal_needs_in : List Layer → List LayerNeed} {n level value : ℕ} {needs : List LayerNeed} {helpful : List ℕ} (has : HasPlan goal_level_in goal_needs_in n level value needs helpful) (more : ℕ) (far : later_by more n ≡ 1000) where
    abbrev rest : List Layer
    rest = (all_begin more n far).0

    abbrev all : List Layer
    all = atoms_layers n ++ rest

    pub planned_value : state_value Ff task sight ≡ Some value
    planned_value =
        value_is all has.is_alive (all_begin more n far).1 level (has.level_is all ∙ has.has_level rest) needs (has.needs_are all ∙ has.has_needs rest) (has.free rest)
        ∙ ap (λ (k : ℕ). Some k) (has.has_length rest)

    pub planned_helpful : helpful_of Ff task sight ≡ helpful
    planned_helpful =
        helpful_instances_are all has.is_alive (all_begin more n far).1 level (has.level_is all ∙ has.has_level rest) needs (has.needs_are all ∙ has.has_needs rest) (has.free rest)
        ∙ has.are_helpful rest
