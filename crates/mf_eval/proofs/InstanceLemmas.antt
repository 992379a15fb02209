-- An instance of a task has an object for each parameter of its action.
use Rattle.std.proofs.Common.{◌≡◌, refl, ◌∙◌, ap, subst, ℕ, ◌+◌, ◌≤◌, List, [], ◌∷◌, ◌++◌, map, length, Some, arith, slice_get, append_assoc, length-append}
use Rattle.std.specs.List.{All, flat_map, Contains}
use Rattle.std.proofs.lemmas.List.Elements.{All-nil, All-cons, All-append, All-contains, All-head, All-tail, All-map, All-weaker}
use Rattle.mf_model.specs.declared.state.Instance.{Instance}
use Rattle.mf_model.specs.declared.task.Action.{Action}
use Rattle.mf_model.specs.declared.task.TypedTask.{TypedTask}
use Rattle.mf_model.specs.Application.{instances_from, instances_of}
use Rattle.mf_model.specs.Objects.{bindings, having, kinds_of}
use Rattle.mf_model.specs.VariableScopes.{action_scope_of, BindsFewVariables}

all-flat_map : {X A : Type 0} (P : A → Type 0) (f : X → List A) → ((x : X) → All P (f x)) → (xs : List X) → All P (flat_map f xs)
all-flat_map P f h [] = All-nil P
all-flat_map P f h (x ∷ xs) = All-append P (f x) (flat_map f xs) (h x) (all-flat_map P f h xs)

-- a binding has one more object for each list of types
bindings-length : (objects : List (List ℕ)) (variables : List (List ℕ)) (b : List ℕ) → All (λ arguments. length arguments ≡ length b + length variables) (bindings objects variables b)
bindings-length objects [] b = All-cons (λ arguments. length arguments ≡ length b + 0) b [] (omega arith) (All-nil (λ arguments. length arguments ≡ length b + 0))
bindings-length objects (types ∷ others) b =
    all-flat_map (λ arguments. length arguments ≡ length b + length (types ∷ others)) (λ o. bindings objects others (b ++ o ∷ []))
    (λ o. All-weaker (λ arguments. length arguments ≡ length (b ++ o ∷ []) + length others) (λ arguments. length arguments ≡ length b + length (types ∷ others))
    (λ arguments h. omega (arith, length-append b (o ∷ []), h)) (bindings objects others (b ++ o ∷ [])) (bindings-length objects others (b ++ o ∷ [])))
    (having types 0 objects)

-- the instance binds few variables, those of its action among them
abbrev pub BindsFew : List Action → Instance → Type 0
BindsFew actions step = length step.objects + action_scope_of (slice_get actions step.action) ≤ 64

behind : (front : List Action) (action : Action) (actions : List Action) → slice_get (front ++ action ∷ actions) (length front) ≡ Some action
behind [] action actions = refl
behind (a ∷ front) action actions = behind front action actions

of_one : (all : List Action) (n : ℕ) (action : Action) → slice_get all n ≡ Some action → BindsFewVariables action → (arguments : List ℕ) → length arguments ≡ 0 + length action.parameters → BindsFew all (record { action = n; objects = arguments })
of_one all n action found few arguments h = rw found (omega (arith, h, few))

all_few : (objects : List (List ℕ)) (front actions : List Action) (n : ℕ) → n ≡ length front → All BindsFewVariables actions → All (BindsFew (front ++ actions)) (instances_from objects n actions)
all_few objects front [] n e few = All-nil (BindsFew (front ++ []))
all_few objects front (action ∷ actions) n e few =
    let all : List Action = front ++ action ∷ actions in
    let found : slice_get all n ≡ Some action = ap (slice_get all) e ∙ behind front action actions in
    let next : n + 1 ≡ length (front ++ action ∷ []) = omega (arith, length-append front (action ∷ [])) in
    All-append (BindsFew all) (map (λ arguments. record { action = n; objects = arguments }) (bindings objects action.parameters [])) (instances_from objects (n + 1) actions)
    (All-map (BindsFew all) (λ arguments. record { action = n; objects = arguments }) (bindings objects action.parameters [])
    (All-weaker (λ arguments. length arguments ≡ 0 + length action.parameters) (λ arguments. BindsFew all (record { action = n; objects = arguments }))
    (of_one all n action found (All-head BindsFewVariables action actions few)) (bindings objects action.parameters []) (bindings-length objects action.parameters [])))
    (subst (λ (xs : List Action). All (BindsFew xs) (instances_from objects (n + 1) actions)) (append_assoc front (action ∷ []) actions)
    (all_few objects (front ++ action ∷ []) actions (n + 1) next (All-tail BindsFewVariables action actions few)))

-- each instance of the task binds few variables where each action does
pub binds_few : (task : TypedTask) (step : Instance) → All BindsFewVariables task.actions → Contains (instances_of task) step → BindsFew task.actions step
binds_few task step few within = All-contains (BindsFew task.actions) (instances_of task) step (all_few (kinds_of task) [] task.actions 0 refl few) within
