-- What a plan file writes are instances of the task, at most one for each line.
use Rattle.std.proofs.Common.{◌≡◌, refl, sym, ◌∙◌, ap, subst, ℕ, suc, zero, ◌+◌, ◌<◌, ◌≤◌, Bool, true, false, if◌then◌else◌, List, [], ◌∷◌, ◌++◌, map, length, Option, None, Some, Result, Ok, Err, IfOk, slice_get, append_assoc, length-append, arith}
use Rattle.std.specs.List.{All, Contains, flat_map, slice_index_or}
use Rattle.std.specs.Char.{to_ascii_lowercase}
use Rattle.std.specs.Str.{bytes_eq}
use Rattle.std.proofs.Math.ListN.{get_or-map}
use Rattle.std.proofs.lemmas.List.{append-nil, length-map}
use Rattle.std.proofs.lemmas.List.Elements.{All-nil, All-cons, All-append, Contains-append_left, Contains-append_right}
use Rattle.std.proofs.lemmas.List.Quantifiers.{position-Some}
use Rattle.std.proofs.lemmas.Option.{same_Some}
use Rattle.mf_model.specs.declared.state.Instance.{Instance}
use Rattle.mf_model.specs.declared.task.Action.{Action}
use Rattle.mf_model.specs.declared.task.TypedTask.{TypedTask}
use Rattle.mf_model.specs.Application.{instances_from, instances_of}
use Rattle.mf_model.specs.Objects.{bindings, having, kinds_of, meets}
use Rattle.mf_model.specs.Options.{◌>>=◌}
use Rattle.mf_model.specs.Resolution.{number_of}
use Rattle.mf_validator.specs.declared.fault.PlanFault.{PlanFault}
use Rattle.mf_validator.specs.PlanLines.{Line, Blank, Step, Bad, line_of, lines_of}
use Rattle.mf_validator.specs.PlanText.{Reads, action_names, alone, argument_of, arguments_of, by_action, fitting, folded, instance_of, joined, object_names, parameters_of, plan_of, steps_from, steps_of, with_arguments}
use Rattle.mf_validator.proofs.ArgumentLemmas.{one_behind}
use Rattle.mf_validator.proofs.LineLemmas.{few-lines}

-- ---- elements

first : {X : Type 0} (x : X) (xs : List X) → Contains (x ∷ xs) x
first x xs = (0, omega arith, refl)

mapped : {X Y : Type 0} (f : X → Y) (xs : List X) (x : X) → Contains xs x → Contains (map f xs) (f x)
mapped f xs x within = (within.0, omega (arith, within.1, length-map xs f), get_or-map f xs within.0 x ∙ ap f within.2)

at_place : {X A : Type 0} (f : X → List A) (xs : List X) (x : X) (y : A) (k : ℕ) → k < length xs → slice_index_or xs k x ≡ x → Contains (f x) y → Contains (flat_map f xs) y
at_place f [] x y k h e within = absurd (omega arith)
at_place f (z ∷ xs) x y zero h e within = Contains-append_left (f z) (flat_map f xs) y (subst (λ v. Contains (f v) y) (sym e) within)
at_place f (z ∷ xs) x y (suc k) h e within =
    let size : k < length xs = omega (arith, h) in
    Contains-append_right (f z) (flat_map f xs) y (at_place f xs x y k size e within)

-- ---- arguments

meets_none : (types : List ℕ) → meets types [] ≡ false
meets_none [] = refl
meets_none (t ∷ types) = meets_none types

behind_one : (meeting : Bool) (n : ℕ) (others : List ℕ) (x : ℕ) → Contains others x → Contains (if meeting then n ∷ others else others) x
behind_one true n others x within = Contains-append_right (n ∷ []) others x within
behind_one false n others x within = within

having-it : (types : List ℕ) (n k : ℕ) (kinds : List (List ℕ)) → meets types (slice_index_or kinds k []) ≡ true → Contains (having types n kinds) (n + k)
having-it types n k [] h = absurd (let no = meets_none types in cc)
having-it types n zero (own ∷ kinds) h =
    let same : n ≡ n + 0 = omega arith in
    subst (λ (xs : List ℕ). Contains xs (n + 0)) (sym (ap (λ t. if t then n ∷ having types (n + 1) kinds else having types (n + 1) kinds) h))
    (subst (λ m. Contains (n ∷ having types (n + 1) kinds) m) same (first n (having types (n + 1) kinds)))
having-it types n (suc k) (own ∷ kinds) h =
    let same : (n + 1) + k ≡ n + suc k = omega arith in
    behind_one (meets types own) n (having types (n + 1) kinds) (n + suc k)
    (subst (λ m. Contains (having types (n + 1) kinds) m) same (having-it types (n + 1) k kinds h))

fits_by : (task : TypedTask) (types : List ℕ) (meeting : Bool) (number object : ℕ) → meets types (slice_index_or (kinds_of task) number []) ≡ meeting → (if meeting then Some number else None) ≡ Some object
    → Contains (having types 0 (kinds_of task)) object
fits_by task types true number object h e =
    let same : 0 + number ≡ object = omega (arith, same_Some number object e) in
    subst (λ n. Contains (having types 0 (kinds_of task)) n) same (having-it types 0 number (kinds_of task) h)
fits_by task types false number object h e = cc

argument-fits : (task : TypedTask) (types : List ℕ) (found : Option ℕ) (object : ℕ) → (found >>= fitting task types) ≡ Some object → Contains (having types 0 (kinds_of task)) object
argument-fits task types None object e = cc
argument-fits task types (Some number) object e = fits_by task types (meets types (slice_index_or (kinds_of task) number [])) number object refl e

more_by : (kinds : List (List ℕ)) (types : List ℕ) (parameters : List (List ℕ)) (b : List ℕ) (found : Option ℕ) (rest : Option (List ℕ)) (objects : List ℕ)
    → ((object : ℕ) → found ≡ Some object → Contains (having types 0 kinds) object)
    → ((others front : List ℕ) → rest ≡ Some others → Contains (bindings kinds parameters front) (front ++ others))
    → one_behind found rest ≡ Some objects → Contains (bindings kinds (types ∷ parameters) b) (b ++ objects)
unfolding one_behind
more_by kinds types parameters b None rest objects one others e = cc
more_by kinds types parameters b (Some object) None objects one others e = cc
more_by kinds types parameters b (Some object) (Some rest) objects one others e =
    let within = one object refl in
    let is : objects ≡ object ∷ rest = cc in
    subst (λ (os : List ℕ). Contains (bindings kinds (types ∷ parameters) b) (b ++ os)) (sym is)
    (at_place (λ o. bindings kinds parameters (b ++ o ∷ [])) (having types 0 kinds) object (b ++ object ∷ rest) within.0 within.1 within.2
    (subst (λ (os : List ℕ). Contains (bindings kinds parameters (b ++ object ∷ [])) os) (append_assoc b (object ∷ []) rest) (others rest (b ++ object ∷ []) refl)))

-- the arguments are a binding of the parameters
arguments-bind : (task : TypedTask) (parameters names : List (List ℕ)) (b objects : List ℕ) → arguments_of task parameters names ≡ Some objects → Contains (bindings (kinds_of task) parameters b) (b ++ objects)
unfolding one_behind
arguments-bind task [] [] b objects e =
    let is : objects ≡ [] = cc in
    subst (λ (os : List ℕ). Contains (b ∷ []) (b ++ os)) (sym is) (subst (λ (os : List ℕ). Contains (b ∷ []) os) (sym (append-nil b)) (first b []))
arguments-bind task [] (name ∷ names) b objects e = cc
arguments-bind task (types ∷ parameters) [] b objects e = cc
arguments-bind task (types ∷ parameters) (name ∷ names) b objects e =
    more_by (kinds_of task) types parameters b (argument_of task types name) (arguments_of task parameters names) objects
    (λ object h. argument-fits task types (number_of (object_names task) name) object h) (λ others front h. arguments-bind task parameters names front others h) e

-- ---- instances

abbrev instance : ℕ → List ℕ → Instance
instance n arguments = record { action = n; objects = arguments }

listed : (kinds : List (List ℕ)) (n : ℕ) (actions : List Action) (a : ℕ) (action : Action) (arguments : List ℕ) → slice_get actions a ≡ Some action → Contains (bindings kinds action.parameters []) arguments
    → Contains (instances_from kinds n actions) (record { action = n + a; objects = arguments })
listed kinds n [] a action arguments e within = cc
listed kinds n (own ∷ actions) zero action arguments e within =
    let is : own ≡ action = cc in
    let same : n ≡ n + 0 = omega arith in
    let bound : Contains (bindings kinds own.parameters []) arguments = subst (λ (act : Action). Contains (bindings kinds act.parameters []) arguments) (sym is) within in
    subst (λ m. Contains (instances_from kinds n (own ∷ actions)) (record { action = m; objects = arguments })) same
    (Contains-append_left (map (instance n) (bindings kinds own.parameters [])) (instances_from kinds (n + 1) actions) (instance n arguments) (mapped (instance n) (bindings kinds own.parameters []) arguments bound))
listed kinds n (own ∷ actions) (suc a) action arguments e within =
    let same : (n + 1) + a ≡ n + suc a = omega arith in
    subst (λ m. Contains (instances_from kinds n (own ∷ actions)) (record { action = m; objects = arguments })) same
    (Contains-append_right (map (instance n) (bindings kinds own.parameters [])) (instances_from kinds (n + 1) actions) (instance ((n + 1) + a) arguments) (listed kinds (n + 1) actions a action arguments e within))

there : (actions : List Action) (a : ℕ) → a < length actions → (action : Action) × (slice_get actions a ≡ Some action)
there [] a h = absurd (omega arith)
there (action ∷ actions) zero h = (action, refl)
there (action ∷ actions) (suc a) h =
    let size : a < length actions = omega (arith, h) in
    there actions a size

made_by : (task : TypedTask) (line a : ℕ) (action : Action) (names : List (List ℕ)) (arguments : Option (List ℕ)) (step : Instance) → slice_get task.actions a ≡ Some action → arguments_of task action.parameters names ≡ arguments
    → with_arguments line a arguments ≡ Ok step → Contains (instances_of task) step
made_by task line a action names None step is e h = cc
made_by task line a action names (Some objects) step is e h =
    let made : step ≡ instance a objects = cc in
    let same : 0 + a ≡ a = omega arith in
    subst (λ (s : Instance). Contains (instances_of task) s) (sym made)
    (subst (λ m. Contains (instances_of task) (instance m objects)) same
    (listed (kinds_of task) 0 task.actions a action objects is (arguments-bind task action.parameters names [] objects e)))

step-listed : (task : TypedTask) (line : ℕ) (names : List (List ℕ)) (found : Option ℕ) (step : Instance) → ((a : ℕ) → found ≡ Some a → a < length task.actions) → by_action task line names found ≡ Ok step → Contains (instances_of task) step
step-listed task line names None step within e = cc
step-listed task line names (Some a) step within e =
    let action = there task.actions a (within a refl) in
    made_by task line a action.0 names (arguments_of task action.0.parameters names) step action.1 refl
    (ap (λ (act : Option Action). with_arguments line a (arguments_of task (parameters_of act) names)) (sym action.1) ∙ e)

-- ---- the plan

abbrev Listed : TypedTask → List Instance → ℕ → Type 0
Listed task steps n = All (Contains (instances_of task)) steps × (length steps ≤ n)

alone-listed : (task : TypedTask) (found : Result Instance PlanFault) (steps : List Instance) → ((step : Instance) → found ≡ Ok step → Contains (instances_of task) step) → alone found ≡ Ok steps → Listed task steps 1
alone-listed task (Err reason) steps h e = cc
alone-listed task (Ok step) steps h e =
    let is : steps ≡ step ∷ [] = cc in
    subst (λ (s : List Instance). Listed task s 1) (sym is) (All-cons (Contains (instances_of task)) step [] (h step refl) (All-nil (Contains (instances_of task))), omega arith)

action-within : (task : TypedTask) (name : List ℕ) (a : ℕ) → number_of (action_names task) name ≡ Some a → a < length task.actions
action-within task name a e = omega (arith, (position-Some (λ own. bytes_eq own name) (action_names task) a [] e).0, length-map task.actions (λ action. action.name))

line-listed : (task : TypedTask) (n : ℕ) (line : Line) (steps : List Instance) → steps_of task n line ≡ Ok steps → Listed task steps 1
line-listed task n Blank steps e =
    let is : steps ≡ [] = cc in
    subst (λ (s : List Instance). Listed task s 1) (sym is) (All-nil (Contains (instances_of task)), omega arith)
line-listed task n (Step action names) steps e =
    alone-listed task (instance_of task n action names) steps (λ step h. step-listed task n names (number_of (action_names task) action) step (action-within task action) h) e
line-listed task n Bad steps e = cc

joined-listed : (task : TypedTask) (own others : Result (List Instance) PlanFault) (n : ℕ) (plan : List Instance) → ((steps : List Instance) → own ≡ Ok steps → Listed task steps 1) → ((steps : List Instance) → others ≡ Ok steps → Listed task steps n)
    → joined own others ≡ Ok plan → Listed task plan (suc n)
joined-listed task (Err reason) others n plan h k e = cc
joined-listed task (Ok steps) (Err reason) n plan h k e = cc
joined-listed task (Ok steps) (Ok more) n plan h k e =
    let is : plan ≡ steps ++ more = cc in
    let one = h steps refl in
    let rest = k more refl in
    subst (λ (s : List Instance). Listed task s (suc n)) (sym is)
    (All-append (Contains (instances_of task)) steps more one.0 rest.0, omega (arith, one.1, rest.1, length-append steps more))

steps-listed : (task : TypedTask) (n : ℕ) (lines : List (List ℕ)) (plan : List Instance) → steps_from task n lines ≡ Ok plan → Listed task plan (length lines)
steps-listed task n [] plan e =
    let is : plan ≡ [] = cc in
    subst (λ (s : List Instance). Listed task s 0) (sym is) (All-nil (Contains (instances_of task)), omega arith)
steps-listed task n (line ∷ lines) plan e =
    joined-listed task (steps_of task n (line_of line)) (steps_from task (n + 1) lines) (length lines) plan (λ steps h. line-listed task n (line_of line) steps h) (λ steps h. steps-listed task (n + 1) lines steps h) e

-- the steps of a plan file are instances of the task
pub plan-listed : (source : List ℕ) (task : TypedTask) (result : Result (List Instance) PlanFault) → Reads (plan_of source task) result → IfOk result (All (Contains (instances_of task)))
plan-listed source task (Ok plan) e = (steps-listed task 1 (lines_of (folded source)) plan e).0
plan-listed source task (Err reason) e = tt

-- there are no more of them than bytes
pub plan-few : (source : List ℕ) (task : TypedTask) (result : Result (List Instance) PlanFault) → Reads (plan_of source task) result → IfOk result (λ plan. length plan ≤ length source)
plan-few source task (Ok plan) e =
    omega (arith, (steps-listed task 1 (lines_of (folded source)) plan e).1, few-lines (folded source), length-map source to_ascii_lowercase)
plan-few source task (Err reason) e = tt
