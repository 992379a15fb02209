-- The argument lists of a plain task: every parameter takes every object.
use Rattle.std.proofs.Common.{◌≡◌, Bool, true, false, ◌||◌, ◌&&◌, ◌==◌, ℕ, zero, suc, ◌+◌, ◌<◌, ◌≤◌, ◌++◌, List, [], ◌∷◌, All, length, get_or, drop, refl, sym, ap, ◌∙◌, subst, arith, add-zero, add-one}
use Rattle.std.specs.List.{flat_map, list_all}
use Rattle.std.proofs.lemmas.Bool.{false≢true}
use Rattle.std.proofs.lemmas.Bool.Decides.{Decides-eqb}
use Rattle.std.proofs.lemmas.List.{append-nil, append_assoc, map-id, length-map, map_push, drop_all}
use Rattle.std.proofs.lemmas.List.Concat.{flat_map-append, flat_map_single}
use Rattle.std.proofs.lemmas.List.Folds.{flat_map-map}
use Rattle.std.proofs.lemmas.List.Elements.{All-head, All-tail, All-get_or}
use Rattle.mf_model.specs.declared.task.Action.{Action}
use Rattle.mf_model.specs.declared.task.TypedTask.{TypedTask}
use Rattle.mf_model.specs.declared.state.Instance.{Instance}
use Rattle.mf_model.specs.Application.{instances_from}
use Rattle.mf_model.specs.Objects.{HaveTopType, ancestors, bindings, having, kinds_of, meets, member, parents_of}
use Rattle.mf_model.proofs.Choices.{if_true}
use Rattle.mf_plain.specs.PlainTask.{IsObjectType}
use Rattle.mf_plain.specs.SearchTask.{IsSearchAction, IsSearchTask}
use Rattle.mf_plain.specs.Listing.{numbers_from, with_next, extended, of_action}
use Rattle.mf_plain.proofs.Placing.{drop_at_read}

numbers_last : (m n : ℕ) → numbers_from m (suc n) ≡ numbers_from m n ++ (m + n) ∷ []
numbers_last m zero = rw (add-zero) refl
numbers_last m (suc n) =
    let shift : m + 1 + n ≡ m + suc n = omega arith in
    ap (λ r. m ∷ r) (numbers_last (m + 1) n) ∙ ap (λ k. (m ∷ numbers_from (m + 1) n) ++ k ∷ []) shift

numbers_push : (n : ℕ) → numbers_from 0 (n + 1) ≡ numbers_from 0 n ++ n ∷ []
numbers_push n = let e : 0 + n ≡ n = omega arith in rw (add-one) (numbers_last 0 n ∙ ap (λ k. numbers_from 0 n ++ k ∷ []) e)

-- one more object
pub next_push : (front : List ℕ) (object : ℕ) → with_next (numbers_from 0 (object + 1)) front ≡ with_next (numbers_from 0 object) front ++ (front ++ object ∷ []) ∷ []
next_push front object = ap (λ os. with_next os front) (numbers_push object) ∙ map_push (λ o. front ++ o ∷ []) (numbers_from 0 object) object

-- the types of an object have the type `object` among them
abbrev HasObject : List ℕ → Type 0
HasObject kinds = meets (0 ∷ []) kinds ≡ true

or_first : (a b : Bool) → (a || false) ≡ true → (a || b) ≡ true
or_first true b h = refl
or_first false b h = absurd (false≢true h)

and_first : (a b : Bool) → (a && b) ≡ true → a ≡ true
and_first true b h = refl
and_first false b h = h

-- who has the type `object` has each of the types that are all `object`
top_met : (types kinds : List ℕ) → IsObjectType types → HasObject kinds → meets types kinds ≡ true
top_met [] kinds t h = absurd (false≢true t)
top_met (zero ∷ others) kinds t h = or_first (member 0 kinds) (meets others kinds) h
top_met (suc n ∷ others) kinds t h =
    let zero_too : suc n ≡ 0 = (Decides-eqb (suc n) 0).0 (and_first (suc n == 0) (list_all (λ m. m == 0) others) t) in
    absurd (omega arith)

having_all : (types : List ℕ) (kinds : List (List ℕ)) (n : ℕ) → IsObjectType types → All HasObject kinds → having types n kinds ≡ numbers_from n (length kinds)
having_all types [] n t all = refl
having_all types (k ∷ kinds) n t all =
    if_true (meets types k) (n ∷ having types (n + 1) kinds) (having types (n + 1) kinds) (top_met types k t (All-head HasObject k kinds all))
    ∙ ap (λ r. n ∷ r) (having_all types kinds (n + 1) t (All-tail HasObject k kinds all))

having_top : (task : TypedTask) (types : List ℕ) → HaveTopType task → IsObjectType types → having types 0 (kinds_of task) ≡ numbers_from 0 (length task.objects)
having_top task types top t = having_all types (kinds_of task) 0 t top ∙ ap (numbers_from 0) (length-map task.objects (λ o. flat_map (ancestors (parents_of task) (length task.types)) o.types))

extended_is : (kinds : List (List ℕ)) (types : List ℕ) (others : List (List ℕ)) (objects : List ℕ) (fronts : List (List ℕ)) → having types 0 kinds ≡ objects → flat_map (bindings kinds others) (extended objects fronts) ≡ flat_map (bindings kinds (types ∷ others)) fronts
extended_is kinds types others objects [] e = refl
extended_is kinds types others objects (front ∷ fronts) e =
    flat_map-append (bindings kinds others) (with_next objects front) (extended objects fronts)
    ∙ rw (e, extended_is kinds types others objects fronts e, flat_map-map (bindings kinds others) (λ o. front ++ o ∷ []) objects) refl

-- the loop over the parameters
pub arguments_step : (task : TypedTask) (parameters : List (List ℕ)) (types : List ℕ) (i : ℕ) (fronts : List (List ℕ)) → HaveTopType task → All IsObjectType parameters → i < length parameters → types ≡ get_or parameters i types → flat_map (bindings (kinds_of task) (drop (i + 1) parameters)) (extended (numbers_from 0 (length task.objects)) fronts) ≡ flat_map (bindings (kinds_of task) (drop i parameters)) fronts
arguments_step task parameters types i fronts top all h e =
    let one : IsObjectType types = rw e (All-get_or IsObjectType parameters i types h all) in
    extended_is (kinds_of task) types (drop (i + 1) parameters) (numbers_from 0 (length task.objects)) fronts (having_top task types top one)
    ∙ ap (λ r. flat_map (bindings (kinds_of task) r) fronts) (sym (drop_at_read parameters i types h e))

pub arguments_first : (kinds : List (List ℕ)) (parameters : List (List ℕ)) → flat_map (bindings kinds parameters) ([] ∷ []) ≡ bindings kinds parameters []
arguments_first kinds parameters = append-nil (bindings kinds parameters [])

pub arguments_last : (kinds : List (List ℕ)) (parameters : List (List ℕ)) (i : ℕ) (fronts : List (List ℕ)) → length parameters ≤ i → flat_map (bindings kinds (drop i parameters)) fronts ≡ fronts
arguments_last kinds parameters i fronts h = rw (drop_all i parameters h) (flat_map_single (λ (b : List ℕ). b) fronts ∙ map-id fronts)

-- the loop over the actions
pub instances_step : (kinds : List (List ℕ)) (actions : List Action) (action : Action) (i : ℕ) (out : List Instance) (fronts : List (List ℕ)) → i < length actions → action ≡ get_or actions i action → fronts ≡ bindings kinds action.parameters [] → (out ++ of_action i fronts) ++ instances_from kinds (i + 1) (drop (i + 1) actions) ≡ out ++ instances_from kinds i (drop i actions)
instances_step kinds actions action i out fronts h e f = rw (drop_at_read actions i action h e, f) (append_assoc out (of_action i (bindings kinds action.parameters [])) (instances_from kinds (i + 1) (drop (i + 1) actions)))

pub plain_parameters : (task : TypedTask) (action : Action) (i : ℕ) → IsSearchTask task → i < length task.actions → action ≡ get_or task.actions i action → All IsObjectType action.parameters
plain_parameters task action i plain h e = rw e (All-get_or (IsSearchAction task.predicates (length task.objects)) task.actions i action h plain.actions).types

-- the same, as the loop finds it
pub arguments_next : (task : TypedTask) (parameters : List (List ℕ)) (types : List ℕ) (i count : ℕ) (fronts seen next : List (List ℕ)) → HaveTopType task → All IsObjectType parameters → i < length parameters → types ≡ get_or parameters i types → count ≡ length task.objects → seen ≡ fronts → next ≡ extended (numbers_from 0 count) seen → flat_map (bindings (kinds_of task) (drop (i + 1) parameters)) next ≡ flat_map (bindings (kinds_of task) (drop i parameters)) fronts
arguments_next task parameters types i count fronts seen next top all h e size same made = rw (made, same, size) (arguments_step task parameters types i fronts top all h e)

pub arguments_begin : (kinds : List (List ℕ)) (parameters : List (List ℕ)) (fronts before : List (List ℕ)) (first : List ℕ) → before ≡ [] → first ≡ [] → fronts ≡ before ++ first ∷ [] → flat_map (bindings kinds parameters) fronts ≡ bindings kinds parameters []
arguments_begin kinds parameters fronts before first b f e = rw (e, b, f) (arguments_first kinds parameters)

-- one more argument list is pushed
pub next_made : (start out next : List (List ℕ)) (front copied pushed : List ℕ) (object : ℕ) → out ≡ start ++ with_next (numbers_from 0 object) front → copied ≡ front → pushed ≡ copied ++ object ∷ [] → next ≡ out ++ pushed ∷ [] → next ≡ start ++ with_next (numbers_from 0 (object + 1)) front
next_made start out next front copied pushed object h copy push made =
    rw (made, push, copy, h, next_push front object) (append_assoc start (with_next (numbers_from 0 object) front) ((front ++ object ∷ []) ∷ []))

-- the same, as the loops find it
pub listed_parameters : (task : TypedTask) (actions : List Action) (action : Action) (parameters : List (List ℕ)) (i : ℕ) → IsSearchTask task → actions ≡ task.actions → i < length actions → action ≡ get_or actions i action → parameters ≡ action.parameters → All IsObjectType parameters
listed_parameters task actions action parameters i plain same h e p = rw p (plain_parameters task action i plain (subst (λ (xs : List Action). i < length xs) same h) (subst (λ (xs : List Action). action ≡ get_or xs i action) same e))

pub instances_next : (kinds : List (List ℕ)) (actions : List Action) (action : Action) (parameters : List (List ℕ)) (i : ℕ) (out next : List Instance) (fronts : List (List ℕ)) → i < length actions → action ≡ get_or actions i action → parameters ≡ action.parameters → fronts ≡ bindings kinds parameters [] → next ≡ out ++ of_action i fronts → next ++ instances_from kinds (i + 1) (drop (i + 1) actions) ≡ out ++ instances_from kinds i (drop i actions)
instances_next kinds actions action parameters i out next fronts h e p f made = rw made (instances_step kinds actions action i out fronts h e (f ∙ rw p refl))

pub instances_end : (kinds : List (List ℕ)) (actions : List Action) (i : ℕ) (out : List Instance) → length actions ≤ i → out ++ instances_from kinds i (drop i actions) ≡ out
instances_end kinds actions i out h = rw (drop_all i actions h) (append-nil out)
