-- When an instance of a plain task is applicable, and where it leads.
use Rattle.std.proofs.Common.{◌≡◌, ℕ, ◌+◌, ◌<◌, ◌++◌, ◌&&◌, length, drop, get_or, Bool, true, false, cond, List, [], ◌∷◌, Some, slice_get, refl, sym, ◌∙◌, subst, map}
use Rattle.std.proofs.lemmas.List.{append_assoc, map-append}
use Rattle.mf_plain.specs.declared.successors.Successor.{Successor}
use Rattle.mf_plain.specs.Successors.{child_of}
use Rattle.mf_model.specs.declared.task.Atom.{Atom}
use Rattle.mf_search.specs.Space.{Child}
use Rattle.mf_plain.proofs.Placing.{drop_at_read}
use Rattle.std.specs.List.{fold}
use Rattle.std.proofs.lemmas.Option.{slice_get_within, get_or_from_slice_get}
use Rattle.std.proofs.lemmas.List.Elements.{All-get_or}
use Rattle.mf_model.specs.declared.task.Action.{Action}
use Rattle.mf_model.specs.declared.task.TypedTask.{TypedTask}
use Rattle.mf_model.specs.declared.state.Instance.{Instance}
use Rattle.mf_model.specs.declared.state.PlainState.{PlainState}
use Rattle.mf_model.specs.Application.{is_applicable, next_state, firing_of}
use Rattle.mf_model.specs.Objects.{kinds_of}
use Rattle.mf_plain.specs.SearchTask.{IsSearchAction, IsSearchTask}
use Rattle.mf_model.specs.States.{look_of, with_atom, without_atom}
use Rattle.mf_plain.specs.Conjunctions.{is_conjunction, needs_of, all_needs}
use Rattle.mf_plain.specs.Changes.{only_changes_atoms, adds_of, deletes_of}
use Rattle.mf_plain.specs.PlainSpace.{child, children_from}
use Rattle.mf_plain.proofs.ConjunctionLaws.{plain_is_conjunction, holds_is}
use Rattle.mf_plain.proofs.EffectLaws.{plain_only_changes, fires, defined_atoms, apart_atoms, values_stay}

-- What the search needs of an action of a plain task.
pub record IsSimple (action : Action) : Type 0 where
  pub condition : is_conjunction action.condition ≡ true
  pub effect : only_changes_atoms action.effect ≡ true

pub simple_action : (task : TypedTask) (n : ℕ) (action : Action) → IsSearchTask task → Some action ≡ slice_get task.actions n → IsSimple action
simple_action task n action plain e =
    let h = slice_get_within task.actions n action (sym e) in
    let p = subst (IsSearchAction task.predicates (length task.objects)) (get_or_from_slice_get task.actions n action action (sym e)) (All-get_or (IsSearchAction task.predicates (length task.objects)) task.actions n action h plain.actions) in
    record {
      condition = plain_is_conjunction task.predicates (length action.parameters) (length task.objects) action.condition p.condition;
      effect = plain_only_changes task.predicates (length action.parameters) (length task.objects) action.effect p.effect;
    }

pub applicable_is : (task : TypedTask) (state : PlainState) (instance : Instance) (action : Action) → IsSimple action → Some action ≡ slice_get task.actions instance.action → is_applicable task state instance ≡ all_needs state.atoms (needs_of action.condition instance.objects)
applicable_is task state instance action simple e =
    let fired = fires (kinds_of task) (look_of state) action.effect simple.effect instance.objects in
    let changes = firing_of (kinds_of task) (look_of state) action.effect instance.objects in
    rw (sym e, holds_is (kinds_of task) (look_of state) action.condition instance.objects simple.condition, defined_atoms (look_of state) changes fired.kinds, apart_atoms changes changes fired.kinds) (two (all_needs state.atoms (needs_of action.condition instance.objects)))
  where
    two : (b : Bool) → (b && true && true) ≡ b
    two true = refl
    two false = refl

pub next_is : (task : TypedTask) (state : PlainState) (instance : Instance) (action : Action) → IsSimple action → Some action ≡ slice_get task.actions instance.action →
    next_state task state instance ≡ record {
      atoms = fold with_atom (fold without_atom state.atoms (deletes_of action.effect instance.objects)) (adds_of action.effect instance.objects);
      values = state.values;
    }
next_is task state instance action simple e =
    let fired = fires (kinds_of task) (look_of state) action.effect simple.effect instance.objects in
    let changes = firing_of (kinds_of task) (look_of state) action.effect instance.objects in
    rw (sym e, fired.adds, fired.deletes, values_stay state.values changes fired.kinds) refl

pub no_child : (task : TypedTask) (state : PlainState) (n : ℕ) (instance : Instance) → is_applicable task state instance ≡ false → [] ≡ children_from task state n (instance ∷ [])
no_child task state n instance e = rw e refl

pub one_child : (task : TypedTask) (state next : PlainState) (n : ℕ) (instance : Instance) → is_applicable task state instance ≡ true → next ≡ next_state task state instance → record { instance = n; state = next; helpful = false } ∷ [] ≡ children_from task state n (instance ∷ [])
one_child task state next n instance e s = rw (e, s) refl

-- What the search finds at one instance.
pub child_none : (task : TypedTask) (state : PlainState) (n : ℕ) (instance : Instance) (action : Action) (atoms : List Atom) (arguments : List ℕ) → IsSimple action → Some action ≡ slice_get task.actions instance.action → atoms ≡ state.atoms → arguments ≡ instance.objects → false ≡ all_needs atoms (needs_of action.condition arguments) → [] ≡ children_from task state n (instance ∷ [])
child_none task state n instance action atoms arguments simple e a b fails =
    no_child task state n instance (applicable_is task state instance action simple e ∙ rw (sym a, sym b) (sym fails))

pub child_some : (task : TypedTask) (state next : PlainState) (n : ℕ) (instance : Instance) (action : Action) (atoms : List Atom) (arguments : List ℕ) → IsSimple action → Some action ≡ slice_get task.actions instance.action → atoms ≡ state.atoms → arguments ≡ instance.objects → true ≡ all_needs atoms (needs_of action.condition arguments) →
    next ≡ record { atoms = fold with_atom (fold without_atom state.atoms (deletes_of action.effect arguments)) (adds_of action.effect arguments); values = state.values } →
    record { instance = n; state = next; helpful = false } ∷ [] ≡ children_from task state n (instance ∷ [])
child_some task state next n instance action atoms arguments simple e a b holds made =
    one_child task state next n instance (applicable_is task state instance action simple e ∙ rw (sym a, sym b) (sym holds)) (made ∙ rw b (sym (next_is task state instance action simple e)))

-- The loop over the instances.
pub children_split : (task : TypedTask) (state : PlainState) (n : ℕ) (instance : Instance) (others : List Instance) → children_from task state n (instance ∷ others) ≡ children_from task state n (instance ∷ []) ++ children_from task state (n + 1) others
children_split task state n instance others = go (is_applicable task state instance)
  where
    go : (b : Bool) → cond b (child task state n instance ∷ children_from task state (n + 1) others) (children_from task state (n + 1) others) ≡ cond b (child task state n instance ∷ []) [] ++ children_from task state (n + 1) others
    go true = refl
    go false = refl

pub children_step : (task : TypedTask) (state : PlainState) (n : ℕ) (instance : Instance) (instances : List Instance) (list found : List (Child PlainState)) → n < length instances → instance ≡ get_or instances n instance → found ≡ children_from task state n (instance ∷ []) → (list ++ found) ++ children_from task state (n + 1) (drop (n + 1) instances) ≡ list ++ children_from task state n (drop n instances)
children_step task state n instance instances list found h e f =
    rw (drop_at_read instances n instance h e, children_split task state n instance (drop (n + 1) instances), f)
    (append_assoc list (children_from task state n (instance ∷ [])) (children_from task state (n + 1) (drop (n + 1) instances)))

pub children_next : (task : TypedTask) (state : PlainState) (n : ℕ) (instance : Instance) (instances : List Instance) (list next found : List Successor) → n < length instances → instance ≡ get_or instances n instance → map child_of found ≡ children_from task state n (instance ∷ []) → next ≡ list ++ found → map child_of next ++ children_from task state (n + 1) (drop (n + 1) instances) ≡ map child_of list ++ children_from task state n (drop n instances)
children_next task state n instance instances list next found h e f made =
    rw (made, map-append child_of list found) (children_step task state n instance instances (map child_of list) (map child_of found) h e f)
