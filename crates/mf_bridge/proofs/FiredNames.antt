-- The changes of an instance are of atoms and terms of the packed task.
use Rattle.std.proofs.Common.{◌≡◌, ℕ, Bool, true, false, not, ◌||◌, if◌then◌else◌, List, [], ◌∷◌, ◌++◌, map, Option, Some, None, refl, sym, subst, ap, ◌∙◌}
use Rattle.std.specs.Prelude.{⊤, slice_get, Contains}
use Rattle.std.specs.List.{AllByRecursion, flat_map, list_all, list_any}
use Rattle.std.proofs.lemmas.Bool.{and_parts, eq-eqb, false≢true}
use Rattle.mf_model.specs.declared.task.Action.{Action}
use Rattle.mf_model.specs.declared.task.Atom.{Atom}
use Rattle.mf_model.specs.declared.task.Cell.{Cell}
use Rattle.mf_model.specs.declared.task.Effect.{Effect}
use Rattle.mf_model.specs.declared.task.Effect.TheOpen.{Effect-F}
use Rattle.mf_model.specs.declared.task.Effect.TheFolds.{ind-Effect, fold-roll-Effect, map-Effect}
use Rattle.mf_model.specs.declared.task.TypedTask.{TypedTask}
use Rattle.mf_model.specs.declared.state.Instance.{Instance}
use Rattle.mf_model.specs.declared.state.PlainState.{PlainState}
use Rattle.mf_model.specs.Application.{Change, Added, Deleted, Changed, action_changes, changes_of, firing_of, firing_step}
use Rattle.mf_model.specs.Functions.{is_constant}
use Rattle.mf_model.specs.Meaning.{holds_in}
use Rattle.mf_model.specs.Objects.{bindings, kinds_of}
use Rattle.mf_model.specs.States.{is_atom, look_of}
use Rattle.mf_model.specs.Views.{Look, objects_of}
use Rattle.mf_meaning.proofs.ActionsOf.{instance_leaves_function}
use Rattle.mf_meaning.proofs.FiredChanges.{leaves_function}
use Rattle.mf_meaning.proofs.NumberOrder.{same_key-self}
use Rattle.mf_meaning.proofs.SortedLists.{all_weaker}
use Rattle.mf_task.specs.Grounding.{changed_atoms, changed_atoms_step, condition_cells, effect_cells, effect_cells_step, ground_of, is_same_cell}
use Rattle.mf_bridge.specs.ListedChanges.{IsListedChange}
use Rattle.mf_bridge.proofs.CoveredTerms.{instance_terms_covered}
use Rattle.mf_bridge.proofs.FluentAtoms.{changed_atoms_covered}
use Rattle.mf_bridge.proofs.Lists.{all_append}
use Rattle.mf_bridge.proofs.ListTests.{any_back, any_front}

-- the atom of a change is among these, and its term is among those
abbrev IsNamed : List Atom → List Cell → Change → Type 0
IsNamed atoms cells (Added p os) = list_any (is_atom p os) atoms ≡ true
IsNamed atoms cells (Deleted p os) = list_any (is_atom p os) atoms ≡ true
IsNamed atoms cells (Changed op f os value) = list_any (is_same_cell f os) cells ≡ true

named_front : (atoms others : List Atom) (cells more : List Cell) (c : Change) → IsNamed atoms cells c → IsNamed (atoms ++ others) (cells ++ more) c
named_front atoms others cells more (Added p os) named = any_front (is_atom p os) atoms others named
named_front atoms others cells more (Deleted p os) named = any_front (is_atom p os) atoms others named
named_front atoms others cells more (Changed op f os value) named = any_front (is_same_cell f os) cells more named

named_back : (atoms others : List Atom) (cells more : List Cell) (c : Change) → IsNamed others more c → IsNamed (atoms ++ others) (cells ++ more) c
named_back atoms others cells more (Added p os) named = any_back (is_atom p os) atoms others named
named_back atoms others cells more (Deleted p os) named = any_back (is_atom p os) atoms others named
named_back atoms others cells more (Changed op f os value) named = any_back (is_same_cell f os) cells more named

abbrev AreNamed : List Atom → List Cell → List Change → Type 0
AreNamed atoms cells = AllByRecursion (IsNamed atoms cells)

both_named : (atoms others : List Atom) (cells more : List Cell) (cs ds : List Change) → AreNamed atoms cells cs → AreNamed others more ds → AreNamed (atoms ++ others) (cells ++ more) (cs ++ ds)
both_named atoms others cells more cs ds first second =
    all_append (IsNamed (atoms ++ others) (cells ++ more)) cs ds
    (all_weaker (IsNamed atoms cells) (IsNamed (atoms ++ others) (cells ++ more)) (named_front atoms others cells more) cs first)
    (all_weaker (IsNamed others more) (IsNamed (atoms ++ others) (cells ++ more)) (named_back atoms others cells more) ds second)

each_named : {X : Type 0} (atoms : X → List Atom) (cells : X → List Cell) (fired : X → List Change) → ((x : X) → AreNamed (atoms x) (cells x) (fired x)) → (xs : List X) → AreNamed (flat_map atoms xs) (flat_map cells xs) (flat_map fired xs)
each_named atoms cells fired named [] = tt
each_named atoms cells fired named (x ∷ xs) = both_named (atoms x) (flat_map atoms xs) (cells x) (flat_map cells xs) (fired x) (flat_map fired xs) (named x) (each_named atoms cells fired named xs)

cells_back : (atoms : List Atom) (cells more : List Cell) (c : Change) → IsNamed atoms more c → IsNamed atoms (cells ++ more) c
cells_back atoms cells more (Added p os) named = named
cells_back atoms cells more (Deleted p os) named = named
cells_back atoms cells more (Changed op f os value) named = any_back (is_same_cell f os) cells more named

when_named : (atoms : List Atom) (cells more : List Cell) (holds : Bool) (cs : List Change) → AreNamed atoms more cs → AreNamed atoms (cells ++ more) (if holds then cs else [])
when_named atoms cells more true cs named = all_weaker (IsNamed atoms more) (IsNamed atoms (cells ++ more)) (cells_back atoms cells more) cs named
when_named atoms cells more false cs named = tt

first_found : (b c : Bool) → b ≡ true → (b || c) ≡ true
first_found b c e = rw e refl

module _ (objects : List (List ℕ)) (look : Look) where
  abbrev Holds : (List ℕ → List Atom) → (List ℕ → List Cell) → (List ℕ → List Change) → Type 0
  Holds atoms cells fired = (b : List ℕ) → AreNamed (atoms b) (cells b) (fired b)

  moved : {atoms others : List ℕ → List Atom} {cells more : List ℕ → List Cell} {fired firing : List ℕ → List Change} → atoms ≡ others → cells ≡ more → fired ≡ firing → Holds others more firing → Holds atoms cells fired
  moved {atoms} {others} {cells} {more} {fired} {firing} a c f holds =
      subst (λ (x : List ℕ → List Atom). Holds x cells fired) (sym a)
      (subst (λ (x : List ℕ → List Cell). Holds others x fired) (sym c)
      (subst (λ (x : List ℕ → List Change). Holds others more x) (sym f) holds))

  abbrev IsNamedEffect : Effect → Type 0
  IsNamedEffect e = Holds (changed_atoms objects e) (effect_cells objects e) (firing_of objects look e)

  abbrev Part : Type 0
  Part = (e : Effect) × IsNamedEffect e

  group_named : (ps : List Part) (b : List ℕ) → AreNamed (flat_map (λ part. part b) (map (changed_atoms objects) (map (λ q. q.0) ps))) (flat_map (λ part. part b) (map (effect_cells objects) (map (λ q. q.0) ps))) (flat_map (λ part. part b) (map (firing_of objects look) (map (λ q. q.0) ps)))
  group_named [] b = tt
  group_named (p ∷ ps) b =
      both_named (changed_atoms objects p.0 b) (flat_map (λ part. part b) (map (changed_atoms objects) (map (λ q. q.0) ps)))
      (effect_cells objects p.0 b) (flat_map (λ part. part b) (map (effect_cells objects) (map (λ q. q.0) ps)))
      (firing_of objects look p.0 b) (flat_map (λ part. part b) (map (firing_of objects look) (map (λ q. q.0) ps)))
      (p.1 b) (group_named ps b)

  Layer : Effect-F Effect → Type 0
  Layer x = Holds (changed_atoms_step objects (map-Effect Effect (List ℕ → List Atom) (changed_atoms objects) x)) (effect_cells_step objects (map-Effect Effect (List ℕ → List Cell) (effect_cells objects) x)) (firing_step objects look (map-Effect Effect (List ℕ → List Change) (firing_of objects look) x))

  level : (y : Effect-F Part) → Layer (map-Effect Part Effect (λ q. q.0) y)
  unfolding Layer
  level (Effect-F.Add predicate terms) b = (first_found _ false (same_key-self predicate (objects_of b terms)), tt)
  level (Effect-F.Delete predicate terms) b = (first_found _ false (same_key-self predicate (objects_of b terms)), tt)
  level (Effect-F.Change op function terms value) b = (first_found _ _ (same_key-self function (objects_of b terms)), tt)
  level (Effect-F.Group parts) b = group_named parts b
  level (Effect-F.Each variables part) b = each_named (changed_atoms objects part.0) (effect_cells objects part.0) (firing_of objects look part.0) part.1 (bindings objects variables b)
  level (Effect-F.When condition part) b =
      when_named (changed_atoms objects part.0 b) (condition_cells objects condition b) (effect_cells objects part.0 b) (holds_in objects look condition b) (firing_of objects look part.0 b) (part.1 b)

  pub effects_are_named : (e : Effect) → IsNamedEffect e
  unfolding Layer
  effects_are_named = ind-Effect IsNamedEffect (λ x y e.
      moved (fold-roll-Effect (List ℕ → List Atom) (changed_atoms_step objects) x) (fold-roll-Effect (List ℕ → List Cell) (effect_cells_step objects) x) (fold-roll-Effect (List ℕ → List Change) (firing_step objects look) x)
      (subst (λ z. Layer z) e (level y)))

-- the functions that are changed are not constant

abbrev ChangesFunction : TypedTask → Change → Type 0
ChangesFunction task (Added p os) = ⊤
ChangesFunction task (Deleted p os) = ⊤
ChangesFunction task (Changed op f os value) = is_constant task f ≡ false

functions_change : (task : TypedTask) (cs : List Change) → ((f : ℕ) → is_constant task f ≡ true → list_all (leaves_function f) cs ≡ true) → AllByRecursion (ChangesFunction task) cs
functions_change task [] left = tt
functions_change task (c ∷ cs) left = (at c (λ f constant. (and_parts (leaves_function f c) (list_all (leaves_function f) cs) (left f constant)).0), functions_change task cs (λ f constant. (and_parts (leaves_function f c) (list_all (leaves_function f) cs) (left f constant)).1))
  where
    at : (c : Change) → ((f : ℕ) → is_constant task f ≡ true → leaves_function f c ≡ true) → ChangesFunction task c
    at (Added p os) own = tt
    at (Deleted p os) own = tt
    at (Changed op f os value) own = by (is_constant task f) refl
      where
        by : (b : Bool) → is_constant task f ≡ b → b ≡ false
        by false e = refl
        by true e = absurd (false≢true (sym (ap (λ (b : Bool). not b) (eq-eqb f f refl)) ∙ own f e))

-- the packed task

module _ (task : TypedTask) (instances : List Instance) (state : PlainState) (instance : Instance) (in_list : Contains instances instance) where
  listed_at : (action : Action) → slice_get task.actions instance.action ≡ Some action → (c : Change) → IsNamed (changed_atoms (kinds_of task) action.effect instance.objects) (effect_cells (kinds_of task) action.effect instance.objects) c → ChangesFunction task c → IsListedChange task (ground_of task instances) c
  listed_at action found (Added p os) named changing = changed_atoms_covered task instances instance action p os in_list found named
  listed_at action found (Deleted p os) named changing = changed_atoms_covered task instances instance action p os in_list found named
  listed_at action found (Changed op f os value) named changing = λ costless.
      instance_terms_covered task instances f os changing costless instance action in_list found
      (any_back (is_same_cell f os) (condition_cells (kinds_of task) action.condition instance.objects) (effect_cells (kinds_of task) action.effect instance.objects) named)

  all_listed : (action : Action) → slice_get task.actions instance.action ≡ Some action → (cs : List Change) → AreNamed (changed_atoms (kinds_of task) action.effect instance.objects) (effect_cells (kinds_of task) action.effect instance.objects) cs → AllByRecursion (ChangesFunction task) cs → AllByRecursion (IsListedChange task (ground_of task instances)) cs
  all_listed action found [] named changing = tt
  all_listed action found (c ∷ cs) named changing = (listed_at action found c named.0 changing.0, all_listed action found cs named.1 changing.1)

  pub changes_are_listed : AllByRecursion (IsListedChange task (ground_of task instances)) (changes_of task state instance)
  changes_are_listed = by (slice_get task.actions instance.action) refl (functions_change task (changes_of task state instance) (instance_leaves_function task state instance))
    where
      by : (found : Option Action) → slice_get task.actions instance.action ≡ found → AllByRecursion (ChangesFunction task) (action_changes task state instance.objects found) → AllByRecursion (IsListedChange task (ground_of task instances)) (action_changes task state instance.objects found)
      by (Some action) is changing = all_listed action is (firing_of (kinds_of task) (look_of state) action.effect instance.objects) (effects_are_named (kinds_of task) (look_of state) action.effect instance.objects) changing
      by None is changing = tt
