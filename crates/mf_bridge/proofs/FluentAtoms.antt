-- The atoms of a packed task are sorted, of fluent predicates alone, and cover all that can become true.
use Rattle.std.proofs.Common.{◌≡◌, ℕ, Bool, true, false, not, ◌&&◌, nat_eq, List, [], ◌∷◌, ◌++◌, map, Option, Some, None, refl, sym, subst, ap, ◌∙◌}
use Rattle.std.specs.Prelude.{slice_get, Contains}
use Rattle.std.specs.List.{AllByRecursion, filter, flat_map, list_any}
use Rattle.std.proofs.lemmas.Bool.{eq-eqb, false≢true, not-true, or_from, or_parts}
use Rattle.std.proofs.lemmas.List.Folds.{list_any-append}
use Rattle.mf_model.specs.declared.task.Action.{Action}
use Rattle.mf_model.specs.declared.task.Atom.{Atom}
use Rattle.mf_model.specs.declared.task.Effect.{Effect}
use Rattle.mf_model.specs.declared.task.Effect.TheOpen.{Effect-F}
use Rattle.mf_model.specs.declared.task.Effect.TheFolds.{ind-Effect, fold-roll-Effect, map-Effect}
use Rattle.mf_model.specs.declared.task.TypedTask.{TypedTask}
use Rattle.mf_model.specs.declared.state.Instance.{Instance}
use Rattle.mf_model.specs.Functions.{is_static, touches, touches_step}
use Rattle.mf_model.specs.Objects.{bindings, kinds_of}
use Rattle.mf_model.specs.States.{atom_before, is_atom, look_of, start_of}
use Rattle.mf_meaning.proofs.ActionsOf.{none_at}
use Rattle.mf_meaning.proofs.NumberOrder.{same_key-number}
use Rattle.mf_meaning.specs.SortedStates.{IsSortedList}
use Rattle.mf_task.specs.Grounding.{atoms_of, changed_atoms, changed_atoms_step, with_action, with_some_action}
use Rattle.mf_bridge.proofs.ListTests.{any_back, any_filtered, any_front, any_joined}
use Rattle.mf_bridge.proofs.ListedCells.{all_in_fold, any_in_fold, fold_atoms_sorted}

-- an effect that touches no atom of a predicate changes none

abbrev is_of : ℕ → Atom → Bool
is_of p atom = nat_eq p atom.predicate

module _ (objects : List (List ℕ)) (p : ℕ) where
  abbrev Untouched : Effect → Type 0
  Untouched e = touches p e ≡ false → (b : List ℕ) → list_any (is_of p) (changed_atoms objects e b) ≡ false

  abbrev Part : Type 0
  Part = (e : Effect) × Untouched e

  each_untouched : {X : Type 0} (f : X → List Atom) → ((x : X) → list_any (is_of p) (f x) ≡ false) → (xs : List X) → list_any (is_of p) (flat_map f xs) ≡ false
  each_untouched f none [] = refl
  each_untouched f none (x ∷ xs) =
      list_any-append (is_of p) (f x) (flat_map f xs) ∙ or_from (list_any (is_of p) (f x)) (list_any (is_of p) (flat_map f xs)) (none x) (each_untouched f none xs)

  group_untouched : (ps : List Part) → list_any (λ part. part) (map (touches p) (map (λ q. q.0) ps)) ≡ false → (b : List ℕ) → list_any (is_of p) (flat_map (λ part. part b) (map (changed_atoms objects) (map (λ q. q.0) ps))) ≡ false
  group_untouched [] none b = refl
  group_untouched (q ∷ qs) none b =
      let both = or_parts (touches p q.0) (list_any (λ part. part) (map (touches p) (map (λ q. q.0) qs))) none in
      list_any-append (is_of p) (changed_atoms objects q.0 b) (flat_map (λ part. part b) (map (changed_atoms objects) (map (λ q. q.0) qs)))
      ∙ or_from (list_any (is_of p) (changed_atoms objects q.0 b)) (list_any (is_of p) (flat_map (λ part. part b) (map (changed_atoms objects) (map (λ q. q.0) qs)))) (q.1 both.0 b) (group_untouched qs both.1 b)

  Layer : Effect-F Effect → Type 0
  Layer x = touches_step p (map-Effect Effect Bool (touches p) x) ≡ false → (b : List ℕ) → list_any (is_of p) (changed_atoms_step objects (map-Effect Effect (List ℕ → List Atom) (changed_atoms objects) x) b) ≡ false

  level : (y : Effect-F Part) → Layer (map-Effect Part Effect (λ q. q.0) y)
  unfolding Layer
  level (Effect-F.Add predicate terms) none b = or_from (nat_eq p predicate) false none refl
  level (Effect-F.Delete predicate terms) none b = or_from (nat_eq p predicate) false none refl
  level (Effect-F.Change op function terms value) none b = refl
  level (Effect-F.Group parts) none b = group_untouched parts none b
  level (Effect-F.Each variables part) none b = each_untouched (changed_atoms objects part.0) (part.1 none) (bindings objects variables b)
  level (Effect-F.When condition part) none b = part.1 none b

  pub untouched : (e : Effect) → Untouched e
  unfolding Layer
  untouched = ind-Effect Untouched (λ x y e none b.
      let at_layer = subst (λ z. Layer z) e (level y) (subst (λ (t : Bool). t ≡ false) (fold-roll-Effect Bool (touches_step p) x) none) b in
      ap (λ (f : List ℕ → List Atom). list_any (is_of p) (f b)) (fold-roll-Effect (List ℕ → List Atom) (changed_atoms_step objects) x) ∙ at_layer)

-- the atoms

module _ (task : TypedTask) (instances : List Instance) where
  abbrev changed_part : Action → List ℕ → List Atom
  changed_part action = changed_atoms (kinds_of task) action.effect

  abbrev start_part : List Atom
  start_part = filter (λ atom. not (is_static task atom.predicate)) task.atoms

  static_is_unchanged : (p : ℕ) → is_static task p ≡ true → (instance : Instance) → list_any (is_of p) (with_action task changed_part instance) ≡ false
  static_is_unchanged p static instance = at (slice_get task.actions instance.action) refl
    where
      at : (found : Option Action) → slice_get task.actions instance.action ≡ found → list_any (is_of p) (with_some_action changed_part instance.objects found) ≡ false
      at (Some action) is =
          untouched (kinds_of task) p action.effect (none_at (λ action. touches p action.effect) task.actions instance.action action (not-true (list_any (λ action. touches p action.effect) task.actions) static) is) instance.objects
      at None is = refl

  static_is_none : (p : ℕ) → is_static task p ≡ true → list_any (is_of p) (start_part ++ flat_map (with_action task changed_part) instances) ≡ false
  static_is_none p static =
      list_any-append (is_of p) start_part (flat_map (with_action task changed_part) instances)
      ∙ or_from (list_any (is_of p) start_part) (list_any (is_of p) (flat_map (with_action task changed_part) instances))
      (any_filtered (is_of p) (λ atom. not (is_static task atom.predicate)) false fluent task.atoms)
      (each_untouched (kinds_of task) p (with_action task changed_part) (static_is_unchanged p static) instances)
    where
      fluent : (atom : Atom) → is_of p atom ≡ true → not (is_static task atom.predicate) ≡ false
      fluent atom same = ap (λ (n : ℕ). not (is_static task n)) (sym (number p atom.predicate same)) ∙ ap (λ (b : Bool). not b) static
        where
          number : (n m : ℕ) → nat_eq n m ≡ true → n ≡ m
          number n m e = same_key-number n [] m [] (ap (λ (b : Bool). b && true) e)

  fluent_all : (xs : List Atom) → ((p : ℕ) → is_static task p ≡ true → list_any (is_of p) xs ≡ false) → AllByRecursion (λ atom. is_static task atom.predicate ≡ false) xs
  fluent_all [] none = tt
  fluent_all (x ∷ xs) none = (by (is_static task x.predicate) refl, fluent_all xs (λ p static. (or_parts (is_of p x) (list_any (is_of p) xs) (none p static)).1))
    where
      by : (b : Bool) → is_static task x.predicate ≡ b → b ≡ false
      by false e = refl
      by true e = absurd (false≢true (sym (or_parts (is_of x.predicate x) (list_any (is_of x.predicate) xs) (none x.predicate e)).0 ∙ eq-eqb x.predicate x.predicate refl))

  pub atoms_are_fluent : AllByRecursion (λ atom. is_static task atom.predicate ≡ false) (atoms_of task instances)
  atoms_are_fluent =
      all_in_fold (λ atom. is_static task atom.predicate ≡ false) [] (start_part ++ flat_map (with_action task changed_part) instances) tt
      (fluent_all (start_part ++ flat_map (with_action task changed_part) instances) static_is_none)

  pub atoms_are_sorted : IsSortedList atom_before (atoms_of task instances)
  atoms_are_sorted = fold_atoms_sorted (start_part ++ flat_map (with_action task changed_part) instances)

  pub start_atoms_covered : (predicate : ℕ) (objects : List ℕ) → is_static task predicate ≡ false → (look_of (start_of task)).atom predicate objects ≡ true → list_any (is_atom predicate objects) (atoms_of task instances) ≡ true
  start_atoms_covered p os fluent holds =
      any_in_fold p os [] (start_part ++ flat_map (with_action task changed_part) instances)
      ∙ any_front (is_atom p os) start_part (flat_map (with_action task changed_part) instances)
      (any_filtered (is_atom p os) (λ atom. not (is_static task atom.predicate)) true own task.atoms ∙ sym (any_in_fold p os [] task.atoms) ∙ holds)
    where
      own : (atom : Atom) → is_atom p os atom ≡ true → not (is_static task atom.predicate) ≡ true
      own atom same = ap (λ (n : ℕ). not (is_static task n)) (sym (same_key-number p os atom.predicate atom.objects same)) ∙ ap (λ (b : Bool). not b) fluent

  pub changed_atoms_covered : (instance : Instance) (action : Action) (predicate : ℕ) (objects : List ℕ) → Contains instances instance → slice_get task.actions instance.action ≡ Some action →
      list_any (is_atom predicate objects) (changed_atoms (kinds_of task) action.effect instance.objects) ≡ true → list_any (is_atom predicate objects) (atoms_of task instances) ≡ true
  changed_atoms_covered instance action p os in_list found changed =
      any_in_fold p os [] (start_part ++ flat_map (with_action task changed_part) instances)
      ∙ any_back (is_atom p os) start_part (flat_map (with_action task changed_part) instances)
      (any_joined (is_atom p os) (with_action task changed_part) instances instance in_list (ap (λ (a : Option Action). list_any (is_atom p os) (with_some_action changed_part instance.objects a)) found ∙ changed))
