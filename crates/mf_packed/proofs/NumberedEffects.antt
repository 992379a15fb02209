-- Each effect of a packed task changes an atom or a term of that task.
use Rattle.std.proofs.Common.{◌≡◌, ℕ, zero, suc, ◌<◌, Bool, true, false, not, ◌||◌, nat_eq, nat_lt, List, [], ◌∷◌, ◌++◌, length, map, Option, Some, refl, sym, subst, ap, ◌∙◌, true≢false}
use Rattle.std.specs.Prelude.{slice_get, Contains, position}
use Rattle.std.specs.List.{AllByRecursion, flat_map, list_all, list_any}
use Rattle.std.proofs.lemmas.Bool.{eq-eqb, lt-ltb, or_right}
use Rattle.mf_model.specs.declared.task.Action.{Action}
use Rattle.mf_model.specs.declared.task.Atom.{Atom}
use Rattle.mf_model.specs.declared.task.Cell.{Cell}
use Rattle.mf_model.specs.declared.task.Effect.{Effect}
use Rattle.mf_model.specs.declared.task.Effect.TheOpen.{Effect-F}
use Rattle.mf_model.specs.declared.task.Effect.TheFolds.{ind-Effect, fold-roll-Effect, map-Effect}
use Rattle.mf_model.specs.declared.task.Op.{Op}
use Rattle.mf_model.specs.declared.task.TypedTask.{TypedTask}
use Rattle.mf_model.specs.declared.state.Instance.{Instance}
use Rattle.mf_model.specs.Functions.{changes, changes_step, is_constant, is_cost}
use Rattle.mf_model.specs.Objects.{bindings, kinds_of}
use Rattle.mf_model.specs.States.{is_atom}
use Rattle.mf_model.specs.Views.{objects_of}
use Rattle.mf_meaning.proofs.NumberOrder.{same_key-self}
use Rattle.mf_search.proofs.Members.{in_first, in_later}
use Rattle.mf_task.specs.declared.ground.GroundAction.{GroundAction}
use Rattle.mf_task.specs.declared.ground.GroundCond.{GroundCond}
use Rattle.mf_task.specs.declared.ground.GroundEffect.{GroundEffect}
use Rattle.mf_task.specs.declared.task.Task.{Task}
use Rattle.mf_task.specs.Grounding.{Numbering, changed_atoms, changed_atoms_step, condition_cells, effect_cells, effect_cells_step, ground_cond, ground_effect_step, ground_effects, ground_number_change, ground_of, guarded, is_same_cell, numbering_of, or_nothing, place_or_end}
use Rattle.mf_bridge.proofs.ActionsMade.{is_made}
use Rattle.mf_bridge.proofs.CoveredTerms.{instance_terms_covered}
use Rattle.mf_bridge.proofs.FluentAtoms.{changed_atoms_covered}
use Rattle.mf_bridge.proofs.ListTests.{any_back, any_front, place_is, place_within}
use Rattle.mf_task.specs.NumberedTasks.{is_numbered, is_numbered_action, is_numbered_change}

place_below : {X : Type 0} (test : X → Bool) (xs : List X) → list_any test xs ≡ true → nat_lt (place_or_end (position test xs) (length xs)) (length xs) ≡ true
place_below test xs e = lt-ltb (place_or_end (position test xs) (length xs)) (length xs) (subst (λ n. n < length xs) (sym (place_is test xs)) (place_within test xs e))

first_found : (b c : Bool) → b ≡ true → (b || c) ≡ true
first_found b c e = rw e refl

or_false : (b c : Bool) → (b || c) ≡ false → (b ≡ false) × (c ≡ false)
or_false true c e = cc
or_false false c e = (refl, e)

all_append : {X : Type 0} (P : X → Type 0) (xs ys : List X) → AllByRecursion P xs → AllByRecursion P ys → AllByRecursion P (xs ++ ys)
all_append P [] ys a b = b
all_append P (x ∷ xs) ys a b = (a.0, all_append P xs ys a.1 b)

all_true : {X : Type 0} (p : X → Bool) (xs : List X) → AllByRecursion (λ x. p x ≡ true) xs → list_all p xs ≡ true
all_true p [] all = refl
all_true p (x ∷ xs) all = rw (all.0, all_true p xs all.1) refl

all_by : {X : Type 0} (p : X → Bool) (xs : List X) → ((x : X) → Contains xs x → p x ≡ true) → list_all p xs ≡ true
all_by p [] each = refl
all_by p (x ∷ xs) each = rw (each x (in_first x xs), all_by p xs (λ y h. each y (in_later x xs y h))) refl

any_at : {X : Type 0} (p : X → Bool) (xs : List X) (n : ℕ) (x : X) → slice_get xs n ≡ Some x → p x ≡ true → list_any p xs ≡ true
any_at p [] n x found e = absurd cc
any_at p (y ∷ ys) zero x found e = let same : y ≡ x = cc in rw (ap p same ∙ e) refl
any_at p (y ∷ ys) (suc n) x found e = or_right (p y) (list_any p ys) (any_at p ys n x found e)

module _ (task : TypedTask) (instances : List Instance) where
  abbrev packed : Task
  packed = ground_of task instances

  abbrev numbering : Numbering
  numbering = numbering_of task instances

  abbrev objects : List (List ℕ)
  objects = kinds_of task

  -- the atoms, or the terms of rows, are the packed task's
  abbrev CoversAtoms : List Atom → Type 0
  CoversAtoms atoms = (p : ℕ) (os : List ℕ) → list_any (is_atom p os) atoms ≡ true → list_any (is_atom p os) packed.atoms ≡ true

  abbrev CoversCells : List Cell → Type 0
  CoversCells cells = (f : ℕ) (os : List ℕ) → is_constant task f ≡ false → is_cost task f ≡ false → list_any (is_same_cell f os) cells ≡ true → list_any (is_same_cell f os) packed.terms ≡ true

  abbrev IsNumbered : GroundEffect → Type 0
  IsNumbered effect = is_numbered_change packed effect.change ≡ true

  abbrev Holds : (ℕ → Bool) → (List ℕ → List Atom) → (List ℕ → List Cell) → (List ℕ → List GroundEffect) → Type 0
  Holds changed atoms cells effects = ((f : ℕ) → is_constant task f ≡ true → changed f ≡ false) → (b : List ℕ) → CoversAtoms (atoms b) → CoversCells (cells b) → AllByRecursion IsNumbered (effects b)

  abbrev IsNumberedEffect : Effect → Type 0
  IsNumberedEffect e = Holds (λ f. changes f e) (changed_atoms objects e) (effect_cells objects e) (ground_effects numbering e)

  abbrev Part : Type 0
  Part = (e : Effect) × IsNumberedEffect e

  abbrev effects_in : List Part → List Effect
  effects_in ps = map (λ q. q.0) ps

  number_change : (op : Op) (f : ℕ) (os : List ℕ) (value : Option ℕ) (cost : Bool) → is_cost task f ≡ cost → (cost ≡ false → list_any (is_same_cell f os) packed.terms ≡ true) → is_numbered_change packed (ground_number_change numbering op f os value) ≡ true
  number_change op f os value true e covered = rw e refl
  number_change op f os value false e covered = rw e (place_below (is_same_cell f os) packed.terms (covered refl))

  constant_not : (f : ℕ) → (is_constant task f ≡ true → nat_eq f f ≡ false) → is_constant task f ≡ false
  constant_not f not_changed = by (is_constant task f) refl
    where
      by : (b : Bool) → is_constant task f ≡ b → b ≡ false
      by false e = refl
      by true e = absurd (true≢false (sym (eq-eqb f f refl) ∙ not_changed e))

  group_numbered : (ps : List Part) → ((f : ℕ) → is_constant task f ≡ true → list_any (λ part. part) (map (changes f) (effects_in ps)) ≡ false) → (b : List ℕ) → CoversAtoms (flat_map (λ part. part b) (map (changed_atoms objects) (effects_in ps))) → CoversCells (flat_map (λ part. part b) (map (effect_cells objects) (effects_in ps))) → AllByRecursion IsNumbered (flat_map (λ part. part b) (map (ground_effects numbering) (effects_in ps)))
  group_numbered [] unchanged b atoms cells = tt
  group_numbered (p ∷ ps) unchanged b atoms cells =
      let others = flat_map (λ (part : List ℕ → List Atom). part b) (map (changed_atoms objects) (effects_in ps)) in
      let more = flat_map (λ (part : List ℕ → List Cell). part b) (map (effect_cells objects) (effects_in ps)) in
      all_append IsNumbered (ground_effects numbering p.0 b) (flat_map (λ part. part b) (map (ground_effects numbering) (effects_in ps)))
      (p.1 (λ f c. (or_false (changes f p.0) (list_any (λ part. part) (map (changes f) (effects_in ps))) (unchanged f c)).0) b (λ q os h. atoms q os (any_front (is_atom q os) (changed_atoms objects p.0 b) others h)) (λ f os c d h. cells f os c d (any_front (is_same_cell f os) (effect_cells objects p.0 b) more h)))
      (group_numbered ps (λ f c. (or_false (changes f p.0) (list_any (λ part. part) (map (changes f) (effects_in ps))) (unchanged f c)).1) b (λ q os h. atoms q os (any_back (is_atom q os) (changed_atoms objects p.0 b) others h)) (λ f os c d h. cells f os c d (any_back (is_same_cell f os) (effect_cells objects p.0 b) more h)))

  each_numbered : (p : Part) → ((f : ℕ) → is_constant task f ≡ true → changes f p.0 ≡ false) → (bs : List (List ℕ)) → CoversAtoms (flat_map (changed_atoms objects p.0) bs) → CoversCells (flat_map (effect_cells objects p.0) bs) → AllByRecursion IsNumbered (flat_map (ground_effects numbering p.0) bs)
  each_numbered p unchanged [] atoms cells = tt
  each_numbered p unchanged (b ∷ bs) atoms cells =
      all_append IsNumbered (ground_effects numbering p.0 b) (flat_map (ground_effects numbering p.0) bs)
      (p.1 unchanged b (λ q os h. atoms q os (any_front (is_atom q os) (changed_atoms objects p.0 b) (flat_map (changed_atoms objects p.0) bs) h)) (λ f os c d h. cells f os c d (any_front (is_same_cell f os) (effect_cells objects p.0 b) (flat_map (effect_cells objects p.0) bs) h)))
      (each_numbered p unchanged bs (λ q os h. atoms q os (any_back (is_atom q os) (changed_atoms objects p.0 b) (flat_map (changed_atoms objects p.0) bs) h)) (λ f os c d h. cells f os c d (any_back (is_same_cell f os) (effect_cells objects p.0 b) (flat_map (effect_cells objects p.0) bs) h)))

  guarded_numbered : (condition : GroundCond) (effects : List GroundEffect) → AllByRecursion IsNumbered effects → AllByRecursion IsNumbered (map (guarded condition) effects)
  guarded_numbered condition [] all = tt
  guarded_numbered condition (effect ∷ effects) all = (all.0, guarded_numbered condition effects all.1)

  nothing_numbered : (effects : List GroundEffect) → AllByRecursion IsNumbered effects → AllByRecursion IsNumbered (or_nothing effects)
  nothing_numbered [] all = (refl, tt)
  nothing_numbered (effect ∷ effects) all = all

  Layer : Effect-F Effect → Type 0
  Layer x = Holds (λ f. changes_step f (map-Effect Effect Bool (changes f) x)) (changed_atoms_step objects (map-Effect Effect (List ℕ → List Atom) (changed_atoms objects) x)) (effect_cells_step objects (map-Effect Effect (List ℕ → List Cell) (effect_cells objects) x)) (ground_effect_step numbering (map-Effect Effect (List ℕ → List GroundEffect) (ground_effects numbering) x))

  level : (y : Effect-F Part) → Layer (map-Effect Part Effect (λ q. q.0) y)
  unfolding Layer
  level (Effect-F.Add predicate terms) unchanged b atoms cells = (place_below (is_atom predicate (objects_of b terms)) packed.atoms (atoms predicate (objects_of b terms) (first_found _ false (same_key-self predicate (objects_of b terms)))), tt)
  level (Effect-F.Delete predicate terms) unchanged b atoms cells = (place_below (is_atom predicate (objects_of b terms)) packed.atoms (atoms predicate (objects_of b terms) (first_found _ false (same_key-self predicate (objects_of b terms)))), tt)
  level (Effect-F.Change op function terms value) unchanged b atoms cells =
      (number_change op function (objects_of b terms) _ (is_cost task function) refl (λ costless. cells function (objects_of b terms) (constant_not function (unchanged function)) costless (first_found _ _ (same_key-self function (objects_of b terms)))), tt)
  level (Effect-F.Group parts) unchanged b atoms cells = group_numbered parts unchanged b atoms cells
  level (Effect-F.Each variables part) unchanged b atoms cells = each_numbered part unchanged (bindings objects variables b) atoms cells
  level (Effect-F.When condition part) unchanged b atoms cells =
      guarded_numbered (ground_cond numbering condition b) (or_nothing (ground_effects numbering part.0 b))
      (nothing_numbered (ground_effects numbering part.0 b) (part.1 unchanged b atoms (λ f os c d h. cells f os c d (any_back (is_same_cell f os) (condition_cells objects condition b) (effect_cells objects part.0 b) h))))

  effects_are_numbered : (e : Effect) → IsNumberedEffect e
  unfolding Layer
  effects_are_numbered = ind-Effect IsNumberedEffect (λ x y e unchanged b atoms cells.
      let at_layer = subst (λ z. Layer z) e (level y) in
      subst (λ (effects : List ℕ → List GroundEffect). AllByRecursion IsNumbered (effects b)) (sym (fold-roll-Effect (List ℕ → List GroundEffect) (ground_effect_step numbering) x))
      (at_layer (λ f c. sym (fold-roll-Effect Bool (changes_step f) x) ∙ unchanged f c) b
      (subst (λ (named : List ℕ → List Atom). CoversAtoms (named b)) (fold-roll-Effect (List ℕ → List Atom) (changed_atoms_step objects) x) atoms)
      (subst (λ (cs : List ℕ → List Cell). CoversCells (cs b)) (fold-roll-Effect (List ℕ → List Cell) (effect_cells_step objects) x) cells)))

  -- a constant function is changed by no action
  constant_left : (actions : List Action) (number : ℕ) (action : Action) (f : ℕ) → slice_get actions number ≡ Some action → list_any (λ (a : Action). changes f a.effect) actions ≡ false → changes f action.effect ≡ false
  constant_left actions number action f found none = by (changes f action.effect) refl
    where
      by : (b : Bool) → changes f action.effect ≡ b → b ≡ false
      by false e = refl
      by true e = absurd (true≢false (sym (any_at (λ (a : Action). changes f a.effect) actions number action found e) ∙ none))

  not_true : (b : Bool) → not b ≡ true → b ≡ false
  not_true false e = refl
  not_true true e = cc

  action_numbered : (made : GroundAction) → Contains packed.actions made → is_numbered_action packed made ≡ true
  action_numbered made contained =
      let m = is_made task instances made contained in
      ap (list_all (λ (effect : GroundEffect). is_numbered_change packed effect.change)) m.effects
      ∙ all_true (λ (effect : GroundEffect). is_numbered_change packed effect.change) (ground_effects numbering m.action.effect made.instance.objects)
      (effects_are_numbered m.action.effect (λ f c. constant_left task.actions made.instance.action m.action f m.found (not_true (list_any (λ (a : Action). changes f a.effect) task.actions) c)) made.instance.objects
      (λ p os h. changed_atoms_covered task instances made.instance m.action p os m.contained m.found h)
      (λ f os c d h. instance_terms_covered task instances f os c d made.instance m.action m.contained m.found (any_back (is_same_cell f os) (condition_cells objects m.action.condition made.instance.objects) (effect_cells objects m.action.effect made.instance.objects) h)))

  pub task_numbered : is_numbered packed ≡ true
  task_numbered = all_by (is_numbered_action packed) packed.actions action_numbered
