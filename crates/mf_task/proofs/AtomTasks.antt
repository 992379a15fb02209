-- Tasks whose preconditions are lists of atoms and whose effects have no conditions: what the definitions say of them, without
-- conditions as trees.
use Rattle.std.proofs.Common.{◌≡◌, ℕ, zero, suc, ◌+◌, Bool, true, ◌&&◌, ◌||◌, if◌then◌else◌, List, [], ◌∷◌, ◌++◌, map, filter, Option, Some, refl, sym, ap, ap₂, ◌∙◌, rules}
use Rattle.std.specs.Prelude.{position, is_some}
use Rattle.std.specs.List.{flat_map, list_all, list_any, position_from}
use Rattle.std.proofs.lemmas.Iterator.Adapters.{position_from-zero}
use Rattle.std.proofs.lemmas.List.{append-nil, append_assoc}
use Rattle.mf_model.specs.declared.state.Instance.{Instance}
use Rattle.mf_model.specs.declared.task.Relation.{Relation}
use Rattle.mf_model.specs.Meaning.{all_of, is_yes, truth_of}
use Rattle.mf_task.specs.declared.ground.GroundCond.{GroundCond, fold-GroundCond, the_lemmas}
use Rattle.mf_task.specs.declared.ground.GroundCond.TheVariants as node
use Rattle.mf_task.specs.declared.ground.GroundCond.TheOpen.{GroundCond-F}
use Rattle.mf_task.specs.declared.ground.GroundChange.{GroundChange}
use Rattle.mf_task.specs.declared.ground.GroundEffect.{GroundEffect}
use Rattle.mf_task.specs.declared.ground.GroundAction.{GroundAction}
use Rattle.mf_task.specs.declared.task.Task.{Task}
use Rattle.mf_task.specs.GroundMeaning.{form_at, ground_firing, ground_holds, ground_truth_step, is_ground_applicable, is_ground_apart, is_ground_defined}
use Rattle.mf_task.specs.Layers.{FiringEffect, Layer, and_level, atom_is_met, effect_fires, firing_at, firing_from, form_is_met, layer_at, layers_to, level_of, level_step, next_layer_by, want_of}
use Rattle.mf_task.specs.LimitClosure.{Family, Gain, action_gains, all_may, atom_may, change_gains, effect_gains, family_after, first_family, gives_true, may_compare, may_hold, may_step, next_family, with_gains}
use Rattle.mf_task.specs.RelaxedPlan.{LayerNeed, Relaxation, Requirement, and_needs, atom_needs, form_needs, required, require_step}
use Rattle.mf_task.specs.Rows.{Sight}

-- an instance, the atoms that it needs, and its changes
pub record AtomAction : Type 0 where
  pub instance : Instance
  pub needs : List ℕ
  pub changes : List GroundChange

abbrev pub always : GroundChange → GroundEffect
always made = record { condition = node.Fact true; change = made }

abbrev pub all_atoms : List ℕ → GroundCond
all_atoms atoms = node.And (map node.Atom atoms)

abbrev pub action_of : AtomAction → GroundAction
action_of a = record { instance = a.instance; condition = all_atoms a.needs; effects = map always a.changes }

module _ (R : Type 0) (step : GroundCond-F R → R) where
  pub at_atom : (n : ℕ) → fold-GroundCond R step (node.Atom n) ≡ step (GroundCond-F.Atom n)
  at_atom n = search (rules, the_lemmas)

  pub at_compare : (relation : Relation) (form : ℕ) → fold-GroundCond R step (node.Compare relation form) ≡ step (GroundCond-F.Compare relation form)
  at_compare relation form = search (rules, the_lemmas)

  at_and : (parts : List GroundCond) → fold-GroundCond R step (node.And parts) ≡ step (GroundCond-F.And (map (fold-GroundCond R step) parts))
  at_and parts = search (rules, the_lemmas)

  pub at_true : fold-GroundCond R step (node.Fact true) ≡ step (GroundCond-F.Fact true)
  at_true = search (rules, the_lemmas)

  at_each : (atoms : List ℕ) → map (fold-GroundCond R step) (map node.Atom atoms) ≡ map (λ n. step (GroundCond-F.Atom n)) atoms
  at_each [] = refl
  at_each (n ∷ ns) = ap₂ (λ (x : R) (xs : List R). x ∷ xs) (at_atom n) (at_each ns)

  pub at_all : (atoms : List ℕ) → fold-GroundCond R step (all_atoms atoms) ≡ step (GroundCond-F.And (map (λ n. step (GroundCond-F.Atom n)) atoms))
  at_all atoms = at_and (map node.Atom atoms) ∙ ap (λ (xs : List R). step (GroundCond-F.And xs)) (at_each atoms)

-- levels

-- the first layer that meets an atom, counted from the first of these layers on
abbrev pub first_where : (Layer → Bool) → List Layer → Option ℕ
first_where test layers = position_from test 0 layers

first_is_position : position {X = Layer} ≡ first_where
first_is_position = λ i test layers. position_from-zero test layers i

abbrev pub atom_level : List Layer → ℕ → Bool → Option ℕ
atom_level layers n asked = first_where (atom_is_met n asked) layers

abbrev pub atoms_level : List Layer → List ℕ → Option ℕ
atoms_level layers atoms = and_level (map (atom_level layers) atoms) true

pub level-atoms : (task : Task) (layers : List Layer) (atoms : List ℕ) → level_of task layers (all_atoms atoms) ≡ atoms_level layers atoms
level-atoms task layers atoms =
    ap (λ (level : Bool → Option ℕ). level true) (at_all (Bool → Option ℕ) (level_step task layers) atoms)
    ∙ ap (λ (first : (Layer → Bool) → List Layer → Option ℕ). and_level (map (λ (n : ℕ) (asked : Bool). first (atom_is_met n asked) layers) atoms) true) first_is_position

pub level-true : (task : Task) (layers : List Layer) → level_of task layers (node.Fact true) ≡ Some 0
level-true task layers = ap (λ (level : Bool → Option ℕ). level true) (at_true (Bool → Option ℕ) (level_step task layers))

pub level-atom : (task : Task) (layers : List Layer) (n : ℕ) → level_of task layers (node.Atom n) ≡ atom_level layers n true
level-atom task layers n =
    ap (λ (level : Bool → Option ℕ). level true) (at_atom (Bool → Option ℕ) (level_step task layers) n)
    ∙ ap (λ (first : (Layer → Bool) → List Layer → Option ℕ). first (atom_is_met n true) layers) first_is_position

pub level-compare : (task : Task) (layers : List Layer) (relation : Relation) (form : ℕ) → level_of task layers (node.Compare relation form) ≡ first_where (λ layer. form_is_met layer (want_of true relation) (form_at task form)) layers
level-compare task layers relation form =
    ap (λ (level : Bool → Option ℕ). level true) (at_compare (Bool → Option ℕ) (level_step task layers) relation form)
    ∙ ap (λ (first : (Layer → Bool) → List Layer → Option ℕ). first (λ layer. form_is_met layer (want_of true relation) (form_at task form)) layers) first_is_position

-- firing effects

abbrev firing_by : ℕ → GroundChange → FiringEffect
firing_by n made = record { action = n; condition = node.Fact true; change = made }

abbrev pub atoms_firing : List Layer → ℕ → List AtomAction → List FiringEffect
atoms_firing layers n [] = []
atoms_firing layers n (a ∷ acts) = (if is_some (atoms_level layers a.needs) then map (firing_by n) a.changes else []) ++ atoms_firing layers (n + 1) acts

all_fire : (task : Task) (layers : List Layer) (n : ℕ) (changes : List GroundChange) → map (λ effect. record { action = n; condition = effect.condition; change = effect.change }) (filter (effect_fires task layers) (map always changes)) ≡ map (firing_by n) changes
all_fire task layers n [] = refl
all_fire task layers n (c ∷ cs) =
    ap (λ (level : Option ℕ). map (λ effect. record { action = n; condition = effect.condition; change = effect.change }) (if is_some level then always c ∷ filter (effect_fires task layers) (map always cs) else filter (effect_fires task layers) (map always cs))) (level-true task layers)
    ∙ ap (λ fs. firing_by n c ∷ fs) (all_fire task layers n cs)

pub firing-atoms : (task : Task) (layers : List Layer) (n : ℕ) (acts : List AtomAction) → firing_from task layers n (map action_of acts) ≡ atoms_firing layers n acts
firing-atoms task layers n [] = refl
firing-atoms task layers n (a ∷ acts) =
    ap₂ (λ (fs gs : List FiringEffect). fs ++ gs)
    (ap₂ (λ (level : Option ℕ) (fs : List FiringEffect). if is_some level then fs else []) (level-atoms task layers a.needs) (all_fire task layers n a.changes))
    (firing-atoms task layers (n + 1) acts)

-- applicability

all_hold : (task : Task) (sight : Sight) (changes : List GroundChange) → ground_firing task sight (map always changes) ≡ changes
all_hold task sight [] = refl
all_hold task sight (c ∷ cs) =
    ap (λ truth. map (λ effect. effect.change) (if is_yes truth then always c ∷ filter (λ effect. ground_holds task sight effect.condition) (map always cs) else filter (λ effect. ground_holds task sight effect.condition) (map always cs))) (at_true _ (ground_truth_step task sight))
    ∙ ap (λ ds. c ∷ ds) (all_hold task sight cs)

abbrev pub atoms_applicable : Task → Sight → AtomAction → Bool
atoms_applicable task sight a =
    is_yes (all_of (map (λ n. truth_of (sight.bit n)) a.needs)) && list_all (is_ground_defined task sight) a.changes && list_all (is_ground_apart a.changes) a.changes

pub applicable-atoms : (task : Task) (sight : Sight) (a : AtomAction) → is_ground_applicable task sight (action_of a) ≡ atoms_applicable task sight a
applicable-atoms task sight a =
    ap₂ (λ truth (changes : List GroundChange). is_yes truth && list_all (is_ground_defined task sight) changes && list_all (is_ground_apart changes) changes)
    (at_all _ (ground_truth_step task sight) a.needs) (all_hold task sight a.changes)

-- needs

abbrev needed_by : ((Layer → Bool) → List Layer → Option ℕ) → Relaxation → ℕ → Requirement
needed_by first r n = record {
  level = λ asked. first (atom_is_met n asked) r.layers;
  needs = λ asked. atom_needs n asked (first (atom_is_met n asked) r.layers);
}

abbrev pub needed_atom : Relaxation → ℕ → Requirement
needed_atom = needed_by first_where

abbrev pub atoms_needs : Relaxation → List ℕ → List LayerNeed
atoms_needs r atoms = and_needs (map (needed_atom r) atoms) true

pub required-atoms : (r : Relaxation) (atoms : List ℕ) → required r (all_atoms atoms) ≡ atoms_needs r atoms
required-atoms r atoms =
    ap (λ (q : Requirement). q.needs true) (at_all Requirement (require_step r) atoms)
    ∙ ap (λ (first : (Layer → Bool) → List Layer → Option ℕ). and_needs (map (needed_by first r) atoms) true) first_is_position

pub required-true : (r : Relaxation) → required r (node.Fact true) ≡ []
required-true r = ap (λ (q : Requirement). q.needs true) (at_true Requirement (require_step r))

pub required-atom : (r : Relaxation) (n : ℕ) → required r (node.Atom n) ≡ (needed_atom r n).needs true
required-atom r n =
    ap (λ (q : Requirement). q.needs true) (at_atom Requirement (require_step r) n)
    ∙ ap (λ (first : (Layer → Bool) → List Layer → Option ℕ). (needed_by first r n).needs true) first_is_position

pub required-compare : (r : Relaxation) (relation : Relation) (form : ℕ) → required r (node.Compare relation form) ≡ form_needs r (want_of true relation) (form_at r.task form) (first_where (λ layer. form_is_met layer (want_of true relation) (form_at r.task form)) r.layers)
required-compare r relation form =
    ap (λ (q : Requirement). q.needs true) (at_compare Requirement (require_step r) relation form)
    ∙ ap (λ (first : (Layer → Bool) → List Layer → Option ℕ). form_needs r (want_of true relation) (form_at r.task form) (first (λ layer. form_is_met layer (want_of true relation) (form_at r.task form)) r.layers)) first_is_position

-- the limit closure

all_may_hold : (task : Task) (sight : Sight) (family : Family) (atoms : List ℕ) → may_hold task sight family (all_atoms atoms) ≡ all_may (map (atom_may family) atoms) true
all_may_hold task sight family atoms = ap (λ (may : Bool → Bool). may true) (at_all (Bool → Bool) (may_step task sight family) atoms)

true_may_hold : (task : Task) (sight : Sight) (family : Family) → may_hold task sight family (node.Fact true) ≡ true
true_may_hold task sight family = ap (λ (may : Bool → Bool). may true) (at_true (Bool → Bool) (may_step task sight family))

pub atom-may_hold : (task : Task) (sight : Sight) (family : Family) (n : ℕ) → may_hold task sight family (node.Atom n) ≡ family.yes n
atom-may_hold task sight family n = ap (λ (may : Bool → Bool). may true) (at_atom (Bool → Bool) (may_step task sight family) n)

pub compare-may_hold : (task : Task) (sight : Sight) (family : Family) (relation : Relation) (form : ℕ) → may_hold task sight family (node.Compare relation form) ≡ may_compare sight family relation (form_at task form) true
compare-may_hold task sight family relation form = ap (λ (may : Bool → Bool). may true) (at_compare (Bool → Bool) (may_step task sight family) relation form)

abbrev atoms_gains : Task → Sight → Family → AtomAction → List Gain
atoms_gains task sight family a =
    if all_may (map (atom_may family) a.needs) true then flat_map (change_gains task sight family) a.changes else []

all_give : (task : Task) (sight : Sight) (family : Family) (changes : List GroundChange) → flat_map (effect_gains task sight family) (map always changes) ≡ flat_map (change_gains task sight family) changes
all_give task sight family [] = refl
all_give task sight family (c ∷ cs) =
    ap₂ (λ (b : Bool) (gs : List Gain). (if b then change_gains task sight family c else []) ++ gs) (true_may_hold task sight family) (all_give task sight family cs)

gains-atoms : (task : Task) (sight : Sight) (family : Family) (acts : List AtomAction) → flat_map (action_gains task sight family) (map action_of acts) ≡ flat_map (atoms_gains task sight family) acts
gains-atoms task sight family [] = refl
gains-atoms task sight family (a ∷ acts) =
    ap₂ (λ (gs hs : List Gain). gs ++ hs)
    (ap₂ (λ (b : Bool) (gs : List Gain). if b then gs else []) (all_may_hold task sight family a.needs) (all_give task sight family a.changes))
    (gains-atoms task sight family acts)

-- the family after some rounds
abbrev pub atoms_after : Task → Sight → List AtomAction → ℕ → Family
atoms_after task sight acts zero = first_family sight
atoms_after task sight acts (suc n) = with_gains (atoms_after task sight acts n) (flat_map (atoms_gains task sight (atoms_after task sight acts n)) acts)

pub after-atoms : (task : Task) (sight : Sight) (acts : List AtomAction) → task.actions ≡ map action_of acts → (n : ℕ) → family_after task sight n ≡ atoms_after task sight acts n
after-atoms task sight acts are zero = refl
after-atoms task sight acts are (suc n) =
    ap (next_family task sight) (after-atoms task sight acts are n)
    ∙ ap (λ actions. with_gains (atoms_after task sight acts n) (flat_map (action_gains task sight (atoms_after task sight acts n)) actions)) are
    ∙ ap (with_gains (atoms_after task sight acts n)) (gains-atoms task sight (atoms_after task sight acts n) acts)

-- the number that comes so many numbers later
abbrev pub later_by : ℕ → ℕ → ℕ
later_by zero n = n
later_by (suc m) n = suc (later_by m n)

-- an atom that may be true stays so
pub stays : (task : Task) (sight : Sight) (n m atom : ℕ) → (family_after task sight n).yes atom ≡ true → (family_after task sight (later_by m n)).yes atom ≡ true
stays task sight n zero atom e = e
stays task sight n (suc m) atom e =
    ap (λ (b : Bool). b || list_any (gives_true atom) (flat_map (action_gains task sight (family_after task sight (later_by m n))) task.actions)) (stays task sight n m atom e)

-- layers

-- the first layers are those of fewer layers
pub first_layers : (task : Task) (sight : Sight) (n m : ℕ) → (rest : List Layer) × (layers_to task sight (later_by m n) ≡ layers_to task sight n ++ rest)
first_layers task sight n zero = ([], sym (append-nil (layers_to task sight n)))
first_layers task sight n (suc m) =
    let below = first_layers task sight n m in
    (below.0 ++ more, ap (λ layers. layers ++ more) below.1 ∙ append_assoc (layers_to task sight n) below.0 more)
  where
    more : List Layer
    more = next_layer_by task (layer_at sight (layers_to task sight (later_by m n)) (later_by m n)) (firing_at task (layers_to task sight (later_by m n))) ∷ []
