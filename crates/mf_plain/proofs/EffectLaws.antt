-- What an effect that only adds and deletes atoms changes.
use Rattle.std.proofs.Common.{◌≡◌, ℕ, ◌++◌, ◌||◌, Bool, true, false, cond, not, filter, List, [], ◌∷◌, map, refl, sym, ap, ◌∙◌, subst}
use Rattle.std.specs.List.{flat_map, fold, list_all}
use Rattle.std.proofs.lemmas.Bool.{and_parts, and_from, false≢true}
use Rattle.std.proofs.lemmas.List.Concat.{flat_map-append}
use Rattle.mf_model.specs.declared.task.Atom.{Atom}
use Rattle.mf_model.specs.declared.task.Symbol.{Symbol}
use Rattle.mf_model.specs.declared.task.Valued.{Valued}
use Rattle.mf_model.specs.declared.task.Effect.{Effect}
use Rattle.mf_model.specs.declared.task.Effect.TheOpen.{Effect-F}
use Rattle.mf_model.specs.declared.task.Effect.TheViews.{roll-Effect}
use Rattle.mf_model.specs.declared.task.Effect.TheFolds.{map-Effect, fold-roll-Effect, ind-Effect}
use Rattle.mf_model.specs.declared.state.PlainState.{PlainState}
use Rattle.mf_model.specs.Application.{Change, Added, Deleted, firing_step, firing_of, added, deleted, is_defined, is_apart, with_change}
use Rattle.mf_model.specs.Plain.{all_true, plain_effect_step, is_plain_effect}
use Rattle.mf_model.specs.States.{same_atom, with_atom, without_atom}
use Rattle.mf_model.specs.Views.{Look}
use Rattle.mf_plain.specs.Changes.{changes_step, only_changes_atoms, adds_step, adds_of, deletes_step, deletes_of, is_deleted}

-- an added or a deleted atom
abbrev pub IsAtomChange : Change → Type 0
IsAtomChange (Added predicate objects) = Unit {0}
IsAtomChange (Deleted predicate objects) = Unit {0}
IsAtomChange _ = ⊥

abbrev pub AllAtomChanges : List Change → Type 0
AllAtomChanges [] = Unit {0}
AllAtomChanges (change ∷ changes) = IsAtomChange change × AllAtomChanges changes

changes-append : (xs ys : List Change) → AllAtomChanges xs → AllAtomChanges ys → AllAtomChanges (xs ++ ys)
changes-append [] ys a b = b
changes-append (x ∷ xs) ys a b = (a.0, changes-append xs ys a.1 b)

pub record IsFired (objects : List (List ℕ)) (look : Look) (e : Effect) (b : List ℕ) : Type 0 where
  pub kinds : AllAtomChanges (firing_of objects look e b)
  pub adds : flat_map added (firing_of objects look e b) ≡ adds_of e b
  pub deletes : flat_map deleted (firing_of objects look e b) ≡ deletes_of e b

abbrev pub Fires : List (List ℕ) → Look → Effect → Type 0
Fires objects look e = only_changes_atoms e ≡ true → (b : List ℕ) → IsFired objects look e b

abbrev Fired : List (List ℕ) → Look → Type 0
Fired objects look = (e : Effect) × Fires objects look e

record AreFired (objects : List (List ℕ)) (look : Look) (es : List Effect) (b : List ℕ) : Type 0 where
  kinds : AllAtomChanges (flat_map (λ part. part b) (map (firing_of objects look) es))
  adds : flat_map added (flat_map (λ part. part b) (map (firing_of objects look) es)) ≡ flat_map (λ part. part b) (map adds_of es)
  deletes : flat_map deleted (flat_map (λ part. part b) (map (firing_of objects look) es)) ≡ flat_map (λ part. part b) (map deletes_of es)

fired_parts : (objects : List (List ℕ)) (look : Look) (parts : List (Fired objects look)) → all_true (map only_changes_atoms (map (λ e. e.0) parts)) ≡ true → (b : List ℕ) → AreFired objects look (map (λ e. e.0) parts) b
fired_parts objects look [] plain b = record { kinds = tt; adds = refl; deletes = refl }
fired_parts objects look (p ∷ parts) plain b =
    let both = and_parts (only_changes_atoms p.0) (all_true (map only_changes_atoms (map (λ e. e.0) parts))) plain in
    let first = p.1 both.0 b in
    let others = fired_parts objects look parts both.1 b in
    let rest : List Change = flat_map (λ part. part b) (map (firing_of objects look) (map (λ e. e.0) parts)) in
    record {
      kinds = changes-append (firing_of objects look p.0 b) rest first.kinds others.kinds;
      adds = flat_map-append added (firing_of objects look p.0 b) rest ∙ rw (first.adds, others.adds) refl;
      deletes = flat_map-append deleted (firing_of objects look p.0 b) rest ∙ rw (first.deletes, others.deletes) refl;
    }

abbrev FLayer : List (List ℕ) → Look → Type 0
FLayer objects look = Effect-F (Fired objects look)

abbrev plain_layer : (objects : List (List ℕ)) (look : Look) → FLayer objects look → Effect-F Effect
plain_layer objects look y = map-Effect (Fired objects look) Effect (λ e. e.0) y

fired_step : (objects : List (List ℕ)) (look : Look) (y : FLayer objects look) → Fires objects look (roll-Effect (plain_layer objects look y))
fired_step objects look (Effect-F.Add predicate terms) plain b =
    let x : Effect-F Effect = Effect-F.Add predicate terms in
    record {
      kinds = rw (fold-roll-Effect (List ℕ → List Change) (firing_step objects look) x) (tt, tt);
      adds = rw (fold-roll-Effect (List ℕ → List Change) (firing_step objects look) x, fold-roll-Effect (List ℕ → List Atom) adds_step x) refl;
      deletes = rw (fold-roll-Effect (List ℕ → List Change) (firing_step objects look) x, fold-roll-Effect (List ℕ → List Atom) deletes_step x) refl;
    }
fired_step objects look (Effect-F.Delete predicate terms) plain b =
    let x : Effect-F Effect = Effect-F.Delete predicate terms in
    record {
      kinds = rw (fold-roll-Effect (List ℕ → List Change) (firing_step objects look) x) (tt, tt);
      adds = rw (fold-roll-Effect (List ℕ → List Change) (firing_step objects look) x, fold-roll-Effect (List ℕ → List Atom) adds_step x) refl;
      deletes = rw (fold-roll-Effect (List ℕ → List Change) (firing_step objects look) x, fold-roll-Effect (List ℕ → List Atom) deletes_step x) refl;
    }
fired_step objects look (Effect-F.Group parts) plain b =
    let x : Effect-F Effect = Effect-F.Group (map (λ e. e.0) parts) in
    let plain_parts = rw (fold-roll-Effect Bool changes_step x) at plain in
    let all = fired_parts objects look parts plain_parts b in
    record {
      kinds = rw (fold-roll-Effect (List ℕ → List Change) (firing_step objects look) x) all.kinds;
      adds = rw (fold-roll-Effect (List ℕ → List Change) (firing_step objects look) x, fold-roll-Effect (List ℕ → List Atom) adds_step x) all.adds;
      deletes = rw (fold-roll-Effect (List ℕ → List Change) (firing_step objects look) x, fold-roll-Effect (List ℕ → List Atom) deletes_step x) all.deletes;
    }
fired_step objects look y plain b = absurd (false≢true (sym (fold-roll-Effect Bool changes_step (plain_layer objects look y)) ∙ plain))

pub fires : (objects : List (List ℕ)) (look : Look) (e : Effect) → Fires objects look e
fires objects look = ind-Effect (Fires objects look) (λ x y is. subst (λ z. Fires objects look (roll-Effect z)) is (fired_step objects look y))

-- A plain effect only adds and deletes atoms.
abbrev IsFine : List Symbol → ℕ → ℕ → Effect → Type 0
IsFine predicates variables objects e = is_plain_effect predicates variables objects e ≡ true → only_changes_atoms e ≡ true

abbrev Fine : List Symbol → ℕ → ℕ → Type 0
Fine predicates variables objects = (e : Effect) × IsFine predicates variables objects e

fine_parts : (ps : List Symbol) (v o : ℕ) (parts : List (Fine ps v o)) → all_true (map (is_plain_effect ps v o) (map (λ e. e.0) parts)) ≡ true → all_true (map only_changes_atoms (map (λ e. e.0) parts)) ≡ true
fine_parts ps v o [] plain = refl
fine_parts ps v o (p ∷ parts) plain =
    let both = and_parts (is_plain_effect ps v o p.0) (all_true (map (is_plain_effect ps v o) (map (λ e. e.0) parts))) plain in
    and_from _ _ (p.1 both.0) (fine_parts ps v o parts both.1)

fine_step : (ps : List Symbol) (v o : ℕ) (y : Effect-F (Fine ps v o)) → IsFine ps v o (roll-Effect (map-Effect (Fine ps v o) Effect (λ e. e.0) y))
fine_step ps v o (Effect-F.Add predicate terms) plain = fold-roll-Effect Bool changes_step (Effect-F.Add predicate terms)
fine_step ps v o (Effect-F.Delete predicate terms) plain = fold-roll-Effect Bool changes_step (Effect-F.Delete predicate terms)
fine_step ps v o (Effect-F.Group parts) plain =
    let x : Effect-F Effect = Effect-F.Group (map (λ e. e.0) parts) in
    let plain_parts = rw (fold-roll-Effect Bool (plain_effect_step ps v o) x) at plain in
    rw (fold-roll-Effect Bool changes_step x) (fine_parts ps v o parts plain_parts)
fine_step ps v o y plain = absurd (false≢true (sym (fold-roll-Effect Bool (plain_effect_step ps v o) (map-Effect (Fine ps v o) Effect (λ e. e.0) y)) ∙ plain))

pub plain_only_changes : (ps : List Symbol) (v o : ℕ) (e : Effect) → is_plain_effect ps v o e ≡ true → only_changes_atoms e ≡ true
plain_only_changes ps v o = ind-Effect (IsFine ps v o) (λ x y is. subst (λ z. IsFine ps v o (roll-Effect z)) is (fine_step ps v o y))

-- Such changes read nothing, and never meet at a term.
pub defined_atoms : (look : Look) (changes : List Change) → AllAtomChanges changes → list_all (is_defined look) changes ≡ true
defined_atoms look [] a = refl
defined_atoms look (Added p os ∷ changes) a = defined_atoms look changes a.1
defined_atoms look (Deleted p os ∷ changes) a = defined_atoms look changes a.1
defined_atoms look (_ ∷ changes) a = absurd a.0

pub apart_atoms : (all changes : List Change) → AllAtomChanges changes → list_all (is_apart all) changes ≡ true
apart_atoms all [] a = refl
apart_atoms all (Added p os ∷ changes) a = apart_atoms all changes a.1
apart_atoms all (Deleted p os ∷ changes) a = apart_atoms all changes a.1
apart_atoms all (_ ∷ changes) a = absurd a.0

pub values_stay : (values : List Valued) (changes : List Change) → AllAtomChanges changes → fold with_change values changes ≡ values
values_stay values [] a = refl
values_stay values (Added p os ∷ changes) a = values_stay values changes a.1
values_stay values (Deleted p os ∷ changes) a = values_stay values changes a.1
values_stay values (_ ∷ changes) a = absurd a.0

-- The deletes one after the other, and all at once.
filter_twice : {X : Type 0} (p q : X → Bool) (xs : List X) → filter (λ x. not (p x)) (filter (λ x. not (q x)) xs) ≡ filter (λ x. not (q x || p x)) xs
filter_twice p q [] = refl
filter_twice {X} p q (x ∷ xs) = go (q x) (filter_twice p q xs)
  where
    go : (a : Bool) → filter (λ x. not (p x)) (filter (λ x. not (q x)) xs) ≡ filter (λ x. not (q x || p x)) xs → filter (λ x. not (p x)) (cond (not a) (x ∷ filter (λ x. not (q x)) xs) (filter (λ x. not (q x)) xs)) ≡ cond (not (a || p x)) (x ∷ filter (λ x. not (q x || p x)) xs) (filter (λ x. not (q x || p x)) xs)
    go true ih = ih
    go false ih = ap (λ r. cond (not (p x)) (x ∷ r) r) ih

keep_all : (atoms : List Atom) → atoms ≡ filter (λ a. true) atoms
keep_all [] = refl
keep_all (a ∷ atoms) = ap (λ r. a ∷ r) (keep_all atoms)

pub deletes_at_once : (deletes atoms : List Atom) → fold without_atom atoms deletes ≡ filter (λ a. not (is_deleted deletes a)) atoms
deletes_at_once [] atoms = keep_all atoms
deletes_at_once (d ∷ deletes) atoms = deletes_at_once deletes (without_atom atoms d) ∙ filter_twice (is_deleted deletes) (same_atom d) atoms

-- The state after an effect, put together.
pub after_is : (state : PlainState) (atoms kept added : List Atom) (values copied : List Valued) (deletes adds : List Atom) → atoms ≡ state.atoms → kept ≡ filter (λ a. not (is_deleted deletes a)) atoms → added ≡ fold with_atom kept adds → values ≡ state.values → copied ≡ values →
    ◌≡◌ {A = PlainState} (record { atoms = added; values = copied }) (record { atoms = fold with_atom (fold without_atom state.atoms deletes) adds; values = state.values })
after_is state atoms kept added values copied deletes adds a k d v c = rw (c, v, d, k, a, deletes_at_once deletes state.atoms) refl
