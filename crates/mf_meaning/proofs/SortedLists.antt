-- Sorted lists of atoms and of values: what is put in, what is taken out, and what is left of them.
use Rattle.std.proofs.Common.{◌≡◌, ℕ, Bool, true, false, not, cond, List, [], ◌∷◌, ◌++◌, refl, ap, ◌∙◌}
use Rattle.std.specs.List.{AllByRecursion, filter, fold}
use Rattle.mf_model.specs.declared.task.Atom.{Atom}
use Rattle.mf_model.specs.declared.task.Valued.{Valued}
use Rattle.mf_model.specs.States.{same_atom, atom_before, with_atom, without_atom, same_cell, cell_before, with_value}
use Rattle.mf_meaning.specs.SortedStates.{IsSortedList}
use Rattle.mf_meaning.proofs.NumberOrder.{key_before, same_key-number, same_key-objects, key_before-trans, key_before-other, key_before-apart}

-- any list

pub all_weaker : {X : Type 0} (P Q : X → Type 0) → ((x : X) → P x → Q x) → (xs : List X) → AllByRecursion P xs → AllByRecursion Q xs
all_weaker P Q weaker [] all = tt
all_weaker P Q weaker (x ∷ xs) all = (weaker x all.0, all_weaker P Q weaker xs all.1)

pub all-filter : {X : Type 0} (P : X → Type 0) (test : X → Bool) (xs : List X) → AllByRecursion P xs → AllByRecursion P (filter test xs)
all-filter P test [] all = tt
all-filter {X} P test (x ∷ xs) all = kept (all-filter P test xs all.1) (test x)
  where
    kept : (AllByRecursion P (filter test xs)) → (b : Bool) → AllByRecursion P (cond b (x ∷ filter test xs) (filter test xs))
    kept rest true = (all.0, rest)
    kept rest false = rest

pub sorted-filter : {X : Type 0} (before : X → X → Bool) (test : X → Bool) (xs : List X) → IsSortedList before xs → IsSortedList before (filter test xs)
sorted-filter before test [] sorted = tt
sorted-filter {X} before test (x ∷ xs) sorted = kept (sorted-filter before test xs sorted.1) (test x)
  where
    kept : (IsSortedList before (filter test xs)) → (b : Bool) → IsSortedList before (cond b (x ∷ filter test xs) (filter test xs))
    kept rest true = (all-filter (λ y. before x y ≡ true) test xs sorted.0, rest)
    kept rest false = rest

pub sorted-fold : {X Y : Type 0} (before : X → X → Bool) (step : List X → Y → List X) → ((xs : List X) (y : Y) → IsSortedList before xs → IsSortedList before (step xs y)) → (xs : List X) (ys : List Y) → IsSortedList before xs → IsSortedList before (fold step xs ys)
sorted-fold before step keeps xs [] sorted = sorted
sorted-fold before step keeps xs (y ∷ ys) sorted = sorted-fold before step keeps (step xs y) ys (keeps xs y sorted)

-- lists in a row

pub sorted-parts : {X : Type 0} (before : X → X → Bool) (xs ys : List X) → IsSortedList before (xs ++ ys) → IsSortedList before xs × IsSortedList before ys
sorted-parts before [] ys sorted = (tt, sorted)
sorted-parts {X} before (x ∷ xs) ys sorted =
    let rest = sorted-parts before xs ys sorted.1 in
    ((front xs sorted.0, rest.0), rest.1)
  where
    front : (zs : List X) → AllByRecursion (λ y. before x y ≡ true) (zs ++ ys) → AllByRecursion (λ y. before x y ≡ true) zs
    front [] all = tt
    front (z ∷ zs) all = (all.0, front zs all.1)

-- what occurs before an element comes before it
pub sorted-front : {X : Type 0} (before : X → X → Bool) (xs : List X) (y : X) (ys : List X) → IsSortedList before (xs ++ y ∷ ys) → AllByRecursion (λ x. before x y ≡ true) xs
sorted-front before [] y ys sorted = tt
sorted-front {X} before (x ∷ xs) y ys sorted = (at xs sorted.0, sorted-front before xs y ys sorted.1)
  where
    at : (zs : List X) → AllByRecursion (λ z. before x z ≡ true) (zs ++ y ∷ ys) → before x y ≡ true
    at [] all = all.0
    at (z ∷ zs) all = at zs all.1

-- values

pub cell_before-trans : (u v w : Valued) → cell_before u v ≡ true → cell_before v w ≡ true → cell_before u w ≡ true
cell_before-trans u v w a b = key_before-trans u.cell.function u.cell.objects v.cell.function v.cell.objects w.cell.function w.cell.objects a b

cell_before-same : (v w x : Valued) → same_cell v w ≡ true → cell_before w x ≡ true → cell_before v x ≡ true
cell_before-same v w x same before =
    let n = same_key-number v.cell.function v.cell.objects w.cell.function w.cell.objects same in
    let ns = same_key-objects v.cell.function v.cell.objects w.cell.function w.cell.objects same in
    ap (λ (k : ℕ). key_before k v.cell.objects x.cell.function x.cell.objects) n ∙ ap (λ (ks : List ℕ). key_before w.cell.function ks x.cell.function x.cell.objects) ns ∙ before

pub cell_before-apart : (v w : Valued) → cell_before v w ≡ true → same_cell v w ≡ false
cell_before-apart v w before = key_before-apart v.cell.function v.cell.objects w.cell.function w.cell.objects before

pub cell_before-other : (v w : Valued) → same_cell v w ≡ false → cell_before v w ≡ false → cell_before w v ≡ true
cell_before-other v w a b = key_before-other v.cell.function v.cell.objects w.cell.function w.cell.objects a b

all-with_value : (P : Valued → Type 0) (ws : List Valued) (v : Valued) → P v → AllByRecursion P ws → AllByRecursion P (with_value ws v)
all-with_value P [] v holds all = (holds, tt)
all-with_value P (w ∷ ws) v holds all = put (all-with_value P ws v holds all.1) (same_cell v w) (cell_before v w)
  where
    put : (AllByRecursion P (with_value ws v)) → (same before : Bool) → AllByRecursion P (cond same (v ∷ ws) (cond before (v ∷ w ∷ ws) (w ∷ with_value ws v)))
    put rest true before = (holds, all.1)
    put rest false true = (holds, all)
    put rest false false = (all.0, rest)

pub sorted-with_value : (ws : List Valued) (v : Valued) → IsSortedList cell_before ws → IsSortedList cell_before (with_value ws v)
sorted-with_value [] v sorted = (tt, tt)
sorted-with_value (w ∷ ws) v sorted = put (sorted-with_value ws v sorted.1) (same_cell v w) (cell_before v w) refl refl
  where
    put : (IsSortedList cell_before (with_value ws v)) → (same before : Bool) → same_cell v w ≡ same → cell_before v w ≡ before → IsSortedList cell_before (cond same (v ∷ ws) (cond before (v ∷ w ∷ ws) (w ∷ with_value ws v)))
    put rest true before s b = (all_weaker (λ x. cell_before w x ≡ true) (λ x. cell_before v x ≡ true) (λ x later. cell_before-same v w x s later) ws sorted.0, sorted.1)
    put rest false true s b = ((b, all_weaker (λ x. cell_before w x ≡ true) (λ x. cell_before v x ≡ true) (λ x later. cell_before-trans v w x b later) ws sorted.0), sorted)
    put rest false false s b = (all-with_value (λ x. cell_before w x ≡ true) ws v (cell_before-other v w s b) sorted.0, rest)

-- atoms

atom_before-trans : (a b c : Atom) → atom_before a b ≡ true → atom_before b c ≡ true → atom_before a c ≡ true
atom_before-trans a b c x y = key_before-trans a.predicate a.objects b.predicate b.objects c.predicate c.objects x y

all-with_atom : (P : Atom → Type 0) (bs : List Atom) (a : Atom) → P a → AllByRecursion P bs → AllByRecursion P (with_atom bs a)
all-with_atom P [] a holds all = (holds, tt)
all-with_atom P (b ∷ bs) a holds all = put (all-with_atom P bs a holds all.1) (same_atom a b) (atom_before a b)
  where
    put : (AllByRecursion P (with_atom bs a)) → (same before : Bool) → AllByRecursion P (cond same (b ∷ bs) (cond before (a ∷ b ∷ bs) (b ∷ with_atom bs a)))
    put rest true before = all
    put rest false true = (holds, all)
    put rest false false = (all.0, rest)

pub sorted-with_atom : (bs : List Atom) (a : Atom) → IsSortedList atom_before bs → IsSortedList atom_before (with_atom bs a)
sorted-with_atom [] a sorted = (tt, tt)
sorted-with_atom (b ∷ bs) a sorted = put (sorted-with_atom bs a sorted.1) (same_atom a b) (atom_before a b) refl refl
  where
    put : (IsSortedList atom_before (with_atom bs a)) → (same before : Bool) → same_atom a b ≡ same → atom_before a b ≡ before → IsSortedList atom_before (cond same (b ∷ bs) (cond before (a ∷ b ∷ bs) (b ∷ with_atom bs a)))
    put rest true before s e = sorted
    put rest false true s e = ((e, all_weaker (λ x. atom_before b x ≡ true) (λ x. atom_before a x ≡ true) (λ x later. atom_before-trans a b x e later) bs sorted.0), sorted)
    put rest false false s e = (all-with_atom (λ x. atom_before b x ≡ true) bs a (key_before-other a.predicate a.objects b.predicate b.objects s e) sorted.0, rest)

pub sorted-without_atom : (bs : List Atom) (a : Atom) → IsSortedList atom_before bs → IsSortedList atom_before (without_atom bs a)
sorted-without_atom bs a sorted = sorted-filter atom_before (λ b. not (same_atom a b)) bs sorted
