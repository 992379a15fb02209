-- A place of a sorted list: what is put in there, and what is found there.
use Rattle.std.proofs.Common.{◌≡◌, true, false, List, [], ◌∷◌, ◌++◌, Some, None, refl, ap}
use Rattle.std.specs.List.{AllByRecursion, list_any}
use Rattle.std.proofs.lemmas.Bool.{or_from}
use Rattle.mf_model.specs.declared.task.Atom.{Atom}
use Rattle.mf_model.specs.declared.task.Valued.{Valued}
use Rattle.mf_model.specs.States.{same_atom, atom_before, with_atom, same_cell, cell_before, with_value, value_at}
use Rattle.mf_meaning.proofs.NumberOrder.{key_before-apart, key_before-back, same_key-back}

-- atoms: all of the front come before the atom

-- the atom is there
pub with_atom-there : (front : List Atom) (b : Atom) (rest : List Atom) (a : Atom) → AllByRecursion (λ x. atom_before x a ≡ true) front → same_atom a b ≡ true → with_atom (front ++ b ∷ rest) a ≡ front ++ b ∷ rest
with_atom-there [] b rest a before same = rw same refl
with_atom-there (x ∷ front) b rest a before same =
    rw (same_key-back x.predicate x.objects a.predicate a.objects before.0, key_before-back x.predicate x.objects a.predicate a.objects before.0)
    (ap (λ ys. x ∷ ys) (with_atom-there front b rest a before.1 same))

pub is_there-there : (front : List Atom) (b : Atom) (rest : List Atom) (a : Atom) → AllByRecursion (λ x. atom_before x a ≡ true) front → same_atom a b ≡ true → list_any (same_atom a) (front ++ b ∷ rest) ≡ true
is_there-there [] b rest a before same = rw same refl
is_there-there (x ∷ front) b rest a before same =
    rw (same_key-back x.predicate x.objects a.predicate a.objects before.0) (is_there-there front b rest a before.1 same)

-- it comes before all of the rest
pub with_atom-between : (front rest : List Atom) (a : Atom) → AllByRecursion (λ x. atom_before x a ≡ true) front → AllByRecursion (λ x. atom_before a x ≡ true) rest → with_atom (front ++ rest) a ≡ front ++ a ∷ rest
with_atom-between [] [] a before after = refl
with_atom-between [] (y ∷ rest) a before after = rw (key_before-apart a.predicate a.objects y.predicate y.objects after.0, after.0) refl
with_atom-between (x ∷ front) rest a before after =
    rw (same_key-back x.predicate x.objects a.predicate a.objects before.0, key_before-back x.predicate x.objects a.predicate a.objects before.0)
    (ap (λ ys. x ∷ ys) (with_atom-between front rest a before.1 after))

pub is_there-between : (front rest : List Atom) (a : Atom) → AllByRecursion (λ x. atom_before x a ≡ true) front → AllByRecursion (λ x. atom_before a x ≡ true) rest → list_any (same_atom a) (front ++ rest) ≡ false
is_there-between [] [] a before after = refl
is_there-between [] (y ∷ rest) a before after = or_from (same_atom a y) (list_any (same_atom a) rest) (key_before-apart a.predicate a.objects y.predicate y.objects after.0) (is_there-between [] rest a before after.1)
is_there-between (x ∷ front) rest a before after = or_from (same_atom a x) (list_any (same_atom a) (front ++ rest)) (same_key-back x.predicate x.objects a.predicate a.objects before.0) (is_there-between front rest a before.1 after)

-- values: the terms of all of the front come before the value's term

-- its term has a value there
pub with_value-there : (front : List Valued) (w : Valued) (rest : List Valued) (v : Valued) → AllByRecursion (λ x. cell_before x v ≡ true) front → same_cell v w ≡ true → with_value (front ++ w ∷ rest) v ≡ front ++ v ∷ rest
with_value-there [] w rest v before same = rw same refl
with_value-there (x ∷ front) w rest v before same =
    rw (same_key-back x.cell.function x.cell.objects v.cell.function v.cell.objects before.0, key_before-back x.cell.function x.cell.objects v.cell.function v.cell.objects before.0)
    (ap (λ ys. x ∷ ys) (with_value-there front w rest v before.1 same))

pub value_at-there : (front : List Valued) (w : Valued) (rest : List Valued) (v : Valued) → AllByRecursion (λ x. cell_before x v ≡ true) front → same_cell v w ≡ true → value_at (front ++ w ∷ rest) v.cell.function v.cell.objects ≡ Some w.value
value_at-there [] w rest v before same = rw same refl
value_at-there (x ∷ front) w rest v before same =
    rw (same_key-back x.cell.function x.cell.objects v.cell.function v.cell.objects before.0) (value_at-there front w rest v before.1 same)

-- its term comes before those of all of the rest
pub with_value-between : (front rest : List Valued) (v : Valued) → AllByRecursion (λ x. cell_before x v ≡ true) front → AllByRecursion (λ x. cell_before v x ≡ true) rest → with_value (front ++ rest) v ≡ front ++ v ∷ rest
with_value-between [] [] v before after = refl
with_value-between [] (y ∷ rest) v before after = rw (key_before-apart v.cell.function v.cell.objects y.cell.function y.cell.objects after.0, after.0) refl
with_value-between (x ∷ front) rest v before after =
    rw (same_key-back x.cell.function x.cell.objects v.cell.function v.cell.objects before.0, key_before-back x.cell.function x.cell.objects v.cell.function v.cell.objects before.0)
    (ap (λ ys. x ∷ ys) (with_value-between front rest v before.1 after))

pub value_at-between : (front rest : List Valued) (v : Valued) → AllByRecursion (λ x. cell_before x v ≡ true) front → AllByRecursion (λ x. cell_before v x ≡ true) rest → value_at (front ++ rest) v.cell.function v.cell.objects ≡ None
value_at-between [] [] v before after = refl
value_at-between [] (y ∷ rest) v before after = rw (key_before-apart v.cell.function v.cell.objects y.cell.function y.cell.objects after.0) (value_at-between [] rest v before after.1)
value_at-between (x ∷ front) rest v before after = rw (same_key-back x.cell.function x.cell.objects v.cell.function v.cell.objects before.0) (value_at-between front rest v before.1 after)
