-- Sorted lists of atoms and of terms, made by putting one after another in.
use Rattle.std.proofs.Common.{◌≡◌, ℕ, Bool, true, false, ◌||◌, cond, List, [], ◌∷◌, map, refl, sym, subst, ap, ◌∙◌}
use Rattle.std.specs.List.{AllByRecursion, fold, list_any}
use Rattle.mf_model.specs.declared.task.Atom.{Atom}
use Rattle.mf_model.specs.declared.task.Cell.{Cell}
use Rattle.mf_model.specs.States.{atom_before, is_atom, same_atom, term_before, with_atom}
use Rattle.mf_meaning.specs.SortedStates.{IsSortedList}
use Rattle.mf_meaning.proofs.Lookups.{is_there-with_atom}
use Rattle.mf_meaning.proofs.SortedLists.{sorted-fold, sorted-with_atom}
use Rattle.mf_task.specs.Grounding.{is_before_cell, is_same_cell, with_cell}

-- atoms

pub fold_atoms_sorted : (xs : List Atom) → IsSortedList atom_before (fold with_atom [] xs)
fold_atoms_sorted xs = sorted-fold atom_before with_atom sorted-with_atom [] xs tt

shifted : (a b c : Bool) → ((a || b) || c) ≡ (b || (a || c))
shifted true true c = refl
shifted true false c = refl
shifted false true c = refl
shifted false false c = refl

pub any_in_fold : (predicate : ℕ) (objects : List ℕ) (bs xs : List Atom) → list_any (is_atom predicate objects) (fold with_atom bs xs) ≡ (list_any (is_atom predicate objects) bs || list_any (is_atom predicate objects) xs)
any_in_fold p os bs [] = by (list_any (is_atom p os) bs)
  where
    by : (b : Bool) → b ≡ (b || false)
    by true = refl
    by false = refl
any_in_fold p os bs (x ∷ xs) =
    any_in_fold p os (with_atom bs x) xs
    ∙ ap (λ (b : Bool). b || list_any (is_atom p os) xs) (is_there-with_atom bs x p os)
    ∙ shifted (is_atom p os x) (list_any (is_atom p os) bs) (list_any (is_atom p os) xs)

all_put : (P : Atom → Type 0) (bs : List Atom) (a : Atom) → P a → AllByRecursion P bs → AllByRecursion P (with_atom bs a)
all_put P [] a holds all = (holds, tt)
all_put P (b ∷ bs) a holds all = put (all_put P bs a holds all.1) (same_atom a b) (atom_before a b)
  where
    put : AllByRecursion P (with_atom bs a) → (same before : Bool) → AllByRecursion P (cond same (b ∷ bs) (cond before (a ∷ b ∷ bs) (b ∷ with_atom bs a)))
    put rest true before = all
    put rest false true = (holds, all)
    put rest false false = (all.0, rest)

pub all_in_fold : (P : Atom → Type 0) (bs xs : List Atom) → AllByRecursion P bs → AllByRecursion P xs → AllByRecursion P (fold with_atom bs xs)
all_in_fold P bs [] all others = all
all_in_fold P bs (x ∷ xs) all others = all_in_fold P (with_atom bs x) xs (all_put P bs x others.0 all) others.1

-- terms are ordered as atoms are

abbrev as_atom : Cell → Atom
as_atom cell = record { predicate = cell.function; objects = cell.objects }

cells_as_atoms : (bs : List Cell) (a : Cell) → map as_atom (with_cell bs a) ≡ with_atom (map as_atom bs) (as_atom a)
cells_as_atoms [] a = refl
cells_as_atoms (b ∷ bs) a = put (cells_as_atoms bs a) (is_same_cell a.function a.objects b) (is_before_cell a b)
  where
    put : (map as_atom (with_cell bs a) ≡ with_atom (map as_atom bs) (as_atom a)) → (same before : Bool) →
        map as_atom (cond same (b ∷ bs) (cond before (a ∷ b ∷ bs) (b ∷ with_cell bs a))) ≡ cond same (as_atom b ∷ map as_atom bs) (cond before (as_atom a ∷ as_atom b ∷ map as_atom bs) (as_atom b ∷ with_atom (map as_atom bs) (as_atom a)))
    put rest true before = refl
    put rest false true = refl
    put rest false false = ap (λ cs. as_atom b ∷ cs) rest

fold_as_atoms : (bs xs : List Cell) → map as_atom (fold with_cell bs xs) ≡ fold with_atom (map as_atom bs) (map as_atom xs)
fold_as_atoms bs [] = refl
fold_as_atoms bs (x ∷ xs) = fold_as_atoms (with_cell bs x) xs ∙ ap (λ cs. fold with_atom cs (map as_atom xs)) (cells_as_atoms bs x)

any_as_atoms : (f : ℕ) (os : List ℕ) (cs : List Cell) → list_any (is_same_cell f os) cs ≡ list_any (is_atom f os) (map as_atom cs)
any_as_atoms f os [] = refl
any_as_atoms f os (c ∷ cs) = ap (λ (b : Bool). is_same_cell f os c || b) (any_as_atoms f os cs)

all_as_atoms : (c : Cell) (cs : List Cell) → AllByRecursion (λ a. atom_before (as_atom c) a ≡ true) (map as_atom cs) → AllByRecursion (λ d. term_before c d ≡ true) cs
all_as_atoms c [] all = tt
all_as_atoms c (d ∷ ds) all = (all.0, all_as_atoms c ds all.1)

sorted_as_atoms : (cs : List Cell) → IsSortedList atom_before (map as_atom cs) → IsSortedList term_before cs
sorted_as_atoms [] sorted = tt
sorted_as_atoms (c ∷ cs) sorted = (all_as_atoms c cs sorted.0, sorted_as_atoms cs sorted.1)

pub fold_cells_sorted : (xs : List Cell) → IsSortedList term_before (fold with_cell [] xs)
fold_cells_sorted xs = sorted_as_atoms (fold with_cell [] xs) (subst (λ cs. IsSortedList atom_before cs) (sym (fold_as_atoms [] xs)) (fold_atoms_sorted (map as_atom xs)))

pub any_cell_in_fold : (function : ℕ) (objects : List ℕ) (xs : List Cell) → list_any (is_same_cell function objects) (fold with_cell [] xs) ≡ list_any (is_same_cell function objects) xs
any_cell_in_fold f os xs =
    any_as_atoms f os (fold with_cell [] xs)
    ∙ ap (λ cs. list_any (is_atom f os) cs) (fold_as_atoms [] xs)
    ∙ any_in_fold f os [] (map as_atom xs)
    ∙ sym (any_as_atoms f os xs)

all_put_cell : (P : Cell → Type 0) (bs : List Cell) (a : Cell) → P a → AllByRecursion P bs → AllByRecursion P (with_cell bs a)
all_put_cell P [] a holds all = (holds, tt)
all_put_cell P (b ∷ bs) a holds all = put (all_put_cell P bs a holds all.1) (is_same_cell a.function a.objects b) (is_before_cell a b)
  where
    put : AllByRecursion P (with_cell bs a) → (same before : Bool) → AllByRecursion P (cond same (b ∷ bs) (cond before (a ∷ b ∷ bs) (b ∷ with_cell bs a)))
    put rest true before = all
    put rest false true = (holds, all)
    put rest false false = (all.0, rest)

pub all_cells_in_fold : (P : Cell → Type 0) (bs xs : List Cell) → AllByRecursion P bs → AllByRecursion P xs → AllByRecursion P (fold with_cell bs xs)
all_cells_in_fold P bs [] all others = all
all_cells_in_fold P bs (x ∷ xs) all others = all_cells_in_fold P (with_cell bs x) xs (all_put_cell P bs x others.0 all) others.1
