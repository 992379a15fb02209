-- When two plain states are the same, as a test, and that the test is equality.
use Rattle.std.specs.Prelude.{◌≡◌, ◌↔◌, ℕ, ℤ, Bool, true, ◌&&◌, nat_eq, List}
use Rattle.std.specs.Bool.{Decides}
use Rattle.std.specs.Ordering.{int_eq}
use Rattle.std.specs.Cmp.Lexicographic.{pointwise}
use Rattle.std.proofs.Common.{refl, ap, ◌∙◌}
use Rattle.std.proofs.lemmas.Bool.Decides.{Decides-and, Decides-eqb, Decides-int_eq, Decides-like}
use Rattle.std.proofs.lemmas.Slice.Eq.{slice_eq-Decides}
use Rattle.mf_fraction.specs.Exact.{Number}
use Rattle.mf_model.specs.declared.task.Atom.{Atom}
use Rattle.mf_model.specs.declared.task.Cell.{Cell}
use Rattle.mf_model.specs.declared.task.Valued.{Valued}
use Rattle.mf_model.specs.declared.state.PlainState.{PlainState}
use Rattle.mf_model.specs.States.{same_numbers, same_atom, same_cell}

abbrev pub same_number : Number → Number → Bool
same_number a b = int_eq a.num b.num && nat_eq a.den b.den

abbrev pub same_valued : Valued → Valued → Bool
same_valued a b = same_cell a b && same_number a.value b.value

abbrev pub same_state : PlainState → PlainState → Bool
same_state x y = pointwise same_atom x.atoms y.atoms && pointwise same_valued x.values y.values

number_from_parts : (a b : Number) → (a.num ≡ b.num) × (a.den ≡ b.den) → a ≡ b
number_from_parts a b h =
    let by_num : ℤ → Number = λ n. record { num = n; den = a.den } in
    let by_den : ℕ → Number = λ d. record { num = b.num; den = d } in
    ap by_num h.0 ∙ ap by_den h.1

number_parts : (a b : Number) → a ≡ b → (a.num ≡ b.num) × (a.den ≡ b.den)
number_parts a b h = (ap (λ (x : Number). x.num) h, ap (λ (x : Number). x.den) h)

same_number_is : (a b : Number) → Decides (same_number a b) (a ≡ b)
same_number_is a b =
    Decides-like _ (number_from_parts a b) (number_parts a b) (Decides-and _ _ (Decides-int_eq a.num b.num) (Decides-eqb a.den b.den))

same_numbers_is : (xs ys : List ℕ) → Decides (same_numbers xs ys) (xs ≡ ys)
same_numbers_is xs ys = slice_eq-Decides Decides-eqb xs ys (same_numbers xs ys) refl

atom_from_parts : (a b : Atom) → (a.predicate ≡ b.predicate) × (a.objects ≡ b.objects) → a ≡ b
atom_from_parts a b h =
    let by_predicate : ℕ → Atom = λ p. record { predicate = p; objects = a.objects } in
    let by_objects : List ℕ → Atom = λ os. record { predicate = b.predicate; objects = os } in
    ap by_predicate h.0 ∙ ap by_objects h.1

atom_parts : (a b : Atom) → a ≡ b → (a.predicate ≡ b.predicate) × (a.objects ≡ b.objects)
atom_parts a b h = (ap (λ (x : Atom). x.predicate) h, ap (λ (x : Atom). x.objects) h)

same_atom_is : (a b : Atom) → Decides (same_atom a b) (a ≡ b)
same_atom_is a b =
    Decides-like _ (atom_from_parts a b) (atom_parts a b) (Decides-and _ _ (Decides-eqb a.predicate b.predicate) (same_numbers_is a.objects b.objects))

cell_from_parts : (a b : Cell) → (a.function ≡ b.function) × (a.objects ≡ b.objects) → a ≡ b
cell_from_parts a b h =
    let by_function : ℕ → Cell = λ f. record { function = f; objects = a.objects } in
    let by_objects : List ℕ → Cell = λ os. record { function = b.function; objects = os } in
    ap by_function h.0 ∙ ap by_objects h.1

cell_parts : (a b : Cell) → a ≡ b → (a.function ≡ b.function) × (a.objects ≡ b.objects)
cell_parts a b h = (ap (λ (x : Cell). x.function) h, ap (λ (x : Cell). x.objects) h)

same_cell_is : (a b : Valued) → Decides (same_cell a b) (a.cell ≡ b.cell)
same_cell_is a b =
    Decides-like _ (cell_from_parts a.cell b.cell) (cell_parts a.cell b.cell) (Decides-and _ _ (Decides-eqb a.cell.function b.cell.function) (same_numbers_is a.cell.objects b.cell.objects))

valued_from_parts : (a b : Valued) → (a.cell ≡ b.cell) × (a.value ≡ b.value) → a ≡ b
valued_from_parts a b h =
    let by_cell : Cell → Valued = λ c. record { cell = c; value = a.value } in
    let by_value : Number → Valued = λ v. record { cell = b.cell; value = v } in
    ap by_cell h.0 ∙ ap by_value h.1

valued_parts : (a b : Valued) → a ≡ b → (a.cell ≡ b.cell) × (a.value ≡ b.value)
valued_parts a b h = (ap (λ (x : Valued). x.cell) h, ap (λ (x : Valued). x.value) h)

same_valued_is : (a b : Valued) → Decides (same_valued a b) (a ≡ b)
same_valued_is a b =
    Decides-like _ (valued_from_parts a b) (valued_parts a b) (Decides-and _ _ (same_cell_is a b) (same_number_is a.value b.value))

state_from_parts : (a b : PlainState) → (a.atoms ≡ b.atoms) × (a.values ≡ b.values) → a ≡ b
state_from_parts a b h =
    let by_atoms : List Atom → PlainState = λ xs. record { atoms = xs; values = a.values } in
    let by_values : List Valued → PlainState = λ xs. record { atoms = b.atoms; values = xs } in
    ap by_atoms h.0 ∙ ap by_values h.1

state_parts : (a b : PlainState) → a ≡ b → (a.atoms ≡ b.atoms) × (a.values ≡ b.values)
state_parts a b h = (ap (λ (x : PlainState). x.atoms) h, ap (λ (x : PlainState). x.values) h)

same_atoms_is : (xs ys : List Atom) → Decides (pointwise same_atom xs ys) (xs ≡ ys)
same_atoms_is xs ys = slice_eq-Decides same_atom_is xs ys (pointwise same_atom xs ys) refl

same_values_is : (xs ys : List Valued) → Decides (pointwise same_valued xs ys) (xs ≡ ys)
same_values_is xs ys = slice_eq-Decides same_valued_is xs ys (pointwise same_valued xs ys) refl

pub same_state_is : (x y : PlainState) → (same_state x y ≡ true) ↔ (x ≡ y)
same_state_is x y =
    Decides-like _ (state_from_parts x y) (state_parts x y) (Decides-and _ _ (same_atoms_is x.atoms y.atoms) (same_values_is x.values y.values))
