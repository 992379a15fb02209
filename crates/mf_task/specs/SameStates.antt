-- When two plain states are the same, as a test, and that the test is equality.
use Rattle.std.specs.Prelude.{◌≡◌, ◌↔◌, ℕ, Bool, true, ◌&&◌, List}
use Rattle.std.specs.Bool.{Decides}
use Rattle.std.specs.Cmp.Lexicographic.{pointwise}
use Rattle.std.proofs.Common.{refl, ap}
use Rattle.std.proofs.lemmas.Bool.Decides.{Decides-and, Decides-eqb, Decides-like}
use Rattle.std.proofs.lemmas.Slice.Eq.{slice_eq-Decides}
use Rattle.mf_model.specs.declared.task.Atom.{Atom}
use Rattle.mf_model.specs.declared.task.Valued.{Valued}
use Rattle.mf_model.specs.declared.state.PlainState.{PlainState}
use Rattle.mf_model.specs.States.{same_numbers, same_atom, same_cell}
use Rattle.mf_store.specs.SameRows.{same_number, same_number-Decides}

abbrev pub same_valued : Valued → Valued → Bool
same_valued a b = same_cell a b && same_number a.value b.value

abbrev pub same_state : PlainState → PlainState → Bool
same_state x y = pointwise same_atom x.atoms y.atoms && pointwise same_valued x.values y.values

same_numbers_is : (xs ys : List ℕ) → Decides (same_numbers xs ys) (xs ≡ ys)
same_numbers_is xs ys = slice_eq-Decides Decides-eqb xs ys (same_numbers xs ys) refl

same_atom_is : (a b : Atom) → Decides (same_atom a b) (a ≡ b)
same_atom_is a b =
    Decides-like (same_atom a b) (λ (p : (a.predicate ≡ b.predicate) × (a.objects ≡ b.objects)). λ i. record { predicate = p.0 i; objects = p.1 i }) (λ e. (ap (λ x. x.predicate) e, ap (λ x. x.objects) e))
    (Decides-and _ _ (Decides-eqb a.predicate b.predicate) (same_numbers_is a.objects b.objects))

same_cell_is : (a b : Valued) → Decides (same_cell a b) (a.cell ≡ b.cell)
same_cell_is a b =
    Decides-like (same_cell a b) (λ (p : (a.cell.function ≡ b.cell.function) × (a.cell.objects ≡ b.cell.objects)). λ i. record { function = p.0 i; objects = p.1 i }) (λ e. (ap (λ x. x.function) e, ap (λ x. x.objects) e))
    (Decides-and _ _ (Decides-eqb a.cell.function b.cell.function) (same_numbers_is a.cell.objects b.cell.objects))

same_valued_is : (a b : Valued) → Decides (same_valued a b) (a ≡ b)
same_valued_is a b =
    Decides-like (same_valued a b) (λ (p : (a.cell ≡ b.cell) × (a.value ≡ b.value)). λ i. record { cell = p.0 i; value = p.1 i }) (λ e. (ap (λ x. x.cell) e, ap (λ x. x.value) e))
    (Decides-and _ _ (same_cell_is a b) (same_number-Decides a.value b.value))

pub same_state_is : (x y : PlainState) → (same_state x y ≡ true) ↔ (x ≡ y)
same_state_is x y =
    Decides-like (same_state x y) (λ (p : (x.atoms ≡ y.atoms) × (x.values ≡ y.values)). λ i. record { atoms = p.0 i; values = p.1 i }) (λ e. (ap (λ z. z.atoms) e, ap (λ z. z.values) e))
    (Decides-and _ _ (slice_eq-Decides same_atom_is x.atoms y.atoms _ refl) (slice_eq-Decides same_valued_is x.values y.values _ refl))
