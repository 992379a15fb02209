-- The atoms and the values that a row shows, among sorted atoms and terms.
use Rattle.std.proofs.Common.{◌≡◌, ℕ, ◌+◌, Bool, true, false, not, ◌&&◌, ◌||◌, cond, List, [], ◌∷◌, Option, Some, None, refl, sym, ap, ◌∙◌, arith}
use Rattle.std.specs.Prelude.{get_or}
use Rattle.std.specs.List.{AllByRecursion, list_any, position_or_len}
use Rattle.mf_fraction.specs.Exact.{Number}
use Rattle.mf_store.specs.Rows.{bit_in}
use Rattle.mf_model.specs.declared.task.Atom.{Atom}
use Rattle.mf_model.specs.declared.task.Cell.{Cell}
use Rattle.mf_model.specs.declared.task.Valued.{Valued}
use Rattle.mf_model.specs.States.{atom_before, cell_before, is_atom, term_before, value_at}
use Rattle.mf_meaning.specs.SortedStates.{IsSortedList}
use Rattle.mf_meaning.proofs.NumberOrder.{key_before-apart, same_key-number, same_key-objects}
use Rattle.mf_task.specs.Grounding.{is_same_cell}
use Rattle.mf_task.specs.RowStates.{atoms_shown, valued, values_shown}
use Rattle.mf_bridge.proofs.ListTests.{none_later, none_passes}

-- atoms

pub atom_apart : (p : ℕ) (os : List ℕ) (a b : Atom) → is_atom p os a ≡ true → atom_before a b ≡ true → is_atom p os b ≡ false
atom_apart p os a b here before =
    ap (λ (n : ℕ). is_atom n os b) (same_key-number p os a.predicate a.objects here)
    ∙ ap (λ (ns : List ℕ). is_atom a.predicate ns b) (same_key-objects p os a.predicate a.objects here)
    ∙ key_before-apart a.predicate a.objects b.predicate b.objects before

all_shown : (P : Atom → Type 0) (bits : List ℕ) (n : ℕ) (atoms : List Atom) → AllByRecursion P atoms → AllByRecursion P (atoms_shown bits n atoms)
all_shown P bits n [] all = tt
all_shown P bits n (a ∷ atoms) all = by (all_shown P bits (n + 1) atoms all.1) (bit_in bits n)
  where
    by : AllByRecursion P (atoms_shown bits (n + 1) atoms) → (shown : Bool) → AllByRecursion P (cond shown (a ∷ atoms_shown bits (n + 1) atoms) (atoms_shown bits (n + 1) atoms))
    by rest true = (all.0, rest)
    by rest false = rest

pub any_shown : (p : ℕ) (os : List ℕ) (bits : List ℕ) (n : ℕ) (atoms : List Atom) → IsSortedList atom_before atoms →
    list_any (is_atom p os) (atoms_shown bits n atoms) ≡ (list_any (is_atom p os) atoms && bit_in bits (n + position_or_len (is_atom p os) atoms))
any_shown p os bits n [] sorted = refl
any_shown p os bits n (a ∷ atoms) sorted = by (any_shown p os bits (n + 1) atoms sorted.1) (is_atom p os a) refl (bit_in bits n) refl
  where
    first : bit_in bits n ≡ bit_in bits (n + 0)
    first = ap (λ (k : ℕ). bit_in bits k) (omega arith)

    later : (m : ℕ) → bit_in bits (n + 1 + m) ≡ bit_in bits (n + (1 + m))
    later m = ap (λ (k : ℕ). bit_in bits k) (omega arith)

    none : is_atom p os a ≡ true → list_any (is_atom p os) (atoms_shown bits (n + 1) atoms) ≡ false
    none here = none_passes (is_atom p os) (atoms_shown bits (n + 1) atoms) (all_shown (λ b. is_atom p os b ≡ false) bits (n + 1) atoms
        (none_later atom_before (is_atom p os) (atom_apart p os) a atoms here sorted.0))

    by : (list_any (is_atom p os) (atoms_shown bits (n + 1) atoms) ≡ (list_any (is_atom p os) atoms && bit_in bits (n + 1 + position_or_len (is_atom p os) atoms))) →
        (here : Bool) → is_atom p os a ≡ here → (shown : Bool) → bit_in bits n ≡ shown →
        list_any (is_atom p os) (cond shown (a ∷ atoms_shown bits (n + 1) atoms) (atoms_shown bits (n + 1) atoms)) ≡ ((here || list_any (is_atom p os) atoms) && bit_in bits (n + cond (not here) (1 + position_or_len (is_atom p os) atoms) 0))
    by rest true h true s = ap (λ (b : Bool). b || list_any (is_atom p os) (atoms_shown bits (n + 1) atoms)) h ∙ sym s ∙ first
    by rest true h false s = none h ∙ sym s ∙ first
    by rest false h true s =
        ap (λ (b : Bool). b || list_any (is_atom p os) (atoms_shown bits (n + 1) atoms)) h
        ∙ rest ∙ ap (λ (b : Bool). list_any (is_atom p os) atoms && b) (later (position_or_len (is_atom p os) atoms))
    by rest false h false s = rest ∙ ap (λ (b : Bool). list_any (is_atom p os) atoms && b) (later (position_or_len (is_atom p os) atoms))

-- values

pub cell_apart : (f : ℕ) (os : List ℕ) (c d : Cell) → is_same_cell f os c ≡ true → term_before c d ≡ true → is_same_cell f os d ≡ false
cell_apart f os c d here before =
    ap (λ (n : ℕ). is_same_cell n os d) (same_key-number f os c.function c.objects here)
    ∙ ap (λ (ns : List ℕ). is_same_cell c.function ns d) (same_key-objects f os c.function c.objects here)
    ∙ key_before-apart c.function c.objects d.function d.objects before

all_valued : (P : Cell → Type 0) (values : List (Option Number)) (n : ℕ) (cells : List Cell) → AllByRecursion P cells → AllByRecursion (λ v. P v.cell) (values_shown values n cells)
all_valued P values n [] all = tt
all_valued P values n (c ∷ cells) all = by (all_valued P values (n + 1) cells all.1) (get_or values n None)
  where
    by : AllByRecursion (λ v. P v.cell) (values_shown values (n + 1) cells) → (value : Option Number) → AllByRecursion (λ v. P v.cell) (valued c value (values_shown values (n + 1) cells))
    by rest (Some x) = (all.0, rest)
    by rest None = rest

pub sorted_valued : (values : List (Option Number)) (n : ℕ) (cells : List Cell) → IsSortedList term_before cells → IsSortedList cell_before (values_shown values n cells)
sorted_valued values n [] sorted = tt
sorted_valued values n (c ∷ cells) sorted = by (sorted_valued values (n + 1) cells sorted.1) (get_or values n None)
  where
    by : IsSortedList cell_before (values_shown values (n + 1) cells) → (value : Option Number) → IsSortedList cell_before (valued c value (values_shown values (n + 1) cells))
    by rest (Some x) = (all_valued (λ d. term_before c d ≡ true) values (n + 1) cells sorted.0, rest)
    by rest None = rest

none_valued : (f : ℕ) (os : List ℕ) (vs : List Valued) → AllByRecursion (λ v. is_same_cell f os v.cell ≡ false) vs → value_at vs f os ≡ None
none_valued f os [] all = refl
none_valued f os (v ∷ vs) all = rw all.0 (none_valued f os vs all.1)

pub value_shown_at : (f : ℕ) (os : List ℕ) (values : List (Option Number)) (n : ℕ) (cells : List Cell) → IsSortedList term_before cells →
    value_at (values_shown values n cells) f os ≡ cond (list_any (is_same_cell f os) cells) (get_or values (n + position_or_len (is_same_cell f os) cells) None) None
value_shown_at f os values n [] sorted = refl
value_shown_at f os values n (c ∷ cells) sorted = by (value_shown_at f os values (n + 1) cells sorted.1) (is_same_cell f os c) refl (get_or values n None) refl
  where
    first : get_or values n None ≡ get_or values (n + 0) None
    first = ap (λ (k : ℕ). get_or values k None) (omega arith)

    later : (m : ℕ) → get_or values (n + 1 + m) None ≡ get_or values (n + (1 + m)) None
    later m = ap (λ (k : ℕ). get_or values k None) (omega arith)

    none : is_same_cell f os c ≡ true → value_at (values_shown values (n + 1) cells) f os ≡ None
    none here = none_valued f os (values_shown values (n + 1) cells) (all_valued (λ d. is_same_cell f os d ≡ false) values (n + 1) cells
        (none_later term_before (is_same_cell f os) (cell_apart f os) c cells here sorted.0))

    by : (value_at (values_shown values (n + 1) cells) f os ≡ cond (list_any (is_same_cell f os) cells) (get_or values (n + 1 + position_or_len (is_same_cell f os) cells) None) None) →
        (here : Bool) → is_same_cell f os c ≡ here → (value : Option Number) → get_or values n None ≡ value →
        value_at (valued c value (values_shown values (n + 1) cells)) f os ≡ cond (here || list_any (is_same_cell f os) cells) (get_or values (n + cond (not here) (1 + position_or_len (is_same_cell f os) cells) 0) None) None
    by rest true h (Some x) v = ap (λ (b : Bool). cond b (Some x) (value_at (values_shown values (n + 1) cells) f os)) h ∙ sym v ∙ first
    by rest true h None v = none h ∙ sym v ∙ first
    by rest false h (Some x) v =
        ap (λ (b : Bool). cond b (Some x) (value_at (values_shown values (n + 1) cells) f os)) h
        ∙ rest ∙ ap (λ (y : Option Number). cond (list_any (is_same_cell f os) cells) y None) (later (position_or_len (is_same_cell f os) cells))
    by rest false h None v = rest ∙ ap (λ (y : Option Number). cond (list_any (is_same_cell f os) cells) y None) (later (position_or_len (is_same_cell f os) cells))
