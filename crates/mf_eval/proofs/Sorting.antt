-- Sorted atoms and values as the keys and entries of ordered sets and maps.
use Rattle.std.proofs.Common.{◌≡◌, ℕ, ◌+◌, ◌<◌, Bool, true, ◌&&◌, if◌then◌else◌, nat_eq, List, [], ◌∷◌, length, map, get_or, drop, refl, sym, ap, ◌∙◌, arith}
use Rattle.std.proofs.lemmas.Bool.Decides.{nat_tests}
use Rattle.std.proofs.lemmas.List.{drop_more}
use Rattle.std.specs.BTreeMap.{insert_entry}
use Rattle.std.specs.BTreeSet.{insert_key}
use Rattle.std.specs.Cmp.{first_so, second_so}
use Rattle.std.specs.Cmp.Lexicographic.{bytes_decides, slice_cmp, texts_ties}
use Rattle.std.specs.List.{fold}
use Rattle.std.specs.Ordering.{nat_cmp, is_eq, is_lt, match_ordering, ordering_then}
use Rattle.std.specs.declared.cmp.Ordering.{Ordering}
use Rattle.std.specs.declared.cmp.Ordering.TheVariants.{Less, Equal, Greater}
use Rattle.mf_fraction.specs.Exact.{Number}
use Rattle.mf_model.specs.declared.task.Atom.{Atom}
use Rattle.mf_model.specs.declared.task.Cell.{Cell}
use Rattle.mf_model.specs.States.{atom_before, same_atom, same_cell, same_numbers, term_before, with_atom, with_value}
use Rattle.mf_eval.specs.Comparisons.{atom_cmp, cell_cmp, key_cmp}
use Rattle.mf_eval.specs.Entries.{as_valued}
use Rattle.mf_model.proofs.Orders.{pair_before}

first_same : (n m : ℕ) (o : Ordering) → (nat_eq n m && is_eq o) ≡ is_eq (ordering_then (nat_cmp n m) o)
first_same n m o = grind (arith, nat_tests)

pub pair_same : (n m : ℕ) (ns ms : List ℕ) → (nat_eq n m && same_numbers ns ms) ≡ is_eq (key_cmp n ns m ms)
pair_same n m ns ms = ap (λ b. nat_eq n m && b) (texts_ties ns ms) ∙ first_same n m (slice_cmp nat_cmp ns ms)

-- what an order chooses is what the tests of the definitions choose
chosen : {A : Type 0} (o : Ordering) (same before : Bool) (x y there z rest : A) → same ≡ is_eq o → is_lt o ≡ before → (same ≡ true → y ≡ there) → z ≡ rest → match_ordering o x y z ≡ (if same then there else (if before then x else rest))
chosen Less same before x y there z rest e f g h = rw (e, ← f) refl
chosen Equal same before x y there z rest e f g h = rw e (g e)
chosen Greater same before x y there z rest e f g h = rw (e, ← f) h

pub with_atom_insert : (atoms : List Atom) (a : Atom) → insert_key atom_cmp atoms a ≡ with_atom atoms a
with_atom_insert [] a = refl
with_atom_insert (b ∷ bs) a =
    chosen (atom_cmp a b) (same_atom a b) (atom_before a b) (a ∷ b ∷ bs) (b ∷ bs) (b ∷ bs) (b ∷ insert_key atom_cmp bs a) (b ∷ with_atom bs a)
    (pair_same a.predicate b.predicate a.objects b.objects) (pair_before a.predicate b.predicate a.objects b.objects)
    (λ _. refl) (ap (λ rest. b ∷ rest) (with_atom_insert bs a))

same_number : (n m : ℕ) → nat_eq n m ≡ true → n ≡ m
same_number n m e = grind (arith, nat_tests)

same_cells : (c d : Cell) → (nat_eq c.function d.function && same_numbers c.objects d.objects) ≡ true → d ≡ c
same_cells c d e =
    let n : c.function ≡ d.function = same_number c.function d.function (first_so (nat_eq c.function d.function) (same_numbers c.objects d.objects) e) in
    let ns : c.objects ≡ d.objects = (bytes_decides c.objects d.objects).0 (second_so (nat_eq c.function d.function) (same_numbers c.objects d.objects) e) in
    λ i. record { function = sym n i; objects = sym ns i }

pub with_value_insert : (entries : List (Cell × Number)) (c : Cell) (value : Number) → map as_valued (insert_entry cell_cmp entries c value) ≡ with_value (map as_valued entries) (as_valued (c, value))
with_value_insert [] c value = refl
with_value_insert (e ∷ es) c value =
    mapped (cell_cmp c e.0) ((c, value) ∷ e ∷ es) ((e.0, value) ∷ es) (e ∷ insert_entry cell_cmp es c value)
    ∙ chosen (cell_cmp c e.0) (same_cell (as_valued (c, value)) (as_valued e)) (term_before c e.0)
    (as_valued (c, value) ∷ as_valued e ∷ map as_valued es) (as_valued (e.0, value) ∷ map as_valued es) (as_valued (c, value) ∷ map as_valued es)
    (as_valued e ∷ map as_valued (insert_entry cell_cmp es c value)) (as_valued e ∷ with_value (map as_valued es) (as_valued (c, value)))
    (pair_same c.function e.0.function c.objects e.0.objects) (pair_before c.function e.0.function c.objects e.0.objects)
    (λ same. ap (λ d. as_valued (d, value) ∷ map as_valued es) (same_cells c e.0 same)) (ap (λ rest. as_valued e ∷ rest) (with_value_insert es c value))
  where
    mapped : (o : Ordering) (x y z : List (Cell × Number)) → map as_valued (match_ordering o x y z) ≡ match_ordering o (map as_valued x) (map as_valued y) (map as_valued z)
    mapped Less x y z = refl
    mapped Equal x y z = refl
    mapped Greater x y z = refl

-- one item of a list that is folded from the left
pub fold_next : {A B : Type 0} (f : B → A → B) (s t : B) (xs : List A) (i : ℕ) (x : A) → i < length xs → x ≡ get_or xs i x → t ≡ f s x → fold f t (drop (i + 1) xs) ≡ fold f s (drop i xs)
fold_next f s t xs i x within e next =
    ap (λ u. fold f u (drop (i + 1) xs)) next
    ∙ sym (ap (λ rest. fold f s rest) (drop_more xs i x within ∙ ap (λ y. y ∷ drop (i + 1) xs) (sym e)))
