-- The orders of atoms and of function terms as comparisons: by the number of the symbol, then by the objects in
-- lexicographic order.
use Rattle.std.specs.Prelude.{ℕ, List}
use Rattle.std.specs.Cmp.Lexicographic.{slice_cmp}
use Rattle.std.specs.Ordering.{nat_cmp, ordering_then}
use Rattle.std.specs.declared.cmp.Ordering.{Ordering}
use Rattle.mf_model.specs.declared.task.Atom.{Atom}
use Rattle.mf_model.specs.declared.task.Cell.{Cell}

abbrev pub key_cmp : ℕ → List ℕ → ℕ → List ℕ → Ordering
key_cmp n ns m ms = ordering_then (nat_cmp n m) (slice_cmp nat_cmp ns ms)

abbrev pub atom_cmp : Atom → Atom → Ordering
atom_cmp a b = key_cmp a.predicate a.objects b.predicate b.objects

abbrev pub cell_cmp : Cell → Cell → Ordering
cell_cmp c d = key_cmp c.function c.objects d.function d.objects
