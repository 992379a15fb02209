-- Objects compared with those that terms stand for, where one list ends.
use Rattle.std.proofs.Common.{◌≡◌, ℕ, ◌<◌, ◌≤◌, List, [], ◌∷◌, length, drop, drop-cons, refl, arith}
use Rattle.std.proofs.lemmas.List.{drop_all}
use Rattle.std.specs.Cmp.Lexicographic.{slice_cmp}
use Rattle.std.specs.Ordering.{nat_cmp}
use Rattle.std.specs.declared.cmp.Ordering.TheVariants.{Less, Greater}
use Rattle.mf_model.specs.declared.task.Term.{Term}
use Rattle.mf_model.specs.Views.{objects_of}

pub after_terms : (b objects : List ℕ) (terms : List Term) (i : ℕ) → i < length objects → length terms ≤ i → slice_cmp nat_cmp (drop i objects) (objects_of b (drop i terms)) ≡ Greater
after_terms b objects terms i within past = rw (drop_all i terms past, drop-cons objects i 0 within) refl

pub after_objects : (b objects : List ℕ) (terms : List Term) (i : ℕ) → length objects ≤ i → i < length terms → slice_cmp nat_cmp (drop i objects) (objects_of b (drop i terms)) ≡ Less
after_objects b objects [] i past within = absurd (omega (arith, within))
after_objects b objects (t ∷ terms) i past within = rw (drop_all i objects past, drop-cons (t ∷ terms) i t within) refl
