-- Walking down a sorted list to the place of an atom: x is what stands at i.
use Rattle.std.proofs.Common.{◌≡◌, ℕ, ◌+◌, ◌<◌, ◌++◌, true, List, ◌∷◌, length, get_or, take, drop, sym, ap, ◌∙◌}
use Rattle.std.proofs.lemmas.List.{drop_more, take-append-drop}
use Rattle.mf_model.specs.declared.task.Atom.{Atom}
use Rattle.mf_model.specs.States.{same_atom, with_atom}

pub drop_at_read : {X : Type 0} (xs : List X) (i : ℕ) (x : X) → i < length xs → x ≡ get_or xs i x → drop i xs ≡ x ∷ drop (i + 1) xs
drop_at_read xs i x h e = drop_more xs i x h ∙ ap (λ y. y ∷ drop (i + 1) xs) (sym e)

pub place_there : (xs : List Atom) (a x : Atom) (i : ℕ) → i < length xs → x ≡ get_or xs i x → same_atom a x ≡ true → take i xs ++ with_atom (drop i xs) a ≡ xs
place_there xs a x i h e s = ap (λ r. take i xs ++ with_atom r a) (drop_at_read xs i x h e) ∙ rw s (ap (λ r. take i xs ++ r) (sym (drop_at_read xs i x h e)) ∙ take-append-drop i xs)
