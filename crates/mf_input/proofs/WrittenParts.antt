-- Parts that are written as the grammar says.
use Rattle.std.proofs.Common.{◌≡◌, ℕ, suc, ◌≤◌, Bool, true, nat_le, List, [], ◌∷◌, map, length, refl, ap, arith}
use Rattle.std.proofs.lemmas.Bool.Decides.{nat_tests}
use Rattle.mf_model.proofs.Choices.{and_true}
use Rattle.mf_model.specs.declared.tree.Tree.{Tree}
use Rattle.mf_model.specs.Forms.{Each}
use Rattle.mf_model.specs.Plain.{all_true}

pub parts_written : {X Y : Type 0} (Form : Y → Tree → Type 0) (written : Y → Bool) (view : X → Y) → ((x : X) (t : Tree) → Form (view x) t → written (view x) ≡ true) →
    (xs : List X) (ts : List Tree) → Each Form (map view xs) ts → all_true (map written (map view xs)) ≡ true
parts_written Form written view h [] ts each = refl
parts_written Form written view h (x ∷ xs) [] each = absurd each
parts_written Form written view h (x ∷ xs) (t ∷ ts) each =
    and_true (written (view x)) (all_true (map written (map view xs))) (h x t each.0) (parts_written Form written view h xs ts each.1)

as_many : {X : Type 0} (Form : X → Tree → Type 0) (xs : List X) (ts : List Tree) → Each Form xs ts → length ts ≡ length xs
as_many Form [] [] each = refl
as_many Form [] (t ∷ ts) each = absurd each
as_many Form (x ∷ xs) [] each = absurd each
as_many Form (x ∷ xs) (t ∷ ts) each = ap suc (as_many Form xs ts each.1)

two_or_more : (n m : ℕ) → 2 ≤ n → n ≡ m → nat_le 2 m ≡ true
two_or_more n m h e = grind (arith, nat_tests)

-- two at least, as there are two trees at least
pub two_written : {X : Type 0} (Form : X → Tree → Type 0) (xs : List X) (ts : List Tree) → Each Form xs ts → 2 ≤ length ts → nat_le 2 (length xs) ≡ true
two_written Form xs ts each two = two_or_more (length ts) (length xs) two (as_many Form xs ts each)
