-- Comparisons of numbers with lists of numbers behind them, and the orders of the definitions.
use Rattle.std.proofs.Common.{◌≡◌, ℕ, ◌&&◌, ◌||◌, nat_eq, nat_lt, List, refl, ap, ◌∙◌, arith}
use Rattle.std.proofs.lemmas.Bool.Decides.{nat_tests}
use Rattle.std.proofs.lemmas.Cmp.{same_from_slice_cmp}
use Rattle.std.specs.Cmp.Lexicographic.{slice_cmp}
use Rattle.std.specs.Ordering.{nat_cmp, is_lt, ordering_then}
use Rattle.std.specs.declared.cmp.Ordering.{Ordering}
use Rattle.mf_model.specs.States.{numbers_before}

pub numbers_before-cmp : (ns ms : List ℕ) → is_lt (slice_cmp nat_cmp ns ms) ≡ numbers_before ns ms
numbers_before-cmp ns ms = same_from_slice_cmp nat_cmp is_lt numbers_before refl (λ _ _. refl) (λ _ _. refl) (λ x y xs ys o h. grind (arith, nat_tests)) ns ms (slice_cmp nat_cmp ns ms) refl

first_decides : (n m : ℕ) (o : Ordering) → is_lt (ordering_then (nat_cmp n m) o) ≡ (nat_lt n m || (nat_eq n m && is_lt o))
first_decides n m o = grind (arith, nat_tests)

pub pair_before : (n m : ℕ) (ns ms : List ℕ) → is_lt (ordering_then (nat_cmp n m) (slice_cmp nat_cmp ns ms)) ≡ (nat_lt n m || (nat_eq n m && numbers_before ns ms))
pair_before n m ns ms = first_decides n m (slice_cmp nat_cmp ns ms) ∙ ap (λ b. nat_lt n m || (nat_eq n m && b)) (numbers_before-cmp ns ms)
