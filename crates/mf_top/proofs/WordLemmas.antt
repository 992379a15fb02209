-- How the value of digits grows.
use Rattle.std.proofs.Common.{◌≡◌, ℕ, suc, ◌+◌, ◌-◌, ◌*◌, ◌<◌, Bool, true, false, cond, ◌&&◌, nat_le, List, [], ◌∷◌, Option, None, length, get_or, drop, drop-cons, refl, sym, ◌∙◌, arith}
use Rattle.std.specs.Char.{is_ascii_digit}
use Rattle.mf_top.specs.Words.{in_range, number_after, greatest_budget, budget_of}

-- digits after a number that is too large give none in the range
pub in_range-large : (n : ℕ) (bs : List ℕ) → greatest_budget < n → in_range (number_after n bs) ≡ None
in_range-large n [] large = grind arith
in_range-large n (b ∷ bs) large =
    elim (is_ascii_digit b) as (λ v. in_range (cond v (number_after (10 * n + (b - 48)) bs) None) ≡ None) [
      | true ↦ in_range-large (10 * n + (b - 48)) bs (omega arith)
      | false ↦ refl
    ]

cond-none : (b : Bool) → cond {A = Option ℕ} b None None ≡ None
cond-none true = refl
cond-none false = refl

-- one more digit makes the number too large
pub budget_of-large : (word : List ℕ) (i n : ℕ) → i < length word → is_ascii_digit (get_or word i 0) ≡ true →
    greatest_budget < 10 * n + (get_or word i 0 - 48) →
    in_range (number_after n (drop i word)) ≡ in_range (number_after 0 word) → None ≡ budget_of word
budget_of-large word i n inside digit large same =
    let open_drop : in_range (number_after n (get_or word i 0 ∷ drop (suc i) word)) ≡ in_range (number_after 0 word) = rw (drop-cons word i 0) at same in
    let read : in_range (number_after (10 * n + (get_or word i 0 - 48)) (drop (suc i) word)) ≡ in_range (number_after 0 word) = rw digit at open_drop in
    let none : in_range (number_after 0 word) ≡ None = sym read ∙ in_range-large (10 * n + (get_or word i 0 - 48)) (drop (suc i) word) large in
    sym (rw none (cond-none (nat_le 1 (length word) && nat_le (length word) 20)))
