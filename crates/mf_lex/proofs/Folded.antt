-- Case does not matter to numbers: no letter is part of one.
use Rattle.std.proofs.Common.{◌≡◌, refl, sym, ◌∙◌, ap, ap₂, ℕ, ◌+◌, Bool, true, false, cond, not, ◌&&◌, ◌||◌, ◌==◌, if◌then◌else◌, List, [], ◌∷◌, map, take, drop, arith, nat_lt}
use Rattle.std.proofs.lemmas.Bool.Decides.{nat_tests}
use Rattle.std.proofs.lemmas.List.{length-map, take-map, drop-map}
use Rattle.std.specs.Char.{is_ascii_digit, to_ascii_lowercase}
use Rattle.std.specs.List.{list_all, position_or_len, before_first, after_first}
use Rattle.mf_fraction.specs.Decimal.{is_digits, is_point, without_minus, is_unsigned_number, is_number}

abbrev folded : List ℕ → List ℕ
folded = map to_ascii_lowercase

same_digit : (b : ℕ) → is_ascii_digit (to_ascii_lowercase b) ≡ is_ascii_digit b
same_digit b = grind (arith, nat_tests)

same_point : (b : ℕ) → is_point (to_ascii_lowercase b) ≡ is_point b
same_point b = grind (arith, nat_tests)

same_minus : (b : ℕ) → (to_ascii_lowercase b == 45) ≡ (b == 45)
same_minus b = grind (arith, nat_tests)

all_digits : (bs : List ℕ) → list_all is_ascii_digit (folded bs) ≡ list_all is_ascii_digit bs
all_digits [] = refl
all_digits (b ∷ bs) = ap₂ (λ (x y : Bool). x && y) (same_digit b) (all_digits bs)

some_digits : (bs : List ℕ) → is_digits (folded bs) ≡ is_digits bs
some_digits bs = ap₂ (λ (n : ℕ) (t : Bool). nat_lt 0 n && t) (length-map bs to_ascii_lowercase) (all_digits bs)

same_place : (bs : List ℕ) → position_or_len is_point (folded bs) ≡ position_or_len is_point bs
same_place [] = refl
same_place (b ∷ bs) = let point = same_point b in let rest = same_place bs in λ i. cond (not (point i)) (1 + rest i) 0

before_folded : (bs : List ℕ) → before_first is_point (folded bs) ≡ folded (before_first is_point bs)
before_folded bs = ap (λ (n : ℕ). take n (folded bs)) (same_place bs) ∙ take-map to_ascii_lowercase (position_or_len is_point bs) bs

after_folded : (bs : List ℕ) → after_first is_point (folded bs) ≡ folded (after_first is_point bs)
after_folded bs = ap (λ (n : ℕ). drop (n + 1) (folded bs)) (same_place bs) ∙ drop-map to_ascii_lowercase (position_or_len is_point bs + 1) bs

unsigned_folded : (bs : List ℕ) → is_unsigned_number (folded bs) ≡ is_unsigned_number bs
unsigned_folded bs =
    let before = ap is_digits (before_folded bs) ∙ some_digits (before_first is_point bs) in
    let after = ap is_digits (after_folded bs) ∙ some_digits (after_first is_point bs) in
    ap₂ (λ (x y : Bool). x || y) (some_digits bs) (ap₂ (λ (x y : Bool). x && y) before after)

rest_folded : (b : ℕ) (bs : List ℕ) (minus : Bool) → (if minus then folded bs else folded (b ∷ bs)) ≡ folded (if minus then bs else b ∷ bs)
rest_folded b bs true = refl
rest_folded b bs false = refl

minus_folded : (word : List ℕ) → without_minus (folded word) ≡ folded (without_minus word)
minus_folded [] = refl
minus_folded (b ∷ bs) = ap (λ (t : Bool). if t then folded bs else folded (b ∷ bs)) (same_minus b) ∙ rest_folded b bs (b == 45)

pub number_folded : (word : List ℕ) → is_number word ≡ is_number (folded word)
number_folded word = sym (ap is_unsigned_number (minus_folded word) ∙ unsigned_folded (without_minus word))
