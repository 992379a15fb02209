-- Decimal words: an optional `-`, digits, and optionally `.` and digits. 45 is `-`, 46 is `.` and 48 is `0`.
use Rattle.std.specs.Prelude.{ℕ, ◌+◌, ◌-◌, ◌*◌, ◌^◌, Bool, false, ◌&&◌, ◌||◌, nat_lt, ◌==◌, List, [], ◌∷◌, ◌++◌, length, Result, Ok, Err, if◌then◌else◌}
use Rattle.std.specs.List.{list_all, before_first, after_first}
use Rattle.std.specs.Char.{is_ascii_digit}
use Rattle.mf_fraction.specs.declared.faults.NumberFault.{NumberFault}
use Rattle.mf_fraction.specs.declared.faults.NumberFault.TheVariants as fault
use Rattle.mf_fraction.specs.Exact.{Number, reduce, fits}
use Rattle.mf_fraction.specs.Parts.{with_sign}

-- ---- the kind Number
abbrev pub has_minus : List ℕ → Bool
has_minus [] = false
has_minus (b ∷ bs) = b == 45

abbrev pub without_minus : List ℕ → List ℕ
without_minus [] = []
without_minus (b ∷ bs) = if b == 45 then bs else b ∷ bs

-- one digit or more, and nothing else
abbrev pub is_digits : List ℕ → Bool
is_digits bs = nat_lt 0 (length bs) && list_all is_ascii_digit bs

abbrev pub is_point : ℕ → Bool
is_point b = b == 46

abbrev pub is_unsigned_number : List ℕ → Bool
is_unsigned_number bs =
    is_digits bs || (is_digits (before_first is_point bs) && is_digits (after_first is_point bs))

abbrev pub is_number : List ℕ → Bool
is_number word = is_unsigned_number (without_minus word)

-- ---- the value
-- the number that digits write
abbrev pub digits_value : List ℕ → ℕ
digits_value [] = 0
digits_value (b ∷ bs) = (b - 48) * 10 ^ length bs + digits_value bs

-- how many digits are left once the zeros at the end are dropped
abbrev pub places : List ℕ → ℕ
places [] = 0
places (b ∷ bs) = if places bs == 0 && b == 48 then 0 else 1 + places bs

-- all digits as one number, over ten for each digit behind the point
unfoldable pub decimal_value : Bool → List ℕ → List ℕ → Number
decimal_value negative front back =
    reduce (with_sign negative (digits_value (front ++ back))) (10 ^ length back)

-- the value where it can be stored
unfoldable pub checked_value : Number → Result Number NumberFault
checked_value a = if fits a then Ok a else Err fault.Wide

-- digits before and behind the point
unfoldable pub read_parts : Bool → List ℕ → List ℕ → Result Number NumberFault
read_parts negative front back =
    if nat_lt 18 (places back) then Err fault.Wide else checked_value (decimal_value negative front back)

unfoldable pub read_unsigned : Bool → List ℕ → Result Number NumberFault
read_unsigned negative bs =
    if is_unsigned_number bs then read_parts negative (before_first is_point bs) (after_first is_point bs) else Err fault.NotANumber

-- what a word reads as
unfoldable pub read_of : List ℕ → Result Number NumberFault
read_of word = read_unsigned (has_minus word) (without_minus word)
