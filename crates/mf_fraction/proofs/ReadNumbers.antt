-- What a word reads as fits, and is in lowest terms.
use Rattle.std.proofs.Common.{◌≡◌, ℕ, ◌^◌, List, length, ◌++◌, Bool, true, false, Result, Ok, Err, if◌then◌else◌, refl, nat_lt}
use Rattle.std.specs.List.{before_first, after_first}
use Rattle.mf_fraction.specs.Exact.{Number, Proper, fits}
use Rattle.mf_fraction.specs.Decimal.{places, digits_value, decimal_value, checked_value, read_parts, read_unsigned, read_of, is_unsigned_number, has_minus, without_minus, is_point}
use Rattle.mf_fraction.specs.Parts.{with_sign}
use Rattle.mf_fraction.specs.declared.faults.NumberFault.{NumberFault}
use Rattle.mf_fraction.specs.declared.faults.NumberFault.TheVariants as fault
use Rattle.mf_fraction.proofs.Decimals.{ten_positive}
use Rattle.mf_fraction.proofs.Reduced.{reduce-proper}

pub record IsRead (a : Number) : Type 0 where
  pub fits : fits a ≡ true
  pub proper : Proper a

-- a fault is no number
abbrev pub IfRead : Result Number NumberFault → Type 0
IfRead (Ok a) = IsRead a
IfRead (Err f) = Unit {0}

checked_read : (a : Number) (b : Bool) → fits a ≡ b → Proper a → IfRead (if b then Ok a else Err fault.Wide)
checked_read a true e proper = record { fits = e; proper = proper }
checked_read a false e proper = tt

value_read : (a : Number) → Proper a → IfRead (checked_value a)
unfolding checked_value
value_read a proper = checked_read a (fits a) refl proper

decimal_proper : (negative : Bool) (front back : List ℕ) → Proper (decimal_value negative front back)
unfolding decimal_value
decimal_proper negative front back = reduce-proper (with_sign negative (digits_value (front ++ back))) (10 ^ length back) (ten_positive (length back))

parts_by : (b : Bool) (r : Result Number NumberFault) → IfRead r → IfRead (if b then Err fault.Wide else r)
parts_by true r h = tt
parts_by false r h = h

parts_read : (negative : Bool) (front back : List ℕ) → IfRead (read_parts negative front back)
unfolding read_parts
parts_read negative front back = parts_by (nat_lt 18 (places back)) (checked_value (decimal_value negative front back)) (value_read (decimal_value negative front back) (decimal_proper negative front back))

unsigned_by : (b : Bool) (r : Result Number NumberFault) → IfRead r → IfRead (if b then r else Err fault.NotANumber)
unsigned_by true r h = h
unsigned_by false r h = tt

unsigned_read : (negative : Bool) (bs : List ℕ) → IfRead (read_unsigned negative bs)
unfolding read_unsigned
unsigned_read negative bs = unsigned_by (is_unsigned_number bs) (read_parts negative (before_first is_point bs) (after_first is_point bs)) (parts_read negative (before_first is_point bs) (after_first is_point bs))

pub word_read : (word : List ℕ) → IfRead (read_of word)
unfolding read_of
word_read word = unsigned_read (has_minus word) (without_minus word)
