-- Reading a word without a sign, by whether it is a number.
use Rattle.std.proofs.Common.{◌≡◌, ℕ, List, Bool, true, false, cond, Err, sym, ap, ◌∙◌}
use Rattle.std.specs.List.{before_first, after_first}
use Rattle.mf_fraction.specs.Decimal.{is_point, is_unsigned_number, read_parts, read_unsigned}
use Rattle.mf_fraction.specs.declared.faults.NumberFault.TheVariants as fault

by_test : (s : Bool) (bs : List ℕ) (t u : Bool) → t ≡ is_unsigned_number bs → t ≡ u → cond u (read_parts s (before_first is_point bs) (after_first is_point bs)) (Err fault.NotANumber) ≡ read_unsigned s bs
unfolding read_unsigned
by_test s bs t u e f =
    ap (λ (x : Bool). cond x (read_parts s (before_first is_point bs) (after_first is_point bs)) (Err fault.NotANumber)) (sym f ∙ e)

pub no_number : (s : Bool) (bs : List ℕ) (t : Bool) → t ≡ is_unsigned_number bs → t ≡ false → Err fault.NotANumber ≡ read_unsigned s bs
no_number s bs t e f = by_test s bs t false e f

pub a_number : (s : Bool) (bs : List ℕ) (t : Bool) → t ≡ is_unsigned_number bs → t ≡ true → read_parts s (before_first is_point bs) (after_first is_point bs) ≡ read_unsigned s bs
a_number s bs t e f = by_test s bs t true e f
