-- The number that a decimal word writes, of any size.
use Rattle.std.specs.Prelude.{ℕ, List}
use Rattle.std.specs.List.{before_first, after_first}
use Rattle.mf_fraction.specs.Exact.{Number}
use Rattle.mf_fraction.specs.Decimal.{decimal_value, has_minus, without_minus, is_point}

abbrev pub written_value : List ℕ → Number
written_value word = decimal_value (has_minus word) (before_first is_point (without_minus word)) (after_first is_point (without_minus word))
