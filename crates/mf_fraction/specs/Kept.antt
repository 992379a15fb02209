-- What is true of the two parts of each stored fraction.
use Rattle.std.specs.Prelude.{◌≡◌, ℕ, ◌<◌, ◌≤◌, ◌^◌, ℤ, unsigned_abs}
use Rattle.mf_fraction.specs.Gcd.{gcd}

-- lowest terms, with both parts at most 2^62 in size
pub record Kept (n : ℤ) (d : ℕ) : Type 0 where
  pub numerator_size : unsigned_abs n ≤ 2 ^ 62
  pub positive : 0 < d
  pub denominator_size : d ≤ 2 ^ 62
  pub lowest : gcd (unsigned_abs n) d ≡ 1
