-- The greatest common divisor of two natural numbers, as Euclid finds it.
use Rattle.std.specs.Prelude.{ℕ, zero, suc, ◌%◌}

-- with a bound on the number of steps
abbrev pub gcd_within : ℕ → ℕ → ℕ → ℕ
gcd_within zero a b = a
gcd_within (suc n) a zero = a
gcd_within (suc n) a (suc b) = gcd_within n (suc b) (a % suc b)

-- the second number falls with each step, so it bounds their number
unfoldable pub gcd : ℕ → ℕ → ℕ
gcd a b = gcd_within (suc b) a b
