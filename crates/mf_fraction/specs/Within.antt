-- Numbers that digits write, up to a greatest one.
use Rattle.std.specs.Prelude.{ℕ, ◌+◌, ◌*◌, ◌^◌, nat_le, List, length, Option, Some, None, if◌then◌else◌}
use Rattle.mf_fraction.specs.Decimal.{digits_value}

-- n, where it is at most 2^62 * 10^18
abbrev pub within : ℕ → Option ℕ
within n = if nat_le n (2 ^ 62 * 10 ^ 18) then Some n else None

-- the number that the digits of n and then these digits write
abbrev pub continued : ℕ → List ℕ → ℕ
continued n bs = n * 10 ^ length bs + digits_value bs
