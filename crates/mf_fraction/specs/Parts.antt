-- A signed number from its sign and its size.
use Rattle.std.specs.Prelude.{ℕ, Bool, ℤ, pos, neg_ℤ, if◌then◌else◌}

abbrev pub with_sign : Bool → ℕ → ℤ
with_sign negative n = if negative then neg_ℤ (pos n) else pos n

-- z, or -z where the sign is set
abbrev pub turned : Bool → ℤ → ℤ
turned negative z = if negative then neg_ℤ z else z
