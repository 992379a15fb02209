-- How a fraction is written: `n`, or `n/d` where d is not 1. 47 is `/`.
use Rattle.std.specs.Prelude.{ℕ, List, ◌∷◌, ◌++◌, ◌==◌, decimal, if◌then◌else◌}
use Rattle.std.specs.Fmt.{signed_decimal}
use Rattle.mf_fraction.specs.Exact.{Number}

unfoldable pub text_of : Number → List ℕ
text_of a = if a.den == 1 then signed_decimal a.num else signed_decimal a.num ++ 47 ∷ decimal a.den
