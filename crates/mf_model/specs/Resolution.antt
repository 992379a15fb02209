-- Names and their numbers.
use Rattle.std.specs.Prelude.{ℕ, Bool, false, nat_eq, Option, Some, None, List, map, position}
use Rattle.std.specs.Str.{bytes_eq}
use Rattle.mf_model.specs.declared.form.Typed.{Typed}

abbrev pub typed_names : List Typed → List (List ℕ)
typed_names = map (λ t. t.word.text)

-- the place of a name among the declared ones
abbrev pub number_of : List (List ℕ) → List ℕ → Option ℕ
number_of names name = position (λ own. bytes_eq own name) names

-- a declared number of parameters is the number of arguments
abbrev pub takes : Option ℕ → ℕ → Bool
takes None count = false
takes (Some declared) count = nat_eq declared count
