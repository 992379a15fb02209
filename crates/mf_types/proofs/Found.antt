-- A name has a number exactly where it is among the names; what isn't there is read as the default.
use Rattle.std.proofs.Common.{◌≡◌, ℕ, zero, suc, Bool, None, is_some, List, [], ◌∷◌, refl, arith, slice_index_or}
use Rattle.std.proofs.lemmas.Grind.{common_steps}
use Rattle.std.proofs.lemmas.Bool.Decides.{nat_tests}
use Rattle.std.specs.List.{list_any, position, slice_get}
use Rattle.std.specs.Str.{bytes_eq}
use Rattle.mf_model.specs.Resolution.{number_of}
use Rattle.mf_types.specs.Names.{is_member}

pub found_any : {A : Type 0} (p : A → Bool) (xs : List A) → is_some (position p xs) ≡ list_any p xs
found_any p [] = refl
found_any p (x ∷ xs) = let h = found_any p xs in grind (arith, nat_tests, common_steps)

pub default_at : {A : Type 0} (xs : List A) (n : ℕ) (d : A) → None ≡ slice_get xs n → d ≡ slice_index_or xs n d
default_at [] n d e = refl
default_at (x ∷ xs) zero d e = cc
default_at (x ∷ xs) (suc n) d e = default_at xs n d e

-- what has no number is new
pub found : (names : List (List ℕ)) (name : List ℕ) → is_some (number_of names name) ≡ is_member names name
found names name = found_any (λ own. bytes_eq own name) names
