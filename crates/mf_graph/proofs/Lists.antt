-- Lists with a value for each place beyond their end.
use Rattle.std.proofs.Common.{◌≡◌, ℕ, zero, suc, List, [], ◌∷◌, get_or, slice_get, Option, Some, None, refl, sym, ap, ◌∙◌}

pub get_or_none : {X : Type 0} (xs : List X) (n : ℕ) (d : X) → slice_get xs n ≡ None → d ≡ get_or xs n d
get_or_none [] n d e = refl
get_or_none (x ∷ xs) zero d e = cc
get_or_none (x ∷ xs) (suc n) d e = get_or_none xs n d e
