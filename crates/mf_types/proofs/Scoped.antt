-- The innermost variable of a name, found by its place among the names.
use Rattle.std.proofs.Common.{◌≡◌, ℕ, suc, ◌+◌, Bool, true, false, if◌then◌else◌, Option, Some, None, List, [], ◌∷◌, ◌++◌, length, slice_index_or, refl, sym, ap, ◌∙◌, arith, append_assoc, length-append}
use Rattle.std.proofs.lemmas.List.{get_or-append-add}
use Rattle.std.specs.Str.{bytes_eq}
use Rattle.mf_types.specs.Arguments.{entry, types_at}
use Rattle.mf_types.specs.Scopes.{Placed, find_from, find_in, inner, variable}
use Rattle.mf_types.specs.Tasks.{paired}
use Rattle.mf_types.specs.Typing.{Binders, last_from, place_in}

-- the types of a variable found further in, else those found so far
abbrev types_or : Option Placed → Option (List ℕ) → Option (List ℕ)
types_or (Some placed) types = Some placed.variable.types
types_or None types = types

at_end : (front : List (List ℕ)) (own : List ℕ) (rest : List (List ℕ)) → slice_index_or (front ++ own ∷ rest) (length front) [] ≡ own
at_end front own rest = ap (λ n. slice_index_or (front ++ own ∷ rest) n []) (omega arith) ∙ get_or-append-add front (own ∷ rest) 0 []

hides : (found : Option Placed) (b : Bool) (n m : ℕ) (name : List ℕ) (front : List (List ℕ)) (own : List ℕ) (rest : List (List ℕ)) (best : Option ℕ) → m ≡ length front → types_or (inner found b n (variable name own)) (entry (front ++ own ∷ rest) best) ≡ types_or found (entry (front ++ own ∷ rest) (if b then Some m else best))
hides (Some placed) b n m name front own rest best e = refl
hides None true n m name front own rest best e = ap Some (sym (ap (λ k. slice_index_or (front ++ own ∷ rest) k []) e ∙ at_end front own rest))
hides None false n m name front own rest best e = refl

search_goes_on : (n m : ℕ) (names : Binders) (front types : List (List ℕ)) (best : Option ℕ) (name : List ℕ) → length types ≡ length names → m ≡ length front → types_or (find_from n (paired variable names types) name) (entry (front ++ types) best) ≡ entry (front ++ types) (last_from m best names name)
search_goes_on n m [] front types best name h e = refl
search_goes_on n m (own ∷ names) front [] best name h e = absurd (omega (arith, h))
search_goes_on n m (own ∷ names) front (first ∷ types) best name h e =
    let found = find_from (suc n) (paired variable names types) name in
    let place = if bytes_eq own name then Some m else best in
    let whole : (front ++ first ∷ []) ++ types ≡ front ++ first ∷ types = append_assoc front (first ∷ []) types in
    hides found (bytes_eq own name) n m own front first types best e
    ∙ (ap (λ all. types_or found (entry all place)) (sym whole)
    ∙ (search_goes_on (suc n) (m + 1) names (front ++ first ∷ []) types place name (omega (arith, h)) (omega (arith, e, length-append front (first ∷ [])))
    ∙ ap (λ all. entry all (last_from (m + 1) place names name)) whole))

types_or_none : (found : Option Placed) → types_or found None ≡ types_at found
types_or_none (Some placed) = refl
types_or_none None = refl

-- the types at the place of a name are those of its innermost variable
pub types_at_place : (names : Binders) (types : List (List ℕ)) (name : List ℕ) → length types ≡ length names → entry types (place_in names name) ≡ types_at (find_in (paired variable names types) name)
types_at_place names types name h =
    sym (search_goes_on 0 0 names [] types None name h refl) ∙ types_or_none (find_from 0 (paired variable names types) name)
