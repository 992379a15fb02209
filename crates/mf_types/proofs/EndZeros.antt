-- Zeros at the end of digits, dropped one by one.
use Rattle.std.proofs.Common.{◌≡◌, ℕ, ◌+◌, ◌-◌, ◌<◌, Bool, false, ◌&&◌, if◌then◌else◌, nat_eq, List, [], ◌∷◌, ◌++◌, take, length, get_or, refl, sym, ap, ◌∙◌, arith}
use Rattle.std.proofs.lemmas.List.{take_more, take_all}
use Rattle.std.proofs.lemmas.Bool.Decides.{nat_tests}
use Rattle.mf_types.specs.StartValues.{is_empty, without_end_zeros}

apart : (d : ℕ) → (d ≡ 48 → ⊥) → nat_eq d 48 ≡ false
apart d h = grind (arith, nat_tests)

front : (xs : List ℕ) → 0 < length xs → xs ≡ take (length xs - 1) xs ++ get_or xs (length xs - 1) 0 ∷ []
front xs h =
    let more : take ((length xs - 1) + 1) xs ≡ take (length xs - 1) xs ++ get_or xs (length xs - 1) 0 ∷ [] = take_more xs (length xs - 1) 0 (omega arith) in
    let all : (length xs - 1) + 1 ≡ length xs = omega arith in
    sym (take_all (length xs) xs (omega arith)) ∙ (ap (λ (n : ℕ). take n xs) (sym all) ∙ more)

zero_behind : (xs : List ℕ) → without_end_zeros (xs ++ 48 ∷ []) ≡ without_end_zeros xs
zero_behind [] = refl
zero_behind (x ∷ xs) = ap (λ (ds : List ℕ). if is_empty ds && nat_eq x 48 then [] else x ∷ ds) (zero_behind xs)

filled : (xs : List ℕ) (d : ℕ) → is_empty (xs ++ d ∷ []) ≡ false
filled [] d = refl
filled (x ∷ xs) d = refl

other_behind : (xs : List ℕ) (d : ℕ) → nat_eq d 48 ≡ false → without_end_zeros (xs ++ d ∷ []) ≡ xs ++ d ∷ []
other_behind [] d h = ap (λ (b : Bool). if b then [] else d ∷ []) h
other_behind (x ∷ xs) d h =
    ap (λ (ds : List ℕ). if is_empty ds && nat_eq x 48 then [] else x ∷ ds) (other_behind xs d h)
    ∙ ap (λ (b : Bool). if b && nat_eq x 48 then [] else x ∷ (xs ++ d ∷ [])) (filled xs d)

pub end_zero : (xs : List ℕ) → 0 < length xs → get_or xs (length xs - 1) 0 ≡ 48 → without_end_zeros (take (length xs - 1) xs) ≡ without_end_zeros xs
end_zero xs h e =
    sym (ap without_end_zeros (front xs h ∙ ap (λ (d : ℕ). take (length xs - 1) xs ++ d ∷ []) e) ∙ zero_behind (take (length xs - 1) xs))

pub end_other : (xs : List ℕ) → 0 < length xs → (get_or xs (length xs - 1) 0 ≡ 48 → ⊥) → xs ≡ without_end_zeros xs
end_other xs h other =
    let last = get_or xs (length xs - 1) 0 in
    front xs h
    ∙ (sym (other_behind (take (length xs - 1) xs) last (apart last other)) ∙ ap without_end_zeros (sym (front xs h)))
