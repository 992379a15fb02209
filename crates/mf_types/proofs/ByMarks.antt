-- Two lists of types are related where a type of the one is marked as above the other.
use Rattle.std.proofs.Common.{◌≡◌, ℕ, Bool, true, false, ◌||◌, List, [], ◌∷◌, refl, sym, ap, ◌∙◌}
use Rattle.std.specs.List.{list_any}
use Rattle.mf_types.specs.Marks.{is_above, is_marked, Marks}
use Rattle.mf_types.specs.BelowTop.{are_related, descends}

pub any_same : {A : Type 0} (f g : A → Bool) → ((x : A) → f x ≡ g x) → (xs : List A) → list_any f xs ≡ list_any g xs
any_same f g h [] = refl
any_same f g h (x ∷ xs) = ap (λ (b : Bool). b || list_any f xs) (h x) ∙ ap (λ (b : Bool). g x || b) (any_same f g h xs)

both_or : (a b c d : Bool) → ((a || b) || (c || d)) ≡ ((a || c) || (b || d))
both_or true b c d = refl
both_or false true true d = refl
both_or false true false d = refl
both_or false false c d = refl

any_or : {A : Type 0} (f g : A → Bool) (xs : List A) → list_any (λ x. f x || g x) xs ≡ (list_any f xs || list_any g xs)
any_or f g [] = refl
any_or f g (x ∷ xs) = ap (λ (b : Bool). (f x || g x) || b) (any_or f g xs) ∙ both_or (f x) (g x) (list_any f xs) (list_any g xs)

none_of_many : {A : Type 0} (xs : List A) → list_any (λ _. false) xs ≡ false
none_of_many [] = refl
none_of_many (x ∷ xs) = none_of_many xs

any_turned : {A B : Type 0} (f : A → B → Bool) (xs : List A) (ys : List B) → list_any (λ x. list_any (f x) ys) xs ≡ list_any (λ y. list_any (λ x. f x y) xs) ys
any_turned f [] ys = sym (none_of_many ys)
any_turned f (x ∷ xs) ys =
    ap (λ (b : Bool). list_any (f x) ys || b) (any_turned f xs ys)
    ∙ sym (any_or (f x) (λ y. list_any (λ z. f z y) xs) ys)

pub related_by_marks : (parents types others : List ℕ) (above above_others : List Bool) → Marks parents types above → Marks parents others above_others → (list_any (is_marked above) others || list_any (is_marked above_others) types) ≡ are_related parents types others
related_by_marks parents types others above above_others own other =
    ap (λ (b : Bool). b || list_any (is_marked above_others) types) (any_same (is_marked above) (is_above parents types) own others ∙ sym (any_turned (descends parents) types others))
    ∙ (ap (λ (b : Bool). list_any (λ t. list_any (descends parents t) others) types || b) (any_same (is_marked above_others) (is_above parents others) other types)
    ∙ (sym (any_or (λ t. list_any (descends parents t) others) (λ t. list_any (λ u. descends parents u t) others) types)
    ∙ any_same (λ t. list_any (descends parents t) others || list_any (λ u. descends parents u t) others) (λ t. list_any (λ u. descends parents t u || descends parents u t) others)
    (λ t. sym (any_or (descends parents t) (λ u. descends parents u t) others)) types))
