-- A choice by a test, and words against lists of words.
use Rattle.std.proofs.Common.{◌≡◌, ℕ, Bool, true, false, ◌||◌, if◌then◌else◌, List, ◌∷◌, refl, ap, sym, ◌∙◌}
use Rattle.std.specs.List.{list_any}
use Rattle.std.specs.Str.{bytes_eq}
use Rattle.mf_model.proofs.Choices.{same_text}
use Rattle.mf_reader.proofs.WordReadings.{true_false, not_true}

-- a word that is none of the list is not this one of the list
pub not_listed : (text key : List ℕ) (ws : List (List ℕ)) → list_any (λ w. bytes_eq text w) ws ≡ false → list_any (λ w. bytes_eq key w) ws ≡ true → bytes_eq text key ≡ false
not_listed text key ws none stands =
    not_true (bytes_eq text key) (λ same. true_false (sym stands ∙ ap (λ (v : List ℕ). list_any (λ w. bytes_eq v w) ws) (sym (same_text text key same)) ∙ none))

pub none_more : (text key : List ℕ) (ws : List (List ℕ)) → bytes_eq text key ≡ false → list_any (λ w. bytes_eq text w) ws ≡ false → list_any (λ w. bytes_eq text w) (key ∷ ws) ≡ false
none_more text key ws first rest = ap (λ b. b || list_any (λ w. bytes_eq text w) ws) first ∙ rest

pub by_test : {A : Type 0} (P : A → Type 0) (b : Bool) (x y : A) → (b ≡ true → P x) → (b ≡ false → P y) → P (if b then x else y)
by_test P true x y holds fails = holds refl
by_test P false x y holds fails = fails refl
