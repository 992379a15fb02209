-- The types from which a type descends, one step up.
use Rattle.std.proofs.Common.{◌≡◌, ℕ, suc, Bool, false, if◌then◌else◌, nat_eq, List, [], ◌∷◌, refl, sym, ap, ◌∙◌, arith, slice_index_or}
use Rattle.std.proofs.lemmas.Bool.Decides.{nat_tests}
use Rattle.mf_model.specs.Objects.{ancestors, member}

apart : (n m : ℕ) → (m ≡ n → ⊥) → nat_eq n m ≡ false
apart n m h = grind (arith, nat_tests)

past : (w t : ℕ) (rest : List ℕ) (a b : Bool) → nat_eq w t ≡ a → nat_eq t 0 ≡ b → a ≡ false → b ≡ false → member w rest ≡ member w (t ∷ (if nat_eq t 0 then [] else rest))
past w t rest a b e f g h = rw (e, f, g, h) refl

pub member-ancestors_more : (parents : List ℕ) (n more t w next : ℕ) → suc n ≡ more → (t ≡ w → ⊥) → (t ≡ 0 → ⊥) → next ≡ slice_index_or parents t 0 → member w (ancestors parents n next) ≡ member w (ancestors parents more t)
member-ancestors_more parents n more t w next h a b e =
    ap (λ (x : ℕ). member w (ancestors parents n x)) e
    ∙ past w t (ancestors parents n (slice_index_or parents t 0)) _ _ (apart w t a) (apart t 0 (λ z. b (sym z))) refl refl
    ∙ ap (λ (x : ℕ). member w (ancestors parents x t)) h
