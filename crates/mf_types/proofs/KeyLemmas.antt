-- A key stands in a table exactly where its numbers stand among those of the keys.
use Rattle.std.proofs.Common.{◌≡◌, refl, ◌∙◌, ap, ℕ, Bool, true, false, ◌||◌, if◌then◌else◌, List, [], ◌∷◌, ◌++◌, map}
use Rattle.std.specs.List.{list_any}
use Rattle.std.specs.Str.{bytes_eq}
use Rattle.std.proofs.lemmas.List.{map-append}
use Rattle.mf_types.specs.Names.{is_member}

pub any_mapped : {X : Type 0} (same : X → X → Bool) (text : X → List ℕ) (key : X) → ((x : X) → same key x ≡ bytes_eq (text x) (text key)) → (keys : List X) → list_any (same key) keys ≡ is_member (map text keys) (text key)
any_mapped same text key alike [] = refl
any_mapped same text key alike (x ∷ xs) = ap (λ b. b || list_any (same key) xs) (alike x) ∙ ap (λ b. bytes_eq (text x) (text key) || b) (any_mapped same text key alike xs)

entered : {X : Type 0} (text : X → List ℕ) (key : X) (keys : List X) (b : Bool) → map text (if b then keys else keys ++ key ∷ []) ≡ (if b then map text keys else map text keys ++ text key ∷ [])
entered text key keys true = refl
entered text key keys false = map-append text keys (key ∷ [])

pub keys_added : {X : Type 0} (same : X → X → Bool) (text : X → List ℕ) (key : X) → ((x : X) → same key x ≡ bytes_eq (text x) (text key)) → (keys : List X) → map text (if list_any (same key) keys then keys else keys ++ key ∷ []) ≡ (if is_member (map text keys) (text key) then map text keys else map text keys ++ text key ∷ [])
keys_added same text key alike keys =
    entered text key keys (list_any (same key) keys)
    ∙ ap (λ b. if b then map text keys else map text keys ++ text key ∷ []) (any_mapped same text key alike keys)
