-- The place of a name in a table is its place in the list of the texts, and a name without a place is new.
use Rattle.std.proofs.Common.{◌≡◌, refl, sym, ◌∙◌, ap, ℕ, suc, ◌+◌, Bool, true, false, not, cond, ◌||◌, nat_lt, List, [], ◌∷◌, ◌++◌, map, length, Option, Some, None, if◌then◌else◌, arith}
use Rattle.std.specs.List.{list_any, position, position_or_len}
use Rattle.std.specs.Str.{bytes_eq}
use Rattle.std.proofs.lemmas.List.{length-map, map-append}
use Rattle.mf_model.specs.Resolution.{number_of}

step : Bool → ℕ → ℕ
step b n = cond (not b) (1 + n) 0

spot : {X Y : Type 0} (p : X → Bool) (q : Y → Bool) (f : X → Y) → ((x : X) → p x ≡ q (f x)) → (xs : List X) → position_or_len p xs ≡ position_or_len q (map f xs)
unfolding step
spot p q f h [] = refl
spot p q f h (x ∷ xs) = ap (λ b. step b (position_or_len p xs)) (h x) ∙ ap (step (q (f x))) (spot p q f h xs)

place : ℕ → ℕ → Option ℕ
place n len = cond (nat_lt n len) (Some n) None

-- a search of the texts is one of the keys
pub placed : {X Y : Type 0} (p : X → Bool) (q : Y → Bool) (f : X → Y) → ((x : X) → p x ≡ q (f x)) → (xs : List X) → position p xs ≡ position q (map f xs)
unfolding place
placed p q f h xs = ap (λ n. place n (length xs)) (spot p q f h xs) ∙ ap (place (position_or_len q (map f xs))) (sym (length-map xs f))

any_step : (b t : Bool) (n l : ℕ) → t ≡ nat_lt n l → (b || t) ≡ nat_lt (cond (not b) (1 + n) 0) (suc l)
any_step true t n l e = grind arith
any_step false t n l e = e ∙ grind arith

any_is : {X : Type 0} (p : X → Bool) (xs : List X) → list_any p xs ≡ nat_lt (position_or_len p xs) (length xs)
any_is p [] = refl
any_is p (x ∷ xs) = any_step (p x) (list_any p xs) (position_or_len p xs) (length xs) (any_is p xs)

none_is : (b : Bool) (n : ℕ) → cond b (Some n) None ≡ None → b ≡ false
none_is true n e = cc
none_is false n e = refl

-- what has no place passes no test
pub absent : {X : Type 0} (p : X → Bool) (xs : List X) → position p xs ≡ None → list_any p xs ≡ false
absent p xs e = any_is p xs ∙ none_is (nat_lt (position_or_len p xs) (length xs)) (position_or_len p xs) e

-- a key of a new name goes behind the others
pub entered : {X : Type 0} (same : X → X → Bool) (text : X → List ℕ) (keys : List X) (key : X) (name : List ℕ) → ((x : X) → same key x ≡ bytes_eq (text x) name) → text key ≡ name → number_of (map text keys) name ≡ None → map text (if list_any (same key) keys then keys else keys ++ key ∷ []) ≡ map text keys ++ name ∷ []
entered same text keys key name alike is none =
    let fresh : list_any (same key) keys ≡ false = absent (same key) keys (placed (same key) (λ own. bytes_eq own name) text alike keys ∙ none) in
    ap (λ b. map text (if b then keys else keys ++ key ∷ [])) fresh
    ∙ map-append text keys (key ∷ [])
    ∙ ap (λ n. map text keys ++ n ∷ []) is
