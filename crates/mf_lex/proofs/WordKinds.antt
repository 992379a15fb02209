-- The kind of a text, and the test that it passes: the tests stand in a chain, of which the first that is met counts.
use Rattle.std.proofs.Common.{◌≡◌, ℕ, Bool, true, false, List, [], ◌∷◌, refl, arith}
use Rattle.std.specs.Prelude.{◌==◌, if◌then◌else◌}
use Rattle.std.specs.Char.{is_ascii_lowercase}
use Rattle.std.proofs.lemmas.Bool.Decides.{nat_tests}
use Rattle.mf_fraction.specs.Decimal.{is_number}
use Rattle.mf_model.specs.declared.token.Kind.{Kind}
use Rattle.mf_model.specs.declared.token.Kind.TheVariants.{Left, Right, Name, Variable, Keyword, Number, Sign, Plain}
use Rattle.mf_model.specs.Tokens.{is_only, is_name, is_name_behind, is_sign, kind_of}

abbrev chain : Bool → Bool → Bool → Bool → Bool → Bool → Bool → Kind
chain left right name variable keyword number sign =
    if left then Left
    else (if right then Right
    else (if name then Name
    else (if variable then Variable
    else (if keyword then Keyword
    else (if number then Number
    else (if sign then Sign
    else Plain))))))

left_only : (l r a b c d e : Bool) → chain l r a b c d e ≡ Left → l ≡ true
left_only l r a b c d e h = grind arith

right_only : (l r a b c d e : Bool) → chain l r a b c d e ≡ Right → r ≡ true
right_only l r a b c d e h = grind arith

name_only : (l r a b c d e : Bool) → chain l r a b c d e ≡ Name → a ≡ true
name_only l r a b c d e h = grind arith

pub left_text : (text : List ℕ) → kind_of text ≡ Left → is_only 40 text ≡ true
unfolding kind_of
left_text text h = left_only (is_only 40 text) (is_only 41 text) (is_name text) (is_name_behind 63 text) (is_name_behind 58 text) (is_number text) (is_sign text) h

pub right_text : (text : List ℕ) → kind_of text ≡ Right → is_only 41 text ≡ true
unfolding kind_of
right_text text h = right_only (is_only 40 text) (is_only 41 text) (is_name text) (is_name_behind 63 text) (is_name_behind 58 text) (is_number text) (is_sign text) h

pub name_text : (text : List ℕ) → kind_of text ≡ Name → is_name text ≡ true
unfolding kind_of
name_text text h = name_only (is_only 40 text) (is_only 41 text) (is_name text) (is_name_behind 63 text) (is_name_behind 58 text) (is_number text) (is_sign text) h

-- ---- a text that passes a test fails those before it

not_only : (c b : ℕ) (bs : List ℕ) → (b == c) ≡ false → is_only c (b ∷ bs) ≡ false
not_only c b [] h = h
not_only c b (d ∷ bs) h = refl

pub name_kind : (text : List ℕ) → is_name text ≡ true → kind_of text ≡ Name
unfolding kind_of
name_kind [] h = cc
name_kind (b ∷ bs) h =
    let small : is_ascii_lowercase b ≡ true = grind arith in
    let left = not_only 40 b bs (grind (arith, nat_tests)) in
    let right = not_only 41 b bs (grind (arith, nat_tests)) in
    rw left (rw right (rw h refl))
