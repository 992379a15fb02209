-- The kind of a word whatever its case, and the word in small letters.
use Rattle.std.proofs.Common.{◌≡◌, refl, sym, ◌∙◌, ap, ℕ, Bool, true, false, not, List, [], ◌∷◌, arith}
use Rattle.std.proofs.lemmas.Bool.Decides.{nat_tests}
use Rattle.std.specs.Char.{is_ascii_lowercase, is_ascii_uppercase, to_ascii_lowercase}
use Rattle.std.specs.List.{list_all}
use Rattle.mf_model.specs.declared.token.Kind.TheVariants.{Name}
use Rattle.mf_model.specs.Tokens.{is_name, is_name_byte, kind_of}
use Rattle.mf_lex.proofs.WordKinds.{name_kind, name_text}
use Rattle.mf_validator.specs.PlanText.{folded}

abbrev pub is_small : ℕ → Bool
is_small b = not (is_ascii_uppercase b)

same_byte : (b : ℕ) → is_small b ≡ true → to_ascii_lowercase b ≡ b
same_byte b h = grind (arith, nat_tests)

same_word : (word : List ℕ) → list_all is_small word ≡ true → folded word ≡ word
same_word [] h = refl
same_word (b ∷ bs) h =
    let first : is_small b ≡ true = grind arith in
    let rest : list_all is_small bs ≡ true = grind arith in
    let same = same_byte b first in
    let others = same_word bs rest in
    λ i. same i ∷ others i

small_byte : (b : ℕ) → is_name_byte b ≡ true → is_small b ≡ true
unfolding is_name_byte
small_byte b h = grind (arith, nat_tests)

small_letter : (b : ℕ) → is_ascii_lowercase b ≡ true → is_small b ≡ true
small_letter b h = grind (arith, nat_tests)

small_bytes : (bs : List ℕ) → list_all is_name_byte bs ≡ true → list_all is_small bs ≡ true
small_bytes [] h = refl
small_bytes (b ∷ bs) h =
    let first : is_name_byte b ≡ true = grind arith in
    let rest : list_all is_name_byte bs ≡ true = grind arith in
    rw (small_byte b first) (small_bytes bs rest)

small_name : (word : List ℕ) → is_name word ≡ true → list_all is_small word ≡ true
small_name [] h = cc
small_name (b ∷ bs) h =
    let first : is_ascii_lowercase b ≡ true = grind arith in
    let rest : list_all is_name_byte bs ≡ true = grind arith in
    rw (small_letter b first) (small_bytes bs rest)

-- a name is of the kind Name
folded_name : (word : List ℕ) → is_name word ≡ true → kind_of (folded word) ≡ Name
folded_name word h = ap kind_of (same_word word (small_name word h)) ∙ name_kind word h

small_by : (word : List ℕ) (name small : Bool) → is_name word ≡ name → list_all is_small word ≡ small → kind_of (folded word) ≡ Name → small ≡ name
small_by word true small is s kind = sym s ∙ small_name word is
small_by word false true is s kind = sym (name_text word (sym (ap kind_of (same_word word s)) ∙ kind)) ∙ is
small_by word false false is s kind = refl

pub name_of_kind : (word : List ℕ) → kind_of (folded word) ≡ Name → list_all is_small word ≡ is_name word
name_of_kind word kind = small_by word (is_name word) (list_all is_small word) refl refl kind

other_by : (word : List ℕ) (name : Bool) → is_name word ≡ name → ¬ (kind_of (folded word) ≡ Name) → false ≡ name
other_by word true is other = absurd (other (folded_name word is))
other_by word false is other = refl

pub other_of_kind : (word : List ℕ) → ¬ (kind_of (folded word) ≡ Name) → false ≡ is_name word
other_of_kind word other = other_by word (is_name word) refl other
