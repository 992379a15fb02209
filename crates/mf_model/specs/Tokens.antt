-- The tokens of a file: where they stand, of which kind each is, and where a file has faults.
-- The lexical profile is that of PDDL 2.1 (Fox and Long, JAIR 2003), with limits and kinds of its own.
use Rattle.std.specs.Prelude.{◌≡◌, ℕ, ◌+◌, ◌<◌, ◌≤◌, Bool, true, false, not, ◌&&◌, ◌||◌, ◌==◌, if◌then◌else◌, nat_le, ◌⊎◌, List, [], ◌∷◌, map, length, slice_index, slice_range}
use Rattle.std.specs.Char.{to_ascii_lowercase, is_ascii_lowercase, is_ascii_digit}
use Rattle.std.specs.List.{list_all}
use Rattle.mf_fraction.specs.Decimal.{is_number}
use Rattle.mf_model.specs.declared.token.Span.{Span}
use Rattle.mf_model.specs.declared.token.Token.{Token}
use Rattle.mf_model.specs.declared.token.Kind.{Kind}
use Rattle.mf_model.specs.declared.token.Kind.TheVariants.{Left, Right, Name, Variable, Keyword, Number, Sign, Plain}

-- ---- bytes

-- tab, line feed, form feed, carriage return, space
unfoldable pub is_blank : ℕ → Bool
is_blank b = b == 9 || b == 10 || b == 12 || b == 13 || b == 32

-- `(` and `)`
unfoldable pub is_bracket : ℕ → Bool
is_bracket b = b == 40 || b == 41

-- what no file may have outside its comments
unfoldable pub is_bad : ℕ → Bool
is_bad b = not (is_blank b || (nat_le 33 b && nat_le b 126))

-- a byte of a word: any that is none of the above, nor the `;` that begins a comment
unfoldable pub is_word : ℕ → Bool
is_word b = nat_le 33 b && nat_le b 126 && not (is_bracket b) && not (b == 59)

-- ---- comments

-- whether a byte is part of a comment, where one is open or none: `;` opens one, and byte 10 ends it
unfoldable pub in_comment : Bool → ℕ → Bool
in_comment inside b = if b == 10 then false else (inside || b == 59)

-- the bytes with a space in place of each byte of a comment
abbrev pub cleared : Bool → List ℕ → List ℕ
cleared inside [] = []
cleared inside (b ∷ bs) =
    (if in_comment inside b then 32 else b) ∷ cleared (in_comment inside b) bs

abbrev pub without_comments : List ℕ → List ℕ
without_comments source = cleared false source

-- ---- kinds of words

-- a letter, then letters, digits, `-` and `_`
unfoldable pub is_name_byte : ℕ → Bool
is_name_byte b = is_ascii_lowercase b || is_ascii_digit b || b == 45 || b == 95

abbrev pub is_name : List ℕ → Bool
is_name [] = false
is_name (b ∷ bs) = is_ascii_lowercase b && list_all is_name_byte bs

-- the byte, then a name
abbrev pub is_name_behind : ℕ → List ℕ → Bool
is_name_behind mark [] = false
is_name_behind mark (b ∷ bs) = b == mark && is_name bs

-- one of `*` `+` `-` `/` `<` `=` `>` `<=` `>=`
abbrev pub is_sign : List ℕ → Bool
is_sign [] = false
is_sign (b ∷ []) = b == 42 || b == 43 || b == 45 || b == 47 || b == 60 || b == 61 || b == 62
is_sign (b ∷ c ∷ []) = (b == 60 || b == 62) && c == 61
is_sign (b ∷ c ∷ d ∷ bs) = false

abbrev pub is_only : ℕ → List ℕ → Bool
is_only c [] = false
is_only c (b ∷ []) = b == c
is_only c (b ∷ d ∷ bs) = false

-- the kind of a token by its text, which is folded to lower case; a number is a decimal one
unfoldable pub kind_of : List ℕ → Kind
kind_of text =
    if is_only 40 text then Left
    else (if is_only 41 text then Right
    else (if is_name text then Name
    else (if is_name_behind 63 text then Variable
    else (if is_name_behind 58 text then Keyword
    else (if is_number text then Number
    else (if is_sign text then Sign
    else Plain))))))

-- ---- tokens

-- the bytes of a span, folded to lower case
abbrev pub text_of : List ℕ → Span → List ℕ
text_of source span = map to_ascii_lowercase (slice_range source span.start span.end)

pub record IsBracketAt (bytes : List ℕ) (span : Span) : Type 0 where
  pub bracket : is_bracket (slice_index bytes span.start) ≡ true
  pub one : span.end ≡ span.start + 1

-- 1 to 255 bytes of a word, up to a byte that is none
pub record IsWordAt (bytes : List ℕ) (span : Span) : Type 0 where
  pub begins : span.start < span.end
  pub short : span.end ≤ span.start + 255
  pub inside : (i : ℕ) → span.start ≤ i → i < span.end → is_word (slice_index bytes i) ≡ true
  pub maximal : is_word (slice_index bytes span.end) ≡ false

pub record IsTokenAt (source : List ℕ) (token : Token) : Type 0 where
  pub place : IsBracketAt (without_comments source) token.span ⊎ IsWordAt (without_comments source) token.span
  pub kind : token.kind ≡ kind_of (text_of source token.span)

abbrev pub AreBlank : List ℕ → ℕ → ℕ → Type 0
AreBlank bytes from to = (i : ℕ) → from ≤ i → i < to → is_blank (slice_index bytes i) ≡ true

-- the tokens from a place on: only blanks stand between them, before the first and behind the last
abbrev pub AreTokensFrom : List ℕ → ℕ → List Token → Type 0
AreTokensFrom source at [] = AreBlank (without_comments source) at (length source)
AreTokensFrom source at (t ∷ ts) =
    (at ≤ t.span.start) × AreBlank (without_comments source) at t.span.start × IsTokenAt source t × AreTokensFrom source t.span.end ts

-- these are the tokens of the file
abbrev pub IsTokens : List ℕ → List Token → Type 0
IsTokens source tokens = AreTokensFrom source 0 tokens

-- ---- faults

-- a byte outside comments that is no blank, bracket or byte of a word
pub record BadByteAt (source : List ℕ) (at : ℕ) : Type 0 where
  pub within : at < length source
  pub bad : is_bad (slice_index (without_comments source) at) ≡ true

-- a word begins here that has more than 255 bytes
pub record TooLongAt (source : List ℕ) (at : ℕ) : Type 0 where
  pub begins : (k : ℕ) → k + 1 ≡ at → is_word (slice_index (without_comments source) k) ≡ false
  pub long : (i : ℕ) → i ≤ 255 → is_word (slice_index (without_comments source) (at + i)) ≡ true

-- no fault stands before the place
abbrev pub IsCleanBelow : List ℕ → ℕ → Type 0
IsCleanBelow source at = (k : ℕ) → k < at → ¬ BadByteAt source k × ¬ TooLongAt source k
