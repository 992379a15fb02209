-- A byte is of one class.
use Rattle.std.proofs.Common.{◌≡◌, ℕ, true, false, arith}
use Rattle.std.proofs.lemmas.Bool.Decides.{nat_tests}
use Rattle.mf_model.specs.Tokens.{is_blank, is_bracket, is_word, is_bad, in_comment}

pub blank_not_word : (b : ℕ) → is_blank b ≡ true → is_word b ≡ false
unfolding is_blank is_word is_bracket
blank_not_word b h = grind (arith, nat_tests)

pub bracket_not_word : (b : ℕ) → is_bracket b ≡ true → is_word b ≡ false
unfolding is_word is_bracket
bracket_not_word b h = grind (arith, nat_tests)

pub bracket_not_blank : (b : ℕ) → is_bracket b ≡ true → is_blank b ≡ false
unfolding is_blank is_bracket
bracket_not_blank b h = grind (arith, nat_tests)

pub word_not_blank : (b : ℕ) → is_word b ≡ true → is_blank b ≡ false
unfolding is_blank is_word is_bracket
word_not_blank b h = grind (arith, nat_tests)

pub blank_not_bad : (b : ℕ) → is_blank b ≡ true → is_bad b ≡ false
unfolding is_blank is_bad
blank_not_bad b h = grind (arith, nat_tests)

pub bracket_not_bad : (b : ℕ) → is_bracket b ≡ true → is_bad b ≡ false
unfolding is_bad is_bracket is_blank
bracket_not_bad b h = grind (arith, nat_tests)

pub word_not_bad : (b : ℕ) → is_word b ≡ true → is_bad b ≡ false
unfolding is_bad is_word is_bracket is_blank
word_not_bad b h = grind (arith, nat_tests)

-- none of these begins a comment

pub blank_plain : (b : ℕ) → is_blank b ≡ true → in_comment false b ≡ false
unfolding is_blank in_comment
blank_plain b h = grind (arith, nat_tests)

pub bracket_plain : (b : ℕ) → is_bracket b ≡ true → in_comment false b ≡ false
unfolding is_bracket in_comment
bracket_plain b h = grind (arith, nat_tests)

pub word_plain : (b : ℕ) → is_word b ≡ true → in_comment false b ≡ false
unfolding is_word in_comment
word_plain b h = grind (arith, nat_tests)

pub bad_plain : (b : ℕ) → is_bad b ≡ true → in_comment false b ≡ false
unfolding is_bad in_comment is_blank
bad_plain b h = grind (arith, nat_tests)

-- a comment, from its first byte up to the byte 10

pub comment_begins : (b : ℕ) → b ≡ 59 → in_comment false b ≡ true
unfolding in_comment
comment_begins b h = grind (arith, nat_tests)

pub comment_goes_on : (b : ℕ) → (b ≡ 10 → ⊥) → in_comment true b ≡ true
unfolding in_comment
comment_goes_on b h = grind (arith, nat_tests)

pub comment_ends : (b : ℕ) → b ≡ 10 → in_comment true b ≡ false
unfolding in_comment
comment_ends b h = grind (arith, nat_tests)

pub line_feed_plain : (b : ℕ) → b ≡ 10 → in_comment false b ≡ false
unfolding in_comment
line_feed_plain b h = grind (arith, nat_tests)

-- the space in place of a byte of a comment, and the 0 past the end

pub space_blank : (b : ℕ) → b ≡ 32 → is_blank b ≡ true
unfolding is_blank
space_blank b h = grind (arith, nat_tests)

pub end_not_word : (b : ℕ) → b ≡ 0 → is_word b ≡ false
unfolding is_word is_bracket
end_not_word b h = grind (arith, nat_tests)

pub end_not_bracket : (b : ℕ) → b ≡ 0 → is_bracket b ≡ false
unfolding is_bracket
end_not_bracket b h = grind (arith, nat_tests)

pub space_not_word : is_word 32 ≡ false
unfolding is_word is_bracket
space_not_word = grind (arith, nat_tests)
