-- What a byte outside comments may be.
use Rattle.std.specs.Prelude.{◌≡◌, ℕ, true}
use Rattle.mf_model.specs.Tokens.{is_blank, is_bracket, is_word, is_bad}
use Rattle.mf_lex.specs.declared.bytes.Class.{Class}
use Rattle.mf_lex.specs.declared.bytes.Class.TheVariants.{Blank, Comment, Bracket, Word, Bad}

abbrev pub IsOfClass : Class → ℕ → Type 0
IsOfClass Blank b = is_blank b ≡ true
IsOfClass Comment b = b ≡ 59
IsOfClass Bracket b = is_bracket b ≡ true
IsOfClass Word b = is_word b ≡ true
IsOfClass Bad b = is_bad b ≡ true
