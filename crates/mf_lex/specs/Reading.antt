-- What is known while the tokens of a file are read, and what each step says.
use Rattle.std.specs.Prelude.{◌≡◌, ℕ, ◌+◌, ◌<◌, ◌≤◌, true, false, List, ◌++◌, length, drop, slice_index, Result, Ok, Err}
use Rattle.mf_model.specs.declared.token.Token.{Token}
use Rattle.mf_model.specs.Tokens.{is_word, without_comments, IsTokenAt, AreBlank, AreTokensFrom, IsTokens, BadByteAt, TooLongAt, IsCleanBelow}
use Rattle.mf_lex.specs.declared.lexer.Piece.{Piece}
use Rattle.mf_lex.specs.declared.lexer.Piece.TheVariants.{Gap, Next}
use Rattle.mf_lex.specs.declared.fault.LexFault.{LexFault}
use Rattle.mf_lex.specs.declared.fault.LexFault.TheVariants.{BadByte, TooLong, Memory}

-- no comment is open in front of the place
abbrev pub IsUncommented : List ℕ → ℕ → Type 0
IsUncommented source at = drop at (without_comments source) ≡ without_comments (drop at source)

-- these are the tokens up to the place, and no word goes on there
pub record Reading (source : List ℕ) (at : ℕ) (list : List Token) : Type 0 where
  pub within : at ≤ length source
  pub extends : (ts : List Token) → AreTokensFrom source at ts → IsTokens source (list ++ ts)
  pub clean : IsCleanBelow source at
  pub uncommented : IsUncommented source at
  pub edge : (k : ℕ) → k + 1 ≡ at → is_word (slice_index (without_comments source) k) ≡ true → is_word (slice_index (without_comments source) at) ≡ false

-- blanks and comments up to the end
pub record IsGap (source : List ℕ) (at : ℕ) (end : ℕ) : Type 0 where
  pub begins : at < end
  pub within : end ≤ length source
  pub blank : AreBlank (without_comments source) at end
  pub uncommented : IsUncommented source end

-- a token from the place on
pub record IsNext (source : List ℕ) (at : ℕ) (token : Token) : Type 0 where
  pub start : token.span.start ≡ at
  pub begins : at < token.span.end
  pub within : token.span.end ≤ length source
  pub placed : IsTokenAt source token
  pub uncommented : IsUncommented source token.span.end

-- what stands at a place where no comment is open
abbrev pub Finds : List ℕ → ℕ → Result Piece LexFault → Type 0
Finds source at (Ok (Gap end)) = IsGap source at end
Finds source at (Ok (Next token)) = IsNext source at token
Finds source at (Err (BadByte place)) = (place ≡ at) × BadByteAt source at
Finds source at (Err (TooLong place)) =
    (place ≡ at) × ((i : ℕ) → i ≤ 255 → is_word (slice_index (without_comments source) (at + i)) ≡ true)
Finds source at (Err Memory) = ⊥

-- the least place of a fault
abbrev pub IsLexFault : List ℕ → LexFault → Type 0
IsLexFault source (BadByte at) = BadByteAt source at × IsCleanBelow source at
IsLexFault source (TooLong at) = TooLongAt source at × IsCleanBelow source at
IsLexFault source Memory = Unit {0}

-- one step leads on, or stops at the least fault
abbrev pub Steps : List ℕ → ℕ → List Token → Result ℕ LexFault → Type 0
Steps source at list (Ok end) = (at < end) × Reading source end list
Steps source at list (Err fault) = IsLexFault source fault

-- a file with a fault has no tokens
abbrev pub NoTokens : List ℕ → LexFault → Type 0
NoTokens source (BadByte at) = (tokens : List Token) → ¬ IsTokens source tokens
NoTokens source (TooLong at) = (tokens : List Token) → ¬ IsTokens source tokens
NoTokens source Memory = Unit {0}
