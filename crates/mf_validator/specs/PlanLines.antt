-- The lines of a plan file, and what stands in a line. Letters are small ones by then: case is folded before.
use Rattle.std.specs.Prelude.{ℕ, ◌-◌, Bool, true, false, ◌&&◌, ◌||◌, ◌==◌, if◌then◌else◌, List, [], ◌∷◌, ◌++◌, length, take, drop}
use Rattle.std.specs.List.{before_first}
use Rattle.mf_fraction.specs.Decimal.{is_number}
use Rattle.mf_model.specs.Tokens.{is_blank, is_bracket, is_name, is_only}

-- ---- lines

abbrev pub with_byte : ℕ → List (List ℕ) → List (List ℕ)
with_byte b [] = (b ∷ []) ∷ []
with_byte b (line ∷ lines) = (b ∷ line) ∷ lines

abbrev pub is_line_feed : ℕ → Bool
is_line_feed b = b == 10

-- a file is cut at each line feed; an empty piece at its end is no line
abbrev pub lines_of : List ℕ → List (List ℕ)
lines_of [] = []
lines_of (b ∷ bs) = if is_line_feed b then [] ∷ lines_of bs else with_byte b (lines_of bs)

-- a comment begins with `;`
abbrev pub is_semicolon : ℕ → Bool
is_semicolon b = b == 59

abbrev pub without_comment : List ℕ → List ℕ
without_comment line = before_first is_semicolon line

-- ---- the pieces of a line

pub data Piece : Type 0 where
  Open : Piece
  Close : Piece
  Word : List ℕ → Piece

-- a bracket is a piece of its own, a blank is none, and any other byte is one of a word
unfoldable pub is_mark : ℕ → Bool
is_mark b = is_blank b || is_bracket b

abbrev pub marked : ℕ → List Piece
marked b = if b == 40 then Open ∷ [] else (if b == 41 then Close ∷ [] else [])

-- the word that ends, if one has begun
abbrev pub ended : List ℕ → List Piece
ended [] = []
ended (b ∷ bs) = Word (b ∷ bs) ∷ []

-- the pieces, behind the bytes of a word that has begun
abbrev pub pieces_behind : List ℕ → List ℕ → List Piece
pieces_behind word [] = ended word
pieces_behind word (b ∷ bs) = if is_mark b then ended word ++ (marked b ++ pieces_behind [] bs) else pieces_behind (word ++ b ∷ []) bs

abbrev pub pieces_of : List ℕ → List Piece
pieces_of text = pieces_behind [] text

-- ---- what a line is

-- a number with this byte directly behind it
abbrev pub is_number_before : ℕ → List ℕ → Bool
is_number_before mark word = is_number (take (length word - 1) word) && is_only mark (drop (length word - 1) word)

-- as `0.000:`
abbrev pub is_time : List ℕ → Bool
is_time word = is_number_before 58 word

-- as `[1.000]`
abbrev pub is_duration : List ℕ → Bool
is_duration [] = false
is_duration (b ∷ bs) = b == 91 && is_number_before 93 bs

-- blank, or a step with the name of its action and the names of its objects, or neither
pub data Line : Type 0 where
  Blank : Line
  Step : List ℕ → List (List ℕ) → Line
  Bad : Line

abbrev pub are_none : List Piece → Bool
are_none [] = true
are_none (piece ∷ pieces) = false

-- nothing, or a duration
abbrev pub may_end : List Piece → Bool
may_end [] = true
may_end (Word word ∷ pieces) = is_duration word && are_none pieces
may_end (Open ∷ pieces) = false
may_end (Close ∷ pieces) = false

abbrev pub step_of : List (List ℕ) → Line
step_of [] = Bad
step_of (action ∷ objects) = Step action objects

-- behind the open bracket and so many names: names, the closing bracket, and perhaps a duration
abbrev pub names_behind : List (List ℕ) → List Piece → Line
names_behind names [] = Bad
names_behind names (Open ∷ pieces) = Bad
names_behind names (Close ∷ pieces) = if may_end pieces then step_of names else Bad
names_behind names (Word word ∷ pieces) = if is_name word then names_behind (names ++ word ∷ []) pieces else Bad

abbrev pub opened : List Piece → Line
opened (Open ∷ pieces) = names_behind [] pieces
opened [] = Bad
opened (Close ∷ pieces) = Bad
opened (Word word ∷ pieces) = Bad

abbrev pub line_of_pieces : List Piece → Line
line_of_pieces [] = Blank
line_of_pieces (Open ∷ pieces) = names_behind [] pieces
line_of_pieces (Close ∷ pieces) = Bad
line_of_pieces (Word word ∷ pieces) = if is_time word then opened pieces else Bad

-- perhaps a time, then a step, then perhaps a duration
abbrev pub line_of : List ℕ → Line
line_of line = line_of_pieces (pieces_of (without_comment line))
