-- What was found at the front of a line.
use Rattle.std.specs.Prelude.{◌≡◌, ℕ, ◌<◌, false, List, [], ◌∷◌, map, length}
use Rattle.mf_model.specs.Tokens.{is_blank}
use Rattle.mf_validator.specs.declared.piece.Next.{Next}
use Rattle.mf_validator.specs.declared.piece.Next.TheVariants as next
use Rattle.mf_validator.specs.declared.line.Form.{Form}
use Rattle.mf_validator.specs.declared.line.Form.TheVariants as form
use Rattle.mf_validator.specs.PlanLines.{Piece, Open, Close, Word, Line, Blank, Bad, is_mark, pieces_of, step_of}

-- the pieces of the text whose front was found
abbrev pub pieces_at : Next → List Piece
pieces_at next.Nothing = []
pieces_at (next.Open rest) = Open ∷ pieces_of rest.now
pieces_at (next.Close rest) = Close ∷ pieces_of rest.now
pieces_at (next.Word word rest) = Word word.now ∷ pieces_of rest.now

abbrev pub line_at : Form → Line
line_at form.Blank = Blank
line_at (form.Step names) = step_of (map (λ name. name.now) names.items)
line_at form.Bad = Bad

-- what stands behind a piece is shorter than the text
abbrev pub IsShorter : Next → List ℕ → Type 0
IsShorter next.Nothing text = Unit {0}
IsShorter (next.Open rest) text = length rest.now < length text
IsShorter (next.Close rest) text = length rest.now < length text
IsShorter (next.Word word rest) text = length rest.now < length text

abbrev pub IsUnblank : List ℕ → Type 0
IsUnblank [] = Unit {0}
IsUnblank (b ∷ bs) = is_blank b ≡ false

-- a word begins the text
abbrev pub IsWordFront : List ℕ → Type 0
IsWordFront [] = ⊥
IsWordFront (b ∷ bs) = is_mark b ≡ false
