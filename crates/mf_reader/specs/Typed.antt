-- Typed lists: groups of items, each with a `-` and a type behind it, and at last items without a type.
use Rattle.std.specs.Prelude.{Bool, false, if◌then◌else◌, List, [], ◌∷◌, ◌++◌, codes}
use Rattle.mf_model.specs.declared.token.Span.{Span}
use Rattle.mf_model.specs.declared.form.Word.{Word}
use Rattle.mf_model.specs.declared.form.Typed.{Typed}
use Rattle.mf_model.specs.TypedLists.{typed_as}
use Rattle.mf_reader.specs.declared.typed.Listed.{Listed}
use Rattle.mf_reader.specs.declared.typed.Listed.TheVariants.{Variables, Names, Types}
use Rattle.mf_reader.specs.Faces.{has_text, is_dash, name_at, no_word, span_of, variable_at, word}
use Rattle.mf_reader.specs.Places.{Seen}
use Rattle.mf_reader.specs.Said.{Said, said, bad, left_out, both, mapped, each}

-- Types

abbrev pub alone : Word → List Word
alone w = w ∷ []

-- (either name+)
abbrev pub either_types : Span → List Seen → Said (List Word)
either_types span [] = bad span []
either_types span (s ∷ ss) = each (λ s. name_at s.face) (s ∷ ss)

abbrev pub list_types : Span → List Seen → Said (List Word)
list_types span [] = bad span []
list_types span (head ∷ parts) = if has_text (codes "either") head.face then either_types span parts else bad span []

-- in `:types`, where a choice between types is left out
abbrev pub is_choice : List Seen → Bool
is_choice [] = false
is_choice (head ∷ parts) = has_text (codes "either") head.face

abbrev pub list_parent : Span → List Seen → Said Word
list_parent span items = if is_choice items then left_out span (word [] span) else no_word span

-- Items

abbrev pub item_in : Listed → Seen → Said Word
item_in Variables s = variable_at s.face
item_in Names s = name_at s.face
item_in Types s = s.parent

abbrev pub types_in : Listed → Seen → Said (List Word)
types_in Variables s = s.types
types_in Names s = s.types
types_in Types s = mapped alone s.parent

-- Lists

-- a group with its type, and the groups behind it; a `-` without an item before it ends the list
abbrev pub grouped : Listed → List Word → Span → Seen → Said (List Typed) → Said (List Typed)
grouped listed [] span s rest = bad span []
grouped listed (w ∷ ws) span s rest = both (λ types items. typed_as types (w ∷ ws) ++ items) (types_in listed s) rest

-- a group that has these words so far, and what follows; a `-` with nothing behind it ends the list too
abbrev mutual
  pub group_from : Listed → List Word → List Seen → Said (List Typed)
  group_from listed words [] = said (typed_as [] words)
  group_from listed words (s ∷ ss) =
      if is_dash s.face then dash_from listed words (span_of s.face) ss
      else both (λ w rest. rest) (item_in listed s) (group_from listed (words ++ (item_in listed s).value ∷ []) ss)

  pub dash_from : Listed → List Word → Span → List Seen → Said (List Typed)
  dash_from listed words span [] = bad span []
  dash_from listed words span (s ∷ ss) = grouped listed words span s (group_from listed [] ss)

abbrev pub typed_list : Listed → List Seen → Said (List Typed)
typed_list listed ss = group_from listed [] ss

-- parameters and quantified variables
abbrev pub typed_variables : List Seen → Said (List Typed)
typed_variables ss = typed_list Variables ss

-- constants and objects
abbrev pub typed_names : List Seen → Said (List Typed)
typed_names ss = typed_list Names ss

-- types under their parents
abbrev pub typed_types : List Seen → Said (List Typed)
typed_types ss = typed_list Types ss
