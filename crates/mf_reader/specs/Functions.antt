-- The functions of a domain: groups of headers, each with `- number` behind it, and at last headers without a
-- type. Functions into other types than numbers are left out.
use Rattle.std.specs.Prelude.{Bool, true, false, not, if◌then◌else◌, List, [], ◌∷◌, codes}
use Rattle.mf_model.specs.declared.token.Span.{Span}
use Rattle.mf_model.specs.declared.tree.Tree.{Tree}
use Rattle.mf_model.specs.declared.form.Header.{Header}
use Rattle.mf_reader.specs.declared.fault.FormFault.{FormFault}
use Rattle.mf_reader.specs.Faces.{has_text, is_dash, span_of}
use Rattle.mf_reader.specs.Headers.{empty_header, function_header}
use Rattle.mf_reader.specs.Said.{Said, said, bad, left_out, both}
use Rattle.mf_reader.specs.Seen.{seen}

-- a type, and not the word `number`
abbrev pub other_by : List FormFault → Bool → Bool
other_by [] is_number = not is_number
other_by (fault ∷ faults) is_number = false

abbrev pub is_other_type : Tree → Bool
is_other_type t = other_by (seen t).types.faults (has_text (codes "number") (seen t).face)

abbrev pub begins_with_other_type : List Tree → Bool
begins_with_other_type [] = false
begins_with_other_type (t ∷ ts) = is_other_type t

-- the group that begins here has another type behind its `-`
abbrev pub is_of_other_type : List Tree → Bool
is_of_other_type [] = false
is_of_other_type (t ∷ ts) = if is_dash (seen t).face then begins_with_other_type ts else is_of_other_type ts

-- a header, with what follows it; the first of a group of another type is left out
abbrev pub function_item : Bool → Tree → List Tree → Said Header
function_item true t ts = function_header t
function_item false t ts = if is_of_other_type ts then left_out (span_of (seen t).face) (empty_header (span_of (seen t).face)) else function_header t

-- the type of a group, and the groups behind it; a `-` without a header before it ends the list
abbrev pub grouped : Bool → Span → Tree → Said (List Header) → Said (List Header)
grouped false span t rest = bad span []
grouped true span t rest = both (λ types headers. headers) (seen t).types rest

-- the functions, where a group has begun or not; a `-` with nothing behind it ends the list too
abbrev mutual
  pub functions_from : Bool → List Tree → Said (List Header)
  functions_from begun [] = said []
  functions_from begun (t ∷ ts) =
      if is_dash (seen t).face then dash_from begun (span_of (seen t).face) ts
      else both (λ header headers. header ∷ headers) (function_item begun t ts) (functions_from true ts)

  pub dash_from : Bool → Span → List Tree → Said (List Header)
  dash_from begun span [] = bad span []
  dash_from begun span (t ∷ ts) = grouped begun span t (functions_from false ts)

abbrev pub functions_of : List Tree → Said (List Header)
functions_of ts = functions_from false ts
