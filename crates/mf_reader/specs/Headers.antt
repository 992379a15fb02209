-- Declarations of predicates and functions: a name and its typed parameters.
use Rattle.std.specs.Prelude.{Option, Some, None, List, [], ◌∷◌, map}
use Rattle.mf_model.specs.declared.token.Span.{Span}
use Rattle.mf_model.specs.declared.tree.Tree.{Tree}
use Rattle.mf_model.specs.declared.tree.Tree.TheViews.{out-Tree}
use Rattle.mf_model.specs.declared.tree.Tree.TheOpen.{Tree-F}
use Rattle.mf_model.specs.declared.form.Word.{Word}
use Rattle.mf_model.specs.declared.form.Typed.{Typed}
use Rattle.mf_model.specs.declared.form.Header.{Header}
use Rattle.mf_reader.specs.Faces.{word}
use Rattle.mf_reader.specs.Heads.{function_of, predicate_of}
use Rattle.mf_reader.specs.Said.{Said, bad, mapped, each}
use Rattle.mf_reader.specs.Seen.{seen}
use Rattle.mf_reader.specs.Typed.{typed_variables}

abbrev pub made_header : Word → List Typed → Header
made_header w parameters = record { word = w; parameters = parameters }

-- what stands for a header where there is none
abbrev pub empty_header : Span → Header
empty_header span = made_header (word [] span) []

abbrev pub header_by : Option Word → Span → List Tree → Said Header
header_by (Some name) span parts = mapped (made_header name) (typed_variables (map seen parts))
header_by None span parts = bad span (empty_header span)

abbrev pub predicate_layer : Tree-F Tree → Said Header
predicate_layer (Tree-F.Branch (head ∷ parts) span) = header_by (predicate_of (seen head).face) span parts
predicate_layer (Tree-F.Branch [] span) = bad span (empty_header span)
predicate_layer (Tree-F.Leaf kind text span) = bad span (empty_header span)

-- (predicate typed)
abbrev pub predicate_header : Tree → Said Header
predicate_header t = predicate_layer (out-Tree t)

abbrev pub predicate_headers : List Tree → Said (List Header)
predicate_headers ts = each predicate_header ts

abbrev pub function_layer : Tree-F Tree → Said Header
function_layer (Tree-F.Branch (head ∷ parts) span) = header_by (function_of (seen head).face) span parts
function_layer (Tree-F.Branch [] span) = bad span (empty_header span)
function_layer (Tree-F.Leaf kind text span) = bad span (empty_header span)

-- (function typed)
abbrev pub function_header : Tree → Said Header
function_header t = function_layer (out-Tree t)
