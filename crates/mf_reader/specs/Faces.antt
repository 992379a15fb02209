-- The outside of a tree, and the words that it can be.
use Rattle.std.specs.Prelude.{ℕ, Bool, true, false, List, [], codes}
use Rattle.std.specs.Str.{bytes_eq}
use Rattle.mf_model.specs.declared.token.Kind.{Kind}
use Rattle.mf_model.specs.declared.token.Kind.TheVariants.{Name, Variable}
use Rattle.mf_model.specs.declared.token.Span.{Span}
use Rattle.mf_model.specs.declared.form.Word.{Word}
use Rattle.mf_reader.specs.Said.{Said, said, bad}

-- a word, or a list with what stands in it left aside
pub data Face : Type 0 where
  Leaf : Kind → List ℕ → Span → Face
  Branch : Span → Face

abbrev pub span_of : Face → Span
span_of (Leaf kind text span) = span
span_of (Branch span) = span

abbrev pub has_text : List ℕ → Face → Bool
has_text text (Leaf kind own span) = bytes_eq own text
has_text text (Branch span) = false

abbrev pub is_dash : Face → Bool
is_dash face = has_text (codes "-") face

abbrev pub word : List ℕ → Span → Word
word text span = record { text = text; span = span }

-- what stands for a word where there is none
abbrev pub no_word : Span → Said Word
no_word span = bad span (word [] span)

-- a name; any other word, and a list, is of no form there
abbrev pub name_at : Face → Said Word
name_at (Leaf Name text span) = said (word text span)
name_at (Leaf kind text span) = no_word span
name_at (Branch span) = no_word span

abbrev pub variable_at : Face → Said Word
variable_at (Leaf Variable text span) = said (word text span)
variable_at (Leaf kind text span) = no_word span
variable_at (Branch span) = no_word span

-- a term is a name or a variable
abbrev pub is_term_kind : Kind → Bool
is_term_kind Name = true
is_term_kind Variable = true
is_term_kind kind = false

abbrev pub is_term : Face → Bool
is_term (Leaf kind text span) = is_term_kind kind
is_term (Branch span) = false

abbrev pub term_at : Face → Said Word
term_at (Leaf Name text span) = said (word text span)
term_at (Leaf Variable text span) = said (word text span)
term_at (Leaf kind text span) = no_word span
term_at (Branch span) = no_word span
