-- Predicates and functions with their terms.
use Rattle.std.specs.Prelude.{Option, Some, None, List, [], ◌∷◌}
use Rattle.mf_model.specs.declared.token.Span.{Span}
use Rattle.mf_model.specs.declared.form.Word.{Word}
use Rattle.mf_reader.specs.declared.atoms.AtomForm.{AtomForm}
use Rattle.mf_reader.specs.declared.atoms.CallForm.{CallForm}
use Rattle.mf_reader.specs.Faces.{term_at, word}
use Rattle.mf_reader.specs.Heads.{function_of, predicate_of}
use Rattle.mf_reader.specs.Places.{Seen}
use Rattle.mf_reader.specs.Said.{Said, bad, mapped, each}

abbrev pub terms_at : List Seen → Said (List Word)
terms_at parts = each (λ s. term_at s.face) parts

abbrev pub made_atom : Span → Word → List Word → AtomForm
made_atom span predicate terms = record { predicate = predicate; terms = terms; span = span }

abbrev pub no_atom : Span → Said AtomForm
no_atom span = bad span (made_atom span (word [] span) [])

abbrev pub atom_by : Option Word → Span → List Seen → Said AtomForm
atom_by (Some predicate) span parts = mapped (made_atom span predicate) (terms_at parts)
atom_by None span parts = no_atom span

-- (predicate term*)
abbrev pub atom_at : Span → List Seen → Said AtomForm
atom_at span [] = no_atom span
atom_at span (head ∷ parts) = atom_by (predicate_of head.face) span parts

abbrev pub made_call : Span → Word → List Word → CallForm
made_call span function terms = record { function = function; terms = terms; span = span }

abbrev pub no_call : Span → Said CallForm
no_call span = bad span (made_call span (word [] span) [])

abbrev pub call_by : Option Word → Span → List Seen → Said CallForm
call_by (Some function) span parts = mapped (made_call span function) (terms_at parts)
call_by None span parts = no_call span

-- (function term*)
abbrev pub call_at : Span → List Seen → Said CallForm
call_at span [] = no_call span
call_at span (head ∷ parts) = call_by (function_of head.face) span parts
