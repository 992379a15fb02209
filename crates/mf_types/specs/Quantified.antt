-- Faults in the list of a quantifier's variables.
use Rattle.std.specs.Prelude.{ℕ, List, [], ◌++◌, length}
use Rattle.std.specs.List.{flat_map}
use Rattle.mf_model.specs.Resolution.{number_of}
use Rattle.mf_model.specs.declared.form.Typed.{Typed}
use Rattle.mf_model.specs.declared.form.Word.{Word}
use Rattle.mf_types.specs.declared.least.Fault.{Fault}
use Rattle.mf_types.specs.Declarations.{beyond_behind, item_words, repeats}
use Rattle.mf_types.specs.Scopes.{Scope, variables_of}
use Rattle.mf_types.specs.Arguments.{unknown}
use Rattle.mf_types.specs.Sites.{Site}

-- the most variables in scope: parameters, and variables of quantifiers, hidden ones too
abbrev pub variable_limit : ℕ
variable_limit = 64

abbrev pub type_word_faults : Site → Word → List Fault
type_word_faults site w = unknown site w (number_of site.declared.types w.text)

abbrev pub item_faults : Site → Typed → List Fault
item_faults site item = flat_map (type_word_faults site) item.types

-- in the list of a quantifier's variables, where `n` are in scope before
abbrev pub variable_faults : Site → ℕ → List Typed → List Fault
variable_faults site n items =
    (repeats site.file [] (item_words items) ++ beyond_behind site.file variable_limit n (item_words items)) ++ flat_map (item_faults site) items

-- the scope inside a quantifier
abbrev pub inside : Site → Scope → List Typed → Scope
inside site scope items = scope ++ variables_of site.declared.types items

-- a quantifier with the faults of its part
abbrev pub quantified : Site → List Typed → (Scope → List Fault) → Scope → List Fault
quantified site items part scope = variable_faults site (length scope) items ++ part (inside site scope items)
