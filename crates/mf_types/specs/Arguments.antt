-- Faults where a predicate or a function is used: its name, the number of its arguments, and each argument.
use Rattle.std.specs.Prelude.{ℕ, Bool, false, if◌then◌else◌, ◌==◌, nat_eq, Option, Some, None, List, [], ◌∷◌, ◌++◌, length, slice_index_or}
use Rattle.std.specs.List.{flat_map}
use Rattle.mf_model.specs.Resolution.{number_of}
use Rattle.mf_model.specs.declared.form.Word.{Word}
use Rattle.mf_types.specs.declared.least.Fault.{Fault}
use Rattle.mf_types.specs.declared.least.FaultKind.TheVariants.{UnknownName, WrongCount, WrongType}
use Rattle.mf_types.specs.Faults.{at_word}
use Rattle.mf_types.specs.Names.{Declared}
use Rattle.mf_types.specs.Related.{are_related}
use Rattle.mf_types.specs.Scopes.{Scope, Placed, find_in}
use Rattle.mf_types.specs.Sites.{Site, unless}

-- What names stand for

-- what stands in a table at a number
abbrev pub entry : {A : Type 0} → List (List A) → Option ℕ → Option (List A)
entry table (Some number) = Some (slice_index_or table number [])
entry table None = None

-- the word of a variable begins with `?`
abbrev pub is_variable : List ℕ → Bool
is_variable [] = false
is_variable (b ∷ bs) = b == 63

abbrev pub types_at : Option Placed → Option (List ℕ)
types_at (Some placed) = Some placed.variable.types
types_at None = None

abbrev pub object_types : Declared → List ℕ → Option (List ℕ)
object_types declared name = entry declared.object_types (number_of declared.objects name)

-- the types of a term: those of the innermost variable of its name, or those of the object
abbrev pub term_types : Declared → Scope → List ℕ → Option (List ℕ)
term_types declared scope name = if is_variable name then types_at (find_in scope name) else object_types declared name

-- for each parameter its types
abbrev pub predicate_parameters : Declared → List ℕ → Option (List (List ℕ))
predicate_parameters declared name = entry declared.predicate_types (number_of declared.predicates name)

abbrev pub function_parameters : Declared → List ℕ → Option (List (List ℕ))
function_parameters declared name = entry declared.function_types (number_of declared.functions name)

-- Terms

abbrev pub unknown : {A : Type 0} → Site → Word → Option A → List Fault
unknown site w (Some thing) = []
unknown site w None = at_word UnknownName site.file w

abbrev pub term_faults : Site → Scope → Word → List Fault
term_faults site scope w = unknown site w (term_types site.declared scope w.text)

-- what isn't declared has no types to compare
abbrev pub type_faults : Site → List ℕ → Word → Option (List ℕ) → List Fault
type_faults site wanted w (Some own) = unless (are_related site.declared.parents own wanted) (at_word WrongType site.file w)
type_faults site wanted w None = []

-- each argument with the types of its parameter; where one is missing, nothing is compared
abbrev pub argument_faults : Site → Scope → List Word → List (List ℕ) → List Fault
argument_faults site scope [] parameters = []
argument_faults site scope (w ∷ ws) [] = []
argument_faults site scope (w ∷ ws) (wanted ∷ others) = type_faults site wanted w (term_types site.declared scope w.text) ++ argument_faults site scope ws others

-- Predicates and functions with their arguments

abbrev pub count_faults : Site → Word → List Word → List (List ℕ) → List Fault
count_faults site name terms parameters = unless (nat_eq (length parameters) (length terms)) (at_word WrongCount site.file name)

abbrev pub symbol_faults : Site → Scope → Word → List Word → Option (List (List ℕ)) → List Fault
symbol_faults site scope name terms (Some parameters) = count_faults site name terms parameters ++ argument_faults site scope terms parameters
symbol_faults site scope name terms None = at_word UnknownName site.file name

abbrev pub applied_faults : Site → Scope → Word → List Word → Option (List (List ℕ)) → List Fault
applied_faults site scope name terms parameters =
    symbol_faults site scope name terms parameters ++ flat_map (term_faults site scope) terms

abbrev pub atom_faults : Site → Scope → Word → List Word → List Fault
atom_faults site scope predicate terms = applied_faults site scope predicate terms (predicate_parameters site.declared predicate.text)

abbrev pub function_faults : Site → Scope → Word → List Word → List Fault
function_faults site scope function terms = applied_faults site scope function terms (function_parameters site.declared function.text)
