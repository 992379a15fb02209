-- Faults of lists of declarations: names that stand twice, and the first item beyond a limit.
use Rattle.std.specs.Prelude.{ℕ, ◌-◌, if◌then◌else◌, nat_le, Option, Some, None, List, [], ◌∷◌, ◌++◌, map, length, slice_get}
use Rattle.mf_model.specs.declared.form.FileKind.{FileKind}
use Rattle.mf_model.specs.declared.form.FileKind.TheVariants.{DomainFile, ProblemFile}
use Rattle.mf_model.specs.declared.form.Header.{Header}
use Rattle.mf_model.specs.declared.form.RawAction.{RawAction}
use Rattle.mf_model.specs.declared.form.Typed.{Typed}
use Rattle.mf_model.specs.declared.form.Word.{Word}
use Rattle.mf_types.specs.declared.least.Fault.{Fault}
use Rattle.mf_types.specs.declared.least.FaultKind.TheVariants.{Twice, TooMany}
use Rattle.mf_types.specs.Faults.{at_word}
use Rattle.mf_types.specs.Names.{is_member, text_of}
use Rattle.mf_types.specs.Tables.{entered, with_name}

-- The names of declarations

abbrev pub item_words : List Typed → List Word
item_words = map (λ (item : Typed). item.word)

abbrev pub header_words : List Header → List Word
header_words = map (λ (h : Header). h.word)

abbrev pub action_words : List RawAction → List Word
action_words = map (λ (a : RawAction). a.word)

-- Twice

abbrev pub repeated_at : FileKind → List (List ℕ) → Word → List Fault
repeated_at file names w = if is_member names w.text then at_word Twice file w else []

-- the words of which the name stood before, among these names or further in front
abbrev pub repeats : FileKind → List (List ℕ) → List Word → List Fault
repeats file names [] = []
repeats file names (w ∷ ws) = repeated_at file names w ++ repeats file (with_name names w.text) ws

-- Too many

abbrev pub too_many_at : FileKind → Option Word → List Fault
too_many_at file (Some w) = at_word TooMany file w
too_many_at file None = []

-- the first word beyond a limit
abbrev pub beyond : FileKind → ℕ → List Word → List Fault
beyond file limit words = too_many_at file (slice_get words limit)

-- the first word beyond the limit behind so many others, where these keep to it
abbrev pub beyond_behind : FileKind → ℕ → ℕ → List Word → List Fault
beyond_behind file limit front words = if nat_le front limit then beyond file (limit - front) words else []

-- one list with a space of names of its own
abbrev pub list_faults : FileKind → ℕ → List Word → List Fault
list_faults file limit words = repeats file [] words ++ beyond file limit words

abbrev pub most_objects : ℕ
most_objects = 65535

abbrev pub most_symbols : ℕ
most_symbols = 10000

abbrev pub most_actions : ℕ
most_actions = 1000

abbrev pub most_parameters : ℕ
most_parameters = 32

-- constants and objects have one space of names, and one limit
abbrev pub object_list_faults : List Word → List Word → List Fault
object_list_faults constants objects =
    list_faults DomainFile most_objects constants
    ++ repeats ProblemFile (entered [] (map text_of constants)) objects
    ++ beyond_behind ProblemFile most_objects (length constants) objects
