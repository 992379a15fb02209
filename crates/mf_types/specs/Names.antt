-- What a domain and a problem declare: names in the order of their numbers, each with what its first
-- declaration says of it.
use Rattle.std.specs.Prelude.{ℕ, Bool, true, false, if◌then◌else◌, ◌&&◌, nat_eq, Option, Some, None, List, [], ◌∷◌, ◌++◌, map, codes}
use Rattle.std.specs.List.{list_any, flat_map}
use Rattle.std.specs.Str.{bytes_eq}
use Rattle.mf_model.specs.declared.form.Word.{Word}
use Rattle.mf_model.specs.declared.form.Typed.{Typed}
use Rattle.mf_model.specs.declared.form.Header.{Header}
use Rattle.mf_model.specs.declared.form.RawEffect.{RawEffect, fold-RawEffect}
use Rattle.mf_model.specs.declared.form.RawEffect.TheOpen.{RawEffect-F}
use Rattle.mf_model.specs.declared.form.RawAction.{RawAction}
use Rattle.mf_model.specs.declared.form.Domain.{Domain}
use Rattle.mf_model.specs.declared.form.Problem.{Problem}
use Rattle.mf_model.specs.Resolution.{number_of}

pub record Declared : Type 0 where
  -- `object` first, then each type in the order in which it first stands, as item or as parent
  pub types : List (List ℕ)
  -- for each type the number of its parent
  pub parents : List ℕ
  -- constants first
  pub objects : List (List ℕ)
  pub object_types : List (List ℕ)
  pub predicates : List (List ℕ)
  -- for each predicate the types of each of its parameters
  pub predicate_types : List (List (List ℕ))
  pub functions : List (List ℕ)
  pub function_types : List (List (List ℕ))
  -- the functions that an effect of some action changes, each once
  pub changed : List (List ℕ)

abbrev pub is_member : List (List ℕ) → List ℕ → Bool
is_member names name = list_any (λ own. bytes_eq own name) names

-- the items without those whose name is among these or stood before
abbrev pub firsts : {A : Type 0} → (A → List ℕ) → List (List ℕ) → List A → List A
firsts name seen [] = []
firsts name seen (item ∷ items) = if is_member seen (name item) then firsts name seen items else item ∷ firsts name (seen ++ name item ∷ []) items

abbrev pub text_of : Word → List ℕ
text_of w = w.text

abbrev pub item_text : Typed → List ℕ
item_text item = item.word.text

abbrev pub header_text : Header → List ℕ
header_text h = h.word.text

-- Types

abbrev pub object_name : List ℕ
object_name = codes "object"

-- the spans tell whether two items stand in one group, and so share the parents written behind it
abbrev pub same_words : List Word → List Word → Bool
same_words [] [] = true
same_words (v ∷ vs) (w ∷ ws) = nat_eq v.span.start w.span.start
same_words _ _ = false

abbrev pub shares : List Word → List Typed → Bool
shares words [] = false
shares words (item ∷ items) = same_words words item.types

-- the parent of a group stands behind its last item
abbrev pub parents_behind : Typed → List Typed → List Word
parents_behind item others = if shares item.types others then [] else item.types

-- the words of `:types` in the order of the text: the items of a group, then its parent
abbrev pub type_words : List Typed → List Word
type_words [] = []
type_words (item ∷ items) = item.word ∷ parents_behind item items ++ type_words items

-- each type once, without `object`
abbrev pub type_firsts : List Typed → List Word
type_firsts items = firsts text_of (object_name ∷ []) (type_words items)

abbrev pub type_names : List Typed → List (List ℕ)
type_names items = object_name ∷ map text_of (type_firsts items)

-- the numbers of the names that are declared
abbrev pub numbers_by : Option ℕ → List ℕ → List ℕ
numbers_by (Some n) ns = n ∷ ns
numbers_by None ns = ns

abbrev pub numbers_of : List (List ℕ) → List Word → List ℕ
numbers_of names [] = []
numbers_of names (w ∷ ws) = numbers_by (number_of names w.text) (numbers_of names ws)

-- no types written stands for the type `object`
abbrev pub types_of : List (List ℕ) → List Word → List ℕ
types_of names [] = 0 ∷ []
types_of names (w ∷ ws) = numbers_of names (w ∷ ws)

abbrev pub item_types : List (List ℕ) → Typed → List ℕ
item_types names item = types_of names item.types

abbrev pub head_or_zero : List ℕ → ℕ
head_or_zero [] = 0
head_or_zero (n ∷ ns) = n

abbrev pub names_object : List Word → Bool
names_object [] = true
names_object (w ∷ ws) = bytes_eq w.text object_name

-- an item `object` under `object` says nothing
abbrev pub says_nothing : Typed → Bool
says_nothing item = bytes_eq item.word.text object_name && names_object item.types

abbrev pub kept_types : List Typed → List Typed
kept_types [] = []
kept_types (item ∷ items) = if says_nothing item then kept_types items else item ∷ kept_types items

-- the first item of a name says its parent; a type that only stands as a parent stands under `object`
abbrev pub parent_in : List (List ℕ) → List Typed → List ℕ → ℕ
parent_in names [] name = 0
parent_in names (item ∷ items) name = if bytes_eq item.word.text name then head_or_zero (types_of names item.types) else parent_in names items name

abbrev pub parents_of : List Typed → List ℕ
parents_of items = map (parent_in (type_names items) (kept_types items)) (type_names items)

-- Symbols

abbrev pub header_types : List (List ℕ) → Header → List (List ℕ)
header_types names h = map (item_types names) h.parameters

-- Functions that change

abbrev pub changed_step : RawEffect-F (List (List ℕ)) → List (List ℕ)
changed_step (RawEffect-F.Change op function terms value span) = function.text ∷ []
changed_step (RawEffect-F.Group parts span) = flat_map (λ names. names) parts
changed_step (RawEffect-F.Each variables part span) = part
changed_step (RawEffect-F.When condition part span) = part
changed_step _ = []

-- the names of the functions that an effect changes
abbrev pub changed_by : RawEffect → List (List ℕ)
changed_by = fold-RawEffect (List (List ℕ)) changed_step

abbrev pub changed_in : List RawAction → List (List ℕ)
changed_in actions = flat_map (λ a. changed_by a.effect) actions

abbrev pub declared_by : Domain → Problem → Declared
declared_by d p = record {
  types = type_names d.types;
  parents = parents_of d.types;
  objects = map item_text (firsts item_text [] (d.constants ++ p.objects));
  object_types = map (item_types (type_names d.types)) (firsts item_text [] (d.constants ++ p.objects));
  predicates = map header_text (firsts header_text [] d.predicates);
  predicate_types = map (header_types (type_names d.types)) (firsts header_text [] d.predicates);
  functions = map header_text (firsts header_text [] d.functions);
  function_types = map (header_types (type_names d.types)) (firsts header_text [] d.functions);
  changed = firsts (λ name. name) [] (changed_in d.actions);
}
