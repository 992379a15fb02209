-- Types that descend from themselves.
use Rattle.std.specs.Prelude.{ℕ, zero, suc, Bool, if◌then◌else◌, ◌&&◌, not, nat_eq, Option, Some, None, List, [], ◌∷◌, ◌++◌, length, slice_index_or}
use Rattle.mf_model.specs.Objects.{meets, member}
use Rattle.mf_model.specs.Resolution.{number_of}
use Rattle.mf_model.specs.declared.form.FileKind.TheVariants.{DomainFile}
use Rattle.mf_model.specs.declared.form.Typed.{Typed}
use Rattle.mf_model.specs.declared.form.Word.{Word}
use Rattle.mf_types.specs.declared.least.Fault.{Fault}
use Rattle.mf_types.specs.declared.least.FaultKind.TheVariants.{TypeCycle}
use Rattle.mf_types.specs.Faults.{at_word}
use Rattle.mf_types.specs.Names.{Declared, kept_types}

-- `object` stands at the top, unless it has a parent of its own
abbrev pub is_top : List ℕ → ℕ → Bool
is_top parents t = nat_eq t 0 && nat_eq (slice_index_or parents 0 0) 0

-- the types that are met on the way up from a type: at most n of them
abbrev pub above : List ℕ → ℕ → ℕ → List ℕ
above parents zero t = []
above parents (suc n) t = if is_top parents t then [] else slice_index_or parents t 0 ∷ above parents n (slice_index_or parents t 0)

-- there are no more types above a type than types
abbrev pub all_above : List ℕ → ℕ → List ℕ
all_above parents t = above parents (length parents) t

-- a type that descends from itself, where none of the types before is of the same cycle
abbrev pub begins_cycle : List ℕ → List ℕ → ℕ → Bool
begins_cycle parents before t = member t (all_above parents t) && not (meets (all_above parents t) before)

abbrev pub number_or_zero : Option ℕ → ℕ
number_or_zero (Some n) = n
number_or_zero None = 0

abbrev pub type_number : List (List ℕ) → Typed → ℕ
type_number names item = number_or_zero (number_of names item.word.text)

abbrev pub with_type : List ℕ → ℕ → List ℕ
with_type types t = if member t types then types else types ++ t ∷ []

abbrev pub cycle_at : List ℕ → List ℕ → ℕ → Word → List Fault
cycle_at parents before t w = if begins_cycle parents before t then at_word TypeCycle DomainFile w else []

-- the first item of each cycle, where these types stand before
abbrev pub cycles_from : Declared → List ℕ → List Typed → List Fault
cycles_from declared before [] = []
cycles_from declared before (item ∷ items) =
    cycle_at declared.parents before (type_number declared.types item) item.word
    ++ cycles_from declared (with_type before (type_number declared.types item)) items

abbrev pub types_before : Declared → List ℕ → List Typed → List ℕ
types_before declared before [] = before
types_before declared before (item ∷ items) = types_before declared (with_type before (type_number declared.types item)) items

abbrev pub cycle_faults : Declared → List Typed → List Fault
cycle_faults declared items = cycles_from declared [] (kept_types items)
