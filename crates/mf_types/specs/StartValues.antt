-- Faults of start values: a term with a second value that differs from its first, and numbers that don't fit.
use Rattle.std.specs.Prelude.{ℕ, Bool, true, false, if◌then◌else◌, ◌&&◌, not, ◌==◌, Option, Some, None, is_some, List, [], ◌∷◌, ◌++◌, map}
use Rattle.std.specs.List.{before_first, after_first}
use Rattle.std.specs.Str.{bytes_eq}
use Rattle.std.specs.Cmp.Lexicographic.{pointwise}
use Rattle.mf_fraction.specs.Decimal.{has_minus, without_minus, is_point}
use Rattle.mf_model.specs.declared.form.FileKind.TheVariants.{ProblemFile}
use Rattle.mf_model.specs.declared.form.RawValue.{RawValue}
use Rattle.mf_types.specs.declared.least.Fault.{Fault}
use Rattle.mf_types.specs.declared.least.FaultKind.TheVariants.{Twice}
use Rattle.mf_types.specs.Faults.{at_word}
use Rattle.mf_types.specs.Expressions.{wide_at}
use Rattle.mf_types.specs.Names.{text_of}

-- Decimals of any length: 48 is `0`

abbrev pub without_zeros : List ℕ → List ℕ
without_zeros [] = []
without_zeros (b ∷ bs) = if b == 48 then without_zeros bs else b ∷ bs

abbrev pub is_empty : List ℕ → Bool
is_empty [] = true
is_empty (b ∷ bs) = false

abbrev pub without_end_zeros : List ℕ → List ℕ
without_end_zeros [] = []
without_end_zeros (b ∷ bs) = if is_empty (without_end_zeros bs) && b == 48 then [] else b ∷ without_end_zeros bs

-- the digits before the point, without zeros in front
abbrev pub whole_digits : List ℕ → List ℕ
whole_digits word = without_zeros (before_first is_point (without_minus word))

-- the digits behind the point, without zeros at the end
abbrev pub part_digits : List ℕ → List ℕ
part_digits word = without_end_zeros (after_first is_point (without_minus word))

-- a minus in front of 0 says nothing
abbrev pub is_negative : List ℕ → Bool
is_negative word = has_minus word && not (is_empty (whole_digits word) && is_empty (part_digits word))

abbrev pub same_bit : Bool → Bool → Bool
same_bit true b = b
same_bit false b = not b

-- whether two decimal words write the same number
abbrev pub same_number : List ℕ → List ℕ → Bool
same_number v w = same_bit (is_negative v) (is_negative w) && bytes_eq (whole_digits v) (whole_digits w) && bytes_eq (part_digits v) (part_digits w)

-- Terms

-- the function, and then the objects, by their names
abbrev pub term_names : RawValue → List (List ℕ)
term_names v = v.function.text ∷ map text_of v.objects

abbrev pub same_term : RawValue → RawValue → Bool
same_term v w = pointwise bytes_eq (term_names v) (term_names w)

-- the first of some start values that is one of the same term
abbrev pub first_of : List RawValue → RawValue → Option RawValue
first_of [] v = None
first_of (other ∷ others) v = if same_term v other then Some other else first_of others v

-- the first start values of each term
abbrev pub with_value : List RawValue → RawValue → List RawValue
with_value firsts v = if is_some (first_of firsts v) then firsts else firsts ++ v ∷ []

-- Faults

abbrev pub differs_at : Option RawValue → RawValue → List Fault
differs_at None v = []
differs_at (Some first) v = if same_number first.value.text v.value.text then [] else at_word Twice ProblemFile v.value

-- where these are the first start values of each term before
abbrev pub value_faults_behind : List RawValue → List RawValue → List Fault
value_faults_behind firsts [] = []
value_faults_behind firsts (v ∷ vs) = (differs_at (first_of firsts v) v ++ wide_at ProblemFile v.value) ++ value_faults_behind (with_value firsts v) vs

abbrev pub value_faults : List RawValue → List Fault
value_faults values = value_faults_behind [] values
