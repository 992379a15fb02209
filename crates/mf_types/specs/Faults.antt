-- Faults of names, types and numbers, and which of several is answered: those of the domain come first, then
-- the least start, then the order of the kinds.
use Rattle.std.specs.Prelude.{◌≡◌, ℕ, Bool, true, false, if◌then◌else◌, nat_eq, nat_lt, nat_le, Option, Some, None, List, [], ◌∷◌, Contains}
use Rattle.mf_model.specs.declared.token.Span.{Span}
use Rattle.mf_model.specs.declared.form.FileKind.{FileKind}
use Rattle.mf_model.specs.declared.form.FileKind.TheVariants.{DomainFile, ProblemFile}
use Rattle.mf_model.specs.declared.form.Word.{Word}
use Rattle.mf_types.specs.declared.least.Fault.{Fault}
use Rattle.mf_types.specs.declared.least.FaultKind.{FaultKind}
use Rattle.mf_types.specs.declared.least.FaultKind.TheVariants.{Twice, TypeCycle, UnknownName, WrongCount, WrongType, TooMany, WideNumber, NotLinear}

abbrev pub rank : FaultKind → ℕ
rank Twice = 0
rank TypeCycle = 1
rank UnknownName = 2
rank WrongCount = 3
rank WrongType = 4
rank TooMany = 5
rank WideNumber = 6
rank NotLinear = 7

abbrev pub file_rank : FileKind → ℕ
file_rank DomainFile = 0
file_rank ProblemFile = 1

-- by file, then by start, then by kind
abbrev pub is_before : Fault → Fault → Bool
is_before f g =
    if nat_eq (file_rank f.file) (file_rank g.file)
    then (if nat_eq f.span.start g.span.start then nat_le (rank f.kind) (rank g.kind) else nat_lt f.span.start g.span.start)
    else nat_lt (file_rank f.file) (file_rank g.file)

abbrev pub least : Option Fault → Fault → Option Fault
least None fault = Some fault
least (Some best) fault = if is_before best fault then Some best else Some fault

-- the least of the best so far and a list of faults
abbrev pub after : Option Fault → List Fault → Option Fault
after best [] = best
after best (fault ∷ faults) = after (least best fault) faults

-- whether the best fault so far stands in an earlier file than a word, or earlier in its file
abbrev pub stands_before : Option Fault → FileKind → Word → Bool
stands_before None file w = false
stands_before (Some best) file w =
    if nat_eq (file_rank best.file) (file_rank file) then nat_lt best.span.start w.span.start else nat_lt (file_rank best.file) (file_rank file)

abbrev pub fault_at : FaultKind → FileKind → Span → Fault
fault_at kind file span = record { kind = kind; file = file; span = span }

-- one fault alone, at a span or at a word
abbrev pub at_span : FaultKind → FileKind → Span → List Fault
at_span kind file span = fault_at kind file span ∷ []

abbrev pub at_word : FaultKind → FileKind → Word → List Fault
at_word kind file w = at_span kind file w.span

-- the fault that is answered, of all that stand
abbrev pub IsLeast : List Fault → Fault → Type 0
IsLeast faults fault = Contains faults fault × ((other : Fault) → Contains faults other → is_before fault other ≡ true)
