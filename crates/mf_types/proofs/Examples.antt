-- The definitions of declarations, computed on small cases.
use Rattle.std.proofs.Common.{◌≡◌, refl, ℕ, true, false, List, [], ◌∷◌}
use Rattle.std.specs.Prelude.{codes}
use Rattle.mf_model.specs.declared.form.FileKind.TheVariants.{DomainFile, ProblemFile}
use Rattle.mf_model.specs.declared.form.RawCond.{RawCond}
use Rattle.mf_model.specs.declared.form.RawEffect.TheOpen.{RawEffect-F}
use Rattle.mf_model.specs.declared.form.RawValue.{RawValue}
use Rattle.mf_model.specs.declared.form.Typed.{Typed}
use Rattle.mf_model.specs.declared.form.Word.{Word}
use Rattle.mf_model.specs.declared.token.Span.{Span}
use Rattle.mf_model.specs.Tokens.{is_name, is_name_byte}
use Rattle.mf_types.specs.declared.least.FaultKind.TheVariants.{Twice, TypeCycle}
use Rattle.mf_types.specs.Cycles.{cycles_from}
use Rattle.mf_types.specs.Declarations.{item_words, repeats}
use Rattle.mf_types.specs.Faults.{at_word}
use Rattle.mf_types.specs.Names.{Declared, kept_types, parents_of, type_names}
use Rattle.mf_types.specs.Related.{are_related}
use Rattle.mf_types.specs.StartValues.{differs_at, first_of, same_number}
use Rattle.mf_types.specs.Written.{when_step}

abbrev word_at : ℕ → List ℕ → Word
word_at n text = record { text = text; span = record { start = n; end = n } }

abbrev item : Word → List Word → Typed
item word types = record { word = word; types = types }

-- Types: `a b - p` and `c`, at places of their own

abbrev a : List ℕ
a = 97 ∷ []

abbrev b : List ℕ
b = 98 ∷ []

abbrev c : List ℕ
c = 99 ∷ []

abbrev p : List ℕ
p = 112 ∷ []

abbrev behind : Word
behind = word_at 7 p

abbrev grouped : List Typed
grouped = item (word_at 1 a) (behind ∷ []) ∷ item (word_at 3 b) (behind ∷ []) ∷ item (word_at 9 c) [] ∷ []

-- the items of a group come before its parent
numbers_in_order : type_names grouped ≡ codes "object" ∷ a ∷ b ∷ p ∷ c ∷ []
numbers_in_order = refl

parents_of_groups : parents_of grouped ≡ 0 ∷ 3 ∷ 3 ∷ 0 ∷ 0 ∷ []
parents_of_groups = refl

siblings_apart : are_related (parents_of grouped) (1 ∷ []) (2 ∷ 4 ∷ []) ≡ false
siblings_apart = refl

child_and_parent_related : are_related (parents_of grouped) (4 ∷ 1 ∷ []) (3 ∷ []) ≡ true
child_and_parent_related = refl

-- Cycles: `c - a`, `a - b`, `b - a`: one fault, at the first item on the cycle

abbrev turning : List Typed
turning = item (word_at 1 c) (word_at 2 a ∷ []) ∷ item (word_at 3 a) (word_at 4 b ∷ []) ∷ item (word_at 5 b) (word_at 6 a ∷ []) ∷ []

abbrev declared_in : List Typed → Declared
declared_in items = record {
  types = type_names items;
  parents = parents_of items;
  objects = [];
  object_types = [];
  predicates = [];
  predicate_types = [];
  functions = [];
  function_types = [];
  changed = [];
}

one_fault_a_cycle : cycles_from (declared_in turning) [] (kept_types turning) ≡ at_word TypeCycle DomainFile (word_at 3 a)
one_fault_a_cycle = refl

-- `object - object` says nothing, `object - a` is a cycle
abbrev above_object : List Typed
above_object = item (word_at 1 (codes "object")) (word_at 2 (codes "object") ∷ []) ∷ item (word_at 3 (codes "object")) (word_at 4 a ∷ []) ∷ []

object_below_another : cycles_from (declared_in above_object) [] (kept_types above_object) ≡ at_word TypeCycle DomainFile (word_at 3 (codes "object"))
object_below_another = refl

not_twice : repeats DomainFile [] (item_words (kept_types above_object)) ≡ []
not_twice = refl

-- Numbers

point_says_nothing : same_number (codes "1") (codes "01.00") ≡ true
point_says_nothing = refl

minus_of_zero_says_nothing : same_number (codes "-0.0") (codes "0") ≡ true
minus_of_zero_says_nothing = refl

signs_differ : same_number (codes "-1") (codes "1") ≡ false
signs_differ = refl

digits_differ : same_number (codes "1.01") (codes "1.1") ≡ false
digits_differ = refl

tens_differ : same_number (codes "10") (codes "1") ≡ false
tens_differ = refl

-- Start values: each is compared with the first of its term

abbrev start : ℕ → List ℕ → List ℕ → RawValue
start n object number = record { function = word_at n c; objects = word_at n object ∷ []; value = word_at n number }

equal_value_accepted : differs_at (first_of (start 1 a (codes "1") ∷ start 2 b (codes "2") ∷ []) (start 3 a (codes "1.0"))) (start 3 a (codes "1.0")) ≡ []
equal_value_accepted = refl

other_value_refused : differs_at (first_of (start 1 a (codes "1") ∷ start 2 b (codes "2") ∷ []) (start 3 a (codes "2"))) (start 3 a (codes "2")) ≡ at_word Twice ProblemFile (word_at 3 (codes "2"))
other_value_refused = refl

-- Written forms: a `when` in another makes two, and a group has those of its deepest part

nested_when : (condition : RawCond) (span : Span) → when_step (RawEffect-F.When condition 1 span) ≡ 2
nested_when condition span = refl

deepest_part : (span : Span) → when_step (RawEffect-F.Group (0 ∷ 1 ∷ 0 ∷ []) span) ≡ 1
deepest_part span = refl

-- a name is in lower case, and begins with a letter

small_name : is_name (codes "pick-up_2") ≡ true
unfolding is_name_byte
small_name = refl

great_letter : is_name (codes "pickUp") ≡ false
unfolding is_name_byte
great_letter = refl

digit_in_front : is_name (codes "2nd") ≡ false
digit_in_front = refl
