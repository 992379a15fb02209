-- Terms, predicates and functions that are read are valid.
use Rattle.std.proofs.Common.{◌≡◌, ℕ, zero, suc, ◌+◌, ◌<◌, ◌≤◌, Bool, true, false, if◌then◌else◌, nat_eq, nat_lt, Option, Some, None, List, [], ◌∷◌, map, length, slice_get, slice_index_or, refl, ap, ◌∙◌, arith}
use Rattle.std.specs.Str.{bytes_eq}
use Rattle.std.proofs.lemmas.Bool.Decides.{nat_tests}
use Rattle.std.proofs.lemmas.List.Quantifiers.{position-Some}
use Rattle.mf_model.proofs.Choices.{and_true}
use Rattle.mf_model.specs.declared.form.Word.{Word}
use Rattle.mf_model.specs.declared.task.Term.{Term}
use Rattle.mf_model.specs.Resolution.{number_of, takes}
use Rattle.mf_types.specs.Arguments.{is_variable}
use Rattle.mf_types.specs.Names.{Declared}
use Rattle.mf_types.specs.Tasks.{objects_of}
use Rattle.mf_types.specs.Typing.{Binders, last_from, place_in, variable_at, object_at, term_of, terms_of, symbol_of}
use Rattle.mf_model.specs.ValidTasks.{Counts, is_valid_term, are_valid_terms, is_valid_use, are_objects, is_ground}
use Rattle.mf_types.proofs.Given.{IfGiven, Read, given, then_given, each_given}

-- what is declared, counted
abbrev pub counted : Declared → Counts
counted declared = record {
  types = length declared.types;
  objects = length declared.objects;
  predicates = map length declared.predicate_types;
  functions = map length declared.function_types;
}

pub lt_true : (n m : ℕ) → n < m → nat_lt n m ≡ true
lt_true n m h = grind (arith, nat_tests)

abbrev IsBelow : ℕ → ℕ → Type 0
IsBelow most n = nat_lt n most ≡ true

last_below : (name : List ℕ) (names : Binders) (m most : ℕ) (place : Option ℕ) → IfGiven (IsBelow most) place → m + length names ≤ most → IfGiven (IsBelow most) (last_from m place names name)
last_below name [] m most place h room = h
last_below name (own ∷ names) m most place h room =
    elim (bytes_eq own name) as (λ b. IfGiven (IsBelow most) (last_from (m + 1) (if b then Some m else place) names name))
    [ true ↦ last_below name names (m + 1) most (Some m) (lt_true m most (omega (arith, room))) (omega (arith, room)) | false ↦ last_below name names (m + 1) most place h (omega (arith, room)) ]

pub number_below : (names : List (List ℕ)) (name : List ℕ) → IfGiven (IsBelow (length names)) (number_of names name)
number_below names name = given (IsBelow (length names)) (number_of names name) (λ n e. lt_true n (length names) (position-Some (λ own. bytes_eq own name) names n [] e).0)

term_by : (counts : Counts) (variables : ℕ) (b : Bool) (place number : Option ℕ) → IfGiven (IsBelow variables) place → IfGiven (IsBelow counts.objects) number → IfGiven (λ t. is_valid_term counts variables t ≡ true) (if b then variable_at place else object_at number)
term_by counts variables true None number h k = tt
term_by counts variables true (Some n) number h k = h
term_by counts variables false place None h k = tt
term_by counts variables false place (Some n) h k = k

pub term_valid : (declared : Declared) (binders : Binders) (w : Word) → IfGiven (λ t. is_valid_term (counted declared) (length binders) t ≡ true) (term_of declared binders w)
unfolding term_of
term_valid declared binders w =
    term_by (counted declared) (length binders) (is_variable w.text) (place_in binders w.text) (number_of declared.objects w.text)
    (last_below w.text binders 0 (length binders) None tt (omega arith))
    (number_below declared.objects w.text)

pub terms_valid : (declared : Declared) (binders : Binders) (ws : List Word) → IfGiven (Read (is_valid_term (counted declared) (length binders)) ws) (terms_of declared binders ws)
terms_valid declared binders ws = each_given (is_valid_term (counted declared) (length binders)) (term_of declared binders) (term_valid declared binders) ws

pub objects_valid : (declared : Declared) (ws : List Word) → IfGiven (Read (λ n. nat_lt n (length declared.objects)) ws) (objects_of declared ws)
objects_valid declared ws = each_given (λ n. nat_lt n (length declared.objects)) (λ w. number_of declared.objects w.text) (λ w. number_below declared.objects w.text) ws

-- predicates and functions

pub counts_at : (types : List (List (List ℕ))) (n count : ℕ) → n < length types → nat_eq (length (slice_index_or types n [])) count ≡ true → takes (slice_get (map length types) n) count ≡ true
counts_at [] n count h e = absurd (omega (arith, h))
counts_at (own ∷ others) zero count h e = e
counts_at (own ∷ others) (suc n) count h e = counts_at others n count (omega (arith, h)) e

use_by : (types : List (List (List ℕ))) (n count : ℕ) (b : Bool) → n < length types → nat_eq (length (slice_index_or types n [])) count ≡ b → IfGiven (λ k. takes (slice_get (map length types) k) count ≡ true) (if b then Some n else None)
use_by types n count true h e = counts_at types n count h e
use_by types n count false h e = tt

pub lt_of : (n m : ℕ) → nat_lt n m ≡ true → n < m
lt_of n m h = grind (arith, nat_tests)

pub symbol_valid : (names : List (List ℕ)) (types : List (List (List ℕ))) (name : List ℕ) (count : ℕ) → length names ≡ length types → IfGiven (λ n. takes (slice_get (map length types) n) count ≡ true) (symbol_of names types name count)
unfolding symbol_of
symbol_valid names types name count same =
    then_given (IsBelow (length names)) (λ n. takes (slice_get (map length types) n) count ≡ true) (number_of names name) _ (number_below names name) (λ n below.
    let within = lt_of n (length names) below in
    use_by types n count (nat_eq (length (slice_index_or types n [])) count) (omega (arith, within, same)) refl)

-- as many types as names
pub record AreEven (declared : Declared) : Type 0 where
  pub predicates : length declared.predicates ≡ length declared.predicate_types
  pub functions : length declared.functions ≡ length declared.function_types

pub use_valid : (own : List ℕ) (counts : Counts) (variables n : ℕ) (ws : List Word) (ts : List Term) → takes (slice_get own n) (length ws) ≡ true → Read (is_valid_term counts variables) ws ts → is_valid_use own counts variables n ts ≡ true
use_valid own counts variables n ws ts h read =
    and_true (takes (slice_get own n) (length ts)) (are_valid_terms counts variables ts) (ap (λ (count : ℕ). takes (slice_get own n) count) read.count ∙ h) read.passes

pub ground_valid : (own : List ℕ) (declared : Declared) (n : ℕ) (ws : List Word) (os : List ℕ) → takes (slice_get own n) (length ws) ≡ true → Read (λ k. nat_lt k (length declared.objects)) ws os → is_ground own (counted declared) n os ≡ true
ground_valid own declared n ws os h read =
    and_true (takes (slice_get own n) (length os)) (are_objects (counted declared) os) (ap (λ (count : ℕ). takes (slice_get own n) count) read.count ∙ h) read.passes
