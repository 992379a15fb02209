-- The variables of a list, where of two of one name the first is meant, and the variables of a scope from a place on.
use Rattle.std.proofs.Common.{◌≡◌, ℕ, zero, suc, ◌+◌, ◌-◌, ◌<◌, ◌≤◌, Bool, true, false, ◌||◌, if◌then◌else◌, nat_le, Option, Some, None, List, [], ◌∷◌, ◌++◌, map, drop, take, length, get_or, refl, sym, subst, ap, ◌∙◌, arith, append_assoc}
use Rattle.std.proofs.Math.Seq.{drop-append_seam}
use Rattle.std.proofs.lemmas.Bool.Decides.{nat_tests}
use Rattle.std.proofs.lemmas.List.{get_or-drop, length-drop, length-map, map_more}
use Rattle.std.proofs.lemmas.Option.{none-some, same_Some}
use Rattle.std.proofs.lemmas.Slice.Eq.{bytes_eq-Decides}
use Rattle.std.specs.Str.{bytes_eq}
use Rattle.mf_model.specs.declared.form.Typed.{Typed}
use Rattle.mf_model.specs.Resolution.{typed_names}
use Rattle.mf_types.specs.Arguments.{entry, types_at}
use Rattle.mf_types.specs.Hiding.{types_else}
use Rattle.mf_types.specs.Names.{is_member, item_types}
use Rattle.mf_types.specs.Scopes.{Scope, Variable, Placed, find_from, find_in, first_types, inner, variable, variable_of}
use Rattle.mf_types.specs.Tasks.{paired}
use Rattle.mf_types.specs.Typing.{Binders, last_from, place_in}
use Rattle.mf_types.proofs.Paired.{drop_paired}
use Rattle.mf_types.proofs.Scoped.{types_at_place}

-- The place of a name among the names from a place on

-- a place counted from this one on, where it isn't before
abbrev pub from_place : ℕ → Option ℕ → Option ℕ
from_place k None = None
from_place k (Some n) = if nat_le k n then Some (n - k) else None

reached : (k n : ℕ) → k ≤ n → from_place k (Some n) ≡ Some (n - k)
reached k n h = ap (λ (b : Bool). if b then Some (n - k) else None) (tested k n h)
  where
    tested : (k n : ℕ) → k ≤ n → nat_le k n ≡ true
    tested k n h = grind (arith, nat_tests)

missed : (k n : ℕ) → n < k → from_place k (Some n) ≡ None
missed k n h = ap (λ (b : Bool). if b then Some (n - k) else None) (tested k n h)
  where
    tested : (k n : ℕ) → n < k → nat_le k n ≡ false
    tested k n h = grind (arith, nat_tests)

chosen_place : (k n : ℕ) (b : Bool) (best : Option ℕ) → k ≤ n → from_place k (if b then Some n else best) ≡ (if b then Some (n - k) else from_place k best)
chosen_place k n true best h = reached k n h
chosen_place k n false best h = refl

all_reached : (k n m : ℕ) (best : Option ℕ) (names : Binders) (name : List ℕ) → k ≤ n → m ≡ n - k → from_place k (last_from n best names name) ≡ last_from m (from_place k best) names name
all_reached k n m best [] name h is = refl
all_reached k n m best (own ∷ names) name h is =
    let b = bytes_eq own name in
    let next : m + 1 ≡ (n + 1) - k = omega (arith, h, is) in
    all_reached k (n + 1) (m + 1) (if b then Some n else best) names name (omega (arith, h)) next
    ∙ (ap (λ (place : Option ℕ). last_from (m + 1) place names name) (chosen_place k n b best h)
    ∙ ap (λ (i : ℕ). last_from (m + 1) (if b then Some i else from_place k best) names name) (sym is))

missed_place : (k n : ℕ) (b : Bool) (best : Option ℕ) → n < k → from_place k best ≡ None → from_place k (if b then Some n else best) ≡ None
missed_place k n true best h none = missed k n h
missed_place k n false best h none = none

some_missed : (j k n : ℕ) (best : Option ℕ) (names : Binders) (name : List ℕ) → k ≡ j + n → from_place k best ≡ None → from_place k (last_from n best names name) ≡ last_from 0 None (drop j names) name
some_missed zero k n best names name is none =
    let same : 0 ≡ n - k = omega (arith, is) in
    all_reached k n 0 best names name (omega (arith, is)) same
    ∙ ap (λ (place : Option ℕ). last_from 0 place names name) none
some_missed (suc j) k n best [] name is none = none
some_missed (suc j) k n best (own ∷ names) name is none =
    let b = bytes_eq own name in
    some_missed j k (n + 1) (if b then Some n else best) names name (omega (arith, is)) (missed_place k n b best (omega (arith, is)) none)

place_from : (k : ℕ) (names : Binders) (name : List ℕ) → from_place k (place_in names name) ≡ place_in (drop k names) name
place_from k names name =
    let same : k ≡ k + 0 = omega arith in
    some_missed k k 0 None names name same refl

types_from_place : (k : ℕ) (names : Binders) (types : List (List ℕ)) (name : List ℕ) → length types ≡ length names → entry (drop k types) (from_place k (place_in names name)) ≡ types_at (find_in (drop k (paired variable names types)) name)
types_from_place k names types name h =
    let long = length-drop k types in
    let wide = length-drop k names in
    ap (entry (drop k types)) (place_from k names name)
    ∙ (types_at_place (drop k names) (drop k types) name (omega (arith, h, long, wide))
    ∙ ap (λ (scope : Scope). types_at (find_in scope name)) (drop_paired variable k names types))

pub types_met : (k place : ℕ) (names : Binders) (types : List (List ℕ)) (name : List ℕ) → length types ≡ length names → place_in names name ≡ Some place → k ≤ place → Some (get_or types place []) ≡ types_at (find_in (drop k (paired variable names types)) name)
types_met k place names types name h is within =
    let steps : place ≡ k + (place - k) = omega (arith, within) in
    ap Some (ap (λ (i : ℕ). get_or types i []) steps ∙ sym (get_or-drop k types (place - k) []))
    ∙ (ap (entry (drop k types)) (sym (reached k place within))
    ∙ (ap (λ (found : Option ℕ). entry (drop k types) (from_place k found)) (sym is)
    ∙ types_from_place k names types name h))

pub types_before : (k place : ℕ) (names : Binders) (types : List (List ℕ)) (name : List ℕ) → length types ≡ length names → place_in names name ≡ Some place → place < k → None ≡ types_at (find_in (drop k (paired variable names types)) name)
types_before k place names types name h is before =
    ap (entry (drop k types)) (sym (missed k place before))
    ∙ (ap (λ (found : Option ℕ). entry (drop k types) (from_place k found)) (sym is)
    ∙ types_from_place k names types name h)

pub types_nowhere : (k : ℕ) (names : Binders) (types : List (List ℕ)) (name : List ℕ) → length types ≡ length names → place_in names name ≡ None → None ≡ types_at (find_in (drop k (paired variable names types)) name)
types_nowhere k names types name h is =
    ap (λ (found : Option ℕ). entry (drop k types) (from_place k found)) (sym is) ∙ types_from_place k names types name h

-- The variables of a list

found_by : (found : Option Placed) (b c : Bool) (n : ℕ) (v : Variable) (types : List ℕ) → types_at found ≡ (if c then Some types else None) → (b ≡ true → v.types ≡ types) → types_at (inner found b n v) ≡ (if b || c then Some types else None)
found_by (Some placed) true true n v types e own = e
found_by (Some placed) false c n v types e own = e
found_by (Some placed) true false n v types e own = absurd (none-some placed.variable.types (sym e))
found_by None b true n v types e own = absurd (none-some types e)
found_by None true false n v types e own = ap Some (own refl)
found_by None false false n v types e own = refl

found_types : (types : List (List ℕ)) (items : List Typed) (names : Binders) (name : List ℕ) (n : ℕ) → types_at (find_from n (map (variable_of types items) names) name) ≡ (if is_member names name then Some (first_types types items name) else None)
found_types types items [] name n = refl
found_types types items (own ∷ names) name n =
    found_by (find_from (suc n) (map (variable_of types items) names) name) (bytes_eq own name) (is_member names name) n (variable_of types items own) (first_types types items name)
    (found_types types items names name (suc n))
    (λ same. ap (first_types types items) ((bytes_eq-Decides own name).0 same))

-- an item is the first of its name where no item before has the name
is_first : (types : List (List ℕ)) (items : List Typed) (n : ℕ) (item : Typed) → n < length items → item ≡ get_or items n item → is_member (take n (typed_names items)) item.word.text ≡ false → first_types types items item.word.text ≡ item_types types item
is_first types [] n item within is none = absurd (omega (arith, within))
is_first types (first ∷ items) zero item within is none =
    let name = item.word.text in
    let same : bytes_eq first.word.text name ≡ true = (bytes_eq-Decides first.word.text name).1 (ap (λ (i : Typed). i.word.text) (sym is)) in
    ap (λ (b : Bool). if b then item_types types first else first_types types items name) same
    ∙ ap (item_types types) (sym is)
is_first types (first ∷ items) (suc n) item within is none =
    by (bytes_eq first.word.text item.word.text) none (λ before. is_first types items n item (omega (arith, within)) is before)
  where
    by : (b : Bool) → (b || is_member (take n (typed_names items)) item.word.text) ≡ false
        → (is_member (take n (typed_names items)) item.word.text ≡ false → first_types types items item.word.text ≡ item_types types item)
        → (if b then item_types types first else first_types types items item.word.text) ≡ item_types types item
    by true none rest = let no : ⊥ = cc in absurd no
    by false none rest = rest none

chosen_types : (b : Bool) (found own first : List ℕ) → (b ≡ false → found ≡ own) → types_else (if b then Some found else None) own ≡ found
chosen_types true found own first h = refl
chosen_types false found own first h = sym (h refl)

-- one variable more
pub variable_more : (types : List (List ℕ)) (items : List Typed) (n first : ℕ) (item : Typed) (own : List ℕ) (old scope new : Scope) → n < length items → item ≡ get_or items n item → first ≡ length old → own ≡ item_types types item
    → scope ≡ old ++ map (variable_of types items) (take n (typed_names items))
    → new ≡ scope ++ variable item.word.text (types_else (types_at (find_in (drop first scope) item.word.text)) own) ∷ []
    → new ≡ old ++ map (variable_of types items) (take (n + 1) (typed_names items))
variable_more types items n first item own old scope new within is long own_is so_far step =
    let name = item.word.text in
    let names = typed_names items in
    let front = map (variable_of types items) (take n names) in
    let dropped : drop first scope ≡ front = ap (drop first) so_far ∙ (ap (λ (i : ℕ). drop i (old ++ front)) long ∙ drop-append_seam old front) in
    let found = ap (λ (rest : Scope). types_at (find_in rest name)) dropped ∙ found_types types items (take n names) name 0 in
    let b = is_member (take n names) name in
    let types_are : types_else (types_at (find_in (drop first scope) name)) own ≡ first_types types items name =
    ap (λ (t : Option (List ℕ)). types_else t own) found
    ∙ chosen_types b (first_types types items name) own own (λ none. is_first types items n item within is none ∙ sym own_is) in
    let count = length-map items (λ (i : Typed). i.word.text) in
    let name_is : get_or names n name ≡ name = name_there items n item within is in
    step
    ∙ (ap (λ (t : List ℕ). scope ++ variable name t ∷ []) types_are
    ∙ (ap (λ (all : Scope). all ++ variable_of types items name ∷ []) so_far
    ∙ (append_assoc old front (variable_of types items name ∷ [])
    ∙ ap (λ (rest : Scope). old ++ rest) (ap (λ (w : List ℕ). front ++ variable_of types items w ∷ []) (sym name_is) ∙ sym (map_more (variable_of types items) names n name (omega (arith, count, within)))))))
  where
    name_there : (items : List Typed) (n : ℕ) (item : Typed) → n < length items → item ≡ get_or items n item → get_or (typed_names items) n item.word.text ≡ item.word.text
    name_there [] n item within is = absurd (omega (arith, within))
    name_there (first ∷ items) zero item within is = ap (λ (i : Typed). i.word.text) (sym is)
    name_there (first ∷ items) (suc n) item within is = name_there items n item (omega (arith, within)) is
