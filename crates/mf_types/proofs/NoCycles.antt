-- Where no fault of a cycle stands, no type is on a cycle without type 0.
use Rattle.std.proofs.Common.{◌≡◌, ℕ, zero, suc, ◌<◌, ◌≤◌, ◌⊎◌, inl, inr, Bool, true, false, ◌||◌, if◌then◌else◌, nat_eq, Option, Some, None, List, [], ◌∷◌, ◌++◌, length, map, get_or, refl, sym, subst, ap, ◌∙◌, arith}
use Rattle.std.specs.Str.{bytes_eq}
use Rattle.std.proofs.lemmas.Bool.{cases_lt}
use Rattle.std.proofs.lemmas.Bool.Decides.{Decides-eqb}
use Rattle.std.proofs.lemmas.List.{get_or-map, get_or_past}
use Rattle.std.proofs.lemmas.List.Elements.{All-get_or}
use Rattle.std.proofs.lemmas.List.Quantifiers.{position-Some}
use Rattle.mf_model.proofs.Choices.{same_text}
use Rattle.mf_model.specs.declared.form.Typed.{Typed}
use Rattle.mf_model.specs.declared.form.Word.{Word}
use Rattle.mf_model.specs.Objects.{meets, member}
use Rattle.mf_model.specs.Resolution.{number_of}
use Rattle.mf_types.specs.Ascent.{parent_at, up, IsOnCycle}
use Rattle.mf_types.specs.Cycles.{all_above, begins_cycle, number_or_zero, type_number, with_type, cycle_at, cycles_from, cycle_faults}
use Rattle.mf_types.specs.Names.{Declared, kept_types, numbers_by, numbers_of, types_of, head_or_zero, parent_in}
use Rattle.mf_types.proofs.Ascent.{up_last, above_on_cycle, above_itself, some_above}
use Rattle.mf_types.proofs.Firsts.{any-push}
use Rattle.mf_types.proofs.Narrow.{every}
use Rattle.mf_types.proofs.Repetition.{HasCycle}
use Rattle.mf_types.proofs.There.{first_empty, second_empty, not_met}

-- No item begins a cycle

abbrev NoneOnCycle : List ℕ → List ℕ → Type 0
NoneOnCycle parents before = (b : ℕ) → member b before ≡ true → IsOnCycle parents b → ⊥

not_on_cycle : (parents before : List ℕ) (t : ℕ) → begins_cycle parents before t ≡ false → NoneOnCycle parents before → IsOnCycle parents t → ⊥
not_on_cycle parents before t e none on = by (meets (all_above parents t) before) refl
  where
    by : (b : Bool) → meets (all_above parents t) before ≡ b → ⊥
    by true met =
        let found = some_above parents (length parents) t before met in
        none (up parents found.steps t) found.there (above_on_cycle parents found.steps t on)
    by false met =
        let itself = above_itself parents t on in
        let begins : begins_cycle parents before t ≡ true = rw (itself, met) refl in
        let no : ⊥ = cc in no

none_with : (parents before : List ℕ) (t : ℕ) → NoneOnCycle parents before → (IsOnCycle parents t → ⊥) → NoneOnCycle parents (with_type before t)
none_with parents before t none off b = by (member t before)
  where
    last : (c : Bool) → member b before ≡ c → (c || nat_eq b t) ≡ true → IsOnCycle parents b → ⊥
    last true met e on = none b met on
    last false met e on = off (subst (IsOnCycle parents) ((Decides-eqb b t).0 e) on)

    by : (c : Bool) → member b (if c then before else before ++ t ∷ []) ≡ true → IsOnCycle parents b → ⊥
    by true e on = none b e on
    by false e on = last (member b before) refl (sym (any-push (nat_eq b) before t) ∙ e) on

same_number : (names : List (List ℕ)) (item : Typed) (name : List ℕ) (u : ℕ) → bytes_eq item.word.text name ≡ true → number_of names name ≡ Some u → type_number names item ≡ u
same_number names item name u same numbered =
    ap (λ (own : List ℕ). number_or_zero (number_of names own)) (same_text item.word.text name same) ∙ ap number_or_zero numbered

off_cycle : (declared : Declared) (before : List ℕ) (item : Typed) → cycle_at declared.parents before (type_number declared.types item) item.word ≡ [] → NoneOnCycle declared.parents before → IsOnCycle declared.parents (type_number declared.types item) → ⊥
off_cycle declared before item e none =
    let t = type_number declared.types item in
    not_on_cycle declared.parents before t (not_met (begins_cycle declared.parents before t) _ e) none

-- a type with another parent than type 0 has an item
items_off_cycles : (declared : Declared) (before : List ℕ) (items : List Typed) → cycles_from declared before items ≡ [] → NoneOnCycle declared.parents before
    → (name : List ℕ) (u : ℕ) → number_of declared.types name ≡ Some u → (parent_in declared.types items name ≡ 0 → ⊥) → IsOnCycle declared.parents u → ⊥
items_off_cycles declared before [] e none name u numbered some on = some refl
items_off_cycles declared before (item ∷ items) e none name u numbered some on =
    let t = type_number declared.types item in
    let here = cycle_at declared.parents before t item.word in
    let off = off_cycle declared before item (first_empty here _ e) none in
    by (bytes_eq item.word.text name) refl off (items_off_cycles declared (with_type before t) items (second_empty here _ e) (none_with declared.parents before t none off) name u numbered) some
  where
    by : (b : Bool) → bytes_eq item.word.text name ≡ b → (IsOnCycle declared.parents (type_number declared.types item) → ⊥)
        → ((parent_in declared.types items name ≡ 0 → ⊥) → IsOnCycle declared.parents u → ⊥)
        → ((if b then head_or_zero (types_of declared.types item.types) else parent_in declared.types items name) ≡ 0 → ⊥) → ⊥
    by true same off rest some = off (subst (IsOnCycle declared.parents) (sym (same_number declared.types item name u same numbered)) on)
    by false other off rest some = rest some on

-- Each parent is type 0 or the number of a name

abbrev IsNamed : List (List ℕ) → ℕ → Type 0
IsNamed names n = (n ≡ 0) ⊎ ((name : List ℕ) × (number_of names name ≡ Some n))

first_named : (names : List (List ℕ)) (ws : List Word) → IsNamed names (head_or_zero (numbers_of names ws))
first_named names [] = inl refl
first_named names (w ∷ ws) = by (number_of names w.text) refl (first_named names ws)
  where
    by : (o : Option ℕ) → number_of names w.text ≡ o → IsNamed names (head_or_zero (numbers_of names ws)) → IsNamed names (head_or_zero (numbers_by o (numbers_of names ws)))
    by (Some n) e rest = inr (w.text, e)
    by None e rest = rest

head_named : (names : List (List ℕ)) (ws : List Word) → IsNamed names (head_or_zero (types_of names ws))
head_named names [] = inl refl
head_named names (w ∷ ws) = first_named names (w ∷ ws)

parent_named : (names : List (List ℕ)) (items : List Typed) (name : List ℕ) → IsNamed names (parent_in names items name)
parent_named names [] name = inl refl
parent_named names (item ∷ items) name =
    elim (bytes_eq item.word.text name) as (λ b. IsNamed names (if b then head_or_zero (types_of names item.types) else parent_in names items name))
    [ true ↦ head_named names item.types | false ↦ parent_named names items name ]

-- A type on a cycle has a name, and the parent that the first item of this name says

abbrev parents_by : List (List ℕ) → List Typed → List ℕ
parents_by names items = map (parent_in names items) names

named_at : (names : List (List ℕ)) (items : List Typed) (t : ℕ) → IsNamed names (parent_at (parents_by names items) t)
named_at names items t = by (cases_lt t (length (parents_by names items)))
  where
    by : (t < length (parents_by names items)) ⊎ (length (parents_by names items) ≤ t) → IsNamed names (parent_at (parents_by names items) t)
    by (inl h) = All-get_or (IsNamed names) (parents_by names items) t 0 h (every (IsNamed names) (parent_in names items) (parent_named names items) names)
    by (inr h) = inl (get_or_past (parents_by names items) t 0 h)

parent_is : (names : List (List ℕ)) (items : List Typed) (name : List ℕ) (u : ℕ) → number_of names name ≡ Some u → parent_at (parents_by names items) u ≡ parent_in names items name
parent_is names items name u numbered =
    let place = position-Some (λ own. bytes_eq own name) names u [] numbered in
    get_or-map (parent_in names items) names u [] 0 place.0 ∙ ap (parent_in names items) (same_text (get_or names u []) name place.1)

last_parent : (names : List (List ℕ)) (parents : List ℕ) → ((t : ℕ) → IsNamed names (parent_at parents t)) → (u : ℕ) → IsOnCycle parents u → IsNamed names u
last_parent names parents named u on = by on.steps on.some on.back
  where
    by : (n : ℕ) → 0 < n → up parents n u ≡ u → IsNamed names u
    by zero some back = absurd (omega arith)
    by (suc n) some back = subst (IsNamed names) (sym (up_last parents n u) ∙ back) (named (up parents n u))

pub no_cycle : (declared : Declared) (items : List Typed) → declared.parents ≡ parents_by declared.types (kept_types items) → cycle_faults declared items ≡ [] → HasCycle declared.parents → ⊥
no_cycle declared items is e cycle =
    by (last_parent declared.types declared.parents (λ t. subst (λ (parents : List ℕ). IsNamed declared.types (parent_at parents t)) (sym is) (named_at declared.types (kept_types items) t)) cycle.type cycle.on)
  where
    by : IsNamed declared.types cycle.type → ⊥
    by (inl z) = cycle.other z
    by (inr named) =
        let name = named.0 in
        let parent = ap (λ (parents : List ℕ). parent_at parents cycle.type) is ∙ parent_is declared.types (kept_types items) name cycle.type named.1 in
        items_off_cycles declared [] (kept_types items) e (λ b m own. let no : ⊥ = cc in no) name cycle.type named.1 (λ z. cycle.other_parent (parent ∙ z)) cycle.on
