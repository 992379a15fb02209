-- Where no fault stands in a list of variables, at most 64 are in scope inside it.
use Rattle.std.proofs.Common.{◌≡◌, ℕ, zero, suc, ◌+◌, ◌-◌, ◌≤◌, Bool, true, false, if◌then◌else◌, nat_le, Option, Some, None, List, [], ◌∷◌, ◌++◌, length, map, slice_get, refl, sym, subst, ap, ◌∙◌, arith, length-append}
use Rattle.std.proofs.lemmas.Bool.Decides.{nat_tests}
use Rattle.std.proofs.lemmas.List.{map-append, length-map}
use Rattle.mf_model.proofs.Choices.{if_true}
use Rattle.mf_model.specs.declared.form.FileKind.{FileKind}
use Rattle.mf_model.specs.declared.form.Word.{Word}
use Rattle.mf_model.specs.declared.form.Typed.{Typed}
use Rattle.mf_model.specs.Options.{◌>>=◌}
use Rattle.mf_model.specs.Resolution.{typed_names}
use Rattle.mf_types.specs.Quantified as faults
use Rattle.mf_types.specs.Declarations.{too_many_at, beyond, beyond_behind, item_words}
use Rattle.mf_types.specs.Scopes.{Scope, variable_of, variables_of}
use Rattle.mf_types.specs.Sites.{Site}
use Rattle.mf_types.specs.Typing.{Binders, inside, within}
use Rattle.mf_types.proofs.There.{IsThere, never}
use Rattle.mf_types.proofs.ThereTerms.{names_in}

none_beyond : (file : FileKind) (o : Option Word) → too_many_at file o ≡ [] → o ≡ None
none_beyond file None e = refl
none_beyond file (Some w) e = never _ _ _ e

-- a list without an item at a place is no longer than the place
pub short : {A : Type 0} (n : ℕ) (items : List A) → slice_get items n ≡ None → length items ≤ n
short zero [] e = omega arith
short zero (item ∷ items) e = let h : ⊥ = cc in absurd h
short (suc n) [] e = omega arith
short (suc n) (item ∷ items) e = let h = short n items e in omega arith

pub few_words : (file : FileKind) (limit : ℕ) (ws : List Word) → beyond file limit ws ≡ [] → length ws ≤ limit
few_words file limit ws e = short limit ws (none_beyond file (slice_get ws limit) e)

pub within_test : (n : ℕ) → n ≤ 64 → nat_le n 64 ≡ true
within_test n h = grind (arith, nat_tests)

pub few : (site : Site) (n : ℕ) (items : List Typed) → n ≤ 64 → beyond_behind site.file 64 n (item_words items) ≡ [] → n + length items ≤ 64
few site n items h e =
    let tested = sym (if_true (nat_le n 64) (beyond site.file (64 - n) (item_words items)) [] (within_test n h)) ∙ e in
    let count = few_words site.file (64 - n) (item_words items) tested in
    let same = length-map items (λ (item : Typed). item.word) in
    omega (arith, count, same, h)

-- the names of the variables of a list
pub names_of : (types : List (List ℕ)) (items : List Typed) → names_in (variables_of types items) ≡ typed_names items
names_of types items = own_names (typed_names items)
  where
    own_names : (names : Binders) → names_in (map (variable_of types items) names) ≡ names
    own_names [] = refl
    own_names (name ∷ names) = ap (λ (others : Binders). name ∷ others) (own_names names)

pub length_of : (types : List (List ℕ)) (items : List Typed) → length (variables_of types items) ≡ length items
length_of types items = length-map (typed_names items) (variable_of types items) ∙ length-map items _

pub names_inside : (site : Site) (scope : Scope) (items : List Typed) → names_in (faults.inside site scope items) ≡ names_in scope ++ typed_names items
names_inside site scope items =
    map-append (λ v. v.name) scope (variables_of site.declared.types items) ∙ ap (λ (names : Binders). names_in scope ++ names) (names_of site.declared.types items)

pub length_inside : (site : Site) (scope : Scope) (items : List Typed) → length (faults.inside site scope items) ≡ length scope + length items
length_inside site scope items =
    length-append scope (variables_of site.declared.types items) ∙ ap (λ (n : ℕ). length scope + n) (length_of site.declared.types items)

pub chosen : {A : Type 0} (b : Bool) (names : Binders) (part : Binders → Option A) → b ≡ true → IsThere (part names) → IsThere ((if b then Some names else None) >>= part)
chosen true names part e h = h
chosen false names part e h = let no : ⊥ = cc in absurd no

-- a part is read inside the list
pub within_there : {A : Type 0} (site : Site) (scope : Scope) (items : List Typed) (part : Binders → Option A) → length scope ≤ 64 → beyond_behind site.file 64 (length scope) (item_words items) ≡ [] → IsThere (part (names_in (faults.inside site scope items))) → IsThere (within items part (names_in scope))
unfolding inside
within_there site scope items part h e there =
    let count = few site (length scope) items h e in
    let same : length (names_in scope) ≡ length scope = length-map scope (λ v. v.name) in
    let names = names_in scope ++ typed_names items in
    chosen (nat_le (length (names_in scope) + length items) 64) names part (within_test (length (names_in scope) + length items) (omega (arith, count, same))) (subst (λ (own : Binders). IsThere (part own)) (names_inside site scope items) there)
