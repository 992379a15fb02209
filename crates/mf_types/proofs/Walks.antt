-- One more item of a list whose faults are looked for in order.
use Rattle.std.proofs.Common.{◌≡◌, sym, ◌∙◌, ap, ℕ, ◌+◌, ◌<◌, List, ◌∷◌, map, drop, length, get_or, add_assoc, Option, Result, Ok, Err, IfOk}
use Rattle.std.proofs.lemmas.List.{drop_more}
use Rattle.std.specs.List.{flat_map}
use Rattle.mf_model.specs.declared.form.Typed.{Typed}
use Rattle.mf_types.specs.declared.least.Fault.{Fault}
use Rattle.mf_types.specs.Conditions.{all_faults, both_faults}
use Rattle.mf_types.specs.Expressions.{Seen, changes, changing, part_faults}
use Rattle.mf_types.specs.Faults.{after}
use Rattle.mf_types.specs.Quantified.{inside, quantified, variable_faults}
use Rattle.mf_types.specs.Scopes.{Scope}
use Rattle.mf_types.specs.Sites.{Site}
use Rattle.mf_types.proofs.After.{after_append}

-- the item at a place begins the rest
pub next_item : {A : Type 0} (xs : List A) (i : ℕ) (x : A) → i < length xs → x ≡ get_or xs i x → drop i xs ≡ x ∷ drop (i + 1) xs
next_item xs i x within is = drop_more xs i x within ∙ ap (λ y. y ∷ drop (i + 1) xs) (sym is)

-- the items' faults in order
pub items_more : {A : Type 0} (f : A → List Fault) (xs : List A) (i : ℕ) (x : A) (best next total : Option Fault) → i < length xs → x ≡ get_or xs i x → next ≡ after best (f x) → after best (flat_map f (drop i xs)) ≡ total → after next (flat_map f (drop (i + 1) xs)) ≡ total
items_more f xs i x best next total within is step so_far =
    ap (λ b. after b (flat_map f (drop (i + 1) xs))) step
    ∙ after_append best (f x) (flat_map f (drop (i + 1) xs))
    ∙ ap (λ ys. after best (flat_map f ys)) (sym (next_item xs i x within is))
    ∙ so_far

pub count_more : {A : Type 0} (f : A → Seen) (xs : List A) (i : ℕ) (x : A) (count more total : ℕ) → i < length xs → x ≡ get_or xs i x → more ≡ changes (f x).constant → count + changing (map f (drop i xs)) ≡ total → count + more + changing (map f (drop (i + 1) xs)) ≡ total
count_more f xs i x count more total within is one so_far =
    ap (λ m. count + m + changing (map f (drop (i + 1) xs))) one
    ∙ add_assoc count (changes (f x).constant) (changing (map f (drop (i + 1) xs)))
    ∙ ap (λ ys. count + changing (map f ys)) (sym (next_item xs i x within is))
    ∙ so_far

pub faults_more : {A : Type 0} (f : A → Seen) (xs : List A) (i : ℕ) (x : A) (scope : Scope) (best next total : Option Fault) → i < length xs → x ≡ get_or xs i x → next ≡ after best ((f x).faults scope) → after best (part_faults (map f (drop i xs)) scope) ≡ total → after next (part_faults (map f (drop (i + 1) xs)) scope) ≡ total
faults_more f xs i x scope best next total within is step so_far =
    ap (λ b. after b (part_faults (map f (drop (i + 1) xs)) scope)) step
    ∙ after_append best ((f x).faults scope) (part_faults (map f (drop (i + 1) xs)) scope)
    ∙ ap (λ ys. after best (part_faults (map f ys) scope)) (sym (next_item xs i x within is))
    ∙ so_far

-- one more part of a condition or an effect, under the same scope
pub parts_more : {A : Type 0} (f : A → Scope → List Fault) (xs : List A) (i : ℕ) (x : A) (scope now : Scope) (best next total : Option Fault) → i < length xs → x ≡ get_or xs i x → now ≡ scope → next ≡ after best (f x now) → after best (all_faults (map f (drop i xs)) scope) ≡ total → after next (all_faults (map f (drop (i + 1) xs)) scope) ≡ total
parts_more f xs i x scope now best next total within is same step so_far =
    ap (λ b. after b (all_faults (map f (drop (i + 1) xs)) scope)) (step ∙ ap (λ s. after best (f x s)) same)
    ∙ after_append best (f x scope) (all_faults (map f (drop (i + 1) xs)) scope)
    ∙ ap (λ ys. after best (all_faults (map f ys) scope)) (sym (next_item xs i x within is))
    ∙ so_far

-- a second part behind a first one, under the same scope
pub both_parts : {E : Type 0} (result : Result (Option Fault) E) (first second : Scope → List Fault) (scope now : Scope) (best next : Option Fault) → now ≡ scope → next ≡ after best (first scope) → IfOk result (λ b. b ≡ after next (second now)) → IfOk result (λ b. b ≡ after best (both_faults first second scope))
both_parts (Ok found) first second scope now best next same step rest =
    rest ∙ ap (λ s. after next (second s)) same ∙ ap (λ b. after b (second scope)) step ∙ after_append best (first scope) (second scope)
both_parts (Err e) first second scope now best next same step rest = rest

-- the part of a quantifier behind its variables
pub quantified_is : (site : Site) (items : List Typed) (part : Scope → List Fault) (scope now : Scope) (outer : ℕ) (best next last : Option Fault) → outer ≡ length scope → next ≡ after best (variable_faults site outer items) → now ≡ inside site scope items → last ≡ after next (part now) → last ≡ after best (quantified site items part scope)
quantified_is site items part scope now outer best next last few own entered rest =
    rest
    ∙ ap (λ s. after next (part s)) entered
    ∙ ap (λ b. after b (part (inside site scope items))) (own ∙ ap (λ n. after best (variable_faults site n items)) few)
    ∙ after_append best (variable_faults site (length scope) items) (part (inside site scope items))
