-- The first start value of a term, found by the table of terms.
use Rattle.std.proofs.Common.{◌≡◌, ℕ, suc, ◌+◌, ◌<◌, Bool, true, false, not, cond, ◌||◌, if◌then◌else◌, Option, Some, None, is_some, List, [], ◌∷◌, ◌++◌, map, drop, length, get_or, refl, sym, ap, ◌∙◌, arith}
use Rattle.std.specs.Cmp.Lexicographic.{pointwise}
use Rattle.std.specs.List.{list_any, position_or_len, slice_get}
use Rattle.std.specs.Str.{bytes_eq}
use Rattle.std.proofs.lemmas.List.{drop_more}
use Rattle.mf_model.specs.declared.form.FileKind.TheVariants.{ProblemFile}
use Rattle.mf_model.specs.declared.form.RawValue.{RawValue}
use Rattle.mf_types.specs.declared.least.Fault.{Fault}
use Rattle.mf_types.specs.Expressions.{wide_at}
use Rattle.mf_types.specs.Faults.{after}
use Rattle.mf_types.specs.StartValues.{differs_at, first_of, same_term, term_names, value_faults_behind, with_value}
use Rattle.mf_types.proofs.After.{after_append}

abbrev is_of : List (List ℕ) → List (List ℕ) → Bool
is_of names key = pointwise bytes_eq names key

-- the table of terms against the first values of each term

none_step : (first : RawValue) (b any : Bool) (rest : Option RawValue) → (any ≡ false → rest ≡ None) → (b || any) ≡ false → (if b then Some first else rest) ≡ None
none_step first true any rest h e = cc
none_step first false any rest h e = h e

no_first : (firsts : List RawValue) (v : RawValue) → list_any (is_of (term_names v)) (map term_names firsts) ≡ false → first_of firsts v ≡ None
no_first [] v e = refl
no_first (first ∷ firsts) v e = none_step first (same_term v first) (list_any (is_of (term_names v)) (map term_names firsts)) (first_of firsts v) (λ h. no_first firsts v h) e

past_one : (first : RawValue) (firsts : List RawValue) (n : ℕ) → slice_get firsts n ≡ slice_get (first ∷ firsts) (1 + n)
past_one first firsts n = let same : 1 + n ≡ suc n = omega arith in ap (λ (m : ℕ). slice_get (first ∷ firsts) m) (sym same)

place_step : (first : RawValue) (firsts : List RawValue) (b any : Bool) (n : ℕ) (rest : Option RawValue) → (any ≡ true → rest ≡ slice_get firsts n) → (b || any) ≡ true → (if b then Some first else rest) ≡ slice_get (first ∷ firsts) (cond (not b) (1 + n) 0)
place_step first firsts true any n rest h e = refl
place_step first firsts false any n rest h e = h e ∙ past_one first firsts n

first_there : (firsts : List RawValue) (v : RawValue) → list_any (is_of (term_names v)) (map term_names firsts) ≡ true → first_of firsts v ≡ slice_get firsts (position_or_len (is_of (term_names v)) (map term_names firsts))
first_there [] v e = cc
first_there (first ∷ firsts) v e = place_step first firsts (same_term v first) (list_any (is_of (term_names v)) (map term_names firsts)) (position_or_len (is_of (term_names v)) (map term_names firsts)) (first_of firsts v) (λ h. first_there firsts v h) e

not_false : (b r : Bool) → r ≡ not b → r ≡ true → b ≡ false
not_false true r e f = cc
not_false false r e f = refl

not_true : (b r : Bool) → r ≡ not b → r ≡ false → b ≡ true
not_true true r e f = refl
not_true false r e f = cc

any_is : (firsts : List RawValue) (v : RawValue) (keys : List (List (List ℕ))) (names : List (List ℕ)) → keys ≡ map term_names firsts → names ≡ term_names v → list_any (is_of names) keys ≡ list_any (is_of (term_names v)) (map term_names firsts)
any_is firsts v keys names k n = ap (λ (ks : List (List (List ℕ))). list_any (is_of names) ks) k ∙ ap (λ (ns : List (List ℕ)). list_any (is_of ns) (map term_names firsts)) n

-- where the table took the term as a new one
pub new_term : (firsts : List RawValue) (v : RawValue) (keys : List (List (List ℕ))) (names : List (List ℕ)) (new : Bool) → keys ≡ map term_names firsts → names ≡ term_names v → new ≡ not (list_any (is_of names) keys) → new ≡ true → first_of firsts v ≡ None
new_term firsts v keys names new k n added told = no_first firsts v (sym (any_is firsts v keys names k n) ∙ not_false (list_any (is_of names) keys) new added told)

-- where it stood in the table
pub old_term : (firsts : List RawValue) (v : RawValue) (keys : List (List (List ℕ))) (names : List (List ℕ)) (new : Bool) (n : ℕ) → keys ≡ map term_names firsts → names ≡ term_names v → new ≡ not (list_any (is_of names) keys) → new ≡ false → n ≡ position_or_len (is_of names) keys → first_of firsts v ≡ slice_get firsts n
old_term firsts v keys names new n k m added told place =
    first_there firsts v (sym (any_is firsts v keys names k m) ∙ not_true (list_any (is_of names) keys) new added told)
    ∙ sym (ap (slice_get firsts) (place ∙ (ap (λ (ks : List (List (List ℕ))). position_or_len (is_of names) ks) k ∙ ap (λ (ns : List (List ℕ)). position_or_len (is_of ns) (map term_names firsts)) m)))

-- there is a first value where the term stood in the table
pub stood : (firsts : List RawValue) (v : RawValue) (keys : List (List (List ℕ))) (names : List (List ℕ)) (new : Bool) → keys ≡ map term_names firsts → names ≡ term_names v → new ≡ not (list_any (is_of names) keys) → new ≡ false → is_some (first_of firsts v) ≡ true
stood firsts v keys names new k m added told = some_first firsts (sym (any_is firsts v keys names k m) ∙ not_true (list_any (is_of names) keys) new added told)
  where
    some_step : (first : RawValue) (b any : Bool) (rest : Option RawValue) → (any ≡ true → is_some rest ≡ true) → (b || any) ≡ true → is_some (if b then Some first else rest) ≡ true
    some_step first true any rest h e = refl
    some_step first false any rest h e = h e

    some_first : (values : List RawValue) → list_any (is_of (term_names v)) (map term_names values) ≡ true → is_some (first_of values v) ≡ true
    some_first [] e = cc
    some_first (first ∷ values) e = some_step first (same_term v first) (list_any (is_of (term_names v)) (map term_names values)) (first_of values v) (λ h. some_first values h) e

pub kept_new : (firsts next : List RawValue) (v : RawValue) → first_of firsts v ≡ None → next ≡ firsts ++ v ∷ [] → next ≡ with_value firsts v
kept_new firsts next v none e = e ∙ sym (ap (λ (r : Option RawValue). if is_some r then firsts else firsts ++ v ∷ []) none)

pub kept_old : (firsts : List RawValue) (v : RawValue) → is_some (first_of firsts v) ≡ true → firsts ≡ with_value firsts v
kept_old firsts v there = sym (ap (λ (b : Bool). if b then firsts else firsts ++ v ∷ []) there)

-- one more start value
pub values_more : (values : List RawValue) (i : ℕ) (v : RawValue) (firsts next : List RawValue) (best second third total : Option Fault)
    → i < length values → v ≡ get_or values i v → second ≡ after best (differs_at (first_of firsts v) v) → next ≡ with_value firsts v → third ≡ after second (wide_at ProblemFile v.value)
    → after best (value_faults_behind firsts (drop i values)) ≡ total → after third (value_faults_behind next (drop (i + 1) values)) ≡ total
values_more values i v firsts next best second third total within is a b c so_far =
    let rest = value_faults_behind (with_value firsts v) (drop (i + 1) values) in
    let one = differs_at (first_of firsts v) v ++ wide_at ProblemFile v.value in
    let here : third ≡ after best one = c ∙ (ap (λ (f : Option Fault). after f (wide_at ProblemFile v.value)) a ∙ after_append best (differs_at (first_of firsts v) v) (wide_at ProblemFile v.value)) in
    let next_item : drop i values ≡ v ∷ drop (i + 1) values = drop_more values i v within ∙ ap (λ (x : RawValue). x ∷ drop (i + 1) values) (sym is) in
    ap (λ (f : Option Fault). after f (value_faults_behind next (drop (i + 1) values))) here
    ∙ (ap (λ (fs : List RawValue). after (after best one) (value_faults_behind fs (drop (i + 1) values))) b
    ∙ (after_append best one rest
    ∙ (ap (λ (vs : List RawValue). after best (value_faults_behind firsts vs)) (sym next_item) ∙ so_far)))
