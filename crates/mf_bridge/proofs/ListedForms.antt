-- The number of a form that is listed is that of the form itself.
use Rattle.std.proofs.Common.{◌≡◌, ℕ, suc, ◌+◌, ◌<◌, Bool, true, false, not, ◌||◌, cond, List, [], ◌∷◌, ◌++◌, length, get_or, Some, None, refl, sym, ap, ◌∙◌, arith}
use Rattle.std.specs.Prelude.{if◌then◌else◌, position}
use Rattle.std.specs.Bool.{Decides}
use Rattle.std.specs.List.{fold, list_any, position_or_len}
use Rattle.std.proofs.lemmas.Bool.{false≢true, lt-ltb, or_left}
use Rattle.std.proofs.lemmas.Bool.Decides.{Decides-and, Decides-eqb, Decides-like}
use Rattle.std.proofs.lemmas.List.Folds.{list_any-append}
use Rattle.std.proofs.lemmas.Slice.Eq.{slice_eq-Decides}
use Rattle.mf_store.specs.SameRows.{same_number-Decides}
use Rattle.mf_task.specs.declared.form.Form.{Form}
use Rattle.mf_task.specs.declared.form.Part.{Part}
use Rattle.mf_bridge.specs.ListedForms.{AreListed, IsListed}
use Rattle.mf_task.specs.Grounding.{form_number, place_or_end, same_form, same_part, with_form}

-- the first place at which a test passes

record IsFoundAt {X : Type 0} (test : X → Bool) (xs : List X) (d : X) (n : ℕ) : Type 0 where
  before : n < length xs
  passes : test (get_or xs n d) ≡ true

found : {X : Type 0} (test : X → Bool) (xs : List X) (d : X) → list_any test xs ≡ true → IsFoundAt test xs d (position_or_len test xs)
found test [] d e = absurd (false≢true e)
found {X} test (x ∷ xs) d e = by (found test xs d) (test x) refl e
  where
    by : (list_any test xs ≡ true → IsFoundAt test xs d (position_or_len test xs)) → (here : Bool) → test x ≡ here → (here || list_any test xs) ≡ true → IsFoundAt test (x ∷ xs) d (cond (not here) (1 + position_or_len test xs) 0)
    by rest true h e = record { before = omega arith; passes = h }
    by rest false h e =
        let there = rest e in
        let below = there.before in
        record { before = omega (arith, below); passes = ap (λ n. test (get_or (x ∷ xs) n d)) next ∙ there.passes }
      where
        next : 1 + position_or_len test xs ≡ suc (position_or_len test xs)
        next = omega arith

pub found_place : {X : Type 0} (test : X → Bool) (xs : List X) (d : X) → list_any test xs ≡ true → test (get_or xs (place_or_end (position test xs) (length xs)) d) ≡ true
found_place test xs d e =
    let at = found test xs d e in
    let place : place_or_end (position test xs) (length xs) ≡ position_or_len test xs = ap (λ (b : Bool). place_or_end (cond b (Some (position_or_len test xs)) None) (length xs)) (lt-ltb (position_or_len test xs) (length xs) at.before) in
    ap (λ n. test (get_or xs n d)) place ∙ at.passes

-- lists of forms

same_part-Decides : (p q : Part) → Decides (same_part p q) (p ≡ q)
same_part-Decides p q =
    Decides-like (same_part p q) (λ (e : (p.coefficient ≡ q.coefficient) × (p.term ≡ q.term)). λ i. record { coefficient = e.0 i; term = e.1 i }) (λ e. (ap (λ r. r.coefficient) e, ap (λ r. r.term) e))
    (Decides-and _ _ (same_number-Decides p.coefficient q.coefficient) (Decides-eqb p.term q.term))

same_form-Decides : (a b : Form) → Decides (same_form a b) (a ≡ b)
same_form-Decides a b =
    Decides-like (same_form a b) (λ (e : (a.constant ≡ b.constant) × (a.parts ≡ b.parts)). λ i. record { constant = e.0 i; parts = e.1 i }) (λ e. (ap (λ r. r.constant) e, ap (λ r. r.parts) e))
    (Decides-and _ _ (same_number-Decides a.constant b.constant) (slice_eq-Decides same_part-Decides a.parts b.parts _ refl))

pub listed_number : (forms : List Form) (a d : Form) → IsListed forms a → get_or forms (form_number forms a) d ≡ a
listed_number forms a d listed = sym ((same_form-Decides a _).0 (found_place (same_form a) forms d listed))

more_lists : (forms : List Form) (b : Form) → IsListed (with_form forms b) b
more_lists forms b = by (list_any (same_form b) forms) refl
  where
    own : same_form b b ≡ true
    own = (same_form-Decides b b).1 refl

    last : (there : Bool) → (there || (same_form b b || false)) ≡ true
    last true = refl
    last false = ap (λ (x : Bool). x || false) own

    by : (there : Bool) → list_any (same_form b) forms ≡ there → IsListed (if there then forms else forms ++ b ∷ []) b
    by true e = e
    by false e = list_any-append (same_form b) forms (b ∷ []) ∙ last (list_any (same_form b) forms)

more_keeps : (forms : List Form) (a b : Form) → IsListed forms a → IsListed (with_form forms b) a
more_keeps forms a b listed = by (list_any (same_form b) forms)
  where
    by : (there : Bool) → IsListed (if there then forms else forms ++ b ∷ []) a
    by true = listed
    by false = list_any-append (same_form a) forms (b ∷ []) ∙ or_left (list_any (same_form a) forms) (list_any (same_form a) (b ∷ [])) listed

fold_keeps : (forms : List Form) (a : Form) (others : List Form) → IsListed forms a → IsListed (fold with_form forms others) a
fold_keeps forms a [] listed = listed
fold_keeps forms a (b ∷ others) listed = fold_keeps (with_form forms b) a others (more_keeps forms a b listed)

pub fold_lists : (forms others : List Form) → AreListed (fold with_form forms others) others
fold_lists forms [] = tt
fold_lists forms (a ∷ others) = (fold_keeps (with_form forms a) a others (more_lists forms a), fold_lists (with_form forms a) others)
