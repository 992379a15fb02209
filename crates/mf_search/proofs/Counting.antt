-- How many states were opened, against how many were taken.
use Rattle.std.proofs.Common.{◌≡◌, ◌≢◌, ℕ, ◌<◌, ◌≤◌, ◌++◌, false, true, eqb, suc, List, [], ◌∷◌, Contains, length, get_or, sym, subst, ⊎_elim, arith}
use Rattle.std.specs.List.{list_any, AllByRecursion, IsDistinct}
use Rattle.std.proofs.lemmas.Bool.{or_cases, eqb-true, ne_eqb, false≢true}
use Rattle.std.proofs.lemmas.List.{length_push}
use Rattle.std.proofs.lemmas.List.Elements.{Contains-push_cases}
use Rattle.std.proofs.lemmas.Map.Steps.{length-le_from_distinct_below}
use Rattle.mf_search.specs.declared.status.Status.TheVariants.{Budget}
use Rattle.mf_search.specs.Space.{Space}
use Rattle.mf_search.specs.World.{AllDifferent, World, IsOpen}
use Rattle.mf_search.specs.Answers.{Answers}
use Rattle.mf_search.proofs.Members.{in_first, in_later}
use Rattle.mf_search.proofs.Sound.{Sound, once_push}

-- Different numbers below n are at most n many.
any_contains : (xs : List ℕ) (q : ℕ) → list_any (eqb q) xs ≡ true → Contains xs q
any_contains [] q h = absurd (false≢true h)
any_contains (x ∷ xs) q h = ⊎_elim (λ (e : eqb q x ≡ true). subst (λ z. Contains (x ∷ xs) z) (sym (eqb-true q x e)) (in_first x xs)) (λ k. in_later x xs q (any_contains xs q k)) (or_cases (eqb q x) (list_any (eqb q) xs) h)

others_differ : (x : ℕ) (xs : List ℕ) → ((k : ℕ) → k < length xs → x ≢ get_or xs k 0) → AllByRecursion (λ y. eqb x y ≡ false) xs
others_differ x [] differs = tt
others_differ x (y ∷ ys) differs = (ne_eqb x y (differs 0 (omega arith)), others_differ x ys (λ k h. differs (suc k) (omega arith)))

distinct_from : (xs : List ℕ) → AllDifferent xs → IsDistinct eqb xs
unfolding IsDistinct
distinct_from [] apart = tt
distinct_from (x ∷ xs) apart =
    (others_differ x xs (λ k h. apart 0 (suc k) 0 (omega arith) (omega arith)), distinct_from xs (λ i j d low h. apart (suc i) (suc j) d (omega arith) (omega arith)))

pub few_below : (xs : List ℕ) (n : ℕ) → AllDifferent xs → ((k : ℕ) → Contains xs k → k < n) → length xs ≤ n
few_below xs n apart below = length-le_from_distinct_below xs n (distinct_from xs apart) (λ q h. below q (any_contains xs q h))

-- Where a state is open more states were opened than taken.
pub more_than_taken : {S : Type 0} (sp : Space S) (w : World S) (i : ℕ) → Sound sp w → IsOpen w i → length w.taken < length w.opened
more_than_taken {S} sp w i s left =
    let few : length (w.taken ++ i ∷ []) ≤ length w.opened = few_below (w.taken ++ i ∷ []) (length w.opened) (once_push w.taken i s.once left.1) below in
    let pushed = length_push w.taken i in
    omega arith
  where
    below : (k : ℕ) → Contains (w.taken ++ i ∷ []) k → k < length w.opened
    below k c = ⊎_elim (s.in_range k) (λ (e : i ≡ k). subst (λ t. t < length w.opened) e left.0) (Contains-push_cases w.taken i k c)

pub budget_spent : {S : Type 0} (sp : Space S) (budget : ℕ) (w : World S) → Sound sp w → Answers budget w Budget → budget < length w.opened
budget_spent sp budget w s answer = let more = more_than_taken sp w answer.3.0 s answer.3.1 in let count = answer.2 in omega arith
