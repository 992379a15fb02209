-- Looking for the open state of least value.
use Rattle.std.proofs.Common.{◌≡◌, ℕ, ◌+◌, ◌<◌, ◌≤◌, ◌⊎◌, Bool, true, false, List, Option, Some, None, get_or, refl, sym, ◌∙◌, inl, inr, ⊎_elim, subst, arith}
use Rattle.std.proofs.lemmas.Bool.{false≢true, cases_lt}
use Rattle.mf_plain.specs.UnderWay.{IsLeast}

-- what is known of each number below n + 1
abbrev Leads : List ℕ → List Bool → ℕ → ℕ → Type 0
Leads values flags i j = get_or flags j false ≡ false → (get_or values i 0 < get_or values j 0) ⊎ (get_or values i 0 ≡ get_or values j 0) × (i ≤ j)

one_more : (P : ℕ → Type 0) (n : ℕ) → ((j : ℕ) → j < n → P j) → P n → (j : ℕ) → j < n + 1 → P j
one_more P n below here j h = ⊎_elim (below j) (λ (e : n ≤ j). let same : n ≡ j = omega arith in subst P same here) (cases_lt j n)

-- the state n was taken
pub least_skip : (values : List ℕ) (flags : List Bool) (n : ℕ) (best : Option ℕ) → get_or flags n false ≡ true → IsLeast values flags n best → IsLeast values flags (n + 1) best
least_skip values flags n None t b = one_more (λ j. get_or flags j false ≡ true) n b t
least_skip values flags n (Some i) t b = (let l = b.0 in omega arith, b.1, one_more (Leads values flags i) n b.2 (λ f. absurd (false≢true (sym f ∙ t))))

-- the state n is open, and better than the best so far
pub least_first : (values : List ℕ) (flags : List Bool) (n : ℕ) → get_or flags n false ≡ false → IsLeast values flags n None → IsLeast values flags (n + 1) (Some n)
least_first values flags n f b = (omega arith, f, one_more (Leads values flags n) n (λ j h g. absurd (false≢true (sym g ∙ b j h))) (λ g. inr (refl, omega arith)))

pub least_better : (values : List ℕ) (flags : List Bool) (n i : ℕ) → get_or flags n false ≡ false → get_or values n 0 < get_or values i 0 → IsLeast values flags n (Some i) → IsLeast values flags (n + 1) (Some n)
least_better values flags n i f l b = (omega arith, f, one_more (Leads values flags n) n (λ j h g. inl (less j (b.2 j h g))) (λ g. inr (refl, omega arith)))
  where
    less : (j : ℕ) → (get_or values i 0 < get_or values j 0) ⊎ (get_or values i 0 ≡ get_or values j 0) × (i ≤ j) → get_or values n 0 < get_or values j 0
    less j (inl a) = omega arith
    less j (inr a) = let e = a.0 in omega arith

-- the state n is open, and no better
pub least_worse : (values : List ℕ) (flags : List Bool) (n i : ℕ) → (get_or values n 0 < get_or values i 0 → ⊥) → IsLeast values flags n (Some i) → IsLeast values flags (n + 1) (Some i)
least_worse values flags n i w b = (let l = b.0 in omega arith, b.1, one_more (Leads values flags i) n b.2 (λ g. ⊎_elim (λ (l : get_or values i 0 < get_or values n 0). inl l) (λ (l : get_or values n 0 ≤ get_or values i 0). inr (let m = b.0 in (omega arith, omega arith))) (cases_lt (get_or values i 0) (get_or values n 0))))
