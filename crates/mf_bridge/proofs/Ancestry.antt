-- The types from which a type descends are closed: where one of them descends from another type, the type does.
use Rattle.std.proofs.Common.{◌≡◌, ℕ, zero, suc, ◌+◌, ◌-◌, ◌<◌, ◌≤◌, ◌⊎◌, inl, inr, Bool, true, false, ◌||◌, eqb, nat_eq, List, [], ◌∷◌, length, slice_index_or, refl, sym, ap, ◌∙◌, arith}
use Rattle.std.specs.Prelude.{if◌then◌else◌}
use Rattle.std.specs.List.{list_any, AllByRecursion, IsDistinct}
use Rattle.std.proofs.lemmas.Bool.{false≢true, cases_lt, eqb-true, eq-eqb, or_right}
use Rattle.std.proofs.lemmas.Map.Steps.{length-le_from_distinct_below}
use Rattle.mf_model.specs.Objects.{ancestors, member}

-- one step up, from `object` to itself
up_by : (parents : List ℕ) → Bool → ℕ → ℕ
up_by parents true t = t
up_by parents false t = slice_index_or parents t 0

abbrev step : List ℕ → ℕ → ℕ
step parents t = up_by parents (nat_eq t 0) t

abbrev climb : List ℕ → ℕ → ℕ → ℕ
climb parents zero t = t
climb parents (suc n) t = climb parents n (step parents t)

climb-add : (parents : List ℕ) (m n t : ℕ) → climb parents (m + n) t ≡ climb parents n (climb parents m t)
climb-add parents zero n t =
    let same : zero + n ≡ n = omega arith in
    ap (λ k. climb parents k t) same
climb-add parents (suc m) n t =
    let next : suc m + n ≡ suc (m + n) = omega arith in
    ap (λ k. climb parents k t) next ∙ climb-add parents m n (step parents t)

climb-last : (parents : List ℕ) (n t : ℕ) → climb parents (suc n) t ≡ step parents (climb parents n t)
climb-last parents zero t = refl
climb-last parents (suc n) t = climb-last parents n (step parents t)

-- a type that is reached in fewer than n steps
record IsMet (parents : List ℕ) (w n t : ℕ) : Type 0 where
  steps : ℕ
  within : steps < n
  there : climb parents steps t ≡ w

-- the ancestors are the types that are met

climb_top : (parents : List ℕ) (n : ℕ) → climb parents n 0 ≡ 0
unfolding up_by
climb_top parents zero = refl
climb_top parents (suc n) = climb_top parents n

met_from_member : (parents : List ℕ) (n t w : ℕ) → member w (ancestors parents n t) ≡ true → IsMet parents w n t
unfolding up_by
met_from_member parents zero t w e = absurd (false≢true e)
met_from_member parents (suc n) t w e = by (nat_eq w t) (nat_eq t 0) refl refl e (met_from_member parents n (slice_index_or parents t 0) w)
  where
    by : (here top : Bool) → nat_eq w t ≡ here → nat_eq t 0 ≡ top → (here || member w (if top then [] else ancestors parents n (slice_index_or parents t 0))) ≡ true → (member w (ancestors parents n (slice_index_or parents t 0)) ≡ true → IsMet parents w n (slice_index_or parents t 0)) → IsMet parents w (suc n) t
    by true top h z e rest = record { steps = 0; within = omega arith; there = sym (eqb-true w t h) }
    by false true h z e rest = absurd (false≢true e)
    by false false h z e rest =
        let met = rest e in
        let below = met.within in
        record { steps = suc met.steps; within = omega (arith, below); there = ap (λ (b : Bool). climb parents met.steps (up_by parents b t)) z ∙ met.there }

member_from_met : (parents : List ℕ) (n t w i : ℕ) → i < n → climb parents i t ≡ w → member w (ancestors parents n t) ≡ true
unfolding up_by
member_from_met parents zero t w i h e = absurd (omega (arith, h))
member_from_met parents (suc n) t w zero h e = ap (λ (b : Bool). b || member w (if nat_eq t 0 then [] else ancestors parents n (slice_index_or parents t 0))) (eq-eqb w t (sym e))
member_from_met parents (suc n) t w (suc i) h e = by (nat_eq t 0) refl (member_from_met parents n (slice_index_or parents t 0) w i (omega (arith, h)))
  where
    by : (top : Bool) → nat_eq t 0 ≡ top → (climb parents i (slice_index_or parents t 0) ≡ w → member w (ancestors parents n (slice_index_or parents t 0)) ≡ true) → (nat_eq w t || member w (if top then [] else ancestors parents n (slice_index_or parents t 0))) ≡ true
    by true z rest =
        let none : t ≡ 0 = eqb-true t 0 z in
        let same : w ≡ t = sym e ∙ ap (λ (b : Bool). climb parents i (up_by parents b t)) z ∙ ap (climb parents i) none ∙ climb_top parents i ∙ sym none in
        ap (λ (b : Bool). b || false) (eq-eqb w t same)
    by false z rest = or_right (nat_eq w t) _ (rest (sym (ap (λ (b : Bool). climb parents i (up_by parents b t)) z) ∙ e))

-- among one step more than there are types, two are the same

abbrev trail : List ℕ → ℕ → ℕ → List ℕ
trail parents zero t = []
trail parents (suc n) t = t ∷ trail parents n (step parents t)

length_trail : (parents : List ℕ) (n t : ℕ) → length (trail parents n t) ≡ n
length_trail parents zero t = refl
length_trail parents (suc n) t = ap suc (length_trail parents n (step parents t))

abbrev IsApart : ℕ → List ℕ → Type 0
IsApart w ts = AllByRecursion (λ t. eqb w t ≡ false) ts

apart_or_met : (parents : List ℕ) (w n t : ℕ) → IsApart w (trail parents n t) ⊎ IsMet parents w n t
apart_or_met parents w zero t = inl tt
apart_or_met parents w (suc n) t = by (eqb w t) refl (apart_or_met parents w n (step parents t))
  where
    by : (b : Bool) → eqb w t ≡ b → IsApart w (trail parents n (step parents t)) ⊎ IsMet parents w n (step parents t) → IsApart w (trail parents (suc n) t) ⊎ IsMet parents w (suc n) t
    by true e rest = inr (record { steps = 0; within = omega arith; there = sym (eqb-true w t e) })
    by false e (inl apart) = inl (e, apart)
    by false e (inr met) = let below = met.within in inr (record { steps = suc met.steps; within = omega (arith, below); there = met.there })

record Repeats (parents : List ℕ) (n t : ℕ) : Type 0 where
  first : ℕ
  second : ℕ
  before : first < second
  within : second < n
  same : climb parents first t ≡ climb parents second t

distinct_or_repeats : (parents : List ℕ) (n t : ℕ) → IsDistinct eqb (trail parents n t) ⊎ Repeats parents n t
unfolding IsDistinct
distinct_or_repeats parents zero t = inl tt
distinct_or_repeats parents (suc n) t = by (apart_or_met parents t n (step parents t)) (distinct_or_repeats parents n (step parents t))
  where
    by : IsApart t (trail parents n (step parents t)) ⊎ IsMet parents t n (step parents t) → IsDistinct eqb (trail parents n (step parents t)) ⊎ Repeats parents n (step parents t) → IsDistinct eqb (trail parents (suc n) t) ⊎ Repeats parents (suc n) t
    by (inl apart) (inl distinct) = inl (apart, distinct)
    by (inl apart) (inr r) =
        let order = r.before in
        let below = r.within in
        inr (record { first = suc r.first; second = suc r.second; before = omega (arith, order); within = omega (arith, below); same = r.same })
    by (inr met) rest =
        let below = met.within in
        inr (record { first = 0; second = suc met.steps; before = omega arith; within = omega (arith, below); same = sym met.there })

module _ (parents : List ℕ) (most : ℕ) (inside : (t : ℕ) → slice_index_or parents t 0 < most) where
  step_below : (t : ℕ) → t < most → step parents t < most
  unfolding up_by
  step_below t h = by (nat_eq t 0)
    where
      by : (b : Bool) → up_by parents b t < most
      by true = h
      by false = inside t

  trail_below : (n t : ℕ) → t < most → (q : ℕ) → list_any (eqb q) (trail parents n t) ≡ true → q < most
  trail_below zero t h q e = absurd (false≢true e)
  trail_below (suc n) t h q e = by (eqb q t) refl (trail_below n (step parents t) (step_below t h) q) e
    where
      by : (b : Bool) → eqb q t ≡ b → (list_any (eqb q) (trail parents n (step parents t)) ≡ true → q < most) → (b || list_any (eqb q) (trail parents n (step parents t))) ≡ true → q < most
      by true same rest e = let is = eqb-true q t same in omega (arith, is, h)
      by false other rest e = rest e

  repeats : (t : ℕ) → t < most → Repeats parents (suc most) t
  repeats t h = by (distinct_or_repeats parents (suc most) t)
    where
      by : IsDistinct eqb (trail parents (suc most) t) ⊎ Repeats parents (suc most) t → Repeats parents (suc most) t
      by (inr r) = r
      by (inl distinct) =
          let count = length-le_from_distinct_below (trail parents (suc most) t) most distinct (trail_below (suc most) t h) in
          let long = length_trail parents (suc most) t in
          absurd (omega (arith, count, long))

  -- the type after as many steps as there are types was met before
  again : (t : ℕ) → t < most → IsMet parents (climb parents most t) most t
  again t h =
      let r = repeats t h in
      let order = r.before in
      let below = r.within in
      let rest : ℕ = most - r.second in
      let whole : r.second + rest ≡ most = omega (arith, below) in
      record {
        steps = r.first + rest;
        within = omega (arith, order, below);
        there = climb-add parents r.first rest t ∙ ap (climb parents rest) r.same ∙ sym (climb-add parents r.second rest t) ∙ ap (λ n. climb parents n t) whole;
      }

  met_before : (t : ℕ) → t < most → (n : ℕ) → IsMet parents (climb parents n t) most t
  met_before t h zero = record { steps = 0; within = omega (arith, h); there = refl }
  met_before t h (suc n) = next (met_before t h n)
    where
      on : (i : ℕ) → i < most → climb parents i t ≡ climb parents n t → (suc i < most) ⊎ (suc i ≡ most) → IsMet parents (climb parents (suc n) t) most t
      on i below there (inl more) = record { steps = suc i; within = more; there = climb-last parents i t ∙ ap (step parents) there ∙ sym (climb-last parents n t) }
      on i below there (inr last) =
          let back = again t h in
          record {
            steps = back.steps;
            within = back.within;
            there = back.there ∙ sym (ap (λ k. climb parents k t) last) ∙ climb-last parents i t ∙ ap (step parents) there ∙ sym (climb-last parents n t);
          }

      order : (i : ℕ) → i < most → (suc i < most) ⊎ (suc i ≡ most)
      order i below = by (cases_lt (suc i) most)
        where
          by : (suc i < most) ⊎ (most ≤ suc i) → (suc i < most) ⊎ (suc i ≡ most)
          by (inl more) = inl more
          by (inr last) = inr (omega (arith, below, last))

      next : IsMet parents (climb parents n t) most t → IsMet parents (climb parents (suc n) t) most t
      next met = on met.steps met.within met.there (order met.steps met.within)

  pub ancestors_closed : (t : ℕ) → t < most → (u a : ℕ) → member u (ancestors parents most t) ≡ true → member a (ancestors parents most u) ≡ true → member a (ancestors parents most t) ≡ true
  ancestors_closed t h u a one other =
      let there = met_from_member parents most t u one in
      let above = met_from_member parents most u a other in
      let met = met_before t h (there.steps + above.steps) in
      let same = climb-add parents there.steps above.steps t ∙ ap (climb parents above.steps) there.there ∙ above.there in
      member_from_met parents most t a met.steps met.within (met.there ∙ same)
