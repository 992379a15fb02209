-- A type from which type 0 is never met on the way up leads to a cycle.
use Rattle.std.proofs.Common.{◌≡◌, ℕ, zero, suc, ◌<◌, ◌≤◌, ◌⊎◌, inl, inr, Bool, true, false, ◌&&◌, ◌||◌, if◌then◌else◌, eqb, nat_eq, List, [], ◌∷◌, length, slice_index_or, refl, sym, ap, ◌∙◌, arith}
use Rattle.std.specs.List.{list_any, AllByRecursion, IsDistinct}
use Rattle.std.proofs.lemmas.Bool.Decides.{Decides-eqb, nat_tests}
use Rattle.std.proofs.lemmas.Map.Steps.{length-le_from_distinct_below}
use Rattle.mf_model.specs.Objects.{ancestors, member}
use Rattle.mf_types.specs.Ascent.{parent_at, up, IsOnCycle}
use Rattle.mf_types.specs.Cycles.{is_top}

-- The first types on the way up: either no two are the same, or one of them is on a cycle

abbrev pub trail : List ℕ → ℕ → ℕ → List ℕ
trail parents zero t = []
trail parents (suc n) t = t ∷ trail parents n (parent_at parents t)

length_trail : (parents : List ℕ) (n t : ℕ) → length (trail parents n t) ≡ n
length_trail parents zero t = refl
length_trail parents (suc n) t = ap suc (length_trail parents n (parent_at parents t))

abbrev IsApart : ℕ → List ℕ → Type 0
IsApart w ts = AllByRecursion (λ t. eqb w t ≡ false) ts

pub record IsMet (parents : List ℕ) (w n t : ℕ) : Type 0 where
  pub steps : ℕ
  pub within : steps < n
  pub there : up parents steps t ≡ w

apart_or_met : (parents : List ℕ) (w n t : ℕ) → IsApart w (trail parents n t) ⊎ IsMet parents w n t
apart_or_met parents w zero t = inl tt
apart_or_met parents w (suc n) t = by (eqb w t) refl (apart_or_met parents w n (parent_at parents t))
  where
    by : (b : Bool) → eqb w t ≡ b → IsApart w (trail parents n (parent_at parents t)) ⊎ IsMet parents w n (parent_at parents t) → IsApart w (trail parents (suc n) t) ⊎ IsMet parents w (suc n) t
    by true e rest = inr (record { steps = 0; within = omega arith; there = sym ((Decides-eqb w t).0 e) })
    by false e (inl apart) = inl (e, apart)
    by false e (inr met) = inr (record { steps = suc met.steps; within = omega arith; there = met.there })

abbrev NeverTop : List ℕ → ℕ → ℕ → Type 0
NeverTop parents n t = (i : ℕ) → i < n → up parents i t ≡ 0 → ⊥

-- a type on a cycle without type 0
pub record HasCycle (parents : List ℕ) : Type 0 where
  pub type : ℕ
  pub on : IsOnCycle parents type
  pub other : type ≡ 0 → ⊥
  pub other_parent : parent_at parents type ≡ 0 → ⊥

not_top : (parents : List ℕ) (t : ℕ) → (t ≡ 0 → ⊥) → is_top parents t ≡ false
not_top parents t h = by (nat_eq t 0) refl
  where
    by : (b : Bool) → nat_eq t 0 ≡ b → (b && nat_eq (slice_index_or parents 0 0) 0) ≡ false
    by true e = absurd (h ((Decides-eqb t 0).0 e))
    by false e = refl

distinct_or_cycle : (parents : List ℕ) (n t : ℕ) → n ≤ length parents → NeverTop parents n t → IsDistinct eqb (trail parents n t) ⊎ HasCycle parents
unfolding IsDistinct
distinct_or_cycle parents zero t few never = inl tt
distinct_or_cycle parents (suc n) t few never =
    by (apart_or_met parents t n (parent_at parents t)) (distinct_or_cycle parents n (parent_at parents t) (omega arith) (λ i h e. never (suc i) (omega arith) e))
  where
    by : IsApart t (trail parents n (parent_at parents t)) ⊎ IsMet parents t n (parent_at parents t) → IsDistinct eqb (trail parents n (parent_at parents t)) ⊎ HasCycle parents → IsDistinct eqb (trail parents (suc n) t) ⊎ HasCycle parents
    by (inl apart) (inl distinct) = inl (apart, distinct)
    by (inl apart) (inr cycle) = inr cycle
    by (inr met) rest =
        inr (record {
          type = t;
          on = record { steps = suc met.steps; some = omega arith; few = omega arith; back = met.there; open_below = λ i h. not_top parents (up parents i t) (never i (omega arith)) };
          other = never 0 (omega arith);
          other_parent = never 1 (omega arith);
        })

-- Type 0 and as many types on the way up as there are types would be too many without a repetition

trail_below : (parents : List ℕ) (most : ℕ) → ((t : ℕ) → parent_at parents t < most) → (n t : ℕ) → t < most → (q : ℕ) → list_any (eqb q) (trail parents n t) ≡ true → q < most
trail_below parents most inside zero t h q e = let no : ⊥ = cc in absurd no
trail_below parents most inside (suc n) t h q e = by (eqb q t) refl (trail_below parents most inside n (parent_at parents t) (inside t) q) e
  where
    by : (b : Bool) → eqb q t ≡ b → (list_any (eqb q) (trail parents n (parent_at parents t)) ≡ true → q < most) → (b || list_any (eqb q) (trail parents n (parent_at parents t))) ≡ true → q < most
    by true same rest e = let is = (Decides-eqb q t).0 same in omega (arith, is, h)
    by false other rest e = rest e

too_many : (parents : List ℕ) (t : ℕ) → ((s : ℕ) → parent_at parents s < length parents) → t < length parents → IsApart 0 (trail parents (length parents) t) → IsDistinct eqb (trail parents (length parents) t) → ⊥
unfolding IsDistinct
too_many parents t inside h apart distinct =
    let n = length parents in
    let all = trail parents n t in
    let count = length-le_from_distinct_below (0 ∷ all) n (apart, distinct) below in
    let same = length_trail parents n t in
    omega (arith, count, same)
  where
    below : (q : ℕ) → list_any (eqb q) (0 ∷ trail parents (length parents) t) ≡ true → q < length parents
    below q e = by (eqb q 0) refl e
      where
        by : (b : Bool) → eqb q 0 ≡ b → (b || list_any (eqb q) (trail parents (length parents) t)) ≡ true → q < length parents
        by true same e = let is = (Decides-eqb q 0).0 same in omega (arith, is, h)
        by false other e = trail_below parents (length parents) inside (length parents) t h q e

cycle_below : (parents : List ℕ) (t : ℕ) → ((s : ℕ) → parent_at parents s < length parents) → t < length parents → NeverTop parents (length parents) t → HasCycle parents
cycle_below parents t inside h never = by (apart_or_met parents 0 (length parents) t) (distinct_or_cycle parents (length parents) t (omega arith) never)
  where
    by : IsApart 0 (trail parents (length parents) t) ⊎ IsMet parents 0 (length parents) t → IsDistinct eqb (trail parents (length parents) t) ⊎ HasCycle parents → HasCycle parents
    by (inr met) rest = absurd (never met.steps met.within met.there)
    by (inl apart) (inr cycle) = cycle
    by (inl apart) (inl distinct) = absurd (too_many parents t inside h apart distinct)

-- Ancestors

differs : (n m : ℕ) → nat_eq n m ≡ false → n ≡ m → ⊥
differs n m e h = let same = (Decides-eqb n m).1 h in let no : ⊥ = cc in no

turned : (n m : ℕ) → nat_eq n m ≡ false → nat_eq m n ≡ false
turned n m e = grind (arith, nat_tests)

never_top : (parents : List ℕ) (n t : ℕ) → member 0 (ancestors parents n t) ≡ false → NeverTop parents n t
never_top parents zero t e = λ i h z. absurd (omega arith)
never_top parents (suc n) t e = by (nat_eq 0 t) refl e (never_top parents n (parent_at parents t))
  where
    by : (b : Bool) → nat_eq 0 t ≡ b → (b || member 0 (if nat_eq t 0 then [] else ancestors parents n (parent_at parents t))) ≡ false
        → (member 0 (ancestors parents n (parent_at parents t)) ≡ false → NeverTop parents n (parent_at parents t)) → NeverTop parents (suc n) t
    by true top e rest i h z = let no : ⊥ = cc in absurd no
    by false other e rest zero h z = differs 0 t other (sym z)
    by false other e rest (suc i) h z =
        let kept = ap (λ (b : Bool). member 0 (if b then [] else ancestors parents n (parent_at parents t))) (turned 0 t other) in
        rest (sym kept ∙ e) i (omega arith) z

-- a type descends from type 0, or there is a cycle
pub top_or_cycle : (parents : List ℕ) → ((s : ℕ) → parent_at parents s < length parents) → (t : ℕ) → t < length parents → (member 0 (ancestors parents (length parents) t) ≡ true) ⊎ HasCycle parents
top_or_cycle parents inside t h = by (member 0 (ancestors parents (length parents) t)) refl
  where
    by : (b : Bool) → member 0 (ancestors parents (length parents) t) ≡ b → (member 0 (ancestors parents (length parents) t) ≡ true) ⊎ HasCycle parents
    by true e = inl e
    by false e = inr (cycle_below parents t inside h (never_top parents (length parents) t e))
