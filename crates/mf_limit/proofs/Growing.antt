-- How sets grow: one gain after another, and what follows of a round.
use Rattle.std.proofs.Common.{◌≡◌, ◌∙◌, refl, sym, ap, ℕ, ◌+◌, ◌<◌, ◌≤◌, Less, Greater, Bool, true, false, ◌||◌, if◌then◌else◌, List, [], ◌∷◌, ◌++◌, length, take, get_or, Option, Some, None, true≢false}
use Rattle.std.specs.List.{flat_map, list_all}
use Rattle.std.proofs.lemmas.Bool.{and_from, and_parts}
use Rattle.std.proofs.lemmas.Grind.{flat_map-append}
use Rattle.std.proofs.lemmas.List.{append-nil, take_all, take_more}
use Rattle.std.proofs.lemmas.List.Folds.{list_all-append, list_all_at}
use Rattle.mf_model.specs.declared.task.Op.{Op}
use Rattle.mf_model.specs.declared.task.Op.TheVariants.{Assign, Increase, Decrease, ScaleUp, ScaleDown}
use Rattle.mf_task.specs.declared.form.Form.{Form}
use Rattle.mf_task.specs.declared.ground.GroundAction.{GroundAction}
use Rattle.mf_task.specs.declared.ground.GroundCond.{GroundCond}
use Rattle.mf_task.specs.declared.ground.GroundChange.{GroundChange}
use Rattle.mf_task.specs.declared.ground.GroundEffect.{GroundEffect}
use Rattle.mf_task.specs.declared.task.Task.{Task}
use Rattle.mf_task.specs.LimitClosure.{Family, Gain, MayBeDefined, MayFall, MayRise, IsWithin, action_gains, change_gains, effect_gains, form_may_be_defined, gain_if, may_have_sign, may_hold, number_gains}
use Rattle.mf_task.specs.Rows.{Sight}
use Rattle.mf_limit.specs.declared.sets.LimitSets.{LimitSets}
use Rattle.mf_limit.specs.Chances.{number_chance, optional_chance}
use Rattle.mf_limit.specs.Growth.{Grows, has, term_gains}
use Rattle.mf_limit.specs.Sets.{HasSizesOf, family_of}
use Rattle.mf_limit.proofs.Families.{action-more, all-more, change-more, effect-more, hold-more, number-more, within-has, within-itself, within-within}

-- a larger family has no fewer gains to give
abbrev pub IsMonotone : (Family → List Gain) → Type 0
IsMonotone gains = (f g h : Family) → IsWithin f g → list_all (has h) (gains g) ≡ true → list_all (has h) (gains f) ≡ true

pub sizes-kept : (task : Task) (old new : LimitSets) (gains : Family → List Gain) (is_new : Bool) → HasSizesOf task old → Grows old new gains is_new → HasSizesOf task new
sizes-kept task old new gains is_new sizes grows = record { atoms = grows.sizes.atoms ∙ sizes.atoms; terms = grows.sizes.terms ∙ sizes.terms }

all-has : (f g : Family) → IsWithin f g → (gains : List Gain) → list_all (has f) gains ≡ true → list_all (has g) gains ≡ true
all-has f g within = all-more (has f) (has g) (within-has f g within)

-- nothing is added
pub grows-none : (sets : LimitSets) (gains : Family → List Gain) → gains (family_of sets) ≡ [] → Grows sets sets gains false
grows-none sets gains none = record {
  sizes = record { atoms = refl; terms = refl };
  kept = within-itself (family_of sets);
  given = ap (list_all (has (family_of sets))) none;
  least = λ g within all. within;
  steady = λ e. within-itself (family_of sets);
}

neither : (b c : Bool) → (b || c) ≡ false → (b ≡ false) × (c ≡ false)
neither true c e = absurd (true≢false e)
neither false c e = (refl, e)

-- one after the other
pub grows-more : (a b c : LimitSets) (one other : Family → List Gain) (m n : Bool) → IsMonotone other → Grows a b one m → Grows b c other n → Grows a c (λ f. one f ++ other f) (m || n)
grows-more a b c one other m n monotone first second = record {
  sizes = record { atoms = second.sizes.atoms ∙ first.sizes.atoms; terms = second.sizes.terms ∙ first.sizes.terms };
  kept = within-within (family_of a) (family_of b) (family_of c) first.kept second.kept;
  given =
      list_all-append (has (family_of c)) (one (family_of a)) (other (family_of a))
      ∙ and_from (list_all (has (family_of c)) (one (family_of a))) (list_all (has (family_of c)) (other (family_of a))) (all-has (family_of b) (family_of c) second.kept (one (family_of a)) first.given) (monotone (family_of a) (family_of b) (family_of c) first.kept second.given);
  least = λ g within all.
      let both = and_parts (list_all (has g) (one g)) (list_all (has g) (other g)) (sym (list_all-append (has g) (one g) (other g)) ∙ all) in
      second.least g (first.least g within both.0) both.1;
  steady = λ e.
      let both = neither m n e in
      within-within (family_of c) (family_of b) (family_of a) (second.steady both.1) (first.steady both.0);
}

-- the gains of the old sets are those of a larger family that has its own
pub grows-at : (old new : LimitSets) (gains : Family → List Gain) (xs : List Gain) (is_new : Bool) → IsMonotone gains → gains (family_of old) ≡ xs → Grows old new (λ f. xs) is_new → Grows old new gains is_new
grows-at old new gains xs is_new monotone e grows = record {
  sizes = grows.sizes;
  kept = grows.kept;
  given = ap (list_all (has (family_of new))) e ∙ grows.given;
  least = λ g within all. grows.least g within (sym (ap (list_all (has g)) e) ∙ monotone (family_of old) g g within all);
  steady = grows.steady;
}

pub grows-by : (old new : LimitSets) (one other : Family → List Gain) (is_new : Bool) → ((f : Family) → one f ≡ other f) → Grows old new one is_new → Grows old new other is_new
grows-by old new one other is_new same grows = record {
  sizes = grows.sizes;
  kept = grows.kept;
  given = sym (ap (list_all (has (family_of new))) (same (family_of old))) ∙ grows.given;
  least = λ g within all. grows.least g within (ap (list_all (has g)) (same g) ∙ all);
  steady = grows.steady;
}

-- What the parts of a round give

pub chance-gains : (sight : Sight) (f : Family) (op : Op) (term : ℕ) (value : Option Form) → number_gains sight f op term value ≡ term_gains term (number_chance op (optional_chance sight f value))
chance-gains sight f Assign term (Some a) = by (form_may_be_defined f a)
  where
    by : (b : Bool) → (if b then MayBeDefined term ∷ MayRise term ∷ MayFall term ∷ [] else []) ≡ term_gains term (record { may_rise = b; may_fall = b; may_be_defined = b })
    by true = refl
    by false = refl
chance-gains sight f Assign term None = refl
chance-gains sight f ScaleUp term value = refl
chance-gains sight f ScaleDown term value = refl
chance-gains sight f Increase term (Some a) = refl
chance-gains sight f Increase term None = refl
chance-gains sight f Decrease term (Some a) = by (may_have_sign sight f a Less) (may_have_sign sight f a Greater)
  where
    by : (b c : Bool) → gain_if b (MayRise term) ++ gain_if c (MayFall term) ≡ term_gains term (record { may_rise = b; may_fall = c; may_be_defined = false })
    by b c = refl
chance-gains sight f Decrease term None = refl

-- a part that is asked only under a condition
module _ (task : Task) (sight : Sight) (condition : GroundCond) (gains : Family → List Gain) where
  pub grows-then : (old new : LimitSets) (is_new : Bool) → may_hold task sight (family_of old) condition ≡ true → Grows old new gains is_new → Grows old new (λ f. if may_hold task sight f condition then gains f else []) is_new
  grows-then old new is_new holds grows = record {
    sizes = grows.sizes;
    kept = grows.kept;
    given = ap (λ b. list_all (has (family_of new)) (if b then gains (family_of old) else [])) holds ∙ grows.given;
    least = λ g within all.
        grows.least g within (sym (ap (λ b. list_all (has g) (if b then gains g else [])) (hold-more task sight (family_of old) g within condition holds)) ∙ all);
    steady = grows.steady;
  }

  pub grows-else : (old : LimitSets) → may_hold task sight (family_of old) condition ≡ false → Grows old old (λ f. if may_hold task sight f condition then gains f else []) false
  grows-else old fails = grows-none old (λ f. if may_hold task sight f condition then gains f else []) (ap (λ b. if b then gains (family_of old) else []) fails)

-- one more of a list
module _ {X : Type 0} (gains : Family → X → List Gain) (xs : List X) where
  front-more : (i : ℕ) (x : X) → i < length xs → x ≡ get_or xs i x → (f : Family) → flat_map (gains f) (take i xs) ++ gains f x ≡ flat_map (gains f) (take (i + 1) xs)
  front-more i x below is f =
      ap (λ ys. flat_map (gains f) (take i xs) ++ ys) (sym (append-nil (gains f x)))
      ∙ sym (ap (flat_map (gains f)) (take_more xs i x below ∙ ap (λ y. take i xs ++ y ∷ []) (sym is)) ∙ flat_map-append (gains f) (take i xs) (x ∷ []))

  pub grows-next : (i : ℕ) (x : X) → i < length xs → x ≡ get_or xs i x → (old mid new : LimitSets) (m n : Bool) → IsMonotone (λ f. gains f x)
      → Grows old mid (λ f. flat_map (gains f) (take i xs)) m → Grows mid new (λ f. gains f x) n → Grows old new (λ f. flat_map (gains f) (take (i + 1) xs)) (m || n)
  grows-next i x below is old mid new m n monotone first second =
      grows-by old new (λ f. flat_map (gains f) (take i xs) ++ gains f x) (λ f. flat_map (gains f) (take (i + 1) xs)) (m || n) (front-more i x below is)
      (grows-more old mid new (λ f. flat_map (gains f) (take i xs)) (λ f. gains f x) m n monotone first second)

  pub grows-all : (i : ℕ) (old new : LimitSets) (is_new : Bool) → length xs ≤ i → Grows old new (λ f. flat_map (gains f) (take i xs)) is_new → Grows old new (λ f. flat_map (gains f) xs) is_new
  grows-all i old new is_new all grows =
      grows-by old new (λ f. flat_map (gains f) (take i xs)) (λ f. flat_map (gains f) xs) is_new (λ f. ap (flat_map (gains f)) (take_all i xs all)) grows

-- a test that all pass, at one of them
pub holds-at : {X : Type 0} (p : X → Bool) (xs : List X) (i : ℕ) (x : X) → i < length xs → x ≡ get_or xs i x → list_all p xs ≡ true → p x ≡ true
holds-at p xs i x below is all = ap p is ∙ by (p (get_or xs i x)) refl
  where
    by : (b : Bool) → p (get_or xs i x) ≡ b → p (get_or xs i x) ≡ true
    by true e = e
    by false e = absurd (true≢false (sym all ∙ list_all_at p xs i x below e))

module _ (task : Task) (sight : Sight) where
  pub change-monotone : (c : GroundChange) → IsMonotone (λ f. change_gains task sight f c)
  change-monotone c f g h within = change-more task sight f g within h c

  pub number-monotone : (op : Op) (term : ℕ) (value : Option Form) → IsMonotone (λ f. number_gains sight f op term value)
  number-monotone op term value f g h within = number-more task sight f g within h op term value

  pub effect-monotone : (effect : GroundEffect) → IsMonotone (λ f. effect_gains task sight f effect)
  effect-monotone effect f g h within = effect-more task sight f g within h effect

  pub action-monotone : (action : GroundAction) → IsMonotone (λ f. action_gains task sight f action)
  action-monotone action f g h within = action-more task sight f g within h action

  pub grows-number : (old new : LimitSets) (op : Op) (term : ℕ) (value : Option Form) (is_new : Bool) → Grows old new (λ f. term_gains term (number_chance op (optional_chance sight (family_of old) value))) is_new
      → Grows old new (λ f. number_gains sight f op term value) is_new
  grows-number old new op term value is_new grows =
      grows-at old new (λ f. number_gains sight f op term value) (term_gains term (number_chance op (optional_chance sight (family_of old) value))) is_new (number-monotone op term value) (chance-gains sight (family_of old) op term value) grows
