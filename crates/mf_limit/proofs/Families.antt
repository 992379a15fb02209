-- Families: what gains add to them, and that a larger family gives no less.
use Rattle.std.proofs.Common.{◌≡◌, ℕ, ◌⊎◌, inl, inr, Bool, true, false, not, ◌&&◌, ◌||◌, if◌then◌else◌, nat_eq, Ordering, Less, Equal, Greater, List, [], ◌∷◌, ◌++◌, map, Option, Some, None, refl, sym, ap, subst, ◌∙◌, true≢false}
use Rattle.std.specs.List.{flat_map, list_all, list_any}
use Rattle.std.proofs.lemmas.Bool.{and_from, and_parts, eq-eqb, eqb-true, or_left, or_right}
use Rattle.std.proofs.lemmas.List.Folds.{list_all-append}
use Rattle.mf_model.specs.declared.task.Op.{Op}
use Rattle.mf_model.specs.declared.task.Op.TheVariants.{Assign, Increase, Decrease, ScaleUp, ScaleDown}
use Rattle.mf_model.specs.declared.task.Relation.{Relation}
use Rattle.mf_task.specs.declared.form.Form.{Form}
use Rattle.mf_task.specs.declared.ground.GroundCond.{GroundCond}
use Rattle.mf_task.specs.declared.ground.GroundCond.TheOpen.{GroundCond-F}
use Rattle.mf_task.specs.declared.ground.GroundCond.TheFolds.{ind-GroundCond, fold-roll-GroundCond, map-GroundCond}
use Rattle.mf_task.specs.declared.ground.GroundChange.{GroundChange}
use Rattle.mf_task.specs.declared.ground.GroundChange.TheVariants as change
use Rattle.mf_task.specs.declared.ground.GroundEffect.{GroundEffect}
use Rattle.mf_task.specs.declared.ground.GroundAction.{GroundAction}
use Rattle.mf_task.specs.declared.task.Task.{Task}
use Rattle.mf_task.specs.GroundMeaning.{form_at, optional_form_at, relates, sign}
use Rattle.mf_task.specs.LimitClosure.{Family, Gain, MayBeTrue, MayBeFalse, MayRise, MayFall, MayBeDefined, IsWithin, action_gains, agrees_with, all_may, any_may, atom_may, change_gains, effect_gains, form_may_be_defined, gain_if, gives_defined, gives_fall, gives_false, gives_rise, gives_true, known_value, lifts, lowers, may_be, may_compare, may_get, may_go_down, may_go_up, may_have_sign, may_hold, may_step, next_family, number_gains, optional_may_be_defined, optional_may_have_sign, sign_of_known, with_gains}
use Rattle.mf_task.specs.Rows.{Sight}
use Rattle.mf_limit.specs.Growth.{has}

pub either : (b c : Bool) → (b || c) ≡ true → (b ≡ true) ⊎ (c ≡ true)
either true c e = inl refl
either false c e = inr e

pub any-more : {X : Type 0} (p q : X → Bool) → ((x : X) → p x ≡ true → q x ≡ true) → (xs : List X) → list_any p xs ≡ true → list_any q xs ≡ true
any-more p q more [] e = absurd (true≢false (sym e))
any-more p q more (x ∷ xs) e = by (either (p x) (list_any p xs) e) (any-more p q more xs)
  where
    by : (p x ≡ true) ⊎ (list_any p xs ≡ true) → (list_any p xs ≡ true → list_any q xs ≡ true) → list_any q (x ∷ xs) ≡ true
    by (inl h) rest = or_left (q x) (list_any q xs) (more x h)
    by (inr h) rest = or_right (q x) (list_any q xs) (rest h)

pub all-more : {X : Type 0} (p q : X → Bool) → ((x : X) → p x ≡ true → q x ≡ true) → (xs : List X) → list_all p xs ≡ true → list_all q xs ≡ true
all-more p q more [] e = refl
all-more p q more (x ∷ xs) e =
    let both = and_parts (p x) (list_all p xs) e in
    and_from (q x) (list_all q xs) (more x both.0) (all-more p q more xs both.1)

-- families within others

pub within-itself : (f : Family) → IsWithin f f
within-itself f = record { yes = λ n e. e; no = λ n e. e; up = λ n e. e; down = λ n e. e; defined = λ n e. e }

pub within-within : (f g h : Family) → IsWithin f g → IsWithin g h → IsWithin f h
within-within f g h one other = record {
  yes = λ n e. other.yes n (one.yes n e);
  no = λ n e. other.no n (one.no n e);
  up = λ n e. other.up n (one.up n e);
  down = λ n e. other.down n (one.down n e);
  defined = λ n e. other.defined n (one.defined n e);
}

pub within-gains : (f : Family) (gains : List Gain) → IsWithin f (with_gains f gains)
within-gains f gains = record {
  yes = λ n e. or_left (f.yes n) (list_any (gives_true n) gains) e;
  no = λ n e. or_left (f.no n) (list_any (gives_false n) gains) e;
  up = λ n e. or_left (f.up n) (list_any (gives_rise n) gains) e;
  down = λ n e. or_left (f.down n) (list_any (gives_fall n) gains) e;
  defined = λ n e. or_left (f.defined n) (list_any (gives_defined n) gains) e;
}

-- what a family with gains has
own : (n : ℕ) (b : Bool) → (nat_eq n n || b) ≡ true
own n b = or_left (nat_eq n n) b (eq-eqb n n refl)

first-gain : (f : Family) (gain : Gain) (gains : List Gain) → has (with_gains f (gain ∷ gains)) gain ≡ true
first-gain f (MayBeTrue n) gains = or_right (f.yes n) (nat_eq n n || list_any (gives_true n) gains) (own n (list_any (gives_true n) gains))
first-gain f (MayBeFalse n) gains = or_right (f.no n) (nat_eq n n || list_any (gives_false n) gains) (own n (list_any (gives_false n) gains))
first-gain f (MayRise n) gains = or_right (f.up n) (nat_eq n n || list_any (gives_rise n) gains) (own n (list_any (gives_rise n) gains))
first-gain f (MayFall n) gains = or_right (f.down n) (nat_eq n n || list_any (gives_fall n) gains) (own n (list_any (gives_fall n) gains))
first-gain f (MayBeDefined n) gains = or_right (f.defined n) (nat_eq n n || list_any (gives_defined n) gains) (own n (list_any (gives_defined n) gains))

pub within-has : (f g : Family) → IsWithin f g → (gain : Gain) → has f gain ≡ true → has g gain ≡ true
within-has f g within (MayBeTrue n) e = within.yes n e
within-has f g within (MayBeFalse n) e = within.no n e
within-has f g within (MayRise n) e = within.up n e
within-has f g within (MayFall n) e = within.down n e
within-has f g within (MayBeDefined n) e = within.defined n e

later : (a b c : Bool) → (a || c) ≡ true → (a || (b || c)) ≡ true
later true b c e = refl
later false true c e = refl
later false false c e = e

fewer-gains : (f : Family) (gain : Gain) (gains : List Gain) → IsWithin (with_gains f gains) (with_gains f (gain ∷ gains))
fewer-gains f gain gains = record {
  yes = λ n e. later (f.yes n) (gives_true n gain) (list_any (gives_true n) gains) e;
  no = λ n e. later (f.no n) (gives_false n gain) (list_any (gives_false n) gains) e;
  up = λ n e. later (f.up n) (gives_rise n gain) (list_any (gives_rise n) gains) e;
  down = λ n e. later (f.down n) (gives_fall n gain) (list_any (gives_fall n) gains) e;
  defined = λ n e. later (f.defined n) (gives_defined n gain) (list_any (gives_defined n) gains) e;
}

-- a family that contains one with gains has each of them
pub has-gains : (f g : Family) (gains : List Gain) → IsWithin (with_gains f gains) g → list_all (has g) gains ≡ true
has-gains f g [] within = refl
has-gains f g (gain ∷ gains) within =
    and_from (has g gain) (list_all (has g) gains)
    (within-has (with_gains f (gain ∷ gains)) g within gain (first-gain f gain gains))
    (has-gains f g gains (within-within (with_gains f gains) (with_gains f (gain ∷ gains)) g (fewer-gains f gain gains) within))

-- a family that has each of the gains contains the one with them
given-true : (g : Family) (n : ℕ) (gain : Gain) → has g gain ≡ true → gives_true n gain ≡ true → g.yes n ≡ true
given-true g n (MayBeTrue m) h e = subst (λ k. g.yes k ≡ true) (sym (eqb-true n m e)) h
given-true g n (MayBeFalse m) h e = absurd (true≢false (sym e))
given-true g n (MayRise m) h e = absurd (true≢false (sym e))
given-true g n (MayFall m) h e = absurd (true≢false (sym e))
given-true g n (MayBeDefined m) h e = absurd (true≢false (sym e))

given-false : (g : Family) (n : ℕ) (gain : Gain) → has g gain ≡ true → gives_false n gain ≡ true → g.no n ≡ true
given-false g n (MayBeTrue m) h e = absurd (true≢false (sym e))
given-false g n (MayBeFalse m) h e = subst (λ k. g.no k ≡ true) (sym (eqb-true n m e)) h
given-false g n (MayRise m) h e = absurd (true≢false (sym e))
given-false g n (MayFall m) h e = absurd (true≢false (sym e))
given-false g n (MayBeDefined m) h e = absurd (true≢false (sym e))

given-rise : (g : Family) (n : ℕ) (gain : Gain) → has g gain ≡ true → gives_rise n gain ≡ true → g.up n ≡ true
given-rise g n (MayBeTrue m) h e = absurd (true≢false (sym e))
given-rise g n (MayBeFalse m) h e = absurd (true≢false (sym e))
given-rise g n (MayRise m) h e = subst (λ k. g.up k ≡ true) (sym (eqb-true n m e)) h
given-rise g n (MayFall m) h e = absurd (true≢false (sym e))
given-rise g n (MayBeDefined m) h e = absurd (true≢false (sym e))

given-fall : (g : Family) (n : ℕ) (gain : Gain) → has g gain ≡ true → gives_fall n gain ≡ true → g.down n ≡ true
given-fall g n (MayBeTrue m) h e = absurd (true≢false (sym e))
given-fall g n (MayBeFalse m) h e = absurd (true≢false (sym e))
given-fall g n (MayRise m) h e = absurd (true≢false (sym e))
given-fall g n (MayFall m) h e = subst (λ k. g.down k ≡ true) (sym (eqb-true n m e)) h
given-fall g n (MayBeDefined m) h e = absurd (true≢false (sym e))

given-defined : (g : Family) (n : ℕ) (gain : Gain) → has g gain ≡ true → gives_defined n gain ≡ true → g.defined n ≡ true
given-defined g n (MayBeTrue m) h e = absurd (true≢false (sym e))
given-defined g n (MayBeFalse m) h e = absurd (true≢false (sym e))
given-defined g n (MayRise m) h e = absurd (true≢false (sym e))
given-defined g n (MayFall m) h e = absurd (true≢false (sym e))
given-defined g n (MayBeDefined m) h e = subst (λ k. g.defined k ≡ true) (sym (eqb-true n m e)) h

given : (g : Family) (test : Gain → Bool) (goal : Bool) → ((gain : Gain) → has g gain ≡ true → test gain ≡ true → goal ≡ true) → (gains : List Gain) → list_all (has g) gains ≡ true → list_any test gains ≡ true → goal ≡ true
given g test goal each [] all e = absurd (true≢false (sym e))
given g test goal each (gain ∷ gains) all e =
    let both = and_parts (has g gain) (list_all (has g) gains) all in
    by both.0 both.1 (either (test gain) (list_any test gains) e) (given g test goal each gains)
  where
    by : has g gain ≡ true → list_all (has g) gains ≡ true → (test gain ≡ true) ⊎ (list_any test gains ≡ true) → (list_all (has g) gains ≡ true → list_any test gains ≡ true → goal ≡ true) → goal ≡ true
    by one others (inl h) rest = each gain one h
    by one others (inr h) rest = rest others h

or-given : (a b : Bool) (goal : Bool) → (a ≡ true → goal ≡ true) → (b ≡ true → goal ≡ true) → (a || b) ≡ true → goal ≡ true
or-given true b goal one other e = one refl
or-given false b goal one other e = other e

pub gains-within : (f g : Family) (gains : List Gain) → IsWithin f g → list_all (has g) gains ≡ true → IsWithin (with_gains f gains) g
gains-within f g gains within all = record {
  yes = λ n e. or-given (f.yes n) (list_any (gives_true n) gains) (g.yes n) (within.yes n) (given g (gives_true n) (g.yes n) (given-true g n) gains all) e;
  no = λ n e. or-given (f.no n) (list_any (gives_false n) gains) (g.no n) (within.no n) (given g (gives_false n) (g.no n) (given-false g n) gains all) e;
  up = λ n e. or-given (f.up n) (list_any (gives_rise n) gains) (g.up n) (within.up n) (given g (gives_rise n) (g.up n) (given-rise g n) gains all) e;
  down = λ n e. or-given (f.down n) (list_any (gives_fall n) gains) (g.down n) (within.down n) (given g (gives_fall n) (g.down n) (given-fall g n) gains all) e;
  defined = λ n e. or-given (f.defined n) (list_any (gives_defined n) gains) (g.defined n) (within.defined n) (given g (gives_defined n) (g.defined n) (given-defined g n) gains all) e;
}

-- a larger family gives no less

get-more : (known : Option Ordering) (u v up down : Bool) (asked : Ordering) → (u ≡ true → up ≡ true) → (v ≡ true → down ≡ true) → may_get known u v asked ≡ true → may_get known up down asked ≡ true
get-more None u v up down asked p q e = refl
get-more (Some Less) u v up down Less p q e = refl
get-more (Some Less) u v up down Equal p q e = p e
get-more (Some Less) u v up down Greater p q e = p e
get-more (Some Equal) u v up down Less p q e = q e
get-more (Some Equal) u v up down Equal p q e = refl
get-more (Some Equal) u v up down Greater p q e = p e
get-more (Some Greater) u v up down Less p q e = q e
get-more (Some Greater) u v up down Equal p q e = q e
get-more (Some Greater) u v up down Greater p q e = refl

module _ (task : Task) (start : Sight) (f g : Family) (within : IsWithin f g) where
  lifts-more : (o : Ordering) (term : ℕ) → lifts f o term ≡ true → lifts g o term ≡ true
  lifts-more Less term e = within.down term e
  lifts-more Equal term e = e
  lifts-more Greater term e = within.up term e

  lowers-more : (o : Ordering) (term : ℕ) → lowers f o term ≡ true → lowers g o term ≡ true
  lowers-more Less term e = within.up term e
  lowers-more Equal term e = e
  lowers-more Greater term e = within.down term e

  pub defined-more : (a : Form) → form_may_be_defined f a ≡ true → form_may_be_defined g a ≡ true
  defined-more a e = all-more (λ p. f.defined p.term) (λ p. g.defined p.term) (λ p h. within.defined p.term h) a.parts e

  pub sign-more : (a : Form) (o : Ordering) → may_have_sign start f a o ≡ true → may_have_sign start g a o ≡ true
  sign-more a o e =
      let known = sign_of_known (known_value start a.constant a.parts) in
      let both = and_parts (form_may_be_defined f a) (may_get known (may_go_up f a) (may_go_down f a) o) e in
      and_from (form_may_be_defined g a) (may_get known (may_go_up g a) (may_go_down g a) o) (defined-more a both.0)
      (get-more known (may_go_up f a) (may_go_down f a) (may_go_up g a) (may_go_down g a) o
      (any-more (λ p. lifts f (sign p.coefficient) p.term) (λ p. lifts g (sign p.coefficient) p.term) (λ p. lifts-more (sign p.coefficient) p.term) a.parts)
      (any-more (λ p. lowers f (sign p.coefficient) p.term) (λ p. lowers g (sign p.coefficient) p.term) (λ p. lowers-more (sign p.coefficient) p.term) a.parts) both.1)

  compare-more : (r : Relation) (a : Form) (asked : Bool) → may_compare start f r a asked ≡ true → may_compare start g r a asked ≡ true
  compare-more r a asked e =
      any-more (λ o. agrees_with asked (relates r o) && may_have_sign start f a o) (λ o. agrees_with asked (relates r o) && may_have_sign start g a o)
      (λ o h. let both = and_parts (agrees_with asked (relates r o)) (may_have_sign start f a o) h in and_from (agrees_with asked (relates r o)) (may_have_sign start g a o) both.0 (sign-more a o both.1)) (Less ∷ Equal ∷ Greater ∷ []) e

  abbrev Claim : GroundCond → Type 0
  Claim c = (asked : Bool) → may_be task start f c asked ≡ true → may_be task start g c asked ≡ true

  abbrev Part : Type 0
  Part = (c : GroundCond) × Claim c

  abbrev chances : Family → List Part → List (Bool → Bool)
  chances h ps = map (may_be task start h) (map (λ p. p.0) ps)

  all-parts : (asked : Bool) (ps : List Part) → list_all (λ part. part asked) (chances f ps) ≡ true → list_all (λ part. part asked) (chances g ps) ≡ true
  all-parts asked [] e = refl
  all-parts asked (p ∷ ps) e =
      let both = and_parts (may_be task start f p.0 asked) (list_all (λ part. part asked) (chances f ps)) e in
      and_from (may_be task start g p.0 asked) (list_all (λ part. part asked) (chances g ps)) (p.1 asked both.0) (all-parts asked ps both.1)

  any-parts : (asked : Bool) (ps : List Part) → list_any (λ part. part asked) (chances f ps) ≡ true → list_any (λ part. part asked) (chances g ps) ≡ true
  any-parts asked [] e = e
  any-parts asked (p ∷ ps) e = by (either (may_be task start f p.0 asked) (list_any (λ part. part asked) (chances f ps)) e) (any-parts asked ps)
    where
      by : (may_be task start f p.0 asked ≡ true) ⊎ (list_any (λ part. part asked) (chances f ps) ≡ true) → (list_any (λ part. part asked) (chances f ps) ≡ true → list_any (λ part. part asked) (chances g ps) ≡ true)
          → list_any (λ part. part asked) (chances g (p ∷ ps)) ≡ true
      by (inl h) rest = or_left (may_be task start g p.0 asked) (list_any (λ part. part asked) (chances g ps)) (p.1 asked h)
      by (inr h) rest = or_right (may_be task start g p.0 asked) (list_any (λ part. part asked) (chances g ps)) (rest h)

  all-more-may : (ps : List Part) (asked : Bool) → all_may (chances f ps) asked ≡ true → all_may (chances g ps) asked ≡ true
  all-more-may ps true e = all-parts true ps e
  all-more-may ps false e = any-parts false ps e

  any-more-may : (ps : List Part) (asked : Bool) → any_may (chances f ps) asked ≡ true → any_may (chances g ps) asked ≡ true
  any-more-may ps true e = any-parts true ps e
  any-more-may ps false e = all-parts false ps e

  atom-more : (atom : ℕ) (asked : Bool) → atom_may f atom asked ≡ true → atom_may g atom asked ≡ true
  atom-more atom true e = within.yes atom e
  atom-more atom false e = within.no atom e

  Layer : GroundCond-F GroundCond → Type 0
  Layer x =
      (asked : Bool) → may_step task start f (map-GroundCond GroundCond (Bool → Bool) (may_be task start f) x) asked ≡ true → may_step task start g (map-GroundCond GroundCond (Bool → Bool) (may_be task start g) x) asked ≡ true

  level : (y : GroundCond-F Part) → Layer (map-GroundCond Part GroundCond (λ p. p.0) y)
  unfolding Layer
  level (GroundCond-F.Fact holds) asked e = e
  level GroundCond-F.Neither asked e = e
  level (GroundCond-F.Atom atom) asked e = atom-more atom asked e
  level (GroundCond-F.Compare r form) asked e = compare-more r (form_at task form) asked e
  level (GroundCond-F.Not part) asked e = part.1 (not asked) e
  level (GroundCond-F.And parts) asked e = all-more-may parts asked e
  level (GroundCond-F.Or parts) asked e = any-more-may parts asked e

  pub may-more : (c : GroundCond) → Claim c
  unfolding Layer
  may-more = ind-GroundCond Claim (λ x y is asked e.
      let at_layer = subst (λ z. Layer z) is (level y) asked (sym (ap (λ h. h asked) (fold-roll-GroundCond (Bool → Bool) (may_step task start f) x)) ∙ e) in
      ap (λ h. h asked) (fold-roll-GroundCond (Bool → Bool) (may_step task start g) x) ∙ at_layer)

  pub hold-more : (c : GroundCond) → may_hold task start f c ≡ true → may_hold task start g c ≡ true
  hold-more c e = may-more c true e

  -- a third family that has what the larger one gives

  module _ (h : Family) where
    abbrev Has : List Gain → Type 0
    Has gains = list_all (has h) gains ≡ true

    if-more : (b c : Bool) (xs ys : List Gain) → (b ≡ true → c ≡ true) → (Has ys → Has xs) → Has (if c then ys else []) → Has (if b then xs else [])
    if-more true true xs ys p q e = q e
    if-more true false xs ys p q e = absurd (true≢false (sym (p refl)))
    if-more false c xs ys p q e = refl

    append-more : (xs ys us vs : List Gain) → (Has us → Has xs) → (Has vs → Has ys) → Has (us ++ vs) → Has (xs ++ ys)
    append-more xs ys us vs p q e =
        let both = and_parts (list_all (has h) us) (list_all (has h) vs) (sym (list_all-append (has h) us vs) ∙ e) in
        list_all-append (has h) xs ys ∙ and_from (list_all (has h) xs) (list_all (has h) ys) (p both.0) (q both.1)

    optional-defined : (value : Option Form) → optional_may_be_defined f value ≡ true → optional_may_be_defined g value ≡ true
    optional-defined (Some a) e = defined-more a e
    optional-defined None e = e

    optional-sign : (value : Option Form) (o : Ordering) → optional_may_have_sign start f value o ≡ true → optional_may_have_sign start g value o ≡ true
    optional-sign (Some a) o e = sign-more a o e
    optional-sign None o e = e

    sign-gain : (value : Option Form) (o : Ordering) (gain : Gain) → Has (gain_if (optional_may_have_sign start g value o) gain) → Has (gain_if (optional_may_have_sign start f value o) gain)
    sign-gain value o gain e =
        if-more (optional_may_have_sign start f value o) (optional_may_have_sign start g value o) (gain ∷ []) (gain ∷ []) (optional-sign value o) (λ e. e) e

    pub number-more : (op : Op) (term : ℕ) (value : Option Form) → Has (number_gains start g op term value) → Has (number_gains start f op term value)
    number-more Assign term value e =
        if-more (optional_may_be_defined f value) (optional_may_be_defined g value) (MayBeDefined term ∷ MayRise term ∷ MayFall term ∷ []) (MayBeDefined term ∷ MayRise term ∷ MayFall term ∷ []) (optional-defined value) (λ e. e) e
    number-more ScaleUp term value e = e
    number-more ScaleDown term value e = e
    number-more Increase term value e =
        append-more (gain_if (optional_may_have_sign start f value Greater) (MayRise term)) (gain_if (optional_may_have_sign start f value Less) (MayFall term))
        (gain_if (optional_may_have_sign start g value Greater) (MayRise term)) (gain_if (optional_may_have_sign start g value Less) (MayFall term)) (sign-gain value Greater (MayRise term)) (sign-gain value Less (MayFall term)) e
    number-more Decrease term value e =
        append-more (gain_if (optional_may_have_sign start f value Less) (MayRise term)) (gain_if (optional_may_have_sign start f value Greater) (MayFall term))
        (gain_if (optional_may_have_sign start g value Less) (MayRise term)) (gain_if (optional_may_have_sign start g value Greater) (MayFall term)) (sign-gain value Less (MayRise term)) (sign-gain value Greater (MayFall term)) e

    pub change-more : (c : GroundChange) → Has (change_gains task start g c) → Has (change_gains task start f c)
    change-more (change.Add atom) e = e
    change-more (change.Delete atom) e = e
    change-more (change.Number op term value) e = number-more op term (optional_form_at task value) e
    change-more (change.Cost value) e = e
    change-more change.Nothing e = e

    pub effect-more : (effect : GroundEffect) → Has (effect_gains task start g effect) → Has (effect_gains task start f effect)
    effect-more effect e =
        if-more (may_hold task start f effect.condition) (may_hold task start g effect.condition) (change_gains task start f effect.change) (change_gains task start g effect.change) (hold-more effect.condition) (change-more effect.change) e

    list-more : {X : Type 0} (xs ys : X → List Gain) → ((x : X) → Has (ys x) → Has (xs x)) → (all : List X) → Has (flat_map ys all) → Has (flat_map xs all)
    list-more xs ys each [] e = refl
    list-more xs ys each (x ∷ all) e = append-more (xs x) (flat_map xs all) (ys x) (flat_map ys all) (each x) (list-more xs ys each all) e

    pub action-more : (action : GroundAction) → Has (action_gains task start g action) → Has (action_gains task start f action)
    action-more action e =
        if-more (may_hold task start f action.condition) (may_hold task start g action.condition) (flat_map (effect_gains task start f) action.effects) (flat_map (effect_gains task start g) action.effects) (hold-more action.condition)
        (list-more (effect_gains task start f) (effect_gains task start g) effect-more action.effects) e

    pub gains-more : (actions : List GroundAction) → Has (flat_map (action_gains task start g) actions) → Has (flat_map (action_gains task start f) actions)
    gains-more actions e = list-more (action_gains task start f) (action_gains task start g) action-more actions e

  -- one round keeps the order
  pub round-more : IsWithin (next_family task start f) (next_family task start g)
  round-more =
      let all = has-gains g (next_family task start g) (flat_map (action_gains task start g) task.actions) (within-itself (next_family task start g)) in
      gains-within f (next_family task start g) (flat_map (action_gains task start f) task.actions)
      (within-within f g (next_family task start g) within (within-gains g (flat_map (action_gains task start g) task.actions)))
      (gains-more (next_family task start g) task.actions all)
