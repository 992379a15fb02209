-- The limit closure is closed: each round that adds something adds one of finitely many atoms and terms. And it is contained
-- in each closed family.
use Rattle.std.proofs.Common.{◌≡◌, ℕ, zero, suc, ◌+◌, ◌*◌, ◌<◌, ◌≤◌, ◌⊎◌, inl, inr, Less, Greater, Bool, true, false, ◌&&◌, ◌||◌, if◌then◌else◌, nat_lt, eqb, List, [], ◌∷◌, ◌++◌, length, Option, refl, sym, ap, subst, ◌∙◌, arith, true≢false}
use Rattle.std.specs.List.{flat_map, list_all}
use Rattle.std.proofs.lemmas.Bool.{and_from, and_parts, eqb-false, eqb-true, ltb-false, ltb-true, or_left, or_right}
use Rattle.std.proofs.lemmas.List.Folds.{list_all-append}
use Rattle.mf_model.specs.declared.task.Op.{Op}
use Rattle.mf_model.specs.declared.task.Op.TheVariants.{Assign, Increase, Decrease, ScaleUp, ScaleDown}
use Rattle.mf_task.specs.declared.form.Form.{Form}
use Rattle.mf_task.specs.declared.ground.GroundChange.{GroundChange}
use Rattle.mf_task.specs.declared.ground.GroundChange.TheVariants as change
use Rattle.mf_task.specs.declared.ground.GroundEffect.{GroundEffect}
use Rattle.mf_task.specs.declared.ground.GroundAction.{GroundAction}
use Rattle.mf_task.specs.declared.task.Task.{Task}
use Rattle.mf_task.specs.GroundMeaning.{optional_form_at}
use Rattle.mf_task.specs.LimitClosure.{Family, Gain, MayRise, MayFall, MayBeDefined, IsClosed, IsWithin, action_gains, change_gains, effect_gains, family_after, first_family, gain_if, limit_closure, may_hold, next_family, number_gains, optional_may_be_defined, optional_may_have_sign, round_count}
use Rattle.mf_task.specs.Rows.{Sight}
use Rattle.mf_task.specs.NumberedTasks.{is_numbered, is_numbered_action, is_numbered_change}
use Rattle.mf_limit.specs.Growth.{has}
use Rattle.mf_limit.proofs.Families.{either, gains-within, round-more, within-gains, within-itself, within-within}

-- how many numbers below n pass a test

pub tally : (ℕ → Bool) → ℕ → ℕ
tally test zero = 0
tally test (suc n) = if test n then 1 + tally test n else tally test n

tally-suc : (test : ℕ → Bool) (n : ℕ) (b : Bool) → test n ≡ b → tally test (suc n) ≡ (if b then 1 + tally test n else tally test n)
unfolding tally
tally-suc test n b e = ap (λ c. if c then 1 + tally test n else tally test n) e

pub tally-most : (test : ℕ → Bool) (n : ℕ) → tally test n ≤ n
unfolding tally
tally-most test zero = omega arith
tally-most test (suc n) = by (test n) (tally-most test n)
  where
    by : (b : Bool) → tally test n ≤ n → (if b then 1 + tally test n else tally test n) ≤ suc n
    by true h = omega arith
    by false h = omega arith

-- more numbers pass a weaker test
pub tally-more : (one other : ℕ → Bool) → ((k : ℕ) → one k ≡ true → other k ≡ true) → (n : ℕ) → tally one n ≤ tally other n
unfolding tally
tally-more one other more zero = omega arith
tally-more one other more (suc n) = by (one n) (other n) (more n) (tally-more one other more n)
  where
    by : (b c : Bool) → (b ≡ true → c ≡ true) → tally one n ≤ tally other n → (if b then 1 + tally one n else tally one n) ≤ (if c then 1 + tally other n else tally other n)
    by true true p h = omega arith
    by true false p h = absurd (true≢false (sym (p refl)))
    by false true p h = omega arith
    by false false p h = h

-- where no more pass it, it is no weaker
pub tally-same : (one other : ℕ → Bool) → ((k : ℕ) → one k ≡ true → other k ≡ true) → (n : ℕ) → tally other n ≤ tally one n → (k : ℕ) → k < n → other k ≡ true → one k ≡ true
unfolding tally
tally-same one other more zero few k low e = absurd (omega arith)
tally-same one other more (suc n) few k low e =
    by (one n) (other n) refl refl (more n) (tally-more one other more n) (tally-same one other more n) few (lower k n low)
  where
    lower : (k n : ℕ) → k < suc n → (k < n) ⊎ (k ≡ n)
    lower k n low = at (eqb k n) refl
      where
        at : (b : Bool) → eqb k n ≡ b → (k < n) ⊎ (k ≡ n)
        at true is = inr (eqb-true k n is)
        at false is = inl (strictly (eqb-false k n is))
          where
            strictly : (k ≡ n → ⊥) → k < n
            strictly apart = omega arith

    by : (b c : Bool) → one n ≡ b → other n ≡ c → (b ≡ true → c ≡ true) → tally one n ≤ tally other n → (tally other n ≤ tally one n → (k : ℕ) → k < n → other k ≡ true → one k ≡ true)
        → (if c then 1 + tally other n else tally other n) ≤ (if b then 1 + tally one n else tally one n) → (k < n) ⊎ (k ≡ n) → one k ≡ true
    by true true p q m least rest few (inl h) = rest (omega arith) k h e
    by true true p q m least rest few (inr h) = subst (λ i. one i ≡ true) (sym h) p
    by true false p q m least rest few (inl h) = absurd (true≢false (sym (m refl)))
    by true false p q m least rest few (inr h) = absurd (true≢false (sym (m refl)))
    by false true p q m least rest few (inl h) = absurd (omega arith)
    by false true p q m least rest few (inr h) = absurd (omega arith)
    by false false p q m least rest few (inl h) = rest few k h e
    by false false p q m least rest few (inr h) = absurd (true≢false (sym e ∙ subst (λ i. other i ≡ false) (sym h) q))

-- the numbers of the task

abbrev pub numbers_of : Task → Family
numbers_of task = record {
  yes = λ n. nat_lt n (length task.atoms);
  no = λ n. nat_lt n (length task.atoms);
  up = λ n. nat_lt n (length task.terms);
  down = λ n. nat_lt n (length task.terms);
  defined = λ n. nat_lt n (length task.terms);
}

abbrev pub size : Task → Family → ℕ
size task f =
    tally f.yes (length task.atoms) + tally f.no (length task.atoms) + tally f.up (length task.terms) + tally f.down (length task.terms) + tally f.defined (length task.terms)

abbrev beside : Family → Family → Family
beside f g = record {
  yes = λ n. f.yes n || g.yes n;
  no = λ n. f.no n || g.no n;
  up = λ n. f.up n || g.up n;
  down = λ n. f.down n || g.down n;
  defined = λ n. f.defined n || g.defined n;
}

module _ (task : Task) (start : Sight) (numbered : is_numbered task ≡ true) where
  module _ (f : Family) where
    abbrev limit : Family
    limit = beside f (numbers_of task)

    abbrev Within : List Gain → Type 0
    Within gains = list_all (has limit) gains ≡ true

    within-if : (b : Bool) (gains : List Gain) → Within gains → Within (if b then gains else [])
    within-if true gains h = h
    within-if false gains h = refl

    within-append : (xs ys : List Gain) → Within xs → Within ys → Within (xs ++ ys)
    within-append xs ys p q = list_all-append (has limit) xs ys ∙ and_from (list_all (has limit) xs) (list_all (has limit) ys) p q

    one-gain : (b : Bool) → b ≡ true → (b && true) ≡ true
    one-gain true e = refl
    one-gain false e = e

    up-in : (term : ℕ) → nat_lt term (length task.terms) ≡ true → (f.up term || nat_lt term (length task.terms)) ≡ true
    up-in term h = or_right (f.up term) (nat_lt term (length task.terms)) h

    down-in : (term : ℕ) → nat_lt term (length task.terms) ≡ true → (f.down term || nat_lt term (length task.terms)) ≡ true
    down-in term h = or_right (f.down term) (nat_lt term (length task.terms)) h

    both-in : (term : ℕ) → nat_lt term (length task.terms) ≡ true → Within (MayRise term ∷ MayFall term ∷ [])
    both-in term h =
        and_from (f.up term || nat_lt term (length task.terms)) ((f.down term || nat_lt term (length task.terms)) && true) (up-in term h) (one-gain (f.down term || nat_lt term (length task.terms)) (down-in term h))

    number-in : (op : Op) (term : ℕ) (value : Option Form) → nat_lt term (length task.terms) ≡ true → Within (number_gains start f op term value)
    number-in Assign term value h =
        within-if (optional_may_be_defined f value) (MayBeDefined term ∷ MayRise term ∷ MayFall term ∷ [])
        (and_from (f.defined term || nat_lt term (length task.terms)) (list_all (has limit) (MayRise term ∷ MayFall term ∷ [])) (or_right (f.defined term) (nat_lt term (length task.terms)) h) (both-in term h))
    number-in ScaleUp term value h = both-in term h
    number-in ScaleDown term value h = both-in term h
    number-in Increase term value h =
        within-append (gain_if (optional_may_have_sign start f value Greater) (MayRise term)) (gain_if (optional_may_have_sign start f value Less) (MayFall term))
        (within-if (optional_may_have_sign start f value Greater) (MayRise term ∷ []) (one-gain (f.up term || nat_lt term (length task.terms)) (up-in term h)))
        (within-if (optional_may_have_sign start f value Less) (MayFall term ∷ []) (one-gain (f.down term || nat_lt term (length task.terms)) (down-in term h)))
    number-in Decrease term value h =
        within-append (gain_if (optional_may_have_sign start f value Less) (MayRise term)) (gain_if (optional_may_have_sign start f value Greater) (MayFall term))
        (within-if (optional_may_have_sign start f value Less) (MayRise term ∷ []) (one-gain (f.up term || nat_lt term (length task.terms)) (up-in term h)))
        (within-if (optional_may_have_sign start f value Greater) (MayFall term ∷ []) (one-gain (f.down term || nat_lt term (length task.terms)) (down-in term h)))

    change-in : (c : GroundChange) → is_numbered_change task c ≡ true → Within (change_gains task start f c)
    change-in (change.Add atom) h = one-gain (f.yes atom || nat_lt atom (length task.atoms)) (or_right (f.yes atom) (nat_lt atom (length task.atoms)) h)
    change-in (change.Delete atom) h = one-gain (f.no atom || nat_lt atom (length task.atoms)) (or_right (f.no atom) (nat_lt atom (length task.atoms)) h)
    change-in (change.Number op term value) h = number-in op term (optional_form_at task value) h
    change-in (change.Cost value) h = refl
    change-in change.Nothing h = refl

    list-in : {X : Type 0} (gains : X → List Gain) (test : X → Bool) → ((x : X) → test x ≡ true → Within (gains x)) → (xs : List X) → list_all test xs ≡ true → Within (flat_map gains xs)
    list-in gains test each [] h = refl
    list-in gains test each (x ∷ xs) h =
        let both = and_parts (test x) (list_all test xs) h in
        within-append (gains x) (flat_map gains xs) (each x both.0) (list-in gains test each xs both.1)

    effect-in : (effect : GroundEffect) → is_numbered_change task effect.change ≡ true → Within (effect_gains task start f effect)
    effect-in effect h = within-if (may_hold task start f effect.condition) (change_gains task start f effect.change) (change-in effect.change h)

    action-in : (action : GroundAction) → is_numbered_action task action ≡ true → Within (action_gains task start f action)
    action-in action h =
        within-if (may_hold task start f action.condition) (flat_map (effect_gains task start f) action.effects) (list-in (effect_gains task start f) (λ effect. is_numbered_change task effect.change) effect-in action.effects h)

    -- a round adds numbers of the task alone
    round-in : IsWithin (next_family task start f) limit
    round-in =
        gains-within f limit (flat_map (action_gains task start f) task.actions)
        (record {
          yes = λ n e. or_left (f.yes n) (nat_lt n (length task.atoms)) e;
          no = λ n e. or_left (f.no n) (nat_lt n (length task.atoms)) e;
          up = λ n e. or_left (f.up n) (nat_lt n (length task.terms)) e;
          down = λ n e. or_left (f.down n) (nat_lt n (length task.terms)) e;
          defined = λ n e. or_left (f.defined n) (nat_lt n (length task.terms)) e;
        })
        (list-in (action_gains task start f) (is_numbered_action task) action-in task.actions numbered)

    kept : (one other : ℕ → Bool) (count : ℕ) → ((k : ℕ) → one k ≡ true → other k ≡ true) → tally other count ≤ tally one count → ((k : ℕ) → other k ≡ true → (one k || nat_lt k count) ≡ true) → (k : ℕ) → other k ≡ true → one k ≡ true
    kept one other count more few within k e = by (either (one k) (nat_lt k count) (within k e))
      where
        by : (one k ≡ true) ⊎ (nat_lt k count ≡ true) → one k ≡ true
        by (inl h) = h
        by (inr h) = tally-same one other more count few k (ltb-true k count h) e

    -- it adds nothing where the size stays
    pub steady : size task (next_family task start f) ≤ size task f → IsWithin (next_family task start f) f
    steady few =
        let next = next_family task start f in
        let more = within-gains f (flat_map (action_gains task start f) task.actions) in
        let yes = tally-more f.yes next.yes more.yes (length task.atoms) in
        let no = tally-more f.no next.no more.no (length task.atoms) in
        let up = tally-more f.up next.up more.up (length task.terms) in
        let down = tally-more f.down next.down more.down (length task.terms) in
        let defined = tally-more f.defined next.defined more.defined (length task.terms) in
        record {
          yes = kept f.yes next.yes (length task.atoms) more.yes (omega arith) round-in.yes;
          no = kept f.no next.no (length task.atoms) more.no (omega arith) round-in.no;
          up = kept f.up next.up (length task.terms) more.up (omega arith) round-in.up;
          down = kept f.down next.down (length task.terms) more.down (omega arith) round-in.down;
          defined = kept f.defined next.defined (length task.terms) more.defined (omega arith) round-in.defined;
        }

  pub size-most : (f : Family) → size task f ≤ 2 * length task.atoms + 3 * length task.terms
  size-most f =
      let yes = tally-most f.yes (length task.atoms) in
      let no = tally-most f.no (length task.atoms) in
      let up = tally-most f.up (length task.terms) in
      let down = tally-most f.down (length task.terms) in
      let defined = tally-most f.defined (length task.terms) in
      omega arith

  -- after some rounds one more adds nothing, or each has added something
  pub grown : (n : ℕ) → IsWithin (next_family task start (family_after task start n)) (family_after task start n) ⊎ (n ≤ size task (family_after task start n))
  grown zero = inr (omega arith)
  grown (suc n) = by (grown n) (lt-or-le (size task (family_after task start n)) (size task (next_family task start (family_after task start n))))
    where
      f : Family
      f = family_after task start n

      next : Family
      next = next_family task start f

      lt-or-le : (a b : ℕ) → (a < b) ⊎ (b ≤ a)
      lt-or-le a b = at (nat_lt a b) refl
        where
          at : (c : Bool) → nat_lt a b ≡ c → (a < b) ⊎ (b ≤ a)
          at true e = inl (ltb-true a b e)
          at false e = inr (ltb-false a b e)

      by : IsWithin next f ⊎ (n ≤ size task f) → (size task f < size task next) ⊎ (size task next ≤ size task f) → IsWithin (next_family task start next) next ⊎ (suc n ≤ size task next)
      by (inl closed) h = inl (round-more task start next f closed)
      by (inr large) (inl h) = inr (omega arith)
      by (inr large) (inr h) = inl (round-more task start next f (steady f h))

  pub first-within : (n : ℕ) → IsWithin (first_family start) (family_after task start n)
  first-within zero = within-itself (first_family start)
  first-within (suc n) =
      within-within (first_family start) (family_after task start n) (family_after task start (suc n)) (first-within n) (within-gains (family_after task start n) (flat_map (action_gains task start (family_after task start n)) task.actions))

  pub limit-closed : IsClosed task start (limit_closure task start)
  limit-closed = record {
    first = first-within (round_count task);
    next = by (grown (round_count task));
  }
    where
      by : IsWithin (next_family task start (limit_closure task start)) (limit_closure task start) ⊎ (round_count task ≤ size task (limit_closure task start)) → IsWithin (next_family task start (limit_closure task start)) (limit_closure task start)
      by (inl closed) = closed
      by (inr large) = let most = size-most (limit_closure task start) in absurd (omega arith)

-- each closed family contains what so many rounds give
pub after-within : (task : Task) (start : Sight) (g : Family) → IsClosed task start g → (n : ℕ) → IsWithin (family_after task start n) g
after-within task start g closed zero = closed.first
after-within task start g closed (suc n) =
    within-within (next_family task start (family_after task start n)) (next_family task start g) g (round-more task start (family_after task start n) g (after-within task start g closed n)) closed.next
