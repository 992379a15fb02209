-- Marking a type and those above it, one after another, up to one that is marked.
use Rattle.std.proofs.Common.{◌≡◌, ◌≢◌, ℕ, zero, suc, ◌+◌, ◌-◌, ◌<◌, ◌⊎◌, inl, inr, Bool, true, false, ◌||◌, if◌then◌else◌, nat_eq, List, [], take, length, get_or, set, replicate, refl, sym, subst, ap, ◌∙◌, arith}
use Rattle.std.proofs.Math.Bool.{or_assoc}
use Rattle.std.proofs.lemmas.Bool.Decides.{Decides-eqb}
use Rattle.std.proofs.lemmas.List.{get_or-set_other, get_or-set_same}
use Rattle.std.proofs.lemmas.List.Folds.{list_any_more}
use Rattle.mf_model.specs.Objects.{ancestors, member}
use Rattle.mf_types.specs.Ascent.{parent_at}
use Rattle.mf_types.specs.Marks.{is_above, is_marked, AreClosed, Marks, MarksMore}
use Rattle.mf_types.specs.BelowTop.{descends}

-- One more mark

marked_more : (marks : List Bool) (i t : ℕ) → i < length marks → is_marked (set marks i true) t ≡ (is_marked marks t || nat_eq t i)
marked_more marks i t within = by (nat_eq t i) refl
  where
    or_true : (b : Bool) → true ≡ (b || true)
    or_true true = refl
    or_true false = refl

    or_false : (b : Bool) → b ≡ (b || false)
    or_false true = refl
    or_false false = refl

    by : (b : Bool) → nat_eq t i ≡ b → is_marked (set marks i true) t ≡ (is_marked marks t || b)
    by true e = ap (is_marked (set marks i true)) ((Decides-eqb t i).0 e) ∙ (get_or-set_same marks i true false within ∙ or_true (is_marked marks t))
    by false e = get_or-set_other marks i t true false (λ same. let yes = (Decides-eqb t i).1 same in let no : ⊥ = cc in no) ∙ or_false (is_marked marks t)

still_marked : (marks : List Bool) (i t : ℕ) → i < length marks → is_marked marks t ≡ true → is_marked (set marks i true) t ≡ true
still_marked marks i t within e = marked_more marks i t within ∙ ap (λ (b : Bool). b || nat_eq t i) e

marked_itself : (marks : List Bool) (i : ℕ) → i < length marks → is_marked (set marks i true) i ≡ true
marked_itself marks i within = get_or-set_same marks i true false within

marked_cases : (marks : List Bool) (i t : ℕ) → i < length marks → is_marked (set marks i true) t ≡ true → (is_marked marks t ≡ true) ⊎ (t ≡ i)
marked_cases marks i t within e = by (is_marked marks t) refl (sym (marked_more marks i t within) ∙ e)
  where
    by : (b : Bool) → is_marked marks t ≡ b → (b || nat_eq t i) ≡ true → (is_marked marks t ≡ true) ⊎ (t ≡ i)
    by true m h = inl m
    by false m h = inr ((Decides-eqb t i).0 h)

-- Where marks are closed, all above a marked type is marked

reached : (parents : List ℕ) (marks : List Bool) → AreClosed parents marks → (n s : ℕ) → is_marked marks s ≡ true → (t : ℕ) → (is_marked marks (parent_at parents s) ≡ true → member t (ancestors parents n (parent_at parents s)) ≡ true → is_marked marks t ≡ true) → member t (ancestors parents (suc n) s) ≡ true → is_marked marks t ≡ true
reached parents marks closed n s m t further e = here (nat_eq t s) refl e
  where
    on : nat_eq s 0 ≡ false → member t (ancestors parents n (parent_at parents s)) ≡ true → (s ≡ 0) ⊎ (is_marked marks (parent_at parents s) ≡ true) → is_marked marks t ≡ true
    on low h (inl zero_is) = let yes = (Decides-eqb s 0).1 zero_is in let no : ⊥ = cc in absurd no
    on low h (inr parent) = further parent h

    up : (b : Bool) → nat_eq s 0 ≡ b → member t (if b then [] else ancestors parents n (parent_at parents s)) ≡ true → is_marked marks t ≡ true
    up true top h = let no : ⊥ = cc in absurd no
    up false low h = on low h (closed s m)

    here : (b : Bool) → nat_eq t s ≡ b → (b || member t (if nat_eq s 0 then [] else ancestors parents n (parent_at parents s))) ≡ true → is_marked marks t ≡ true
    here true same h = subst (λ (u : ℕ). is_marked marks u ≡ true) (sym ((Decides-eqb t s).0 same)) m
    here false same h = up (nat_eq s 0) refl h

closed_above : (parents : List ℕ) (marks : List Bool) → AreClosed parents marks → (n s : ℕ) → is_marked marks s ≡ true → (t : ℕ) → member t (ancestors parents n s) ≡ true → is_marked marks t ≡ true
closed_above parents marks closed zero s m t e = let no : ⊥ = cc in absurd no
closed_above parents marks closed (suc n) s m t e =
    reached parents marks closed n s m t (λ parent h. closed_above parents marks closed n (parent_at parents s) parent t h) e

-- The way up from a type, after some steps

pub record IsOnWay (parents : List ℕ) (from step current : ℕ) (old new : List Bool) : Type 0 where
  pub closed : (t : ℕ) → is_marked new t ≡ true → (t ≡ 0) ⊎ ((is_marked new (parent_at parents t) ≡ true) ⊎ (parent_at parents t ≡ current))
  pub marked : (t : ℕ) → (is_marked new t || member t (ancestors parents (length parents - step) current)) ≡ (is_marked old t || descends parents from t)

pub way_begins : (parents : List ℕ) (from : ℕ) (old : List Bool) → AreClosed parents old → IsOnWay parents from 0 from old old
way_begins parents from old closed = record {
  closed = λ t m. first t (closed t m);
  marked = λ t. ap (λ n. is_marked old t || member t (ancestors parents n from)) (less_nothing (length parents));
}
  where
    less_nothing : (n : ℕ) → n - 0 ≡ n
    less_nothing n = omega arith

    first : (t : ℕ) → (t ≡ 0) ⊎ (is_marked old (parent_at parents t) ≡ true) → (t ≡ 0) ⊎ ((is_marked old (parent_at parents t) ≡ true) ⊎ (parent_at parents t ≡ from))
    first t (inl e) = inl e
    first t (inr m) = inr (inl m)

-- a step less is left
left_less : (n step : ℕ) → step < n → n - step ≡ suc (n - (step + 1))
left_less n step h = omega (arith, h)

-- the next type with what stands above it
next_above : (parents : List ℕ) (step current t : ℕ) → step < length parents → nat_eq current 0 ≡ false → member t (ancestors parents (length parents - step) current) ≡ (nat_eq t current || member t (ancestors parents (length parents - (step + 1)) (parent_at parents current)))
next_above parents step current t h not_top =
    ap (λ n. member t (ancestors parents n current)) (left_less (length parents) step h)
    ∙ ap (λ (b : Bool). nat_eq t current || member t (if b then [] else ancestors parents (length parents - (step + 1)) (parent_at parents current))) not_top

top_above : (parents : List ℕ) (step t : ℕ) → step < length parents → member t (ancestors parents (length parents - step) 0) ≡ nat_eq t 0
top_above parents step t h = ap (λ n. member t (ancestors parents n 0)) (left_less (length parents) step h) ∙ or_nothing (nat_eq t 0)
  where
    or_nothing : (b : Bool) → (b || false) ≡ b
    or_nothing true = refl
    or_nothing false = refl

pub way_goes_on : (parents : List ℕ) (from step current : ℕ) (old now : List Bool) → IsOnWay parents from step current old now → step < length parents → current < length now → current ≢ 0 → IsOnWay parents from (step + 1) (parent_at parents current) old (set now current true)
way_goes_on parents from step current old now way some within apart = record {
  closed = λ t m. cases t (marked_cases now current t within m);
  marked = λ t.
      ap (λ (b : Bool). b || member t (ancestors parents (length parents - (step + 1)) (parent_at parents current))) (marked_more now current t within)
      ∙ (or_assoc (is_marked now t) (nat_eq t current) (member t (ancestors parents (length parents - (step + 1)) (parent_at parents current)))
      ∙ (ap (λ (b : Bool). is_marked now t || b) (sym (next_above parents step current t some not_top))
      ∙ way.marked t));
}
  where
    not_top : nat_eq current 0 ≡ false
    not_top = by (nat_eq current 0) refl
      where
        by : (b : Bool) → nat_eq current 0 ≡ b → b ≡ false
        by true e = absurd (apart ((Decides-eqb current 0).0 e))
        by false e = refl

    before : (t : ℕ) → (t ≡ 0) ⊎ ((is_marked now (parent_at parents t) ≡ true) ⊎ (parent_at parents t ≡ current)) → (t ≡ 0) ⊎ ((is_marked (set now current true) (parent_at parents t) ≡ true) ⊎ (parent_at parents t ≡ parent_at parents current))
    before t (inl e) = inl e
    before t (inr (inl m)) = inr (inl (still_marked now current (parent_at parents t) within m))
    before t (inr (inr e)) = inr (inl (subst (λ (u : ℕ). is_marked (set now current true) u ≡ true) (sym e) (marked_itself now current within)))

    cases : (t : ℕ) → (is_marked now t ≡ true) ⊎ (t ≡ current) → (t ≡ 0) ⊎ ((is_marked (set now current true) (parent_at parents t) ≡ true) ⊎ (parent_at parents t ≡ parent_at parents current))
    cases t (inl m) = before t (way.closed t m)
    cases t (inr e) = inr (inr (ap (parent_at parents) e))

pub way_ends_at_the_top : (parents : List ℕ) (from step current : ℕ) (old now : List Bool) → IsOnWay parents from step current old now → step < length parents → current < length now → current ≡ 0 → MarksMore parents from old (set now current true)
way_ends_at_the_top parents from step current old now way some within top = record {
  closed = λ t m. cases t (marked_cases now current t within m);
  marked = λ t.
      marked_more now current t within
      ∙ (ap (λ (b : Bool). is_marked now t || b) (ap (nat_eq t) top ∙ (sym (top_above parents step t some) ∙ ap (λ u. member t (ancestors parents (length parents - step) u)) (sym top)))
      ∙ way.marked t);
}
  where
    before : (t : ℕ) → (t ≡ 0) ⊎ ((is_marked now (parent_at parents t) ≡ true) ⊎ (parent_at parents t ≡ current)) → (t ≡ 0) ⊎ (is_marked (set now current true) (parent_at parents t) ≡ true)
    before t (inl e) = inl e
    before t (inr (inl m)) = inr (still_marked now current (parent_at parents t) within m)
    before t (inr (inr e)) = inr (subst (λ (u : ℕ). is_marked (set now current true) u ≡ true) (sym e) (marked_itself now current within))

    cases : (t : ℕ) → (is_marked now t ≡ true) ⊎ (t ≡ current) → (t ≡ 0) ⊎ (is_marked (set now current true) (parent_at parents t) ≡ true)
    cases t (inl m) = before t (way.closed t m)
    cases t (inr e) = inl (e ∙ top)

pub way_ends_at_a_mark : (parents : List ℕ) (from step current : ℕ) (old now : List Bool) → IsOnWay parents from step current old now → is_marked now current ≡ true → MarksMore parents from old now
way_ends_at_a_mark parents from step current old now way met = record {
  closed = closed;
  marked = λ t. sym (nothing_more t (member t above) refl) ∙ way.marked t;
}
  where
    above : List ℕ
    above = ancestors parents (length parents - step) current

    cases : (t : ℕ) → (t ≡ 0) ⊎ ((is_marked now (parent_at parents t) ≡ true) ⊎ (parent_at parents t ≡ current)) → (t ≡ 0) ⊎ (is_marked now (parent_at parents t) ≡ true)
    cases t (inl e) = inl e
    cases t (inr (inl m)) = inr m
    cases t (inr (inr e)) = inr (subst (λ (u : ℕ). is_marked now u ≡ true) (sym e) met)

    closed : AreClosed parents now
    closed t m = cases t (way.closed t m)

    nothing_more : (t : ℕ) (b : Bool) → member t above ≡ b → (is_marked now t || member t above) ≡ is_marked now t
    nothing_more t true e =
        let there = closed_above parents now closed (length parents - step) current met t e in
        ap (λ (b : Bool). b || member t above) there ∙ sym there
    nothing_more t false e = ap (λ (b : Bool). is_marked now t || b) e ∙ or_nothing (is_marked now t)
      where
        or_nothing : (b : Bool) → (b || false) ≡ b
        or_nothing true = refl
        or_nothing false = refl

-- Some types with all above them

pub record AreMarked (parents types : List ℕ) (marks : List Bool) : Type 0 where
  pub closed : AreClosed parents marks
  pub marked : Marks parents types marks

no_mark : (n t : ℕ) → is_marked (replicate n false) t ≡ false
no_mark zero t = refl
no_mark (suc n) zero = refl
no_mark (suc n) (suc t) = no_mark n t

pub none_marked : (parents : List ℕ) (n : ℕ) → AreMarked parents [] (replicate n false)
none_marked parents n = record {
  closed = λ t m. let none = no_mark n t in let no : ⊥ = cc in absurd no;
  marked = λ t. no_mark n t;
}

pub one_more : (parents types : List ℕ) (i from : ℕ) (old new : List Bool) → i < length types → from ≡ get_or types i 0 → AreMarked parents (take i types) old → MarksMore parents from old new → AreMarked parents (take (i + 1) types) new
one_more parents types i from old new within is so_far more = record {
  closed = more.closed;
  marked = λ t.
      more.marked t
      ∙ (ap (λ (b : Bool). b || descends parents from t) (so_far.marked t)
      ∙ (ap (λ u. is_above parents (take i types) t || descends parents u t) is
      ∙ sym (list_any_more (λ own. descends parents own t) types i 0 within)));
}
