-- What opening a successor list does to the opened states, one child at a time.
use Rattle.std.proofs.Common.{◌≡◌, ℕ, zero, suc, ◌<◌, ◌≤◌, ◌⊎◌, ◌++◌, Bool, true, false, List, [], ◌∷◌, Option, Some, None, Contains, length, refl, sym, ap, ◌∙◌, inl, inr, ⊎_elim, subst, arith, le_refl, append-nil, append_assoc}
use Rattle.std.proofs.lemmas.Bool.{false≢true, or_cases, or_left, or_right, cases_lt}
use Rattle.std.proofs.lemmas.List.{length_push, get_or_push, get_or_append_left}
use Rattle.std.proofs.lemmas.Option.{none-some}
use Rattle.mf_search.specs.declared.maker.Maker.TheVariants.{Start, Step}
use Rattle.mf_search.specs.Space.{Child, Space}
use Rattle.mf_search.specs.World.{Opened, WasOpened, at, known, pushed, open_child, open_all}
use Rattle.mf_search.proofs.Members.{not_in_nil, in_cons, in_first, in_later}

pub known_opened : {S : Type 0} (sp : Space S) (os : List (Opened S)) (x : S) → known sp os x ≡ true → WasOpened sp os x
known_opened sp [] x e = absurd (false≢true e)
known_opened sp (o ∷ os) x e =
    ⊎_elim
    (λ h. (0, omega arith, (sp.same_is o.state x).0 h))
    (λ h. let r = known_opened sp os x h in (suc r.0, (let l = r.1 in omega arith), r.2))
    (or_cases (sp.same o.state x) (known sp os x) e)

pub opened_known : {S : Type 0} (sp : Space S) (os : List (Opened S)) (x : S) → WasOpened sp os x → known sp os x ≡ true
opened_known sp [] x w = let h = w.1 in absurd (omega arith)
opened_known sp (o ∷ os) x w = go (opened_known sp os x) w.0 w.1 w.2
  where
    go : (WasOpened sp os x → known sp os x ≡ true) → (k : ℕ) → k < length (o ∷ os) → (at sp (o ∷ os) k).state ≡ x → known sp (o ∷ os) x ≡ true
    go ih zero h e = or_left (sp.same o.state x) (known sp os x) ((sp.same_is o.state x).1 e)
    go ih (suc k) h e = or_right (sp.same o.state x) (known sp os x) (ih (k, omega arith, e))

-- The second list begins with the first.
pub record Extends {S : Type 0} (sp : Space S) (os : List (Opened S)) (news : List (Opened S)) : Type 0 where
  pub longer : length os ≤ length news
  pub same : (i : ℕ) → i < length os → at sp news i ≡ at sp os i

pub extends_refl : {S : Type 0} (sp : Space S) (os : List (Opened S)) → Extends sp os os
extends_refl sp os = record { longer = le_refl (length os); same = λ i h. refl }

pub extends_trans : {S : Type 0} (sp : Space S) (os ns ms : List (Opened S)) → Extends sp os ns → Extends sp ns ms → Extends sp os ms
extends_trans sp os ns ms a b = record {
  longer = (let l = a.longer in let m = b.longer in omega arith);
  same = λ i h. b.same i (let l = a.longer in omega arith) ∙ a.same i h;
}

pub extends_push : {S : Type 0} (sp : Space S) (os : List (Opened S)) (o : Opened S) → Extends sp os (os ++ o ∷ [])
extends_push sp os o = record {
  longer = (let l = length_push os o in omega arith);
  same = λ i h. get_or_append_left os (o ∷ []) (record { state = sp.start; value = 0; maker = Start }) i h;
}

pub extends_opened : {S : Type 0} (sp : Space S) (os ns : List (Opened S)) (x : S) → Extends sp os ns → WasOpened sp os x → WasOpened sp ns x
extends_opened sp os ns x e w = (w.0, (let l = e.longer in let h = w.1 in omega arith), rw (e.same w.0 w.1) w.2)

-- The opened states are pairwise different.
abbrev pub Apart : {S : Type 0} → Space S → List (Opened S) → Type 0
Apart sp os = (i j : ℕ) → i < length os → j < length os → (at sp os i).state ≡ (at sp os j).state → i ≡ j

-- Each opened state has its value.
abbrev pub Valued : {S : Type 0} → Space S → List (Opened S) → Type 0
Valued sp os = (i : ℕ) → i < length os → sp.value (at sp os i).state ≡ Some (at sp os i).value

-- The state was opened by an entry of the successor list of number p.
pub record MadeBy {S : Type 0} (p : ℕ) (cs : List (Child S)) (o : Opened S) : Type 0 where
  pub child : Child S
  pub stands : Contains cs child
  pub state_is : child.state ≡ o.state
  pub maker_is : o.maker ≡ Step p child.instance child.helpful

-- What opening the list cs of number p does.
pub record Opens {S : Type 0} (sp : Space S) (p : ℕ) (cs : List (Child S)) (os : List (Opened S)) (news : List (Opened S)) : Type 0 where
  pub extends : Extends sp os news
  pub apart : Apart sp os → Apart sp news
  pub valued : Valued sp os → Valued sp news
  pub made : (i : ℕ) → length os ≤ i → i < length news → MadeBy p cs (at sp news i)
  pub all : (c : Child S) (v : ℕ) → Contains cs c → sp.value c.state ≡ Some v → WasOpened sp news c.state

-- A list of one child.
only : {S : Type 0} (c d : Child S) → Contains (c ∷ []) d → c ≡ d
only c d h = ⊎_elim (λ e. e) (λ n. absurd (not_in_nil d n)) (in_cons c [] d h)

apart_push : {S : Type 0} (sp : Space S) (os : List (Opened S)) (o : Opened S) → Apart sp os → (WasOpened sp os o.state → ⊥) → Apart sp (os ++ o ∷ [])
apart_push {S} sp os o apart new i j hi hj e = go (cases_lt i (length os)) (cases_lt j (length os))
  where
    old : (k : ℕ) → k < length os → (at sp (os ++ o ∷ []) k).state ≡ (at sp os k).state
    old k h = ap (λ (t : Opened S). t.state) ((extends_push sp os o).same k h)

    last : (k : ℕ) → length os ≡ k → (at sp (os ++ o ∷ []) k).state ≡ o.state
    last k h = ap (λ (t : Opened S). t.state) (get_or_push os o (record { state = sp.start; value = 0; maker = Start }) k h)

    go : (i < length os) ⊎ (length os ≤ i) → (j < length os) ⊎ (length os ≤ j) → i ≡ j
    go (inl a) (inl b) = apart i j a b (sym (old i a) ∙ e ∙ old j b)
    go (inl a) (inr b) = absurd (new (i, a, sym (old i a) ∙ e ∙ last j (let s = length_push os o in omega arith)))
    go (inr a) (inl b) = absurd (new (j, b, sym (old j b) ∙ sym e ∙ last i (let s = length_push os o in omega arith)))
    go (inr a) (inr b) = let s = length_push os o in omega arith

valued_push : {S : Type 0} (sp : Space S) (os : List (Opened S)) (o : Opened S) → Valued sp os → sp.value o.state ≡ Some o.value → Valued sp (os ++ o ∷ [])
valued_push {S} sp os o valued new i h = go (cases_lt i (length os))
  where
    HasValue : Opened S → Type 0
    HasValue t = sp.value t.state ≡ Some t.value

    go : (i < length os) ⊎ (length os ≤ i) → sp.value (at sp (os ++ o ∷ []) i).state ≡ Some (at sp (os ++ o ∷ []) i).value
    go (inl a) = rw ((extends_push sp os o).same i a) (valued i a)
    go (inr a) = let size = length_push os o in let e : length os ≡ i = omega arith in rw (get_or_push os o (record { state = sp.start; value = 0; maker = Start }) i e) new

-- Opening one child, by whether it was opened before and what its value is.
opens_pushed : {S : Type 0} (sp : Space S) (p : ℕ) (c : Child S) (os : List (Opened S)) (seen : Bool) (value : Option ℕ) → known sp os c.state ≡ seen → sp.value c.state ≡ value → Opens sp p (c ∷ []) os (pushed seen value p c os)
opens_pushed {S} sp p c os true value e v = record {
  extends = extends_refl sp os;
  apart = λ h. h;
  valued = λ h. h;
  made = λ i low high. absurd (omega arith);
  all = λ d u h k. subst (λ (t : Child S). WasOpened sp os t.state) (only c d h) (known_opened sp os c.state e);
}
opens_pushed {S} sp p c os false None e v = record {
  extends = extends_refl sp os;
  apart = λ h. h;
  valued = λ h. h;
  made = λ i low high. absurd (omega arith);
  all = λ d u h k. let same : c ≡ d = only c d h in let none : sp.value d.state ≡ None = subst (λ (t : Child S). sp.value t.state ≡ None) same v in absurd (none-some u (sym none ∙ k));
}
opens_pushed {S} sp p c os false (Some u) e v = record {
  extends = extends_push sp os new;
  apart = λ h. apart_push sp os new h (λ w. false≢true (sym e ∙ opened_known sp os c.state w));
  valued = λ h. valued_push sp os new h v;
  made = λ i low high. let is : at sp (os ++ new ∷ []) i ≡ new = get_or_push os new _ i (let l = length_push os new in omega arith) in
      record { child = c; stands = in_first c []; state_is = sym (ap (λ (o : Opened S). o.state) is); maker_is = ap (λ (o : Opened S). o.maker) is };
  all = λ d t h k. (length os, (let l = length_push os new in omega arith), ap (λ (o : Opened S). o.state) (get_or_push os new _ (length os) refl) ∙ ap (λ (x : Child S). x.state) (only c d h));
}
  where
    new : Opened S
    new = record { state = c.state; value = u; maker = Step p c.instance c.helpful }

pub opens_child : {S : Type 0} (sp : Space S) (p : ℕ) (c : Child S) (os : List (Opened S)) → Opens sp p (c ∷ []) os (open_child sp p c os)
opens_child sp p c os = opens_pushed sp p c os (known sp os c.state) (sp.value c.state) refl refl

-- Opening one list after another.
opens_both : {S : Type 0} (sp : Space S) (p : ℕ) (c : Child S) (cs : List (Child S)) (os ns ms : List (Opened S)) → Opens sp p (c ∷ []) os ns → Opens sp p cs ns ms → Opens sp p (c ∷ cs) os ms
opens_both {S} sp p c cs os ns ms a b = record {
  extends = extends_trans sp os ns ms a.extends b.extends;
  apart = λ h. b.apart (a.apart h);
  valued = λ h. b.valued (a.valued h);
  made = λ i low high. made i low high (cases_lt i (length ns));
  all = λ d v h k. ⊎_elim (λ (e : c ≡ d). extends_opened sp ns ms d.state b.extends (a.all d v (subst (λ t. Contains (c ∷ []) t) e (in_first c [])) k)) (λ n. b.all d v n k) (in_cons c cs d h);
}
  where
    made : (i : ℕ) → length os ≤ i → i < length ms → (i < length ns) ⊎ (length ns ≤ i) → MadeBy p (c ∷ cs) (at sp ms i)
    made i low high (inl h) = let m = a.made i low h in rw (b.extends.same i h) (record { child = m.child; stands = subst (λ t. Contains (c ∷ cs) t) (only c m.child m.stands) (in_first c cs); state_is = m.state_is; maker_is = m.maker_is })
    made i low high (inr h) = let m = b.made i h high in record { child = m.child; stands = in_later c cs m.child m.stands; state_is = m.state_is; maker_is = m.maker_is }

pub opens_all : {S : Type 0} (sp : Space S) (p : ℕ) (cs : List (Child S)) (os : List (Opened S)) → Opens sp p cs os (open_all sp p cs os)
opens_all sp p [] os = record {
  extends = extends_refl sp os;
  apart = λ h. h;
  valued = λ h. h;
  made = λ i low high. absurd (omega arith);
  all = λ c v h k. absurd (not_in_nil c h);
}
opens_all sp p (c ∷ cs) os = opens_both sp p c cs os (open_child sp p c os) (open_all sp p cs (open_child sp p c os)) (opens_child sp p c os) (opens_all sp p cs (open_child sp p c os))

-- What is opened is pushed.
pushed_after : {S : Type 0} (seen : Bool) (value : Option ℕ) (p : ℕ) (c : Child S) (os : List (Opened S)) → (more : List (Opened S)) × (pushed seen value p c os ≡ os ++ more)
pushed_after true value p c os = ([], sym (append-nil os))
pushed_after false None p c os = ([], sym (append-nil os))
pushed_after false (Some v) p c os = (record { state = c.state; value = v; maker = Step p c.instance c.helpful } ∷ [], refl)

pub open_after : {S : Type 0} (sp : Space S) (p : ℕ) (cs : List (Child S)) (os : List (Opened S)) → (more : List (Opened S)) × (open_all sp p cs os ≡ os ++ more)
open_after sp p [] os = ([], sym (append-nil os))
open_after {S} sp p (c ∷ cs) os =
    let a = pushed_after (known sp os c.state) (sp.value c.state) p c os in
    let b = open_after sp p cs (open_child sp p c os) in
    (a.0 ++ b.0, b.1 ∙ ap (λ (news : List (Opened S)). news ++ b.0) a.1 ∙ append_assoc os a.0 b.0)
