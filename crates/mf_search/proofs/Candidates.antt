-- The tests that the rebuilt run is computed with, against what they say.
use Rattle.std.proofs.Common.{◌≡◌, ℕ, zero, suc, ◌+◌, ◌<◌, ◌≤◌, ◌⊎◌, ◌++◌, ◌&&◌, Bool, true, false, cond, not, eqb, ltb, List, [], ◌∷◌, Option, Some, None, Contains, length, refl, sym, ap, ◌∙◌, inl, inr, ⊎_elim, subst, arith}
use Rattle.std.proofs.lemmas.Bool.{false≢true, or_cases, or_left, or_right, and_parts, and_from, not-true, not_from_false, false_from_ne_true, eqb-true, eq-eqb, ltb-true, ltb-false, lt-ltb, cases_lt, both_ways}
use Rattle.std.proofs.lemmas.List.Elements.{Contains-append_left, Contains-push}
use Rattle.mf_search.specs.Space.{Child, Space, children_of, Leads}
use Rattle.mf_search.specs.World.{Opened, at}
use Rattle.mf_search.specs.Rebuilt.{member, listed_in, reached, candidate, better, best_below, completed}
use Rattle.mf_search.proofs.Members.{not_in_nil, in_cons, in_first, in_later}

pub member_in : (c : ℕ) (run : List ℕ) → member c run ≡ true → Contains run c
member_in c [] e = absurd (false≢true e)
member_in c (r ∷ run) e =
    ⊎_elim
    (λ h. subst (λ t. Contains (r ∷ run) t) (eqb-true r c h) (in_first r run))
    (λ h. in_later r run c (member_in c run h))
    (or_cases (eqb r c) (member c run) e)

pub in_member : (c : ℕ) (run : List ℕ) → Contains run c → member c run ≡ true
in_member c [] h = absurd (not_in_nil c h)
in_member c (r ∷ run) h =
    ⊎_elim
    (λ (e : r ≡ c). or_left (eqb r c) (member c run) (eq-eqb r c e))
    (λ k. or_right (eqb r c) (member c run) (in_member c run k))
    (in_cons r run c h)

-- Whether the number stands in the run can be told.
pub in_or_out : (run : List ℕ) (c : ℕ) → Contains run c ⊎ (Contains run c → ⊥)
in_or_out run c = go (member c run) refl
  where
    go : (b : Bool) → member c run ≡ b → Contains run c ⊎ (Contains run c → ⊥)
    go true e = inl (member_in c run e)
    go false e = inr (λ h. false≢true (sym e ∙ in_member c run h))

pub listed_stands : {S : Type 0} (sp : Space S) (y : S) (cs : List (Child S)) → listed_in sp y cs ≡ true → (c : Child S) × Contains cs c × (c.state ≡ y)
listed_stands sp y [] e = absurd (false≢true e)
listed_stands sp y (c ∷ cs) e =
    ⊎_elim
    (λ h. (c, in_first c cs, (sp.same_is c.state y).0 h))
    (λ h. let r = listed_stands sp y cs h in (r.0, in_later c cs r.0 r.1, r.2))
    (or_cases (sp.same c.state y) (listed_in sp y cs) e)

pub stands_listed : {S : Type 0} (sp : Space S) (y : S) (cs : List (Child S)) (d : Child S) → Contains cs d → d.state ≡ y → listed_in sp y cs ≡ true
stands_listed sp y [] d h e = absurd (not_in_nil d h)
stands_listed {S} sp y (c ∷ cs) d h e =
    ⊎_elim
    (λ (k : c ≡ d). or_left (sp.same c.state y) (listed_in sp y cs) ((sp.same_is c.state y).1 (ap (λ (t : Child S). t.state) k ∙ e)))
    (λ k. or_right (sp.same c.state y) (listed_in sp y cs) (stands_listed sp y cs d k e))
    (in_cons c cs d h)

-- The state y stands in the successor list of a member of the run.
pub record IsReached {S : Type 0} (sp : Space S) (os : List (Opened S)) (y : S) (run : List ℕ) : Type 0 where
  pub from : ℕ
  pub in_run : Contains run from
  pub leads : Leads sp (at sp os from).state y

pub reached_is : {S : Type 0} (sp : Space S) (os : List (Opened S)) (y : S) (run : List ℕ) → reached sp os y run ≡ true → IsReached sp os y run
reached_is sp os y [] e = absurd (false≢true e)
reached_is sp os y (r ∷ run) e =
    ⊎_elim
    (λ h. record { from = r; in_run = in_first r run; leads = listed_stands sp y (children_of (sp.grow (at sp os r).state)) h })
    (λ h. let k = reached_is sp os y run h in record { from = k.from; in_run = in_later r run k.from k.in_run; leads = k.leads })
    (or_cases (listed_in sp y (children_of (sp.grow (at sp os r).state))) (reached sp os y run) e)

pub is_reached : {S : Type 0} (sp : Space S) (os : List (Opened S)) (y : S) (run : List ℕ) (m : ℕ) → Contains run m → Leads sp (at sp os m).state y → reached sp os y run ≡ true
is_reached sp os y [] m h l = absurd (not_in_nil m h)
is_reached sp os y (r ∷ run) m h l =
    ⊎_elim
    (λ (e : r ≡ m). or_left (listed_in sp y (children_of (sp.grow (at sp os r).state))) (reached sp os y run) (rw e (stands_listed sp y (children_of (sp.grow (at sp os m).state)) l.0 l.1 l.2)))
    (λ k. or_right (listed_in sp y (children_of (sp.grow (at sp os r).state))) (reached sp os y run) (is_reached sp os y run m k l))
    (in_cons r run m h)

-- What a candidate below v is.
pub record IsCandidate {S : Type 0} (sp : Space S) (os : List (Opened S)) (run : List ℕ) (v : ℕ) (c : ℕ) : Type 0 where
  pub less : (at sp os c).value < v
  pub outside : Contains run c → ⊥
  pub reached : IsReached sp os (at sp os c).state run

pub candidate_is : {S : Type 0} (sp : Space S) (os : List (Opened S)) (run : List ℕ) (v c : ℕ) → candidate sp os run v c ≡ true → IsCandidate sp os run v c
candidate_is sp os run v c e =
    let a = and_parts (ltb (at sp os c).value v) (not (member c run) && reached sp os (at sp os c).state run) e in
    let b = and_parts (not (member c run)) (reached sp os (at sp os c).state run) a.1 in
    record {
      less = ltb-true (at sp os c).value v a.0;
      outside = λ h. both_ways (member c run) (not-true (member c run) b.0) (in_member c run h);
      reached = reached_is sp os (at sp os c).state run b.1;
    }

pub is_candidate : {S : Type 0} (sp : Space S) (os : List (Opened S)) (run : List ℕ) (v c : ℕ) → IsCandidate sp os run v c → candidate sp os run v c ≡ true
is_candidate sp os run v c h =
    and_from (ltb (at sp os c).value v) (not (member c run) && reached sp os (at sp os c).state run)
    (lt-ltb (at sp os c).value v h.less)
    (and_from (not (member c run)) (reached sp os (at sp os c).state run)
    (not_from_false (member c run) (false_from_ne_true (member c run) (λ e. h.outside (member_in c run e))))
    (is_reached sp os (at sp os c).state run h.reached.from h.reached.in_run h.reached.leads))

-- The number c is the best candidate among the first n.
pub record IsBest {S : Type 0} (sp : Space S) (os : List (Opened S)) (run : List ℕ) (v : ℕ) (n : ℕ) (c : ℕ) : Type 0 where
  pub in_range : c < n
  pub is : IsCandidate sp os run v c
  pub least : (k : ℕ) → k < n → IsCandidate sp os run v k → (at sp os c).value ≤ (at sp os k).value

abbrev pub BestIs : {S : Type 0} → Space S → List (Opened S) → List ℕ → ℕ → ℕ → Option ℕ → Type 0
BestIs sp os run v n None = (k : ℕ) → k < n → IsCandidate sp os run v k → ⊥
BestIs sp os run v n (Some c) = IsBest sp os run v n c

best_more : {S : Type 0} (sp : Space S) (os : List (Opened S)) (run : List ℕ) (v n : ℕ) (b : Bool) (best : Option ℕ) → candidate sp os run v n ≡ b → BestIs sp os run v n best → BestIs sp os run v (suc n) (cond b (Some (better sp os n best)) best)
best_more {S} sp os run v n false None e h = λ k low is. ⊎_elim (λ l. h k l is) (λ l. let same : k ≡ n = omega arith in false≢true (sym e ∙ is_candidate sp os run v n (subst (IsCandidate sp os run v) same is))) (cases_lt k n)
best_more {S} sp os run v n false (Some c) e h = record {
  in_range = (let l = h.in_range in omega arith);
  is = h.is;
  least = λ k low is. ⊎_elim (λ l. h.least k l is) (λ l. let same : k ≡ n = omega arith in absurd (false≢true (sym e ∙ is_candidate sp os run v n (subst (IsCandidate sp os run v) same is)))) (cases_lt k n);
}
best_more {S} sp os run v n true None e h = record {
  in_range = omega arith;
  is = candidate_is sp os run v n e;
  least = λ k low is. ⊎_elim (λ l. absurd (h k l is)) (λ l. let same : n ≡ k = omega arith in subst (λ t. (at sp os n).value ≤ (at sp os t).value) same (omega arith)) (cases_lt k n);
}
best_more {S} sp os run v n true (Some c) e h = go (ltb (at sp os n).value (at sp os c).value) refl
  where
    last : (m : ℕ) → (at sp os m).value ≤ (at sp os n).value → ((k : ℕ) → k < n → IsCandidate sp os run v k → (at sp os m).value ≤ (at sp os k).value) → (k : ℕ) → k < suc n → IsCandidate sp os run v k → (at sp os m).value ≤ (at sp os k).value
    last m at_n below k low is = ⊎_elim (λ l. below k l is) (λ l. let same : n ≡ k = omega arith in subst (λ t. (at sp os m).value ≤ (at sp os t).value) same at_n) (cases_lt k n)

    go : (t : Bool) → ltb (at sp os n).value (at sp os c).value ≡ t → IsBest sp os run v (suc n) (cond t n c)
    go true t = let less = ltb-true (at sp os n).value (at sp os c).value t in record {
      in_range = omega arith;
      is = candidate_is sp os run v n e;
      least = last n (omega arith) (λ k l is. let m = h.least k l is in omega arith);
    }
    go false t = let more = ltb-false (at sp os n).value (at sp os c).value t in record {
      in_range = (let l = h.in_range in omega arith);
      is = h.is;
      least = last c more h.least;
    }

pub best_is : {S : Type 0} (sp : Space S) (os : List (Opened S)) (run : List ℕ) (v n : ℕ) → BestIs sp os run v n (best_below sp os run v n)
best_is sp os run v zero = λ k h is. omega arith
best_is sp os run v (suc n) = best_more sp os run v n (candidate sp os run v n) (best_below sp os run v n) refl (best_is sp os run v n)

-- How many of the first n numbers stand outside the run.
abbrev pub free : List ℕ → ℕ → ℕ
free run zero = 0
free run (suc n) = cond (member n run) 0 1 + free run n

pub free_le : (run : List ℕ) (n : ℕ) → free run n ≤ n
free_le run zero = omega arith
free_le run (suc n) = go (member n run) (free_le run n)
  where
    go : (b : Bool) → free run n ≤ n → cond b 0 1 + free run n ≤ suc n
    go true h = omega arith
    go false h = omega arith

pub free_pos : (run : List ℕ) (n c : ℕ) → c < n → (Contains run c → ⊥) → 0 < free run n
free_pos run zero c h out = omega arith
free_pos run (suc n) c h out = go (member n run) refl (free_pos run n c)
  where
    go : (b : Bool) → member n run ≡ b → (c < n → (Contains run c → ⊥) → 0 < free run n) → 0 < cond b 0 1 + free run n
    go false e ih = omega arith
    go true e ih = ⊎_elim (λ l. let k = ih l out in omega arith) (λ l. let same : n ≡ c = omega arith in absurd (out (subst (λ t. Contains run t) same (member_in n run e)))) (cases_lt c n)

free_step : (run : List ℕ) (c n : ℕ) (a b : Bool) → member n run ≡ a → member n (run ++ c ∷ []) ≡ b → cond b 0 1 ≤ cond a 0 1
free_step run c n false true e f = omega arith
free_step run c n false false e f = omega arith
free_step run c n true true e f = omega arith
free_step run c n true false e f = absurd (false≢true (sym f ∙ in_member n (run ++ c ∷ []) (Contains-append_left run (c ∷ []) n (member_in n run e))))

pub free_push : (run : List ℕ) (c n : ℕ) → free (run ++ c ∷ []) n ≤ free run n
free_push run c zero = omega arith
free_push run c (suc n) = let s = free_step run c n (member n run) (member n (run ++ c ∷ [])) refl refl in let ih = free_push run c n in omega arith

pub free_less : (run : List ℕ) (c n : ℕ) → c < n → (Contains run c → ⊥) → free (run ++ c ∷ []) n < free run n
free_less run c zero h out = omega arith
free_less run c (suc n) h out = go (cases_lt c n) (free_less run c n)
  where
    go : (c < n) ⊎ (n ≤ c) → (c < n → (Contains run c → ⊥) → free (run ++ c ∷ []) n < free run n) → cond (member n (run ++ c ∷ [])) 0 1 + free (run ++ c ∷ []) n < cond (member n run) 0 1 + free run n
    go (inl l) ih = let k = ih l out in let s = free_step run c n (member n run) (member n (run ++ c ∷ [])) refl refl in omega arith
    go (inr l) ih = let same : c ≡ n = omega arith in
        let new : member n (run ++ c ∷ []) ≡ true = in_member n (run ++ c ∷ []) (subst (λ t. Contains (run ++ c ∷ []) t) same (Contains-push run c)) in
        let old : member n run ≡ false = false_from_ne_true (member n run) (λ e. out (subst (λ t. Contains run t) (sym same) (member_in n run e))) in
        let s = free_push run c n in
        rw (new, old) (omega arith)

-- Where there is no candidate the run stays as it is.
pub completed_stays : {S : Type 0} (sp : Space S) (os : List (Opened S)) (v fuel : ℕ) (run : List ℕ) → best_below sp os run v (length os) ≡ None → completed sp os v fuel run ≡ run
completed_stays sp os v zero run e = refl
completed_stays sp os v (suc fuel) run e = rw e (completed_stays sp os v fuel run e)
