-- Chains of hashes, one hash more.
use Rattle.std.proofs.Common.{◌≡◌, ◌≢◌, ◌⊎◌, inl, inr, refl, sym, ap, subst, ◌∙◌, ℕ, zero, suc, ◌+◌, ◌<◌, ◌≤◌, nat_eq, true, false, if◌then◌else◌, List, [], ◌∷◌, ◌++◌, length, get_or, set, Option, Some, None, IfNone, IfSome, arith}
use Rattle.std.proofs.lemmas.List.{get_or_append_left, get_or_at, get_or-set_same, get_or-set_other, length-append, length-set}
use Rattle.std.proofs.lemmas.Bool.{cases_eq, cases_lt}
use Rattle.std.proofs.lemmas.Bool.Decides.{nat_tests}
use Rattle.mf_store.specs.Chains.{IsNext, IsWalk, IsChained, link}

module _ (hs : List ℕ) (h : ℕ) where
  pub pushed_length : length (hs ++ h ∷ []) ≡ length hs + 1
  pushed_length = length-append hs (h ∷ []) ∙ omega arith

  before : (j : ℕ) → j < length hs → get_or (hs ++ h ∷ []) j 0 ≡ get_or hs j 0
  before j b = get_or_append_left hs (h ∷ []) 0 j b

  pub newest : get_or (hs ++ h ∷ []) (length hs) 0 ≡ h
  newest = get_or_at hs h [] 0 (length hs) refl

  -- what comes next stays, unless the new hash is the next
  still : (g n : ℕ) (o : Option ℕ) → (o ≡ None → g ≢ h) → IsNext g n hs o → IsNext g n (hs ++ h ∷ []) o
  still g n None other none = λ j from b same.
      let long = pushed_length in
      by j from b same (cases_eq j (length hs))
    where
      by : (j : ℕ) → n ≤ j → j < length (hs ++ h ∷ []) → get_or (hs ++ h ∷ []) j 0 ≡ g → (j ≡ length hs) ⊎ (j ≢ length hs) → ⊥
      by j from b same (inl e) = other refl (sym same ∙ ap (λ k. get_or (hs ++ h ∷ []) k 0) e ∙ newest)
      by j from b same (inr e) =
          let inside : j < length hs = omega (arith, pushed_length) in
          none j from inside (sym (before j inside) ∙ same)
  still g n (Some i) other found = (
    found.0,
    omega (arith, pushed_length, found.1),
    before i found.1 ∙ found.2,
    λ j from b same. let inside : j < length hs = omega (arith, found.1) in found.3 j from b (sym (before j inside) ∙ same),
  )

  now_next : (n : ℕ) → n ≤ length hs → IsNext h n hs None → IsNext h n (hs ++ h ∷ []) (Some (length hs))
  now_next n from none = (
    from,
    omega (arith, pushed_length),
    newest,
    λ j f b same. none j f b (sym (before j b) ∙ same),
  )

  carried : (g f n : ℕ) (o p : Option ℕ) → f ≡ g → p ≡ o → IsNext g n (hs ++ h ∷ []) o → IsNext f n (hs ++ h ∷ []) p
  carried g f n o p e d found =
      subst (λ q. IsNext f n (hs ++ h ∷ []) q) (sym d) (subst (λ k. IsNext k n (hs ++ h ∷ []) o) (sym e) found)

  -- nothing comes after the new hash
  at_end : (g : ℕ) (k : ℕ) → k ≡ length hs → IsNext g (k + 1) (hs ++ h ∷ []) None
  at_end g k e = λ j from b same. omega (arith, pushed_length)

  module _ (first : ℕ → Option ℕ) (links : List ℕ) (c : IsChained first links hs) where
    -- the new hash is the first of its chain
    pub chained_first : (now : ℕ → Option ℕ) → IsNext h 0 hs None → ((g : ℕ) → now g ≡ (if nat_eq h g then Some (length hs) else first g)) → IsChained now (links ++ 0 ∷ []) (hs ++ h ∷ [])
    chained_first now none firsts = record {
      counted = length-append links (0 ∷ []) ∙ omega (arith, c.counted, pushed_length);
      firsts = λ g. first_of g (cases_eq h g);
      nexts = λ k b. next_of k b (cases_eq k (length hs));
    }
      where
        first_of : (g : ℕ) → (h ≡ g) ⊎ (h ≢ g) → IsNext g 0 (hs ++ h ∷ []) (now g)
        first_of g (inl e) =
            let test : nat_eq h g ≡ true = grind (arith, nat_tests) in
            carried h g 0 (Some (length hs)) (now g) (sym e) (firsts g ∙ ap (λ b. if b then Some (length hs) else first g) test) (now_next 0 (omega arith) none)
        first_of g (inr e) =
            let test : nat_eq h g ≡ false = grind (arith, nat_tests) in
            carried g g 0 (first g) (now g) refl (firsts g ∙ ap (λ b. if b then Some (length hs) else first g) test) (still g 0 (first g) (λ _ same. e (sym same)) (c.firsts g))

        next_of : (k : ℕ) → k < length (hs ++ h ∷ []) → (k ≡ length hs) ⊎ (k ≢ length hs) → IsNext (get_or (hs ++ h ∷ []) k 0) (k + 1) (hs ++ h ∷ []) (link (get_or (links ++ 0 ∷ []) k 0))
        next_of k b (inl e) =
            carried _ _ (k + 1) None _ refl (ap link (get_or_at links 0 [] 0 k (c.counted ∙ sym e))) (at_end (get_or (hs ++ h ∷ []) k 0) k e)
        next_of k b (inr e) =
            let inside : k < length hs = omega (arith, pushed_length) in
            carried (get_or hs k 0) _ (k + 1) (link (get_or links k 0)) _ (before k inside) (ap link (get_or_append_left links (0 ∷ []) 0 k (omega (arith, c.counted))))
            (still (get_or hs k 0) (k + 1) (link (get_or links k 0)) (λ _ same. none k (omega arith) inside same) (c.nexts k inside))

    -- the new hash comes after the last of its chain
    pub chained_next : (now : ℕ → Option ℕ) (i : ℕ) → IsWalk h hs (Some i) None → ((g : ℕ) → now g ≡ first g) → IsChained now (set links i (length hs) ++ 0 ∷ []) (hs ++ h ∷ [])
    chained_next now i last firsts = record {
      counted = length-append (set links i (length hs)) (0 ∷ []) ∙ omega (arith, c.counted, pushed_length, length-set links i (length hs));
      firsts = λ g. carried g g 0 (first g) (now g) refl (firsts g) (still g 0 (first g) (λ e same. subst (IsNext g 0 hs) e (c.firsts g) i (omega arith) last.place.0 (last.place.1 ∙ sym same)) (c.firsts g));
      nexts = λ k b. next_of k b (cases_eq k (length hs));
    }
      where
        link_is : (n : ℕ) → 0 < n → link n ≡ Some n
        link_is zero b = absurd (omega arith)
        link_is (suc n) b = refl

        same_chain : (k : ℕ) → k < length hs → k ≢ i → link (get_or links k 0) ≡ None → get_or hs k 0 ≢ h
        same_chain k inside apart e same = by (cases_lt k i)
          where
            by : (k < i) ⊎ (i ≤ k) → ⊥
            by (inl l) = subst (IsNext (get_or hs k 0) (k + 1) hs) e (c.nexts k inside) i (omega arith) last.place.0 (last.place.1 ∙ sym same)
            by (inr l) = last.ahead k (omega arith) inside same

        inner : (k : ℕ) → k < length hs → (k ≡ i) ⊎ (k ≢ i) → IsNext (get_or hs k 0) (k + 1) (hs ++ h ∷ []) (link (get_or (set links i (length hs)) k 0))
        inner k inside (inl e) =
            carried h _ (k + 1) (Some (length hs)) _ (ap (λ j. get_or hs j 0) e ∙ last.place.1)
            (ap (λ j. link (get_or (set links i (length hs)) j 0)) e ∙ ap link (get_or-set_same links i (length hs) 0 (omega (arith, c.counted))) ∙ link_is (length hs) (omega arith))
            (subst (λ j. IsNext h (j + 1) (hs ++ h ∷ []) (Some (length hs))) (sym e) (now_next (i + 1) (omega (arith, last.place.0)) last.ahead))
        inner k inside (inr e) =
            carried (get_or hs k 0) _ (k + 1) (link (get_or links k 0)) _ refl (ap link (get_or-set_other links i k (length hs) 0 e))
            (still (get_or hs k 0) (k + 1) (link (get_or links k 0)) (same_chain k inside e) (c.nexts k inside))

        next_of : (k : ℕ) → k < length (hs ++ h ∷ []) → (k ≡ length hs) ⊎ (k ≢ length hs) → IsNext (get_or (hs ++ h ∷ []) k 0) (k + 1) (hs ++ h ∷ []) (link (get_or (set links i (length hs) ++ 0 ∷ []) k 0))
        next_of k b (inl e) =
            carried _ _ (k + 1) None _ refl (ap link (get_or_at (set links i (length hs)) 0 [] 0 k (length-set links i (length hs) ∙ c.counted ∙ sym e))) (at_end (get_or (hs ++ h ∷ []) k 0) k e)
        next_of k b (inr e) =
            let inside : k < length hs = omega (arith, pushed_length) in
            carried (get_or hs k 0) _ (k + 1) (link (get_or (set links i (length hs)) k 0)) _ (before k inside)
            (ap link (get_or_append_left (set links i (length hs)) (0 ∷ []) 0 k (omega (arith, c.counted, length-set links i (length hs)))))
            (inner k inside (cases_eq k i))

    -- the same, as the code joins the new hash to its chain
    pub chained : (o : Option ℕ) (now : ℕ → Option ℕ) (joined : List ℕ) (n : ℕ) → n ≡ length hs → IsWalk h hs o None
        → IfNone o ((g : ℕ) → now g ≡ (if nat_eq h g then Some n else first g)) → IfNone o (joined ≡ links) → IfSome o (λ i. joined ≡ set links i n) → IfSome o (λ i. (g : ℕ) → now g ≡ first g)
        → IsChained now (joined ++ 0 ∷ []) (hs ++ h ∷ [])
    chained None now joined n e walk firsts same next others =
        subst (λ ls. IsChained now (ls ++ 0 ∷ []) (hs ++ h ∷ [])) (sym same)
        (chained_first now walk.ahead (λ g. firsts g ∙ ap (λ k. if nat_eq h g then Some k else first g) e))
    chained (Some i) now joined n e walk firsts same next others =
        subst (λ ls. IsChained now (ls ++ 0 ∷ []) (hs ++ h ∷ [])) (sym (next ∙ ap (set links i) e))
        (chained_next now i walk others)
