-- Where a number goes in a chain whose numbers rise, and the chain that takes it in.
use Rattle.std.proofs.Common.{◌≡◌, ◌≢◌, refl, sym, ◌∙◌, ap, subst, ℕ, zero, suc, ◌+◌, ◌<◌, ◌≤◌, inl, inr, true, false, cond, ltb, List, [], ◌∷◌, arith}
use Rattle.std.proofs.lemmas.Bool.{lt-ltb, le-ltb, cases_lt}
use Rattle.mf_open.specs.declared.nodes.Node.{Node}
use Rattle.mf_open.specs.Chains.{run, states, later, once, times, IsSpot}
use Rattle.mf_open.specs.Buckets.{Above, Rises, Lacks, with_number}
use Rattle.mf_open.proofs.Places.{once_self, once_same, run_same, states_same, later_same}

-- the last node and the spot are in the chain
pub later_in_run : (f : ℕ → Node) (n p : ℕ) → 0 < times (later f n p) (run f (suc n) p)
later_in_run f zero p = let o = once_self p in omega arith
later_in_run f (suc n) p = let k = later_in_run f n (f p).next in omega arith

pub spot_in_run : (f : ℕ → Node) (n p s at : ℕ) → IsSpot f n p s at → 0 < times at (run f (suc n) p)
spot_in_run f zero p s at h = let o = once_same at p h.1 in omega arith
spot_in_run f (suc n) p s at h =
    elim h.1 [
      | inl here ↦ let o = once_same at p here.0 in omega arith
      | inr beyond ↦ let k = spot_in_run f n (f p).next s at beyond in omega arith
    ]

pub spot_first : (f : ℕ → Node) (n p s at : ℕ) → IsSpot f n p s at → (f p).state < s
spot_first f zero p s at h = h.0
spot_first f (suc n) p s at h = h.0

-- a number above the last one goes after the last node
pub spot_last : (f : ℕ → Node) (n p s : ℕ) → Rises (states f (suc n) p) → (f (later f n p)).state < s → IsSpot f n p s (later f n p)
spot_last f zero p s rises h = (h, refl)
spot_last f (suc n) p s rises h =
    let rest = spot_last f n (f p).next s rises.1 h in
    let first = spot_first f n (f p).next s (later f n (f p).next) rest in
    (omega (arith, rises.0), inr rest)

-- a walk from the node at p, with n nodes after it, that came to the one at q, with m nodes after it
pub record Walks (f : ℕ → Node) (n p s m q : ℕ) : Type 0 where
  pub below : (f q).state < s
  pub spot : (r : ℕ) → IsSpot f m q s r → IsSpot f n p s r
  pub lacks : Lacks s (states f (suc m) q)
  pub within : (x : ℕ) → times x (run f (suc m) q) ≤ times x (run f (suc n) p)

pub walks_first : (f : ℕ → Node) (n p s : ℕ) → (f p).state < s → Lacks s (states f (suc n) p) → Walks f n p s n p
walks_first f n p s below lacks = record { below = below; spot = λ r h. h; lacks = lacks; within = λ x. omega arith }

pub walks_next : (f : ℕ → Node) (n p s m q : ℕ) → Walks f n p s (suc m) q → (f (f q).next).state ≤ s → Walks f n p s m (f q).next
walks_next f n p s m q walk h =
    let other : (f (f q).next).state ≢ s = walk.lacks.1.0 in
    record {
      below = omega arith;
      spot = λ r rest. walk.spot r (walk.below, inr rest);
      lacks = walk.lacks.1;
      within = λ x. omega (arith, walk.within x);
    }

pub walks_stop : (f : ℕ → Node) (n p s m q : ℕ) → Walks f n p s (suc m) q → s < (f (f q).next).state → IsSpot f n p s q
walks_stop f n p s m q walk h = walk.spot q (walk.below, inl (refl, h))

pub walks_end : (f : ℕ → Node) (n p s q : ℕ) → Walks f n p s 0 q → IsSpot f n p s q
walks_end f n p s q walk = walk.spot q (walk.below, refl)

-- the chain after a new first node
pub run_front : (f g : ℕ → Node) (n p at : ℕ) → (g at).next ≡ p → ((q : ℕ) → q ≢ at → g q ≡ f q) → times at (run f (suc n) p) ≡ 0 → run g (suc (suc n)) at ≡ at ∷ run f (suc n) p
run_front f g n p at links same fresh =
    ap (λ (x : ℕ). at ∷ run g (suc n) x) links
    ∙ ap (λ (ps : List ℕ). at ∷ ps) (run_same f g (suc n) p (λ q held. same q (λ e. let k : times q (run f (suc n) p) ≡ times at (run f (suc n) p) = ap (λ (x : ℕ). times x (run f (suc n) p)) e in absurd (omega arith))))

pub states_front : (f g : ℕ → Node) (n p at : ℕ) → (g at).next ≡ p → ((q : ℕ) → q ≢ at → g q ≡ f q) → times at (run f (suc n) p) ≡ 0 → states g (suc (suc n)) at ≡ (g at).state ∷ states f (suc n) p
states_front f g n p at links same fresh =
    ap (λ (x : ℕ). (g at).state ∷ states g (suc n) x) links
    ∙ ap (λ (ps : List ℕ). (g at).state ∷ ps) (states_same f g (suc n) p (λ q held. same q (λ e. let k : times q (run f (suc n) p) ≡ times at (run f (suc n) p) = ap (λ (x : ℕ). times x (run f (suc n) p)) e in absurd (omega arith))))

pub later_front : (f g : ℕ → Node) (n p at : ℕ) → (g at).next ≡ p → ((q : ℕ) → q ≢ at → g q ≡ f q) → times at (run f (suc n) p) ≡ 0 → later g (suc n) at ≡ later f n p
later_front f g n p at links same fresh =
    ap (λ (x : ℕ). later g n x) links
    ∙ later_same f g n p (λ q held. same q (λ e. let k : times q (run f (suc n) p) ≡ times at (run f (suc n) p) = ap (λ (x : ℕ). times x (run f (suc n) p)) e in absurd (omega arith)))

-- a new node for the number s after the one at a place
pub record Inserts (f g : ℕ → Node) (s at new : ℕ) : Type 0 where
  pub made : g new ≡ record { state = s; next = (f at).next }
  pub linked : g at ≡ record { state = (f at).state; next = new }
  pub elsewhere : (q : ℕ) → q ≢ new → q ≢ at → g q ≡ f q

-- a chain with one more node
pub record Longer (f g : ℕ → Node) (n p s at new : ℕ) : Type 0 where
  pub numbers : states g (suc (suc n)) p ≡ with_number s (states f (suc n) p)
  pub places : (q : ℕ) → times q (run g (suc (suc n)) p) ≡ times q (run f (suc n) p) + once q new
  pub at_last : at ≡ later f n p → later g (suc n) p ≡ new
  pub at_other : at ≢ later f n p → later g (suc n) p ≡ later f n p

with_after : (s x : ℕ) (xs : List ℕ) → x < s → with_number s (x ∷ xs) ≡ x ∷ with_number s xs
with_after s x xs h = rw (le-ltb s x (omega arith))

with_before : (s x : ℕ) (xs : List ℕ) → s < x → with_number s (x ∷ xs) ≡ s ∷ x ∷ xs
with_before s x xs h = rw (lt-ltb s x h)

-- what comes after the place is as it was
rest_same : (f g : ℕ → Node) (n s at new : ℕ) → Inserts f g s at new → times new (run f (suc n) at) ≡ 0 → ((q : ℕ) → times q (run f (suc n) at) ≤ 1) → (q : ℕ) → 0 < times q (run f n (f at).next) → g q ≡ f q
rest_same f g n s at new ins fresh apart q held =
    ins.elsewhere q
    (λ e. let k : times q (run f (suc n) at) ≡ times new (run f (suc n) at) = ap (λ (x : ℕ). times x (run f (suc n) at)) e in absurd (omega arith))
    (λ e. let o = once_same q at e in let a = apart q in absurd (omega arith))

-- the place is the first node of the chain
places_here : (f g : ℕ → Node) (n s at new : ℕ) → Inserts f g s at new → times new (run f (suc n) at) ≡ 0 → ((q : ℕ) → times q (run f (suc n) at) ≤ 1) → run g (suc (suc n)) at ≡ at ∷ new ∷ run f n (f at).next
places_here f g n s at new ins fresh apart =
    ap (λ (x : Node). at ∷ run g (suc n) x.next) ins.linked
    ∙ ap (λ (x : Node). at ∷ new ∷ run g n x.next) ins.made
    ∙ ap (λ (ps : List ℕ). at ∷ new ∷ ps) (run_same f g n (f at).next (rest_same f g n s at new ins fresh apart))

numbers_here : (f g : ℕ → Node) (n s at new : ℕ) → Inserts f g s at new → times new (run f (suc n) at) ≡ 0 → ((q : ℕ) → times q (run f (suc n) at) ≤ 1) → states g (suc (suc n)) at ≡ (f at).state ∷ s ∷ states f n (f at).next
numbers_here f g n s at new ins fresh apart =
    ap (λ (x : Node). x.state ∷ states g (suc n) x.next) ins.linked
    ∙ ap (λ (x : Node). (f at).state ∷ x.state ∷ states g n x.next) ins.made
    ∙ ap (λ (xs : List ℕ). (f at).state ∷ s ∷ xs) (states_same f g n (f at).next (rest_same f g n s at new ins fresh apart))

last_here : (f g : ℕ → Node) (s at new : ℕ) → Inserts f g s at new → later g 1 at ≡ new
last_here f g s at new ins = ap (λ (x : Node). x.next) ins.linked

other_here : (f g : ℕ → Node) (n s at new : ℕ) → Inserts f g s at new → times new (run f (suc (suc n)) at) ≡ 0 → ((q : ℕ) → times q (run f (suc (suc n)) at) ≤ 1) → later g (suc (suc n)) at ≡ later f (suc n) at
other_here f g n s at new ins fresh apart =
    ap (λ (x : Node). later g (suc n) x.next) ins.linked
    ∙ ap (λ (x : Node). later g n x.next) ins.made
    ∙ later_same f g n (f at).next (rest_same f g (suc n) s at new ins fresh apart)

longer_zero : (f g : ℕ → Node) (s at new : ℕ) → Inserts f g s at new → times new (run f 1 at) ≡ 0 → ((q : ℕ) → times q (run f 1 at) ≤ 1) → (f at).state < s → Longer f g 0 at s at new
longer_zero f g s at new ins fresh apart above = record {
  numbers = numbers_here f g 0 s at new ins fresh apart ∙ sym (with_after s (f at).state [] above);
  places = λ q. ap (times q) (places_here f g 0 s at new ins fresh apart) ∙ omega arith;
  at_last = λ e. last_here f g s at new ins;
  at_other = λ h. absurd (h refl);
}

longer_here : (f g : ℕ → Node) (n s at new : ℕ) → Inserts f g s at new → times new (run f (suc (suc n)) at) ≡ 0 → ((q : ℕ) → times q (run f (suc (suc n)) at) ≤ 1) → (f at).state < s → s < (f (f at).next).state → Longer f g (suc n) at s at new
longer_here f g n s at new ins fresh apart above below = record {
  numbers = numbers_here f g (suc n) s at new ins fresh apart ∙ sym (with_after s (f at).state (states f (suc n) (f at).next) above ∙ ap (λ (xs : List ℕ). (f at).state ∷ xs) (with_before s (f (f at).next).state (states f n (f (f at).next).next) below));
  places = λ q. ap (times q) (places_here f g (suc n) s at new ins fresh apart) ∙ omega arith;
  at_last = λ e. let o = once_same at (later f n (f at).next) e in let held = later_in_run f n (f at).next in let k : times (later f n (f at).next) (run f (suc n) (f at).next) ≡ times at (run f (suc n) (f at).next) = ap (λ (x : ℕ). times x (run f (suc n) (f at).next)) (sym e) in let a = apart at in let b = once_self at in absurd (omega arith);
  at_other = λ h. other_here f g n s at new ins fresh apart;
}

pub longer : (f g : ℕ → Node) (n p s at new : ℕ) → Inserts f g s at new → times new (run f (suc n) p) ≡ 0 → ((q : ℕ) → times q (run f (suc n) p) ≤ 1) → IsSpot f n p s at → Longer f g n p s at new
longer f g zero p s at new ins fresh apart spot =
    subst (λ (x : ℕ). Longer f g 0 x s at new) spot.1
    (longer_zero f g s at new ins (subst (λ (x : ℕ). times new (run f 1 x) ≡ 0) (sym spot.1) fresh) (subst (λ (x : ℕ). (q : ℕ) → times q (run f 1 x) ≤ 1) (sym spot.1) apart) (subst (λ (x : ℕ). (f x).state < s) (sym spot.1) spot.0))
longer f g (suc n) p s at new ins fresh apart spot =
    elim spot.1 [
      | inl here ↦
          subst (λ (x : ℕ). Longer f g (suc n) x s at new) here.0
          (longer_here f g n s at new ins (subst (λ (x : ℕ). times new (run f (suc (suc n)) x) ≡ 0) (sym here.0) fresh) (subst (λ (x : ℕ). (q : ℕ) → times q (run f (suc (suc n)) x) ≤ 1) (sym here.0) apart) (subst (λ (x : ℕ). (f x).state < s) (sym here.0) spot.0) (subst (λ (x : ℕ). s < (f (f x).next).state) (sym here.0) here.1))
      | inr rest ↦
          let held = spot_in_run f n (f p).next s at rest in
          let known : g p ≡ f p = ins.elsewhere p
          (λ e. let o = once_same new p (sym e) in absurd (omega arith))
          (λ e. let o = once_same at p (sym e) in let a = apart at in absurd (omega arith)) in
          let tail = longer f g n (f p).next s at new ins (omega arith) (λ q. omega (arith, apart q)) rest in
          record {
            numbers = ap (λ (x : Node). x.state ∷ states g (suc (suc n)) x.next) known ∙ ap (λ (xs : List ℕ). (f p).state ∷ xs) tail.numbers ∙ sym (with_after s (f p).state (states f (suc n) (f p).next) spot.0);
            places = λ q. ap (λ (x : Node). once q p + times q (run g (suc (suc n)) x.next)) known ∙ omega (arith, tail.places q);
            at_last = λ e. ap (λ (x : Node). later g (suc n) x.next) known ∙ tail.at_last e;
            at_other = λ h. ap (λ (x : Node). later g (suc n) x.next) known ∙ tail.at_other h;
          }
    ]

-- rising numbers with one more rise
above_with : (x s : ℕ) (xs : List ℕ) → x < s → Above x xs → Above x (with_number s xs)
above_with x s [] h a = h
above_with x s (y ∷ ys) h a = elim (ltb s y) as (λ b. Above x (cond b (s ∷ y ∷ ys) (y ∷ with_number s ys))) [ true ↦ h | false ↦ a ]

pub rises_with : (s : ℕ) (xs : List ℕ) → Rises xs → Lacks s xs → Rises (with_number s xs)
rises_with s [] rises lacks = (tt, tt)
rises_with s (x ∷ xs) rises lacks =
    elim (cases_lt s x) [
      | inl below ↦ rw (lt-ltb s x below) (below, rises)
      | inr above ↦ let other : x ≢ s = lacks.0 in rw (le-ltb s x above) (above_with x s xs (omega arith) rises.0, rises_with s xs rises.1 lacks.1)
    ]
