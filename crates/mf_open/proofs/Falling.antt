-- Buckets that fall, by their groups.
use Rattle.std.proofs.Common.{◌≡◌, refl, sym, ◌∙◌, ap, subst, ℕ, zero, suc, ◌+◌, ◌*◌, ◌<◌, ◌≤◌, inl, inr, Bool, true, false, List, [], ◌∷◌, length, get_or, take, drop, arith, Ordering}
use Rattle.std.specs.declared.cmp.Ordering.TheVariants.{Less, Equal, Greater}
use Rattle.std.specs.Ordering.{MatchOrdering, nat_cmp, bool_cmp, ordering_then}
use Rattle.std.specs.List.{All}
use Rattle.std.proofs.lemmas.Bool.{lt-ltb, le-ltb, eq-eqb, ne_eqb, cases_order}
use Rattle.std.proofs.lemmas.List.{get_or-take, get_or-drop, get_or_default, length-take-le, length-drop}
use Rattle.std.proofs.lemmas.List.Elements.{All-get_or}
use Rattle.mf_open.specs.declared.bucket.Bucket.{Bucket}
use Rattle.mf_open.specs.Buckets.{group, Falls}

cmp_less : (v w : ℕ) → v < w → nat_cmp v w ≡ Less
cmp_less v w h = rw (lt-ltb v w h)

cmp_equal : (v w : ℕ) → v ≡ w → nat_cmp v w ≡ Equal
cmp_equal v w h = rw (le-ltb v w (omega arith), eq-eqb v w h)

cmp_greater : (v w : ℕ) → w < v → nat_cmp v w ≡ Greater
cmp_greater v w h = rw (le-ltb v w (omega arith), ne_eqb v w (omega arith))

pub group_most : (v : ℕ) (p : Bool) → (2 * v ≤ group v p) × (group v p ≤ 2 * v + 1)
unfolding group
group_most v true = (omega arith, omega arith)
group_most v false = (omega arith, omega arith)

marks_order : (v : ℕ) (p q : Bool) → MatchOrdering (bool_cmp p q) (group v p < group v q) (group v p ≡ group v q) (group v q < group v p)
unfolding group
marks_order v false false = refl
marks_order v false true = omega arith
marks_order v true false = omega arith
marks_order v true true = refl

pub group_order : (v w : ℕ) (p q : Bool) (r : Ordering) → r ≡ ordering_then (nat_cmp v w) (bool_cmp p q) → MatchOrdering r (group v p < group w q) (group v p ≡ group w q) (group w q < group v p)
group_order v w p q r e =
    let a = group_most v p in
    let b = group_most w q in
    elim (cases_order v w) [
      | inl same ↦
          let is : bool_cmp p q ≡ r = sym (e ∙ ap (λ (o : Ordering). ordering_then o (bool_cmp p q)) (cmp_equal v w same)) in
          subst (λ (x : ℕ). MatchOrdering r (group v p < group x q) (group v p ≡ group x q) (group x q < group v p)) same
          (subst (λ (o : Ordering). MatchOrdering o (group v p < group v q) (group v p ≡ group v q) (group v q < group v p)) is (marks_order v p q))
      | inr (inl less) ↦ rw (e ∙ ap (λ (o : Ordering). ordering_then o (bool_cmp p q)) (cmp_less v w less)) (omega arith)
      | inr (inr more) ↦ rw (e ∙ ap (λ (o : Ordering). ordering_then o (bool_cmp p q)) (cmp_greater v w more)) (omega arith)
    ]

abbrev rank_at : Bucket → ℕ
rank_at b = group b.value b.plain

falls_at : (bs : List Bucket) → Falls bs → (i j : ℕ) (d : Bucket) → i < j → j < length bs → rank_at (get_or bs j d) < rank_at (get_or bs i d)
falls_at [] falls i j d h k = absurd (omega arith)
falls_at (b ∷ bs) falls i zero d h k = absurd (omega arith)
falls_at (b ∷ bs) falls zero (suc j) d h k = All-get_or (λ c. group c.value c.plain < group b.value b.plain) bs j d (omega arith) falls.0
falls_at (b ∷ bs) falls (suc i) (suc j) d h k = falls_at bs falls.1 i j d (omega arith) (omega arith)

-- a bucket above the group is after no other one that is not
pub above_all : (bs : List Bucket) → Falls bs → (m wanted : ℕ) (e : Bucket) → m < length bs → wanted < rank_at (get_or bs m e) → (k : ℕ) (d : Bucket) → k < m + 1 → wanted < rank_at (get_or bs k d)
above_all bs falls m wanted e within h k d below =
    let is : rank_at (get_or bs m e) ≡ rank_at (get_or bs m d) = ap rank_at (get_or_default bs m e d within) in
    elim (cases_order k m) [
      | inl same ↦ rw same (omega arith)
      | inr (inl less) ↦ let f = falls_at bs falls k m d less within in omega arith
      | inr (inr more) ↦ absurd (omega arith)
    ]

-- a bucket below the group is before no other one that is not
pub below_all : (bs : List Bucket) → Falls bs → (m wanted : ℕ) (e : Bucket) → m < length bs → rank_at (get_or bs m e) < wanted → (k : ℕ) (d : Bucket) → m ≤ k → k < length bs → rank_at (get_or bs k d) < wanted
below_all bs falls m wanted e within h k d above end =
    let is : rank_at (get_or bs m e) ≡ rank_at (get_or bs m d) = ap rank_at (get_or_default bs m e d within) in
    elim (cases_order k m) [
      | inl same ↦ rw same (omega arith)
      | inr (inl less) ↦ absurd (omega arith)
      | inr (inr more) ↦ let f = falls_at bs falls m k d more end in omega arith
    ]

pub all_front : (bs : List Bucket) (at wanted : ℕ) → at ≤ length bs → ((k : ℕ) (d : Bucket) → k < at → wanted < rank_at (get_or bs k d)) → All (λ b. wanted < group b.value b.plain) (take at bs)
all_front bs at wanted h above k d within =
    let n = length-take-le at bs h in
    let less : k < at = omega arith in
    rw (get_or-take at bs k d less) (above k d less)

pub all_rest : (bs : List Bucket) (at wanted : ℕ) → at ≤ length bs → ((k : ℕ) (d : Bucket) → at ≤ k → k < length bs → rank_at (get_or bs k d) < wanted) → All (λ b. group b.value b.plain < wanted) (drop at bs)
all_rest bs at wanted h below k d within =
    let n = length-drop at bs in
    rw (get_or-drop at bs k d) (below (at + k) d (omega arith) (omega arith))
