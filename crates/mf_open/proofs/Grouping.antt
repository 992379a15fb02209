-- The keys of buckets that fall.
use Rattle.std.proofs.Common.{◌≡◌, refl, sym, ◌∙◌, ap, subst, ℕ, zero, suc, ◌<◌, inl, inr, Bool, true, false, cond, ltb, List, [], ◌∷◌, ◌++◌, map, arith}
use Rattle.std.specs.List.{All, Contains}
use Rattle.std.proofs.lemmas.Bool.{le-ltb, eq-eqb, cases_order}
use Rattle.std.proofs.lemmas.List.Elements.{All-nil, All-head, All-tail, All-cons, All-append, All-weaker, All-map, Contains-append_left, Contains-append_right}
use Rattle.mf_open.specs.declared.key.Key.{Key}
use Rattle.mf_open.specs.declared.nodes.Node.{Node}
use Rattle.mf_open.specs.declared.bucket.Bucket.{Bucket}
use Rattle.mf_open.specs.Keys.{rank, IsBelow, is_below, IsRising, with_key}
use Rattle.mf_open.specs.Buckets.{group, key_in, keys_of, states_in, Above, Rises, Lacks, with_number, IsChain, Falls}
use Rattle.mf_open.proofs.Falling.{group_most}
use Rattle.mf_open.proofs.Keys.{is_below_true, is_below_false, contains_rest}
use Rattle.mf_open.proofs.Others.{keys_append, all_left, all_right}

abbrev pub group_of : Key → ℕ
group_of k = group k.value k.plain

same_value : (v : ℕ) (p q : Bool) → group v p < group v q → rank p < rank q
unfolding group
same_value v p q h = omega arith

-- a key of a lower group is below
pub below_by_group : (j k : Key) → group_of j < group_of k → IsBelow j k
below_by_group j k h =
    let a = group_most j.value j.plain in
    let b = group_most k.value k.plain in
    elim (cases_order j.value k.value) [
      | inl same ↦
          let less : rank j.plain < rank k.plain = same_value k.value j.plain k.plain (subst (λ (v : ℕ). group v j.plain < group k.value k.plain) same h) in
          inr (inl (same, less))
      | inr (inl less) ↦ inl less
      | inr (inr more) ↦ absurd (omega arith)
    ]

-- the keys of a bucket have its group
bucket_groups : (b : Bucket) (xs : List ℕ) → All (λ k. group_of k ≡ group b.value b.plain) (map (key_in b) xs)
bucket_groups b [] = All-nil (λ (k : Key). group_of k ≡ group b.value b.plain)
bucket_groups b (x ∷ xs) = All-cons (λ (k : Key). group_of k ≡ group b.value b.plain) (key_in b x) (map (key_in b) xs) refl (bucket_groups b xs)

-- what holds of the groups of buckets holds of those of their keys
pub all_groups : (P : ℕ → Type 0) (f : ℕ → Node) (bs : List Bucket) → All (λ b. P (group b.value b.plain)) bs → All (λ k. P (group_of k)) (keys_of f bs)
all_groups P f [] all = All-nil (λ (k : Key). P (group_of k))
all_groups P f (b ∷ bs) all =
    All-append (λ (k : Key). P (group_of k)) (keys_of f bs) (map (key_in b) (states_in f b))
    (all_groups P f bs (All-tail (λ (c : Bucket). P (group c.value c.plain)) b bs all))
    (All-weaker (λ (k : Key). group_of k ≡ group b.value b.plain) (λ (k : Key). P (group_of k)) (λ k e. subst P (sym e) (All-head (λ (c : Bucket). P (group c.value c.plain)) b bs all)) (map (key_in b) (states_in f b)) (bucket_groups b (states_in f b)))

-- a key goes after those below it and before those above it
pub with_key_skip : (k : Key) (xs ys : List Key) → All (λ j. IsBelow j k) xs → with_key k (xs ++ ys) ≡ xs ++ with_key k ys
with_key_skip k [] ys all = refl
with_key_skip k (x ∷ xs) ys all =
    rw (is_below_false k x (All-head (λ (j : Key). IsBelow j k) x xs all)) (ap (λ (ks : List Key). x ∷ ks) (with_key_skip k xs ys (All-tail (λ (j : Key). IsBelow j k) x xs all)))

with_key_front : (k : Key) (ys : List Key) → All (IsBelow k) ys → with_key k ys ≡ k ∷ ys
with_key_front k [] all = refl
with_key_front k (y ∷ ys) all = rw (is_below_true k y (All-head (IsBelow k) y ys all))

pub with_key_stop : (k : Key) (xs ys : List Key) → All (IsBelow k) ys → with_key k (xs ++ ys) ≡ with_key k xs ++ ys
with_key_stop k [] ys all = with_key_front k ys all
with_key_stop k (x ∷ xs) ys all =
    elim (is_below k x) as (λ b. cond b (k ∷ x ∷ (xs ++ ys)) (x ∷ with_key k (xs ++ ys)) ≡ cond b (k ∷ x ∷ xs) (x ∷ with_key k xs) ++ ys) [
      | true ↦ refl
      | false ↦ ap (λ (ks : List Key). x ∷ ks) (with_key_stop k xs ys all)
    ]

same_bucket : (b : Bucket) (s x : ℕ) → is_below (key_in b s) (key_in b x) ≡ ltb s x
same_bucket b s x = rw (le-ltb b.value b.value (omega arith), eq-eqb b.value b.value refl, le-ltb (rank b.plain) (rank b.plain) (omega arith), eq-eqb (rank b.plain) (rank b.plain) refl)

-- in a bucket a key goes where its number goes
pub with_key_map : (b : Bucket) (s : ℕ) (xs : List ℕ) → with_key (key_in b s) (map (key_in b) xs) ≡ map (key_in b) (with_number s xs)
with_key_map b s [] = refl
with_key_map b s (x ∷ xs) =
    rw (same_bucket b s x)
    (elim (ltb s x) as (λ t. cond t (key_in b s ∷ key_in b x ∷ map (key_in b) xs) (key_in b x ∷ with_key (key_in b s) (map (key_in b) xs)) ≡ map (key_in b) (cond t (s ∷ x ∷ xs) (x ∷ with_number s xs))) [
      | true ↦ refl
      | false ↦ ap (λ (ks : List Key). key_in b x ∷ ks) (with_key_map b s xs)
    ])

-- the numbers of a bucket are those of its keys
contains_map : (b : Bucket) (s : ℕ) (xs : List ℕ) → Contains xs s → Contains (map (key_in b) xs) (key_in b s)
contains_map b s [] h = absurd (omega (arith, h.1))
contains_map b s (x ∷ xs) (zero, within, read) = (0, omega arith, ap (key_in b) read)
contains_map b s (x ∷ xs) (suc k, within, read) = contains_rest (key_in b x) (key_in b s) (map (key_in b) xs) (contains_map b s xs (k, omega arith, read))

lacks_from : (s : ℕ) (xs : List ℕ) → (Contains xs s → ⊥) → Lacks s xs
lacks_from s [] h = tt
lacks_from s (x ∷ xs) h = (λ e. h (0, omega arith, e), lacks_from s xs (λ k. h (contains_rest x s xs k)))

pub lacks_number : (f : ℕ → Node) (front back : List Bucket) (b : Bucket) (s : ℕ) → (Contains (keys_of f (front ++ b ∷ back)) (key_in b s) → ⊥) → Lacks s (states_in f b)
lacks_number f front back b s h =
    lacks_from s (states_in f b)
    (λ k. h (subst (λ (ks : List Key). Contains ks (key_in b s)) (sym (keys_append f front (b ∷ back)))
    (Contains-append_left (keys_of f (b ∷ back)) (keys_of f front) (key_in b s)
    (Contains-append_right (keys_of f back) (map (key_in b) (states_in f b)) (key_in b s) (contains_map b s (states_in f b) k)))))

-- the keys rise
rises_all : (x : ℕ) (xs : List ℕ) → Above x xs → Rises xs → All (λ y. x < y) xs
rises_all x [] above rises = All-nil (λ (y : ℕ). x < y)
rises_all x (y ∷ ys) above rises =
    All-cons (λ (z : ℕ). x < z) y ys above (All-weaker (λ (z : ℕ). y < z) (λ (z : ℕ). x < z) (λ z h. omega arith) ys (rises_all y ys rises.0 rises.1))

rising_map : (b : Bucket) (xs : List ℕ) → Rises xs → IsRising (map (key_in b) xs)
rising_map b [] rises = tt
rising_map b (x ∷ xs) rises = (
  All-map (IsBelow (key_in b x)) (key_in b) xs (All-weaker (λ (y : ℕ). x < y) (λ (y : ℕ). IsBelow (key_in b x) (key_in b y)) (λ y h. inr (inr (refl, refl, h))) xs (rises_all x xs rises.0 rises.1)),
  rising_map b xs rises.1,
)

rising_append : (xs ys : List Key) → IsRising xs → IsRising ys → All (λ x. All (IsBelow x) ys) xs → IsRising (xs ++ ys)
rising_append [] ys left right across = right
rising_append (x ∷ xs) ys left right across =
    (All-append (IsBelow x) xs ys left.0 (All-head (λ (k : Key). All (IsBelow k) ys) x xs across), rising_append xs ys left.1 right (All-tail (λ (k : Key). All (IsBelow k) ys) x xs across))

pub rising_keys : (f : ℕ → Node) (bs : List Bucket) → All (IsChain f) bs → Falls bs → IsRising (keys_of f bs)
rising_keys f [] chains falls = tt
rising_keys f (b ∷ bs) chains falls =
    let chain = All-head (IsChain f) b bs chains in
    rising_append (keys_of f bs) (map (key_in b) (states_in f b)) (rising_keys f bs (All-tail (IsChain f) b bs chains) falls.1) (rising_map b (states_in f b) chain.rises)
    (All-weaker (λ (k : Key). group_of k < group b.value b.plain) (λ (k : Key). All (IsBelow k) (map (key_in b) (states_in f b)))
    (λ k h. All-weaker (λ (j : Key). group_of j ≡ group b.value b.plain) (IsBelow k) (λ j e. below_by_group k j (omega (arith, h, e))) (map (key_in b) (states_in f b)) (bucket_groups b (states_in f b)))
    (keys_of f bs) (all_groups (λ (g : ℕ). g < group b.value b.plain) f bs falls.0))

-- a key among those of lower buckets, of its own and of higher ones
pub with_key_between : (k : Key) (low own high : List Key) → All (λ j. IsBelow j k) low → All (IsBelow k) high → with_key k ((low ++ own) ++ high) ≡ (low ++ with_key k own) ++ high
with_key_between k low own high below above =
    with_key_stop k (low ++ own) high above ∙ ap (λ (ks : List Key). ks ++ high) (with_key_skip k low own below)

pub all_below : (k : Key) (f : ℕ → Node) (bs : List Bucket) → All (λ b. group b.value b.plain < group_of k) bs → All (λ j. IsBelow j k) (keys_of f bs)
all_below k f bs all = All-weaker (λ (j : Key). group_of j < group_of k) (λ (j : Key). IsBelow j k) (λ j h. below_by_group j k h) (keys_of f bs) (all_groups (λ (g : ℕ). g < group_of k) f bs all)

pub all_above : (k : Key) (f : ℕ → Node) (bs : List Bucket) → All (λ b. group_of k < group b.value b.plain) bs → All (IsBelow k) (keys_of f bs)
all_above k f bs all = All-weaker (λ (j : Key). group_of k < group_of j) (IsBelow k) (λ j h. below_by_group k j h) (keys_of f bs) (all_groups (λ (g : ℕ). group_of k < g) f bs all)

-- buckets that fall, around one of them
pub falls_above : (front back : List Bucket) (b : Bucket) → Falls (front ++ b ∷ back) → All (λ c. group b.value b.plain < group c.value c.plain) front
falls_above [] back b falls = All-nil (λ (c : Bucket). group b.value b.plain < group c.value c.plain)
falls_above (x ∷ xs) back b falls =
    All-cons (λ (c : Bucket). group b.value b.plain < group c.value c.plain) x xs
    (All-head (λ (c : Bucket). group c.value c.plain < group x.value x.plain) b back (all_right (λ (c : Bucket). group c.value c.plain < group x.value x.plain) xs (b ∷ back) falls.0))
    (falls_above xs back b falls.1)

pub falls_below : (front back : List Bucket) (b : Bucket) → Falls (front ++ b ∷ back) → All (λ c. group c.value c.plain < group b.value b.plain) back
falls_below [] back b falls = falls.0
falls_below (x ∷ xs) back b falls = falls_below xs back b falls.1

pub falls_with : (front back : List Bucket) (b : Bucket) → Falls (front ++ back) → All (λ c. group b.value b.plain < group c.value c.plain) front → All (λ c. group c.value c.plain < group b.value b.plain) back → Falls (front ++ b ∷ back)
falls_with [] back b falls above below = (below, falls)
falls_with (x ∷ xs) back b falls above below =
    let low : All (λ c. group c.value c.plain < group x.value x.plain) (xs ++ back) = falls.0 in (
      All-append (λ (c : Bucket). group c.value c.plain < group x.value x.plain) xs (b ∷ back)
          (all_left (λ (c : Bucket). group c.value c.plain < group x.value x.plain) xs back low)
          (All-cons (λ (c : Bucket). group c.value c.plain < group x.value x.plain) b back (All-head (λ (c : Bucket). group b.value b.plain < group c.value c.plain) x xs above) (all_right (λ (c : Bucket). group c.value c.plain < group x.value x.plain) xs back low)),
      falls_with xs back b falls.1 (All-tail (λ (c : Bucket). group b.value b.plain < group c.value c.plain) x xs above) below,
    )

pub falls_without : (front back : List Bucket) (b : Bucket) → Falls (front ++ b ∷ back) → Falls (front ++ back)
falls_without [] back b falls = falls.1
falls_without (x ∷ xs) back b falls =
    let low : All (λ c. group c.value c.plain < group x.value x.plain) (xs ++ b ∷ back) = falls.0 in (
      All-append (λ (c : Bucket). group c.value c.plain < group x.value x.plain) xs back
          (all_left (λ (c : Bucket). group c.value c.plain < group x.value x.plain) xs (b ∷ back) low)
          (All-tail (λ (c : Bucket). group c.value c.plain < group x.value x.plain) b back (all_right (λ (c : Bucket). group c.value c.plain < group x.value x.plain) xs (b ∷ back) low)),
      falls_without xs back b falls.1,
    )
