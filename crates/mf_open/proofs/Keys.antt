-- Keys in their order: what is among them after one is entered and after the least is taken.
use Rattle.std.proofs.Common.{◌≡◌, ◌≢◌, refl, sym, ◌∙◌, ap, subst, ℕ, zero, suc, ◌+◌, ◌⊎◌, inl, inr, Bool, true, false, cond, List, [], ◌∷◌, length, drop, Some, None, arith}
use Rattle.std.specs.Prelude.{slice_get}
use Rattle.std.specs.List.{All, Contains}
use Rattle.std.proofs.lemmas.Bool.{cases_order}
use Rattle.std.proofs.lemmas.Bool.Decides.{nat_tests}
use Rattle.std.proofs.lemmas.List.Elements.{All-nil, All-head, All-tail, All-cons, All-weaker, All-contains}
use Rattle.mf_open.specs.declared.key.Key.{Key}
use Rattle.mf_open.specs.Keys.{rank, IsBelow, is_below, IsRising, with_key}

-- the test says what the order says
pub is_below_true : (a b : Key) → IsBelow a b → is_below a b ≡ true
is_below_true a b h = grind (arith, nat_tests)

pub is_below_false : (a b : Key) → IsBelow b a → is_below a b ≡ false
is_below_false a b h = grind (arith, nat_tests)

-- the order
pub below_trans : (a b c : Key) → IsBelow a b → IsBelow b c → IsBelow a c
below_trans a b c h k = grind arith

pub below_apart : (a b : Key) → IsBelow a b → a ≢ b
below_apart a b h e =
    let v : a.value ≡ b.value = ap (λ (k : Key). k.value) e in
    let p : rank a.plain ≡ rank b.plain = ap (λ (k : Key). rank k.plain) e in
    let s : a.state ≡ b.state = ap (λ (k : Key). k.state) e in
    grind arith

same_rank : (p q : Bool) → rank p ≡ rank q → p ≡ q
same_rank true true e = refl
same_rank true false e = absurd (omega arith)
same_rank false true e = absurd (omega arith)
same_rank false false e = refl

same_key : (a b : Key) → a.value ≡ b.value → a.plain ≡ b.plain → a.state ≡ b.state → a ≡ b
same_key a b e f g =
    ap (λ (v : ℕ). record { value = v; plain = a.plain; state = a.state }) e
    ∙ ap (λ (p : Bool). record { value = b.value; plain = p; state = a.state }) f
    ∙ ap (λ (s : ℕ). record { value = b.value; plain = b.plain; state = s }) g

-- of two keys one is below the other, or they are the same
pub below_total : (a b : Key) → (a ≡ b) ⊎ (IsBelow a b ⊎ IsBelow b a)
below_total a b =
    elim (cases_order a.value b.value) [
      | inr (inl less) ↦ inr (inl (inl less))
      | inr (inr more) ↦ inr (inr (inl more))
      | inl v ↦ elim (cases_order (rank a.plain) (rank b.plain)) [
        | inr (inl less) ↦ inr (inl (grind arith))
        | inr (inr more) ↦ inr (inr (grind arith))
        | inl p ↦ elim (cases_order a.state b.state) [
          | inr (inl less) ↦ inr (inl (grind arith))
          | inr (inr more) ↦ inr (inr (grind arith))
          | inl s ↦ inl (same_key a b v (same_rank a.plain b.plain p) s)
        ]
      ]
    ]

-- an item of a list that begins with another
pub contains_first : {X : Type 0} (x : X) (xs : List X) → Contains (x ∷ xs) x
contains_first x xs = (0, omega arith, refl)

pub contains_rest : {X : Type 0} (x y : X) (xs : List X) → Contains xs y → Contains (x ∷ xs) y
contains_rest x y xs h = (suc h.0, omega (arith, h.1), h.2)

pub contains_cases : {X : Type 0} (x y : X) (xs : List X) → Contains (x ∷ xs) y → (x ≡ y) ⊎ Contains xs y
contains_cases x y xs (zero, within, read) = inl read
contains_cases x y xs (suc k, within, read) = inr (k, omega arith, read)

pub contains_none : {X : Type 0} (y : X) → Contains [] y → ⊥
contains_none y h = absurd (omega (arith, h.1))

-- keys with one more
pub with_first : (k : Key) (ks : List Key) → Contains (with_key k ks) k
with_first k [] = contains_first k []
with_first k (j ∷ js) =
    elim (is_below k j) as (λ b. Contains (cond b (k ∷ j ∷ js) (j ∷ with_key k js)) k) [
      | true ↦ contains_first k (j ∷ js)
      | false ↦ contains_rest j k (with_key k js) (with_first k js)
    ]

pub with_kept : (k i : Key) (ks : List Key) → Contains ks i → Contains (with_key k ks) i
with_kept k i [] h = absurd (contains_none i h)
with_kept k i (j ∷ js) h =
    elim (is_below k j) as (λ b. Contains (cond b (k ∷ j ∷ js) (j ∷ with_key k js)) i) [
      | true ↦ contains_rest k i (j ∷ js) h
      | false ↦ elim (contains_cases j i js h) [
        | inl same ↦ subst (λ (x : Key). Contains (j ∷ with_key k js) x) same (contains_first j (with_key k js))
        | inr later ↦ contains_rest j i (with_key k js) (with_kept k i js later)
      ]
    ]

pub with_only : (k i : Key) (ks : List Key) → Contains (with_key k ks) i → (k ≡ i) ⊎ Contains ks i
with_only k i [] h = contains_cases k i [] h
with_only k i (j ∷ js) h =
    elim (is_below k j) as (λ b. Contains (cond b (k ∷ j ∷ js) (j ∷ with_key k js)) i → (k ≡ i) ⊎ Contains (j ∷ js) i) [
      | true ↦ λ held. contains_cases k i (j ∷ js) held
      | false ↦ λ held. elim (contains_cases j i (with_key k js) held) [
        | inl same ↦ inr (subst (λ (x : Key). Contains (j ∷ js) x) same (contains_first j js))
        | inr later ↦ elim (with_only k i js later) [ inl new ↦ inl new | inr old ↦ inr (contains_rest j i js old) ]
      ]
    ] h

pub length_with : (k : Key) (ks : List Key) → length (with_key k ks) ≡ length ks + 1
length_with k [] = omega arith
length_with k (j ∷ js) =
    elim (is_below k j) as (λ b. length (cond b (k ∷ j ∷ js) (j ∷ with_key k js)) ≡ length (j ∷ js) + 1) [
      | true ↦ omega arith
      | false ↦ let n = length_with k js in omega arith
    ]

pub all_with : (P : Key → Type 0) (k : Key) (ks : List Key) → P k → All P ks → All P (with_key k ks)
all_with P k [] p all = All-cons P k [] p all
all_with P k (j ∷ js) p all =
    elim (is_below k j) as (λ b. All P (cond b (k ∷ j ∷ js) (j ∷ with_key k js))) [
      | true ↦ All-cons P k (j ∷ js) p all
      | false ↦ All-cons P j (with_key k js) (All-head P j js all) (all_with P k js p (All-tail P j js all))
    ]

pub rising_with : (k : Key) (ks : List Key) → IsRising ks → (Contains ks k → ⊥) → IsRising (with_key k ks)
rising_with k [] rising new = (All-nil (IsBelow k), tt)
rising_with k (j ∷ js) rising new =
    elim (below_total k j) [
      | inl same ↦ absurd (new (subst (λ (x : Key). Contains (j ∷ js) x) (sym same) (contains_first j js)))
      | inr (inl below) ↦
          rw (is_below_true k j below)
          (All-cons (IsBelow k) j js below (All-weaker (IsBelow j) (IsBelow k) (λ i h. below_trans k j i below h) js rising.0), rising)
      | inr (inr above) ↦
          rw (is_below_false k j above)
          (all_with (IsBelow j) k js above rising.0, rising_with k js rising.1 (λ h. new (contains_rest j k js h)))
    ]

-- keys without the first
pub first_there : (k : Key) (ks : List Key) → slice_get ks 0 ≡ Some k → Contains ks k
first_there k [] h = cc
first_there k (j ∷ js) h = let e : j ≡ k = cc in subst (λ (x : Key). Contains (j ∷ js) x) e (contains_first j js)

pub first_least : (k i : Key) (ks : List Key) → IsRising ks → slice_get ks 0 ≡ Some k → Contains ks i → (k ≡ i) ⊎ IsBelow k i
first_least k i [] rising h held = absurd (contains_none i held)
first_least k i (j ∷ js) rising h held =
    let e : j ≡ k = cc in
    elim (contains_cases j i js held) [
      | inl same ↦ inl (sym e ∙ same)
      | inr later ↦ inr (subst (λ (x : Key). IsBelow x i) e (All-contains (IsBelow j) js i rising.0 later))
    ]

pub first_gone : (k : Key) (ks : List Key) → IsRising ks → slice_get ks 0 ≡ Some k → Contains (drop 1 ks) k → ⊥
first_gone k [] rising h held = contains_none k held
first_gone k (j ∷ js) rising h held = let e : j ≡ k = cc in below_apart j k (All-contains (IsBelow j) js k rising.0 held) e

pub first_kept : (k i : Key) (ks : List Key) → slice_get ks 0 ≡ Some k → Contains ks i → (k ≡ i) ⊎ Contains (drop 1 ks) i
first_kept k i [] h held = absurd (contains_none i held)
first_kept k i (j ∷ js) h held =
    let e : j ≡ k = cc in
    elim (contains_cases j i js held) [ inl same ↦ inl (sym e ∙ same) | inr later ↦ inr later ]

pub first_only : (i : Key) (ks : List Key) → Contains (drop 1 ks) i → Contains ks i
first_only i [] held = held
first_only i (j ∷ js) held = contains_rest j i js held

pub rising_rest : (ks : List Key) → IsRising ks → IsRising (drop 1 ks)
rising_rest [] rising = rising
rising_rest (k ∷ ks) rising = rising.1

pub none_there : (i : Key) (ks : List Key) → slice_get ks 0 ≡ None → Contains ks i → ⊥
none_there i [] h held = contains_none i held
none_there i (j ∷ js) h held = cc
