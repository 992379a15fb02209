-- Lists of parts in term order: what putting in a part keeps, and that a coefficient that is too wide stays so.
use Rattle.std.proofs.Common.{◌≡◌, ℕ, zero, suc, ◌+◌, ◌<◌, ◌≤◌, Bool, true, false, ◌&&◌, ◌||◌, not, cond, nat_eq, nat_lt, List, [], ◌∷◌, ◌++◌, length, map, get_or, take, drop, set, Result, Ok, Err, refl, sym, ap, ◌∙◌, subst, arith}
use Rattle.std.proofs.lemmas.Bool.Decides.{nat_tests}
use Rattle.std.proofs.lemmas.List.{drop_more, drop_all, get_or_read, map-append, take_all, take_more}
use Rattle.std.specs.Cmp.{first_so, second_so}
use Rattle.std.specs.List.{AllByRecursion}
use Rattle.mf_fraction.specs.Checked.{checked}
use Rattle.mf_fraction.specs.Exact.{Number, fits, product_of, sum_of}
use Rattle.mf_fraction.specs.declared.faults.Wide.{Wide}
use Rattle.mf_task.specs.declared.form.Part.{Part}
use Rattle.mf_task.specs.LinearForms.{scaled_part, with_part, with_parts}
use Rattle.mf_normal.specs.FormParts.{IsRising, MakesParts, PutsPart, are_narrow, is_wide_at, merged, part_fits}
use Rattle.mf_normal.specs.declared.fault.FormFault.{FormFault}
use Rattle.mf_normal.specs.declared.fault.FormFault.TheVariants as fault
use Rattle.mf_normal.proofs.Numbers.{answered_ok, checked_err}

below : (n m : ℕ) → nat_lt n m ≡ true → n < m
below n m e = grind (arith, nat_tests)

above : (n m : ℕ) → nat_lt n m ≡ false → nat_eq n m ≡ false → m < n
above n m e f = grind (arith, nat_tests)

same : (n m : ℕ) → nat_eq n m ≡ true → n ≡ m
same n m e = grind (arith, nat_tests)

apart : (n m : ℕ) → n < m → nat_eq m n ≡ false
apart n m h = grind (arith, nat_tests)

-- the order

weaker : (n m : ℕ) → n < m → (qs : List Part) → AllByRecursion (λ q. m < q.term) qs → AllByRecursion (λ q. n < q.term) qs
weaker n m h [] all = tt
weaker n m h (q ∷ qs) all = (omega (arith, h, all.0), weaker n m h qs all.1)

all-with_part : (P : ℕ → Type 0) (qs : List Part) (p : Part) → P p.term → AllByRecursion (λ q. P q.term) qs → AllByRecursion (λ q. P q.term) (with_part qs p)
all-with_part P [] p holds all = (holds, tt)
all-with_part P (q ∷ qs) p holds all = put (all-with_part P qs p holds all.1) (nat_lt p.term q.term) (nat_eq p.term q.term)
  where
    put : (AllByRecursion (λ r. P r.term) (with_part qs p)) → (before equal : Bool) → AllByRecursion (λ r. P r.term) (cond before (p ∷ q ∷ qs) (cond equal (merged q p ∷ qs) (q ∷ with_part qs p)))
    put rest true equal = (holds, all)
    put rest false true = all
    put rest false false = (all.0, rest)

pub rising-with_part : (qs : List Part) (p : Part) → IsRising qs → IsRising (with_part qs p)
rising-with_part [] p rising = (tt, tt)
rising-with_part (q ∷ qs) p rising = put (rising-with_part qs p rising.1) (nat_lt p.term q.term) (nat_eq p.term q.term) refl refl
  where
    put : (IsRising (with_part qs p)) → (before equal : Bool) → nat_lt p.term q.term ≡ before → nat_eq p.term q.term ≡ equal → IsRising (cond before (p ∷ q ∷ qs) (cond equal (merged q p ∷ qs) (q ∷ with_part qs p)))
    put rest true equal b e =
        let less : p.term < q.term = below p.term q.term b in
        ((less, weaker p.term q.term less qs rising.0), rising)
    put rest false true b e = rising
    put rest false false b e = (all-with_part (λ t. q.term < t) qs p (above p.term q.term b e) rising.0, rest)

pub rising_rest : (ps : List Part) (i : ℕ) (p : Part) → i < length ps → p ≡ get_or ps i p → IsRising ps → AllByRecursion (λ q. p.term < q.term) (drop (i + 1) ps)
rising_rest [] i p h e rising = absurd (omega (arith, h))
rising_rest (q ∷ ps) zero p h e rising = subst (λ (r : Part). AllByRecursion (λ s. r.term < s.term) ps) (sym e) rising.0
rising_rest (q ∷ ps) (suc i) p h e rising =
    let next : suc (i + 1) ≡ suc i + 1 = omega arith in
    subst (λ (n : ℕ). AllByRecursion (λ r. p.term < r.term) (drop n (q ∷ ps))) next (rising_rest ps i p (omega (arith, h)) e rising.1)

all-scaled : (n : ℕ) (factor : Number) (ps : List Part) → AllByRecursion (λ q. n < q.term) ps → AllByRecursion (λ q. n < q.term) (map (scaled_part factor) ps)
all-scaled n factor [] all = tt
all-scaled n factor (p ∷ ps) all = (all.0, all-scaled n factor ps all.1)

pub rising-scaled : (factor : Number) (ps : List Part) → IsRising ps → IsRising (map (scaled_part factor) ps)
rising-scaled factor [] rising = tt
rising-scaled factor (p ∷ ps) rising = (all-scaled p.term factor ps rising.0, rising-scaled factor ps rising.1)

-- coefficients that fit

pub narrow_at : (ps : List Part) (i : ℕ) (p : Part) → i < length ps → p ≡ get_or ps i p → are_narrow ps ≡ true → part_fits p ≡ true
narrow_at [] i p h e narrow = absurd (omega (arith, h))
narrow_at (q ∷ ps) zero p h e narrow = ap part_fits e ∙ first_so (part_fits q) (are_narrow ps) narrow
narrow_at (q ∷ ps) (suc i) p h e narrow = narrow_at ps i p (omega (arith, h)) e (second_so (part_fits q) (are_narrow ps) narrow)

both : (a b : Bool) → a ≡ true → b ≡ true → (a && b) ≡ true
both a b e f = rw (e, f) refl

pub narrow-set : (ps : List Part) (i : ℕ) (p : Part) → part_fits p ≡ true → are_narrow ps ≡ true → are_narrow (set ps i p) ≡ true
narrow-set [] i p fit narrow = refl
narrow-set (q ∷ ps) zero p fit narrow = both (part_fits p) (are_narrow ps) fit (second_so (part_fits q) (are_narrow ps) narrow)
narrow-set (q ∷ ps) (suc i) p fit narrow =
    both (part_fits q) (are_narrow (set ps i p)) (first_so (part_fits q) (are_narrow ps) narrow) (narrow-set ps i p fit (second_so (part_fits q) (are_narrow ps) narrow))

pub narrow-insert : (ps : List Part) (i : ℕ) (p : Part) → part_fits p ≡ true → are_narrow ps ≡ true → are_narrow (take i ps ++ p ∷ drop i ps) ≡ true
narrow-insert ps zero p fit narrow = both (part_fits p) (are_narrow ps) fit narrow
narrow-insert [] (suc i) p fit narrow = both (part_fits p) true fit refl
narrow-insert (q ∷ ps) (suc i) p fit narrow =
    both (part_fits q) (are_narrow (take i ps ++ p ∷ drop i ps)) (first_so (part_fits q) (are_narrow ps) narrow) (narrow-insert ps i p fit (second_so (part_fits q) (are_narrow ps) narrow))

pub narrow-push : (ps : List Part) (p : Part) → are_narrow ps ≡ true → part_fits p ≡ true → are_narrow (ps ++ p ∷ []) ≡ true
narrow-push [] p narrow fit = both (part_fits p) true fit refl
narrow-push (q ∷ ps) p narrow fit =
    both (part_fits q) (are_narrow (ps ++ p ∷ [])) (first_so (part_fits q) (are_narrow ps) narrow) (narrow-push ps p (second_so (part_fits q) (are_narrow ps) narrow) fit)

-- a coefficient that does not fit

here : ℕ → Part → Bool
here term q = nat_eq q.term term && not (part_fits q)

is_here : (term : ℕ) (q : Part) → q.term ≡ term → part_fits q ≡ false → here term q ≡ true
unfolding here
is_here term q e f = let s : nat_eq q.term term ≡ true = grind (arith, nat_tests, e) in rw (s, f) refl

pub wide-set : (ps : List Part) (i : ℕ) (p : Part) (term : ℕ) → i < length ps → p.term ≡ term → part_fits p ≡ false → is_wide_at term (set ps i p) ≡ true
unfolding here
wide-set [] i p term h e wide = absurd (omega (arith, h))
wide-set (q ∷ ps) zero p term h e wide = ap (λ b. b || is_wide_at term ps) (is_here term p e wide)
wide-set (q ∷ ps) (suc i) p term h e wide = later (here term q) (is_wide_at term (set ps i p)) (wide-set ps i p term (omega (arith, h)) e wide)
  where
    later : (a b : Bool) → b ≡ true → (a || b) ≡ true
    later true b f = refl
    later false b f = f

or_keeps : (a b c : Bool) → (b ≡ true → c ≡ true) → (a || b) ≡ true → (a || c) ≡ true
or_keeps true b c f e = refl
or_keeps false b c f e = f e

or_adds : (a b : Bool) → b ≡ true → (a || b) ≡ true
or_adds true b e = refl
or_adds false b e = e

not_here : (term : ℕ) (q : Part) → term < q.term → here term q ≡ false
unfolding here
not_here term q h = ap (λ b. b && not (part_fits q)) (apart term q.term h)

-- what is put in for a later term changes no part of an earlier one
wide_stays : (term : ℕ) (qs : List Part) (p : Part) → term < p.term → is_wide_at term qs ≡ true → is_wide_at term (with_part qs p) ≡ true
unfolding here
wide_stays term [] p h wide = cc
wide_stays term (q ∷ qs) p h wide = put (wide_stays term qs p h) (nat_lt p.term q.term) (nat_eq p.term q.term) refl
  where
    put : (is_wide_at term qs ≡ true → is_wide_at term (with_part qs p) ≡ true) → (before equal : Bool) → nat_eq p.term q.term ≡ equal → is_wide_at term (cond before (p ∷ q ∷ qs) (cond equal (merged q p ∷ qs) (q ∷ with_part qs p))) ≡ true
    put stays true equal e = or_adds (here term p) (here term q || is_wide_at term qs) wide
    put stays false true e =
        let later : term < q.term = omega (arith, h, same p.term q.term e) in
        ap (λ b. b || is_wide_at term qs) (not_here term (merged q p) later)
        ∙ sym (ap (λ b. b || is_wide_at term qs) (not_here term q later)) ∙ wide
    put stays false false e = or_keeps (here term q) (is_wide_at term qs) (is_wide_at term (with_part qs p)) stays wide

pub wide_stays_all : (term : ℕ) (qs ps : List Part) → AllByRecursion (λ p. term < p.term) ps → is_wide_at term qs ≡ true → is_wide_at term (with_parts qs ps) ≡ true
wide_stays_all term qs [] later wide = wide
wide_stays_all term qs (p ∷ ps) later wide = wide_stays_all term (with_part qs p) ps later.1 (wide_stays term qs p later.0 wide)

pub not_narrow : (term : ℕ) (ps : List Part) → is_wide_at term ps ≡ true → are_narrow ps ≡ false
not_narrow term [] wide = cc
not_narrow term (p ∷ ps) wide = one (nat_eq p.term term) (part_fits p) (is_wide_at term ps) (are_narrow ps) (not_narrow term ps) wide
  where
    one : (at fit rest narrow : Bool) → (rest ≡ true → narrow ≡ false) → ((at && not fit) || rest) ≡ true → (fit && narrow) ≡ false
    one at false rest narrow f e = refl
    one true true rest narrow f e = f e
    one false true rest narrow f e = f e

-- where a part is put

pub with_part-there : (qs : List Part) (i : ℕ) (q p : Part) → i < length qs → q ≡ get_or qs i q → nat_lt p.term q.term ≡ false → nat_eq p.term q.term ≡ true → take i qs ++ with_part (drop i qs) p ≡ set qs i (merged q p)
with_part-there [] i q p h e b s = absurd (omega (arith, h))
with_part-there (r ∷ qs) zero q p h e b s =
    let b' : nat_lt p.term r.term ≡ false = sym (ap (λ (x : Part). nat_lt p.term x.term) e) ∙ b in
    let s' : nat_eq p.term r.term ≡ true = sym (ap (λ (x : Part). nat_eq p.term x.term) e) ∙ s in
    rw (b', s') (ap (λ (x : Part). merged x p ∷ qs) (sym e))
with_part-there (r ∷ qs) (suc i) q p h e b s = ap (λ l. r ∷ l) (with_part-there qs i q p (omega (arith, h)) e b s)

pub with_parts_next : (qs ps : List Part) (i : ℕ) (p : Part) → i < length ps → p ≡ get_or ps i p → with_parts qs (drop i ps) ≡ with_parts (with_part qs p) (drop (i + 1) ps)
with_parts_next qs ps i p h e =
    ap (λ (rest : List Part). with_parts qs rest) (drop_more ps i p h ∙ ap (λ (x : Part). x ∷ drop (i + 1) ps) (sym e))

-- scaled parts

pub scaled_next : (factor : Number) (ps : List Part) (i : ℕ) (p : Part) → i < length ps → p ≡ get_or ps i p → are_narrow (map (scaled_part factor) (drop i ps)) ≡ (fits (product_of factor p.coefficient) && are_narrow (map (scaled_part factor) (drop (i + 1) ps)))
scaled_next factor ps i p h e =
    ap (λ (rest : List Part). are_narrow (map (scaled_part factor) rest)) (drop_more ps i p h ∙ ap (λ (x : Part). x ∷ drop (i + 1) ps) (sym e))

-- what the code makes

abbrev part : Number → ℕ → Part
part coefficient term = record { coefficient = coefficient; term = term }

abbrev IsPut : Part → List Part → List Part → Type 0
IsPut p old new = (new ≡ with_part old p) × (part_fits p ≡ true → are_narrow old ≡ true → are_narrow new ≡ true)

pub inserted : (old new : List Part) (at : ℕ) (p : Part) → with_part old p ≡ take at old ++ p ∷ drop at old → new ≡ take at old ++ p ∷ drop at old → IsPut p old new
inserted old new at p w n = (n ∙ sym w, λ fit narrow. ap are_narrow n ∙ narrow-insert old at p fit narrow)

pub merged_in : (old new : List Part) (at : ℕ) (q p : Part) (c : Number) (r : Result Number Wide) → at < length old → q ≡ get_or old at q → with_part old p ≡ set old at (merged (get_or old at p) p) → r ≡ checked (sum_of q.coefficient p.coefficient) → r ≡ Ok c → new ≡ set old at (part c q.term) → IsPut p old new
merged_in old new at q p c r h e w f g n =
    let k = answered_ok (sum_of q.coefficient p.coefficient) c r f g in
    let same : part c q.term ≡ merged (get_or old at p) p = ap (λ (x : Number). part x q.term) k.0 ∙ ap (λ (x : Part). merged x p) (get_or_read old at q h e p) in
    (n ∙ ap (λ (x : Part). set old at x) same ∙ sym w, λ fit narrow. ap are_narrow n ∙ narrow-set old at (part c q.term) k.1 narrow)

pub merged_wide : (old : List Part) (at : ℕ) (q p : Part) (w : Wide) (r : Result Number Wide) → at < length old → q ≡ get_or old at q → (get_or old at p).term ≡ p.term → with_part old p ≡ set old at (merged (get_or old at p) p) → r ≡ checked (sum_of q.coefficient p.coefficient) → r ≡ Err w → is_wide_at p.term (with_part old p) ≡ true
merged_wide old at q p w r h e t put f g =
    let wide : part_fits (merged (get_or old at p) p) ≡ false = sym (ap (λ (x : Part). part_fits (merged x p)) (get_or_read old at q h e p)) ∙ checked_err (sum_of q.coefficient p.coefficient) w (sym f ∙ g) in
    ap (is_wide_at p.term) put ∙ wide-set old at (merged (get_or old at p) p) p.term h t wide

module _ (start old more : List Part) (i : ℕ) (p : Part) (h : i < length more) (e : p ≡ get_or more i p) (rest : with_parts old (drop i more) ≡ with_parts start more) where
  next : with_parts (with_part old p) (drop (i + 1) more) ≡ with_parts start more
  next = sym (with_parts_next old more i p h e) ∙ rest

  pub added_next : (new : List Part) → IsRising old → are_narrow old ≡ true → are_narrow more ≡ true → IsPut p old new → (with_parts new (drop (i + 1) more) ≡ with_parts start more) × IsRising new × (are_narrow new ≡ true)
  added_next new rising narrow fit put = (
    ap (λ (x : List Part). with_parts x (drop (i + 1) more)) put.0 ∙ next,
    subst IsRising (sym put.0) (rising-with_part old p rising),
    put.1 (narrow_at more i p h e fit) narrow,
  )

  pub added_wide : IsRising more → is_wide_at p.term (with_part old p) ≡ true → are_narrow (with_parts start more) ≡ false
  added_wide rising wide =
      not_narrow p.term (with_parts start more) (subst (λ (l : List Part). is_wide_at p.term l ≡ true) next (wide_stays_all p.term (with_part old p) (drop (i + 1) more) (rising_rest more i p h e rising) wide))

abbrev scaled : Number → List Part → List Part
scaled factor ps = map (scaled_part factor) ps

module _ (factor : Number) (ps : List Part) (i : ℕ) where
  pub scaled_wide : (p : Part) (w : Wide) (r : Result Number Wide) → i < length ps → p ≡ get_or ps i p → are_narrow (scaled factor (drop i ps)) ≡ are_narrow (scaled factor ps) → r ≡ checked (product_of factor p.coefficient) → r ≡ Err w → are_narrow (scaled factor ps) ≡ false
  scaled_wide p w r h e rest f g =
      sym rest ∙ scaled_next factor ps i p h e
      ∙ ap (λ b. b && are_narrow (scaled factor (drop (i + 1) ps))) (checked_err (product_of factor p.coefficient) w (sym f ∙ g))

  pub scaled_more : (p : Part) (c : Number) (r : Result Number Wide) (qs : List Part) → i < length ps → p ≡ get_or ps i p → qs ≡ scaled factor (take i ps) → are_narrow (scaled factor (drop i ps)) ≡ are_narrow (scaled factor ps) → r ≡ checked (product_of factor p.coefficient) → r ≡ Ok c → (qs ++ part c p.term ∷ [] ≡ scaled factor (take (i + 1) ps)) × (are_narrow (scaled factor (drop (i + 1) ps)) ≡ are_narrow (scaled factor ps))
  scaled_more p c r qs h e front rest f g =
      let k = answered_ok (product_of factor p.coefficient) c r f g in (
        ap (λ (l : List Part). l ++ part c p.term ∷ []) front
            ∙ ap (λ (x : Number). scaled factor (take i ps) ++ part x p.term ∷ []) k.0
            ∙ ap (λ (x : Part). scaled factor (take i ps) ++ scaled_part factor x ∷ []) e
            ∙ sym (map-append (scaled_part factor) (take i ps) (get_or ps i p ∷ []))
            ∙ sym (ap (λ (l : List Part). scaled factor l) (take_more ps i p h)),
        sym (ap (λ b. b && are_narrow (scaled factor (drop (i + 1) ps))) (sym (ap fits k.0) ∙ k.1)) ∙ sym (scaled_next factor ps i p h e) ∙ rest,
      )

  pub scaled_end : (qs : List Part) → length ps ≤ i → qs ≡ scaled factor (take i ps) → are_narrow (scaled factor (drop i ps)) ≡ are_narrow (scaled factor ps) → IsRising ps → (qs ≡ scaled factor ps) × IsRising (scaled factor ps) × (are_narrow (scaled factor ps) ≡ true)
  scaled_end qs h front rest rising = (
    front ∙ ap (scaled factor) (take_all i ps h),
    rising-scaled factor ps rising,
    sym rest ∙ ap (λ (l : List Part). are_narrow (scaled factor l)) (drop_all i ps h),
  )

  pub rising_end : (qs : List Part) → length ps ≤ i → qs ≡ scaled factor (take i ps) → IsRising ps → IsRising qs
  rising_end qs h front rising = subst IsRising (sym (front ∙ ap (scaled factor) (take_all i ps h))) (rising-scaled factor ps rising)

-- where the code finds a part of the same term
pub placed_there : (ps : List Part) (i : ℕ) (q p : Part) → i < length ps → q ≡ get_or ps i q → q.term ≤ p.term → p.term ≡ q.term → with_part ps p ≡ take i ps ++ with_part (drop i ps) p → (i < length ps) × ((get_or ps i p).term ≡ p.term) × (with_part ps p ≡ set ps i (merged (get_or ps i p) p))
placed_there ps i q p h e least s front =
    let before : nat_lt p.term q.term ≡ false = grind (arith, nat_tests, least) in
    let equal : nat_eq p.term q.term ≡ true = grind (arith, nat_tests, s) in
    let read : q ≡ get_or ps i p = get_or_read ps i q h e p in (
      h,
      sym (ap (λ (x : Part). x.term) read) ∙ sym s,
      front ∙ with_part-there ps i q p h e before equal ∙ ap (λ (x : Part). set ps i (merged x p)) read,
    )

pub add_fails : (start old more : List Part) (i : ℕ) (p : Part) → i < length more → p ≡ get_or more i p → with_parts old (drop i more) ≡ with_parts start more → (new : List Part) (why : FormFault) → IsRising more → PutsPart p old new (Err why) → MakesParts {A = Unit {0}} (with_parts start more) new (Err why)
add_fails start old more i p h e rest new fault.Wide rising wide = added_wide start old more i p h e rest rising wide
add_fails start old more i p h e rest new fault.Memory rising wide = tt
