-- The values that a strip keeps stay as fractions are added, and one value more.
use Rattle.std.proofs.Common.{◌≡◌, refl, sym, ap, ◌∙◌, ℕ, zero, suc, ◌+◌, ◌-◌, ◌^◌, ◌<◌, ◌≤◌, nat_le, Bool, true, false, ◌==◌, List, [], ◌∷◌, ◌++◌, map, length, get_or, take, drop, slice_get, Option, Some, None, if◌then◌else◌, pos, neg_ℤ, arith}
use Rattle.std.specs.Bool.{Decides}
use Rattle.std.specs.List.{All, flat_map}
use Rattle.std.proofs.lemmas.List.{map-append, length-map, length-append, get_or-map, same_lists, take_at, drop_at}
use Rattle.std.proofs.lemmas.List.Elements.{All-push}
use Rattle.std.proofs.lemmas.Bool.Decides.{nat_tests}
use Rattle.mf_fraction.specs.Exact.{Number, whole}
use Rattle.mf_store.specs.Packed.{value_of, fractions_in, row_of, IsCoded, IsStrip}
use Rattle.mf_store.specs.Rows.{RowLists}

slice_get-front : {X : Type 0} (xs ys : List X) (i : ℕ) → i < length xs → slice_get (xs ++ ys) i ≡ slice_get xs i
slice_get-front [] ys i h = absurd (omega arith)
slice_get-front (x ∷ xs) ys zero h = refl
slice_get-front (x ∷ xs) ys (suc i) h = slice_get-front xs ys i (omega arith)

last_differs : {X : Type 0} (a b c : Bool) (x y z u v : X) → (c ≡ false → u ≡ v) → (if a then x else (if b then y else (if c then z else u))) ≡ (if a then x else (if b then y else (if c then z else v)))
last_differs true b c x y z u v h = refl
last_differs false true c x y z u v h = refl
last_differs false false true x y z u v h = refl
last_differs false false false x y z u v h = h refl

above : (a b : ℕ) → nat_le a b ≡ false → b < a
above a b h = grind (arith, nat_tests)

-- a word's value stays as fractions are added
pub value_of-more : (fs more : List Number) (w : ℕ) → IsCoded (length fs) w → value_of (fs ++ more) w ≡ value_of fs w
unfolding value_of
value_of-more fs more w h =
    last_differs (nat_le w (2 ^ 62)) (nat_le w (2 ^ 63)) (nat_le w (2 ^ 63 + 2 ^ 62)) (Some (whole (pos w))) None (Some (whole (neg_ℤ (pos (w - 2 ^ 63))))) (slice_get (fs ++ more) (w - (2 ^ 63 + 2 ^ 62 + 1))) (slice_get fs (w - (2 ^ 63 + 2 ^ 62 + 1))) (λ e. let k : 2 ^ 63 + 2 ^ 62 < w = above w (2 ^ 63 + 2 ^ 62) e in slice_get-front fs more (w - (2 ^ 63 + 2 ^ 62 + 1)) (omega arith))

pub values-more : (fs more : List Number) (ws : List ℕ) → All (IsCoded (length fs)) ws → map (value_of (fs ++ more)) ws ≡ map (value_of fs) ws
values-more fs more ws all =
    same_lists _ _ (length-map ws (value_of (fs ++ more)) ∙ sym (length-map ws (value_of fs))) (λ k d h.
    let b : k < length ws = omega (arith, length-map ws (value_of (fs ++ more))) in
    get_or-map (value_of (fs ++ more)) ws k 0 d b ∙ value_of-more fs more (get_or ws k 0) (all k 0 b) ∙ sym (get_or-map (value_of fs) ws k 0 d b))

pub coded-more : (n m : ℕ) (ws : List ℕ) → n ≤ m → All (IsCoded n) ws → All (IsCoded m) ws
coded-more n m ws h all = λ k d b. let c : get_or ws k d < 2 ^ 63 + 2 ^ 62 + 1 + n = all k d b in omega arith

-- one value more
pub one_value_more : (fs : List Number) (v : Option Number) (ws : List ℕ) (w : ℕ) (vs : List (Option Number)) (now : List Number) → All (IsCoded (length fs)) ws → now ≡ fs ++ fractions_in v → value_of now w ≡ v → map (value_of fs) ws ≡ vs → map (value_of now) (ws ++ w ∷ []) ≡ vs ++ v ∷ []
one_value_more fs v ws w vs now all e is before =
    map-append (value_of now) ws (w ∷ [])
    ∙ ap (λ x. map (value_of now) ws ++ x ∷ []) is
    ∙ ap (λ n. map (value_of n) ws ++ v ∷ []) e
    ∙ ap (λ xs. xs ++ v ∷ []) (values-more fs (fractions_in v) ws all ∙ before)

pub one_word_more : (fs : List Number) (v : Option Number) (ws : List ℕ) (w : ℕ) (now : List Number) → All (IsCoded (length fs)) ws → now ≡ fs ++ fractions_in v → IsCoded (length now) w → All (IsCoded (length now)) (ws ++ w ∷ [])
one_word_more fs v ws w now all e c =
    let long : length now ≡ length fs + length (fractions_in v) = ap length e ∙ length-append fs (fractions_in v) in
    All-push (IsCoded (length now)) ws w (coded-more (length fs) (length now) ws (omega arith) all) c

-- each value adds one fraction at most
one_at_most : (v : Option Number) → length (fractions_in v) ≤ 1
one_at_most None = omega arith
one_at_most (Some f) = by (f.den == 1)
  where
    by : (b : Bool) → length (if b then [] else f ∷ []) ≤ 1
    by true = omega arith
    by false = omega arith

pub length-fractions : (vs : List (Option Number)) → length (flat_map fractions_in vs) ≤ length vs
length-fractions [] = omega arith
length-fractions (v ∷ vs) = omega (arith, length-append (fractions_in v) (flat_map fractions_in vs), one_at_most v, length-fractions vs)

-- a strip that was split at the number of values, beside the row that it may keep
module _ (n : ℕ) (fs : List Number) (strip front back : List ℕ) (row : RowLists) (long : n ≡ length row.values) (f : front ≡ take n strip) (b : back ≡ drop n strip) where
  bits_are : drop (length row.values) strip ≡ back
  bits_are = ap (λ k. drop k strip) (sym long) ∙ sym b

  values_are : map (value_of fs) (take (length row.values) strip) ≡ map (value_of fs) front
  values_are = ap (λ k. map (value_of fs) (take k strip)) (sym long) ∙ ap (map (value_of fs)) (sym f)

  pub row_of-split : row_of (length row.values) fs strip ≡ record { bits = back; values = map (value_of fs) front }
  unfolding row_of
  row_of-split = λ i. record { bits = bits_are i; values = values_are i }

  pub row_of-same_bits : (r : Bool) → back ≡ row.bits → Decides r (map (value_of fs) front ≡ row.values) → Decides r (row_of (length row.values) fs strip ≡ row)
  row_of-same_bits r e d = (
    λ t. row_of-split ∙ (λ i. record { bits = e i; values = d.0 t i }),
    λ same. d.1 (ap (λ x. x.values) (sym row_of-split ∙ same)),
  )

  pub row_of-other_bits : (r : Bool) → r ≡ false → (back ≡ row.bits → ⊥) → Decides r (row_of (length row.values) fs strip ≡ row)
  row_of-other_bits r e other = (
    λ t. cc,
    λ same. absurd (other (ap (λ x. x.bits) (sym row_of-split ∙ same))),
  )

-- the strip of a row that was packed
pub row_of-packed : (fs : List Number) (words strip : List ℕ) (row : RowLists) → map (value_of fs) words ≡ row.values → strip ≡ words ++ row.bits → row_of (length row.values) fs strip ≡ row
row_of-packed fs words strip row vs e =
    let long : length words ≡ length row.values = sym (length-map words (value_of fs)) ∙ ap length vs in
    row_of-split (length row.values) fs strip words row.bits row refl (sym (take_at words row.bits (length row.values) long) ∙ ap (take (length row.values)) (sym e)) (sym (drop_at words row.bits (length row.values) long) ∙ ap (drop (length row.values)) (sym e))
    ∙ (λ i. record { bits = row.bits; values = vs i })

-- rows that were packed before, as fractions are added
pub row_of-more : (words values : ℕ) (fs more : List Number) (strip : List ℕ) → IsStrip words values (length fs) strip → row_of values (fs ++ more) strip ≡ row_of values fs strip
unfolding row_of
row_of-more words values fs more strip s = ap (λ vs. record { bits = drop values strip; values = vs }) (values-more fs more (take values strip) s.coded)

pub rows-more : (words values : ℕ) (fs more : List Number) (strips : List (List ℕ)) → All (IsStrip words values (length fs)) strips → map (row_of values (fs ++ more)) strips ≡ map (row_of values fs) strips
rows-more words values fs more strips all =
    same_lists _ _ (length-map strips (row_of values (fs ++ more)) ∙ sym (length-map strips (row_of values fs))) (λ k d h.
    let b : k < length strips = omega (arith, length-map strips (row_of values (fs ++ more))) in
    get_or-map (row_of values (fs ++ more)) strips k [] d b ∙ row_of-more words values fs more (get_or strips k []) (all k [] b) ∙ sym (get_or-map (row_of values fs) strips k [] d b))

IsStrip-more : (words values n m : ℕ) (strip : List ℕ) → n ≤ m → IsStrip words values n strip → IsStrip words values m strip
IsStrip-more words values n m strip h s = record { length_is = s.length_is; coded = coded-more n m (take values strip) h s.coded }

-- one row more
module _ (words values : ℕ) (fs more : List Number) (strips : List (List ℕ)) (all : All (IsStrip words values (length fs)) strips) (now : List Number) (e : now ≡ fs ++ more) (strip : List ℕ) where
  pub strips_more : IsStrip words values (length now) strip → All (IsStrip words values (length now)) (strips ++ strip ∷ [])
  strips_more s =
      let long : length now ≡ length fs + length more = ap length e ∙ length-append fs more in
      All-push (IsStrip words values (length now)) strips strip (λ k d h. IsStrip-more words values (length fs) (length now) (get_or strips k d) (omega arith) (all k d h)) s

  pub one_row_more : (row : RowLists) → row_of values now strip ≡ row → map (row_of values now) (strips ++ strip ∷ []) ≡ map (row_of values fs) strips ++ row ∷ []
  one_row_more row is =
      map-append (row_of values now) strips (strip ∷ [])
      ∙ ap (λ r. map (row_of values now) strips ++ r ∷ []) is
      ∙ ap (λ n. map (row_of values n) strips ++ row ∷ []) e
      ∙ ap (λ rs. rs ++ row ∷ []) (rows-more words values fs more strips all)
