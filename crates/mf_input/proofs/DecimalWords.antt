-- Decimal words write the same number exactly where their digits are the same, but for zeros at both ends and a minus before 0.
use Rattle.std.proofs.Common.{◌≡◌, ◌↔◌, ℕ, zero, suc, ◌+◌, ◌-◌, ◌*◌, ◌^◌, ◌<◌, ◌≤◌, ℤ, pos, negsuc, ◌*ℤ◌, neg_ℤ, unsigned_abs, List, [], ◌∷◌, ◌++◌, length, take, Bool, true, false, ◌&&◌, ◌||◌, not, if◌then◌else◌, nat_lt, refl, sym, subst, ap, ap₂, ◌∙◌, arith, pow-add, pow-suc, ltb, ltb-true, ltb-false, true≢false}
use Rattle.std.specs.List.{before_first, after_first, list_all}
use Rattle.std.specs.Str.{bytes_eq}
use Rattle.std.specs.Char.{is_ascii_digit}
use Rattle.std.proofs.lemmas.Int.{unsigned_abs-mul}
use Rattle.std.proofs.lemmas.Slice.Eq.{bytes_eq-Decides}
use Rattle.mf_fraction.specs.Gcd.{gcd}
use Rattle.mf_fraction.specs.Exact.{Number, reduce}
use Rattle.mf_fraction.specs.Parts.{with_sign}
use Rattle.mf_fraction.specs.Decimal.{decimal_value, digits_value, has_minus, is_digits, is_number, is_point, is_unsigned_number, places, without_minus}
use Rattle.mf_fraction.proofs.Checks.{unsigned_abs-with_sign}
use Rattle.mf_fraction.proofs.Decimals.{digits_value-append, ten_positive}
use Rattle.mf_fraction.proofs.DecimalValues.{decimal_value-places}
use Rattle.mf_fraction.proofs.Reduced.{times-den, times-num}
use Rattle.mf_types.specs.StartValues.{is_empty, is_negative, part_digits, same_bit, same_number, whole_digits, without_end_zeros, without_zeros}
use Rattle.mf_input.specs.WrittenValues.{written_value}
use Rattle.mf_input.proofs.DigitWords.{Digits, Leads, all_digits, digits_below, digits_front, digits_rest, digits_without_end_zeros, digits_without_zeros, end_zeros, ends_well, leads_without_zeros, leading, length_part, same_digits, same_whole, split, value_without_zeros}

-- The value by digits without zeros at the ends

abbrev size : List ℕ → List ℕ → ℕ
size whole part = digits_value whole * 10 ^ length part + digits_value part

abbrev value : Bool → List ℕ → List ℕ → Number
value negative whole part = reduce (with_sign negative (size whole part)) (10 ^ length part)

abbrev is_nothing : List ℕ → List ℕ → Bool
is_nothing whole part = is_empty whole && is_empty part

no_minus : (s : Bool) (whole part : List ℕ) → with_sign s (size whole part) ≡ with_sign (s && not (is_nothing whole part)) (size whole part)
no_minus false whole part = refl
no_minus true [] [] = ap (with_sign true) none ∙ sym (ap (with_sign false) none)
  where
    none : size [] [] ≡ 0
    none = omega arith
no_minus true [] (b ∷ bs) = refl
no_minus true (b ∷ bs) part = refl

pub value_is : (s : Bool) (front back : List ℕ) → decimal_value s front back ≡ value (s && not (is_nothing (without_zeros front) (without_end_zeros back))) (without_zeros front) (without_end_zeros back)
value_is s front back =
    let whole = without_zeros front in
    let part = without_end_zeros back in
    decimal_value-places s front back
    ∙ (ap (λ (n : ℕ). reduce (with_sign s (digits_value (front ++ take (places back) back))) (10 ^ n)) (sym (length_part back))
    ∙ (ap (λ (digits : List ℕ). reduce (with_sign s (digits_value (front ++ digits))) (10 ^ length part)) (sym (end_zeros back))
    ∙ (ap (λ (n : ℕ). reduce (with_sign s n) (10 ^ length part)) (digits_value-append front part ∙ ap (λ (n : ℕ). n * 10 ^ length part + digits_value part) (sym (value_without_zeros front)))
    ∙ ap (λ (z : ℤ). reduce z (10 ^ length part)) (no_minus s whole part))))

-- Words that write one number

-- digits without zeros at the ends
pub record IsShort (whole part : List ℕ) : Type 0 where
  pub whole_digits : Digits whole
  pub part_digits : Digits part
  pub leads : Leads whole
  pub ends : (m : ℕ) → digits_value part ≡ 10 * m → part ≡ []

-- fractions in lowest terms that are equal have equal cross products
crossed : (x y : ℤ) (p q : ℕ) → reduce x p ≡ reduce y q → unsigned_abs x * q ≡ unsigned_abs y * p
crossed x y p q e =
    let num : unsigned_abs (reduce x p).num ≡ unsigned_abs (reduce y q).num = ap (λ (a : Number). unsigned_abs a.num) e in
    let den : (reduce x p).den ≡ (reduce y q).den = ap (λ (a : Number). a.den) e in
    products (gcd (unsigned_abs x) p) (unsigned_abs (reduce x p).num) (reduce x p).den (gcd (unsigned_abs y) q) (unsigned_abs (reduce y q).num) (reduce y q).den _ _ _ _
    (sym (unsigned_abs-mul (pos (gcd (unsigned_abs x) p)) (reduce x p).num) ∙ ap unsigned_abs (times-num x p)) (times-den x p)
    (sym (unsigned_abs-mul (pos (gcd (unsigned_abs y) q)) (reduce y q).num) ∙ ap unsigned_abs (times-num y q)) (times-den y q) num den
  where
    ring : (g m h d : ℕ) → (g * m) * (h * d) ≡ (h * m) * (g * d)
    ring g m h d = omega arith

    products : (g n d h m c a p b q : ℕ) → g * n ≡ a → g * d ≡ p → h * m ≡ b → h * c ≡ q → n ≡ m → d ≡ c → a * q ≡ b * p
    products g n d h m c a p b q e f i j k l =
        ap₂ (λ (s t : ℕ). s * t) (sym e ∙ ap (λ (s : ℕ). g * s) k) (sym j ∙ ap (λ (s : ℕ). h * s) (sym l))
        ∙ (ring g m h d ∙ ap₂ (λ (s t : ℕ). s * t) i f)

cancelled : (t a b : ℕ) → 0 < t → a * t ≡ b * t → a ≡ b
cancelled t a b h e =
    let none : a * t + 0 ≡ b * t + 0 = omega (arith, e) in
    (split a b t 0 0 h h none).0

-- a part with more places would end with a zero
fewer_places : (whole part others : List ℕ) (n : ℕ) → ((m : ℕ) → digits_value others ≡ 10 * m → others ≡ []) → length part < length others → n * 10 ^ length others ≡ size whole others * 10 ^ length part → ⊥
fewer_places whole part others n ends h e = nothing (ends (n * 10 ^ more - digits_value whole * 10 ^ (length part + more)) tens)
  where
    more : ℕ
    more = length others - length part - 1

    steps : length others ≡ suc (length part + more)
    steps = omega (arith, h)

    power : 10 ^ length others ≡ 10 ^ (length part + more) * 10
    power = ap (λ (k : ℕ). 10 ^ k) steps ∙ pow-suc 10 (length part + more)

    turned : (n p r : ℕ) → (n * r * 10) * p ≡ n * (p * r * 10)
    turned n p r = omega arith

    inner : (w t v : ℕ) → w * (t * 10) + v ≡ w * t * 10 + v
    inner w t v = omega arith

    last : (x y v : ℕ) → x * 10 ≡ y * 10 + v → v ≡ 10 * (x - y)
    last x y v e = omega (arith, e)

    joined : 10 ^ length others ≡ 10 ^ length part * 10 ^ more * 10
    joined = power ∙ ap (λ (t : ℕ). t * 10) (pow-add 10 (length part) more)

    equal : n * 10 ^ more * 10 ≡ digits_value whole * 10 ^ (length part + more) * 10 + digits_value others
    equal =
        cancelled (10 ^ length part) (n * 10 ^ more * 10) (digits_value whole * 10 ^ (length part + more) * 10 + digits_value others) (ten_positive (length part))
        (turned n (10 ^ length part) (10 ^ more)
        ∙ (ap (λ (t : ℕ). n * t) (sym joined)
        ∙ (e
        ∙ ap (λ (t : ℕ). t * 10 ^ length part) (ap (λ (t : ℕ). digits_value whole * t + digits_value others) power ∙ inner (digits_value whole) (10 ^ (length part + more)) (digits_value others)))))

    tens : digits_value others ≡ 10 * (n * 10 ^ more - digits_value whole * 10 ^ (length part + more))
    tens = last (n * 10 ^ more) (digits_value whole * 10 ^ (length part + more)) (digits_value others) equal

    nothing : others ≡ [] → ⊥
    nothing is = let none : length others ≡ 0 = ap (λ (xs : List ℕ). length xs) is in omega (arith, h, none)

same_places : (whole part wholes others : List ℕ) → IsShort whole part → IsShort wholes others → size whole part * 10 ^ length others ≡ size wholes others * 10 ^ length part → length part ≡ length others
same_places whole part wholes others is are e = by (ltb (length part) (length others)) refl (ltb (length others) (length part)) refl
  where
    by : (s : Bool) → ltb (length part) (length others) ≡ s → (t : Bool) → ltb (length others) (length part) ≡ t → length part ≡ length others
    by true f t g = absurd (fewer_places wholes part others (size whole part) are.ends (ltb-true (length part) (length others) f) e)
    by false f true g = absurd (fewer_places whole others part (size wholes others) is.ends (ltb-true (length others) (length part) g) (sym e))
    by false f false g =
        let low = ltb-false (length part) (length others) f in
        let high = ltb-false (length others) (length part) g in
        omega (arith, low, high)

same_words : (whole part wholes others : List ℕ) → IsShort whole part → IsShort wholes others → size whole part * 10 ^ length others ≡ size wholes others * 10 ^ length part → (whole ≡ wholes) × (part ≡ others)
same_words whole part wholes others is are e =
    let places = same_places whole part wholes others is are e in
    let power : 10 ^ length part ≡ 10 ^ length others = ap (λ (n : ℕ). 10 ^ n) places in
    let below : digits_value others < 10 ^ length part = subst (λ (t : ℕ). digits_value others < t) (sym power) (digits_below others are.part_digits) in
    let sizes : size whole part ≡ size wholes others = cancelled (10 ^ length others) (size whole part) (size wholes others) (ten_positive (length others)) (e ∙ ap (λ (t : ℕ). size wholes others * t) power) in
    let parts = split (digits_value whole) (digits_value wholes) (10 ^ length part) (digits_value part) (digits_value others) (digits_below part is.part_digits) below
    (sizes ∙ ap (λ (t : ℕ). digits_value wholes * t + digits_value others) (sym power)) in
    (same_whole whole wholes is.whole_digits are.whole_digits is.leads are.leads parts.0, same_digits part others is.part_digits are.part_digits places parts.1)

-- a number whose digits are left is not 0
some_size : (whole part : List ℕ) → IsShort whole part → is_nothing whole part ≡ false → 0 < size whole part
some_size [] [] is some = absurd (true≢false some)
some_size [] (b ∷ bs) is some = by (ltb 0 (digits_value (b ∷ bs))) refl
  where
    nothing : digits_value (b ∷ bs) ≡ 10 * 0 → ⊥
    nothing e = let none : b ∷ bs ≡ [] = is.ends 0 e in let no : ⊥ = cc in no

    by : (t : Bool) → ltb 0 (digits_value (b ∷ bs)) ≡ t → 0 < size [] (b ∷ bs)
    by true f = let more = ltb-true 0 (digits_value (b ∷ bs)) f in omega (arith, more)
    by false f =
        let low = ltb-false 0 (digits_value (b ∷ bs)) f in
        absurd (nothing (omega (arith, low)))
some_size (b ∷ bs) part is some =
    let least = leading b bs is.whole_digits is.leads in
    let front = ten_positive (length bs) in
    great (digits_value (b ∷ bs)) (10 ^ length part) (digits_value part) (omega (arith, least, front)) (ten_positive (length part))
  where
    great : (d t v : ℕ) → 1 ≤ d → 0 < t → 0 < d * t + v
    great (suc d) t v h k = omega (arith, k)
    great zero t v h k = absurd (omega (arith, h))

-- the sign of a number other than 0
same_sign : (s t : Bool) (n p : ℕ) → 0 < n → reduce (with_sign s n) p ≡ reduce (with_sign t n) p → s ≡ t
same_sign s t n p h e = by s t (sym (times-num (with_sign s n) p) ∙ (ap₂ (λ (g : ℕ) (z : ℤ). pos g *ℤ z) gcds (ap (λ (a : Number). a.num) e) ∙ times-num (with_sign t n) p))
  where
    gcds : gcd (unsigned_abs (with_sign s n)) p ≡ gcd (unsigned_abs (with_sign t n)) p
    gcds = ap (λ (m : ℕ). gcd m p) (unsigned_abs-with_sign s n ∙ sym (unsigned_abs-with_sign t n))

    apart : (n : ℕ) → 0 < n → with_sign true n ≡ with_sign false n → ⊥
    apart zero h e = omega (arith, h)
    apart (suc n) h e = let no : ⊥ = cc in no

    by : (s t : Bool) → with_sign s n ≡ with_sign t n → s ≡ t
    by true true e = refl
    by true false e = absurd (apart n h e)
    by false true e = absurd (apart n h (sym e))
    by false false e = refl

-- Decimal words

word_digits : (bs : List ℕ) → is_unsigned_number bs ≡ true → Digits (before_first is_point bs) × Digits (after_first is_point bs)
word_digits bs e = by (is_digits bs) refl e
  where
    own : (xs : List ℕ) → is_digits xs ≡ true → Digits xs
    own xs e = all_digits xs (second (nat_lt 0 (length xs)) (list_all is_ascii_digit xs) e)
      where
        second : (a b : Bool) → (a && b) ≡ true → b ≡ true
        second true b e = e
        second false b e = absurd (true≢false (sym e))

    halves : (a b : Bool) → (a && b) ≡ true → (a ≡ true) × (b ≡ true)
    halves true b e = (refl, e)
    halves false b e = absurd (true≢false (sym e))

    by : (t : Bool) → is_digits bs ≡ t → (t || (is_digits (before_first is_point bs) && is_digits (after_first is_point bs))) ≡ true → Digits (before_first is_point bs) × Digits (after_first is_point bs)
    by true f e = (digits_front _ bs (own bs f), digits_rest _ bs (own bs f))
    by false f e =
        let both = halves (is_digits (before_first is_point bs)) (is_digits (after_first is_point bs)) e in
        (own (before_first is_point bs) both.0, own (after_first is_point bs) both.1)

short : (word : List ℕ) → is_number word ≡ true → IsShort (whole_digits word) (part_digits word)
short word e =
    let digits = word_digits (without_minus word) e in
    let front = before_first is_point (without_minus word) in
    let back = after_first is_point (without_minus word) in
    record {
      whole_digits = digits_without_zeros front digits.0;
      part_digits = digits_without_end_zeros back digits.1;
      leads = leads_without_zeros front;
      ends = ends_well back digits.1;
    }

value_of_word : (word : List ℕ) → written_value word ≡ value (is_negative word) (whole_digits word) (part_digits word)
value_of_word word = value_is (has_minus word) (before_first is_point (without_minus word)) (after_first is_point (without_minus word))

same_bit_is : (a b : Bool) → same_bit a b ≡ true → a ≡ b
same_bit_is true true e = refl
same_bit_is true false e = sym e
same_bit_is false true e = e
same_bit_is false false e = refl

bit_itself : (a b : Bool) → a ≡ b → same_bit a b ≡ true
bit_itself true true e = refl
bit_itself true false e = sym e
bit_itself false true e = e
bit_itself false false e = refl

thirds : (a b c : Bool) → (a && b && c) ≡ true → (a ≡ true) × (b ≡ true) × (c ≡ true)
thirds true true c e = (refl, refl, e)
thirds true false c e = absurd (true≢false (sym e))
thirds false b c e = absurd (true≢false (sym e))

three : (a b c : Bool) → a ≡ true → b ≡ true → c ≡ true → (a && b && c) ≡ true
three a b c e f g = ap₂ (λ (x y : Bool). x && y && c) e f ∙ g

one_value : (v w : List ℕ) → same_number v w ≡ true → written_value v ≡ written_value w
one_value v w e =
    let parts = thirds (same_bit (is_negative v) (is_negative w)) (bytes_eq (whole_digits v) (whole_digits w)) (bytes_eq (part_digits v) (part_digits w)) e in
    value_of_word v
    ∙ (ap (λ (s : Bool). value s (whole_digits v) (part_digits v)) (same_bit_is (is_negative v) (is_negative w) parts.0)
    ∙ (ap₂ (λ (whole part : List ℕ). value (is_negative w) whole part) ((bytes_eq-Decides (whole_digits v) (whole_digits w)).0 parts.1) ((bytes_eq-Decides (part_digits v) (part_digits w)).0 parts.2)
    ∙ sym (value_of_word w)))

-- a minus counts where something is left
same_minus : (s t z : Bool) → (z ≡ false → (s && not z) ≡ (t && not z)) → (s && not z) ≡ (t && not z)
same_minus s t false h = h refl
same_minus true true true h = refl
same_minus true false true h = refl
same_minus false true true h = refl
same_minus false false true h = refl

one_word : (v w : List ℕ) → is_number v ≡ true → is_number w ≡ true → written_value v ≡ written_value w → same_number v w ≡ true
one_word v w is are e =
    let whole = whole_digits v in
    let part = part_digits v in
    let wholes = whole_digits w in
    let others = part_digits w in
    let values : value (is_negative v) whole part ≡ value (is_negative w) wholes others = sym (value_of_word v) ∙ (e ∙ value_of_word w) in
    let cross : size whole part * 10 ^ length others ≡ size wholes others * 10 ^ length part =
    ap (λ (n : ℕ). n * 10 ^ length others) (sym (unsigned_abs-with_sign (is_negative v) (size whole part)))
    ∙ (crossed (with_sign (is_negative v) (size whole part)) (with_sign (is_negative w) (size wholes others)) (10 ^ length part) (10 ^ length others) values
    ∙ ap (λ (n : ℕ). n * 10 ^ length part) (unsigned_abs-with_sign (is_negative w) (size wholes others))) in
    let words = same_words whole part wholes others (short v is) (short w are) cross in
    let back : is_negative w ≡ has_minus w && not (is_nothing whole part) = ap₂ (λ (xs ys : List ℕ). has_minus w && not (is_nothing xs ys)) (sym words.0) (sym words.1) in
    let here : value (is_negative w) wholes others ≡ value (has_minus w && not (is_nothing whole part)) whole part =
    ap (λ (s : Bool). value s wholes others) back ∙ ap₂ (λ (xs ys : List ℕ). value (has_minus w && not (is_nothing whole part)) xs ys) (sym words.0) (sym words.1) in
    let minus : (is_negative v) ≡ (has_minus w && not (is_nothing whole part)) =
    same_minus (has_minus v) (has_minus w) (is_nothing whole part)
    (λ some. same_sign (is_negative v) (has_minus w && not (is_nothing whole part)) (size whole part) (10 ^ length part) (some_size whole part (short v is) some) (values ∙ here)) in
    three (same_bit (is_negative v) (is_negative w)) (bytes_eq whole wholes) (bytes_eq part others)
    (bit_itself (is_negative v) (is_negative w) (minus ∙ sym back))
    ((bytes_eq-Decides whole wholes).1 words.0)
    ((bytes_eq-Decides part others).1 words.1)

pub same_numbers : (v w : List ℕ) → is_number v ≡ true → is_number w ≡ true → (same_number v w ≡ true) ↔ (written_value v ≡ written_value w)
same_numbers v w is are = (one_value v w, one_word v w is are)
