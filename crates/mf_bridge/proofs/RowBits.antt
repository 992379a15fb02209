-- Words of bits: what they hold tells them apart, and words are made of the bits that they hold.
use Rattle.std.proofs.Common.{◌≡◌, ℕ, zero, suc, ◌+◌, ◌*◌, ◌/◌, ◌%◌, ◌^◌, ◌<◌, ◌≤◌, Bool, true, false, cond, nat_eq, List, [], ◌∷◌, length, take, drop, refl, sym, ap, ◌∙◌, arith, ⊎_elim}
use Rattle.std.specs.Prelude.{get_or}
use Rattle.std.specs.Int.{bit_at}
use Rattle.std.specs.List.{All}
use Rattle.std.proofs.lemmas.Bool.{cases_lt}
use Rattle.std.proofs.lemmas.Bool.Decides.{nat_tests}
use Rattle.std.proofs.lemmas.List.{drop-drop, ext_get_or, get_or-drop, get_or-take, get_or_past}
use Rattle.std.proofs.lemmas.Nat.Bits.{bit_at-lt, bit_at-suc, bit_at-zero, bit_at_lowest, same_from_bits_below}
use Rattle.mf_store.specs.Rows.{bit_in}
use Rattle.mf_task.specs.Grounding.{word_of, words_of}

-- words with the same bits

bit_in_word : (words : List ℕ) (k i : ℕ) → i < 64 → bit_in words (64 * k + i) ≡ nat_eq (bit_at (get_or words k 0) i) 1
bit_in_word words k i within =
    let word : (64 * k + i) / 64 ≡ k = omega arith in
    let place : (64 * k + i) % 64 ≡ i = omega arith in
    rw (word, place) refl

one_bit : (x y : ℕ) → x < 2 → y < 2 → nat_eq x 1 ≡ nat_eq y 1 → x ≡ y
one_bit x y a b e = grind (arith, nat_tests)

same_word : (us vs : List ℕ) (k : ℕ) → get_or us k 0 < 2 ^ 64 → get_or vs k 0 < 2 ^ 64 → ((n : ℕ) → bit_in us n ≡ bit_in vs n) → get_or us k 0 ≡ get_or vs k 0
same_word us vs k a b same =
    same_from_bits_below 64 (get_or us k 0) (get_or vs k 0) a b (λ i within.
    one_bit (bit_at (get_or us k 0) i) (bit_at (get_or vs k 0) i) (bit_at-lt (get_or us k 0) i) (bit_at-lt (get_or vs k 0) i)
    (sym (bit_in_word us k i within) ∙ same (64 * k + i) ∙ bit_in_word vs k i within))

pub same_words : (us vs : List ℕ) → length us ≡ length vs → All (λ word. word < 2 ^ 64) us → All (λ word. word < 2 ^ 64) vs → ((n : ℕ) → bit_in us n ≡ bit_in vs n) → us ≡ vs
same_words us vs long first second same =
    ext_get_or 0 us vs long (λ k within. same_word us vs k (first k 0 within) (second k 0 (omega (arith, long, within))) same)

-- the bits of a word that is made of them

pub word_of_bit : (bs : List Bool) (i : ℕ) → nat_eq (bit_at (word_of bs) i) 1 ≡ get_or bs i false
word_of_bit [] i = ap (λ (n : ℕ). nat_eq n 1) (bit_at-zero i)
word_of_bit (b ∷ bs) zero = ap (λ (n : ℕ). nat_eq n 1) (bit_at_lowest (word_of (b ∷ bs))) ∙ low b
  where
    low : (c : Bool) → nat_eq ((cond c 1 0 + 2 * word_of bs) % 2) 1 ≡ c
    low true =
        let is : (1 + 2 * word_of bs) % 2 ≡ 1 = omega arith in
        rw is refl
    low false =
        let is : (0 + 2 * word_of bs) % 2 ≡ 0 = omega arith in
        rw is refl
word_of_bit (b ∷ bs) (suc i) = ap (λ (n : ℕ). nat_eq n 1) (bit_at-suc (word_of (b ∷ bs)) i ∙ ap (λ (n : ℕ). bit_at n i) (high b)) ∙ word_of_bit bs i
  where
    high : (c : Bool) → (cond c 1 0 + 2 * word_of bs) / 2 ≡ word_of bs
    high true = omega arith
    high false = omega arith

pub length_words : (m : ℕ) (bs : List Bool) → length (words_of m bs) ≡ m
length_words zero bs = refl
length_words (suc m) bs = ap (λ (n : ℕ). suc n) (length_words m (drop 64 bs))

word_at : (m : ℕ) (bs : List Bool) (j : ℕ) → j < m → get_or (words_of m bs) j 0 ≡ word_of (take 64 (drop (64 * j) bs))
word_at zero bs j within = absurd (omega arith)
word_at (suc m) bs zero within = refl
word_at (suc m) bs (suc j) within =
    word_at m (drop 64 bs) j (omega arith)
    ∙ ap (λ (cs : List Bool). word_of (take 64 cs)) (drop-drop (64 * j) 64 bs ∙ ap (λ (n : ℕ). drop n bs) (omega arith))

-- the bit at each place of the words that are made of so many bits
pub bit_of_words : (m : ℕ) (bs : List Bool) → length bs ≤ 64 * m → (n : ℕ) → bit_in (words_of m bs) n ≡ get_or bs n false
bit_of_words m bs most n = ⊎_elim inside past (cases_lt (n / 64) m)
  where
    inside : n / 64 < m → bit_in (words_of m bs) n ≡ get_or bs n false
    inside within =
        let rest : n % 64 < 64 = omega arith in
        let back : 64 * (n / 64) + n % 64 ≡ n = omega arith in
        ap (λ (w : ℕ). nat_eq (bit_at w (n % 64)) 1) (word_at m bs (n / 64) within)
        ∙ word_of_bit (take 64 (drop (64 * (n / 64)) bs)) (n % 64)
        ∙ get_or-take 64 (drop (64 * (n / 64)) bs) (n % 64) false rest
        ∙ get_or-drop (64 * (n / 64)) bs (n % 64) false
        ∙ ap (λ (k : ℕ). get_or bs k false) back

    past : m ≤ n / 64 → bit_in (words_of m bs) n ≡ get_or bs n false
    past beyond =
        let long = length_words m bs in
        ap (λ (w : ℕ). nat_eq (bit_at w (n % 64)) 1) (get_or_past (words_of m bs) (n / 64) 0 (omega (arith, long, beyond)))
        ∙ ap (λ (w : ℕ). nat_eq w 1) (bit_at-zero (n % 64))
        ∙ sym (get_or_past bs n false (omega (arith, most, beyond)))
