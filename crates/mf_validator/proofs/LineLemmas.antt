-- The lines of a text, found from its front.
use Rattle.std.proofs.Common.{◌≡◌, refl, sym, ◌∙◌, ap, ℕ, suc, zero, ◌+◌, ◌<◌, ◌≤◌, ◌-◌, Bool, true, false, not, cond, ltb, ltb-false, if◌then◌else◌, List, [], ◌∷◌, length, get_or, take, drop, None, Some, arith}
use Rattle.std.specs.List.{position, position_or_len}
use Rattle.std.proofs.lemmas.List.{take_rest}
use Rattle.std.proofs.lemmas.List.Quantifiers.{position-Some}
use Rattle.std.proofs.lemmas.List.Sums.{prefix_len-le-length}
use Rattle.mf_validator.specs.PlanLines.{is_line_feed, lines_of, with_byte}

feed : (b : ℕ) (bs : List ℕ) → is_line_feed b ≡ true → lines_of (b ∷ bs) ≡ [] ∷ lines_of bs
feed b bs h = ap (λ t. if t then [] ∷ lines_of bs else with_byte b (lines_of bs)) h

no_feed : (b : ℕ) (bs : List ℕ) → is_line_feed b ≡ false → lines_of (b ∷ bs) ≡ with_byte b (lines_of bs)
no_feed b bs h = ap (λ t. if t then [] ∷ lines_of bs else with_byte b (lines_of bs)) h

cut : (text : List ℕ) (at : ℕ) → at < length text → is_line_feed (get_or text at 0) ≡ true → ((k : ℕ) → k < at → is_line_feed (get_or text k 0) ≡ false) → lines_of text ≡ take at text ∷ lines_of (drop (at + 1) text)
cut [] at h e f = absurd (omega arith)
cut (b ∷ bs) zero h e f = feed b bs e
cut (b ∷ bs) (suc at) h e f =
    let size : at < length bs = omega (arith, h) in
    let next : suc at + 1 ≡ suc (at + 1) = omega arith in
    no_feed b bs (f 0 (omega arith)) ∙ ap (with_byte b) (cut bs at size e (λ k l. f (suc k) (omega (arith, l))))
    ∙ ap (λ n. (b ∷ take at bs) ∷ lines_of (drop n (b ∷ bs))) (sym next)

-- the first line ends at the first line feed
pub first-line : (text : List ℕ) (at : ℕ) → position is_line_feed text ≡ Some at → lines_of text ≡ take at text ∷ lines_of (take (length text - (at + 1)) (drop (at + 1) text))
first-line text at e =
    let h = position-Some is_line_feed text at 0 e in
    cut text at h.0 h.1 h.2 ∙ ap (λ rest. take at text ∷ lines_of rest) (sym (take_rest text (at + 1)))

full_by : (p : ℕ → Bool) (bs : List ℕ) (t : Bool) → ltb (position_or_len p bs) (length bs) ≡ t → cond t (Some (position_or_len p bs)) None ≡ None → position_or_len p bs ≡ length bs
full_by p bs true h e = cc
full_by p bs false h e = omega (arith, ltb-false (position_or_len p bs) (length bs) h, prefix_len-le-length (λ (x : ℕ). not (p x)) bs)

first_passes : (b n size : ℕ) (t : Bool) → cond (not t) (1 + n) 0 ≡ suc size → (t ≡ false) × (n ≡ size)
first_passes b n size true e = absurd (omega arith)
first_passes b n size false e = (refl, omega arith)

alone : (b : ℕ) (bs : List ℕ) → position_or_len is_line_feed (b ∷ bs) ≡ length (b ∷ bs) → lines_of (b ∷ bs) ≡ (b ∷ bs) ∷ []
alone b [] h = no_feed b [] (first_passes b 0 0 (is_line_feed b) h).0
alone b (d ∷ bs) h =
    let parts = first_passes b (position_or_len is_line_feed (d ∷ bs)) (length (d ∷ bs)) (is_line_feed b) h in
    no_feed b (d ∷ bs) parts.0 ∙ ap (with_byte b) (alone d bs parts.1)

-- without a line feed the text is one line
pub only-line : (text : List ℕ) → 0 < length text → position is_line_feed text ≡ None → lines_of text ≡ text ∷ []
only-line [] h e = absurd (omega arith)
only-line (b ∷ bs) h e = alone b bs (full_by is_line_feed (b ∷ bs) (ltb (position_or_len is_line_feed (b ∷ bs)) (length (b ∷ bs))) refl e)

grown : (b : ℕ) (lines : List (List ℕ)) (n : ℕ) → length lines ≤ n → length (with_byte b lines) ≤ suc n
grown b [] n h = omega arith
grown b (line ∷ lines) n h = omega (arith, h)

counted : (b : ℕ) (bs : List ℕ) (t : Bool) → is_line_feed b ≡ t → length (lines_of bs) ≤ length bs → length (lines_of (b ∷ bs)) ≤ suc (length bs)
counted b bs true h few = rw (feed b bs h) (omega (arith, few))
counted b bs false h few = rw (no_feed b bs h) (grown b (lines_of bs) (length bs) few)

-- a text has no more lines than bytes
pub few-lines : (text : List ℕ) → length (lines_of text) ≤ length text
few-lines [] = omega arith
few-lines (b ∷ bs) = counted b bs (is_line_feed b) refl (few-lines bs)
