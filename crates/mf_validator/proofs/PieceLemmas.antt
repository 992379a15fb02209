-- The pieces of a text, found from its front.
use Rattle.std.proofs.Common.{◌≡◌, refl, sym, ◌∙◌, ap, ap₂, subst, ℕ, suc, ◌+◌, ◌<◌, ◌≤◌, Bool, true, false, not, cond, eqb, ltb, ltb-false, if◌then◌else◌, ◌||◌, List, [], ◌∷◌, ◌++◌, length, take, drop, get_or, ◌-◌, ◌≢◌, ne_eqb, unwrap_or, Option, Some, None, append_assoc, length-drop, arith}
use Rattle.std.proofs.lemmas.List.{append-nil, take_rest}
use Rattle.std.proofs.lemmas.List.Sums.{prefix_len-le-length}
use Rattle.std.specs.List.{before_first, position, position_or_len}
use Rattle.mf_model.specs.Tokens.{is_blank, is_bracket}
use Rattle.mf_validator.specs.Pieces.{IsUnblank, IsWordFront}
use Rattle.mf_validator.specs.PlanLines.{Piece, Open, Close, Word, ended, is_mark, marked, pieces_behind, pieces_of}

-- ---- places

place : (p : ℕ → Bool) (bs : List ℕ) (t : Bool) → ltb (position_or_len p bs) (length bs) ≡ t → unwrap_or (cond t (Some (position_or_len p bs)) None) (length bs) ≡ position_or_len p bs
place p bs true h = refl
place p bs false h = omega (arith, ltb-false (position_or_len p bs) (length bs) h, prefix_len-le-length (λ (x : ℕ). not (p x)) bs)

-- the first place that passes, or the length
pub place-is : (p : ℕ → Bool) (bs : List ℕ) (found : Option ℕ) (at : ℕ) → found ≡ position p bs → at ≡ unwrap_or found (length bs) → at ≡ position_or_len p bs
place-is p bs found at e f = f ∙ ap (λ (o : Option ℕ). unwrap_or o (length bs)) e ∙ place p bs (ltb (position_or_len p bs) (length bs)) refl

one_more : (n : ℕ) → 1 + n ≡ suc n
one_more n = omega arith

-- ---- marks

unmarked : (b : ℕ) (t : Bool) → eqb b 40 ≡ t → (u : Bool) → eqb b 41 ≡ u → is_blank b ≡ true → (if t then Open ∷ [] else (if u then Close ∷ [] else [])) ≡ []
unfolding is_blank
unmarked b true e u f h = grind arith
unmarked b false e true f h = grind arith
unmarked b false e false f h = refl

blank_marks : (b : ℕ) → is_blank b ≡ true → is_mark b ≡ true
unfolding is_mark
blank_marks b h = ap (λ t. t || is_bracket b) h

marks : (b : ℕ) (bs : List ℕ) → is_mark b ≡ true → pieces_of (b ∷ bs) ≡ marked b ++ pieces_of bs
marks b bs h = ap (λ t. if t then [] ++ (marked b ++ pieces_of bs) else pieces_behind ([] ++ b ∷ []) bs) h

-- a blank is no piece
pub blank-is : (b : ℕ) (bs : List ℕ) → is_blank b ≡ true → pieces_of (b ∷ bs) ≡ pieces_of bs
blank-is b bs h = marks b bs (blank_marks b h) ∙ ap (λ ps. ps ++ pieces_of bs) (unmarked b (eqb b 40) refl (eqb b 41) refl h)

open_marks : is_mark 40 ≡ true
unfolding is_mark is_blank is_bracket
open_marks = refl

close_marks : is_mark 41 ≡ true
unfolding is_mark is_blank is_bracket
close_marks = refl

pub open-is : (bs : List ℕ) → pieces_of (40 ∷ bs) ≡ Open ∷ pieces_of bs
open-is bs = marks 40 bs open_marks

pub close-is : (bs : List ℕ) → pieces_of (41 ∷ bs) ≡ Close ∷ pieces_of bs
close-is bs = marks 41 bs close_marks

-- ---- words

taken_at : (t : Bool) (word : List ℕ) (b : ℕ) (bs : List ℕ) (n : ℕ) → is_mark b ≡ t → pieces_behind (word ++ b ∷ []) bs ≡ ended ((word ++ b ∷ []) ++ take n bs) ++ pieces_of (drop n bs)
    → pieces_behind word (b ∷ bs) ≡ ended (word ++ take (cond (not t) (1 + n) 0) (b ∷ bs)) ++ pieces_of (drop (cond (not t) (1 + n) 0) (b ∷ bs))
taken_at true word b bs n h e =
    ap (λ t. if t then ended word ++ (marked b ++ pieces_of bs) else pieces_behind (word ++ b ∷ []) bs) h
    ∙ ap₂ (λ w ps. ended w ++ ps) (sym (append-nil word)) (sym (marks b bs h))
taken_at false word b bs n h e =
    ap (λ t. if t then ended word ++ (marked b ++ pieces_of bs) else pieces_behind (word ++ b ∷ []) bs) h
    ∙ e
    ∙ ap (λ w. ended w ++ pieces_of (drop n bs)) (append_assoc word (b ∷ []) (take n bs))
    ∙ ap (λ m. ended (word ++ take m (b ∷ bs)) ++ pieces_of (drop m (b ∷ bs))) (sym (one_more n))

taken : (word text : List ℕ) → pieces_behind word text ≡ ended (word ++ before_first is_mark text) ++ pieces_of (drop (position_or_len is_mark text) text)
taken word [] = ap ended (sym (append-nil word)) ∙ sym (append-nil (ended (word ++ [])))
taken word (b ∷ bs) = taken_at (is_mark b) word b bs (position_or_len is_mark bs) refl (taken (word ++ b ∷ []) bs)

begun : (b : ℕ) (bs : List ℕ) (rest : List Piece) (m n : ℕ) → m ≡ suc n → ended ([] ++ take m (b ∷ bs)) ++ rest ≡ Word (take m (b ∷ bs)) ∷ rest
begun b bs rest m n e = rw e refl

word_size : (b : ℕ) (bs : List ℕ) → is_mark b ≡ false → position_or_len is_mark (b ∷ bs) ≡ suc (position_or_len is_mark bs)
word_size b bs h = ap (λ t. cond (not t) (1 + position_or_len is_mark bs) 0) h ∙ one_more (position_or_len is_mark bs)

-- a byte that is no mark begins a word, which goes on to the next mark
pub word-is : (text : List ℕ) (size : ℕ) → IsWordFront text → size ≡ position_or_len is_mark text → pieces_of text ≡ Word (take size text) ∷ pieces_of (drop size text)
word-is [] size h e = absurd h
word-is (b ∷ bs) size h e =
    subst (λ n. pieces_of (b ∷ bs) ≡ Word (take n (b ∷ bs)) ∷ pieces_of (drop n (b ∷ bs))) (sym e)
    (taken [] (b ∷ bs) ∙ begun b bs (pieces_of (drop (position_or_len is_mark (b ∷ bs)) (b ∷ bs))) (position_or_len is_mark (b ∷ bs)) (position_or_len is_mark bs) (word_size b bs h))

pub word-shorter : (text : List ℕ) (size : ℕ) → IsWordFront text → size ≡ position_or_len is_mark text → length (drop size text) < length text
word-shorter [] size h e = absurd h
word-shorter (b ∷ bs) size h e = omega (arith, e ∙ word_size b bs h, length-drop size (b ∷ bs))

no_mark : (b : ℕ) → is_blank b ≡ false → eqb b 40 ≡ false → eqb b 41 ≡ false → is_mark b ≡ false
unfolding is_mark is_bracket
no_mark b h e f = grind arith

-- ---- a text by its first byte

rest-is : (b : ℕ) (bs : List ℕ) → take (length (b ∷ bs) - 1) (drop 1 (b ∷ bs)) ≡ bs
rest-is b bs = take_rest (b ∷ bs) 1

pub blank-front : (text : List ℕ) → 1 ≤ length text → is_blank (get_or text 0 0) ≡ true → pieces_of (take (length text - 1) (drop 1 text)) ≡ pieces_of text
blank-front [] some h = absurd (omega arith)
blank-front (b ∷ bs) some h = ap pieces_of (rest-is b bs) ∙ sym (blank-is b bs h)

pub open-front : (text : List ℕ) → 1 ≤ length text → get_or text 0 0 ≡ 40 → Open ∷ pieces_of (take (length text - 1) (drop 1 text)) ≡ pieces_of text
open-front [] some h = absurd (omega arith)
open-front (b ∷ bs) some h = ap (λ r. Open ∷ pieces_of r) (rest-is b bs) ∙ sym (open-is bs) ∙ ap (λ x. pieces_of (x ∷ bs)) (sym h)

pub close-front : (text : List ℕ) → 1 ≤ length text → get_or text 0 0 ≡ 41 → Close ∷ pieces_of (take (length text - 1) (drop 1 text)) ≡ pieces_of text
close-front [] some h = absurd (omega arith)
close-front (b ∷ bs) some h = ap (λ r. Close ∷ pieces_of r) (rest-is b bs) ∙ sym (close-is bs) ∙ ap (λ x. pieces_of (x ∷ bs)) (sym h)

-- neither a blank nor a bracket is first
pub word-front : (text : List ℕ) → 1 ≤ length text → IsUnblank text → get_or text 0 0 ≢ 40 → get_or text 0 0 ≢ 41 → IsWordFront text
word-front [] some h e f = absurd (omega arith)
word-front (b ∷ bs) some h e f = no_mark b h (ne_eqb b 40 e) (ne_eqb b 41 f)

pub rest-shorter : (text : List ℕ) → length (take (length text - 1) (drop 1 text)) ≤ length text
rest-shorter text = rw (take_rest text 1) (omega (arith, length-drop 1 text))
