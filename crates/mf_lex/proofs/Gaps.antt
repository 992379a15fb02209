-- What each class of byte says of the place where it stands.
use Rattle.std.proofs.Common.{◌≡◌, ℕ, ◌+◌, ◌-◌, ◌<◌, ◌≤◌, Bool, true, false, List, length, get_or, sym, ap, ◌∙◌, subst, inl, inr, arith}
use Rattle.std.specs.Prelude.{if◌then◌else◌}
use Rattle.std.proofs.lemmas.Bool.{cases_lt}
use Rattle.mf_model.specs.declared.token.Token.{Token}
use Rattle.mf_model.specs.Tokens.{is_word, is_bracket, is_blank, is_bad, in_comment, without_comments, kind_of, text_of, AreBlank, BadByteAt}
use Rattle.mf_lex.specs.Reading.{IsUncommented, IsGap, IsNext}
use Rattle.mf_lex.proofs.Classes.{blank_plain, bracket_plain, word_plain, bad_plain, comment_begins, comment_goes_on, space_blank, space_not_word, end_not_word}
use Rattle.mf_lex.proofs.Comments.{Stands, Run, cleared_byte, stands_more, cleared_end, run_stands, run_bytes, stands_behind}

-- no comment is open at the place, which is within the file
pub record Here (s : List ℕ) (at : ℕ) : Type 0 where
  pub uncommented : IsUncommented s at
  pub within : at < length s

stands : (s : List ℕ) (at : ℕ) → Here s at → Stands false s at
stands s at here = record { rest = here.uncommented }

plain_byte : (s : List ℕ) (at : ℕ) → Here s at → in_comment false (get_or s at 0) ≡ false → get_or (without_comments s) at 0 ≡ get_or s at 0
plain_byte s at here plain =
    cleared_byte false s at (stands s at here) here.within ∙ ap (λ (b : Bool). if b then 32 else get_or s at 0) plain

plain_more : (s : List ℕ) (at : ℕ) → Here s at → in_comment false (get_or s at 0) ≡ false → IsUncommented s (at + 1)
plain_more s at here plain =
    (subst (λ (b : Bool). Stands b s (at + 1)) plain (stands_more false s at (stands s at here) here.within)).rest

pub blank_gap : (s : List ℕ) (at : ℕ) → Here s at → is_blank (get_or s at 0) ≡ true → IsGap s at (at + 1)
blank_gap s at here blank =
    let plain = blank_plain (get_or s at 0) blank in
    record {
      begins = omega arith;
      within = let lt = here.within in omega arith;
      blank = λ i lo hi.
          let is : at ≡ i = omega arith in
          subst (λ (k : ℕ). is_blank (get_or (without_comments s) k 0) ≡ true) is (ap is_blank (plain_byte s at here plain) ∙ blank);
      uncommented = plain_more s at here plain;
    }

pub bad_found : (s : List ℕ) (at : ℕ) → Here s at → is_bad (get_or s at 0) ≡ true → BadByteAt s at
bad_found s at here bad = record {
  within = here.within;
  bad = ap is_bad (plain_byte s at here (bad_plain (get_or s at 0) bad)) ∙ bad;
}

-- ---- comments

pub record Comment (s : List ℕ) (at end : ℕ) : Type 0 where
  pub order : at ≤ end
  pub within : end ≤ length s
  pub inside : (i : ℕ) → at ≤ i → i < end → get_or s i 0 ≡ 10 → ⊥
  pub ends : end < length s → get_or s end 0 ≡ 10

comment_order : (s : List ℕ) (at end : ℕ) → Here s at → get_or s at 0 ≡ 59 → Comment s at end → at < end
comment_order s at end here first comment =
    elim (cases_lt at end) [
      | inl lt ↦ lt
      | inr le ↦
          let same : end ≡ at = let lo = comment.order in omega arith in
          let lt : end < length s = let w = here.within in omega arith in
          let ten : get_or s at 0 ≡ 10 = subst (λ (i : ℕ). get_or s i 0 ≡ 10) same (comment.ends lt) in
          absurd (omega arith)
    ]

comment_opens : (s : List ℕ) (at : ℕ) → Here s at → get_or s at 0 ≡ 59 → Stands true s (at + 1)
comment_opens s at here first =
    subst (λ (b : Bool). Stands b s (at + 1)) (comment_begins (get_or s at 0) first) (stands_more false s at (stands s at here) here.within)

comment_run : (s : List ℕ) (at end : ℕ) → Comment s at end → Run true s (at + 1) end
comment_run s at end comment = record {
  same = λ i lo hi. comment_goes_on (get_or s i 0) (comment.inside i (omega arith) hi);
}

comment_blank : (s : List ℕ) (at end : ℕ) → Here s at → get_or s at 0 ≡ 59 → Comment s at end → AreBlank (without_comments s) at end
comment_blank s at end here first comment i lo hi =
    elim (cases_lt at i) [
      | inl lt ↦
          let n = end - (at + 1) in
          let is : end ≡ at + 1 + n = omega arith in
          let fits : at + 1 + n ≤ length s = let w = comment.within in omega arith in
          let run : Run true s (at + 1) (at + 1 + n) = subst (Run true s (at + 1)) is (comment_run s at end comment) in
          space_blank _ (run_bytes true s (at + 1) n (comment_opens s at here first) fits run i (omega arith) (omega arith))
      | inr le ↦
          let is : at ≡ i = omega arith in
          let byte : get_or (without_comments s) at 0 ≡ 32 = cleared_byte false s at (stands s at here) here.within ∙ ap (λ (b : Bool). if b then 32 else get_or s at 0) (comment_begins (get_or s at 0) first) in
          subst (λ (k : ℕ). is_blank (get_or (without_comments s) k 0) ≡ true) is (space_blank _ byte)
    ]

comment_stands : (s : List ℕ) (at end : ℕ) → Here s at → get_or s at 0 ≡ 59 → Comment s at end → Stands false s end
comment_stands s at end here first comment =
    let lt = comment_order s at end here first comment in
    let n = end - (at + 1) in
    let is : at + 1 + n ≡ end = omega arith in
    let fits : at + 1 + n ≤ length s = let w = comment.within in omega arith in
    let run : Run true s (at + 1) (at + 1 + n) = subst (Run true s (at + 1)) (sym is) (comment_run s at end comment) in
    let open_still : Stands true s end = subst (Stands true s) is (run_stands true s (at + 1) n (comment_opens s at here first) fits run n (omega arith)) in
    stands_behind s end open_still comment.ends

pub comment_gap : (s : List ℕ) (at end : ℕ) → Here s at → get_or s at 0 ≡ 59 → Comment s at end → IsGap s at end
comment_gap s at end here first comment = record {
  begins = comment_order s at end here first comment;
  within = comment.within;
  blank = comment_blank s at end here first comment;
  uncommented = (comment_stands s at end here first comment).rest;
}

-- ---- tokens

pub record Made (s : List ℕ) (start end : ℕ) (t : Token) : Type 0 where
  pub start_is : t.span.start ≡ start
  pub end_is : t.span.end ≡ end
  pub kind : t.kind ≡ kind_of (text_of s t.span)

pub bracket_next : (s : List ℕ) (at : ℕ) (t : Token) → Here s at → is_bracket (get_or s at 0) ≡ true → Made s at (at + 1) t → IsNext s at t
bracket_next s at t here bracket made =
    let plain = bracket_plain (get_or s at 0) bracket in
    let e = made.end_is in
    let w = here.within in
    record {
      start = made.start_is;
      begins = omega arith;
      within = omega arith;
      placed = record {
        place = inl (record {
          bracket = subst (λ (i : ℕ). is_bracket (get_or (without_comments s) i 0) ≡ true) (sym made.start_is) (ap is_bracket (plain_byte s at here plain) ∙ bracket);
          one = let b = made.start_is in omega arith;
        });
        kind = made.kind;
      };
      uncommented = subst (IsUncommented s) (sym made.end_is) (plain_more s at here plain);
    }

-- the longest run of word bytes from the place on
pub record Word (s : List ℕ) (at end : ℕ) : Type 0 where
  pub first : is_word (get_or s at 0) ≡ true
  pub order : at ≤ end
  pub within : end ≤ length s
  pub inside : (i : ℕ) → at ≤ i → i < end → is_word (get_or s i 0) ≡ true
  pub maximal : end < length s → is_word (get_or s end 0) ≡ false

word_run : (s : List ℕ) (at end : ℕ) → Word s at end → Run false s at end
word_run s at end word = record { same = λ i lo hi. word_plain (get_or s i 0) (word.inside i lo hi) }

word_stands : (s : List ℕ) (at end : ℕ) → Here s at → Word s at end → Stands false s end
word_stands s at end here word =
    let n = end - at in
    let lo = word.order in
    let is : at + n ≡ end = omega arith in
    let fits : at + n ≤ length s = let w = word.within in omega arith in
    let run : Run false s at (at + n) = subst (Run false s at) (sym is) (word_run s at end word) in
    subst (Stands false s) is (run_stands false s at n (stands s at here) fits run n (omega arith))

pub word_inside : (s : List ℕ) (at end : ℕ) → Here s at → Word s at end → (i : ℕ) → at ≤ i → i < end → is_word (get_or (without_comments s) i 0) ≡ true
word_inside s at end here word i lo hi =
    let n = end - at in
    let is : at + n ≡ end = omega arith in
    let fits : at + n ≤ length s = let w = word.within in omega arith in
    let run : Run false s at (at + n) = subst (Run false s at) (sym is) (word_run s at end word) in
    ap is_word (run_bytes false s at n (stands s at here) fits run i lo (omega arith)) ∙ word.inside i lo hi

word_maximal : (s : List ℕ) (at end : ℕ) → Here s at → Word s at end → is_word (get_or (without_comments s) end 0) ≡ false
word_maximal s at end here word =
    let there = word_stands s at end here word in
    elim (cases_lt end (length s)) [
      | inl lt ↦ cleared_word s end there lt (word.maximal lt)
      | inr le ↦ end_not_word _ (cleared_end false s end there le)
    ]
  where
    choice : (b : Bool) (x : ℕ) → is_word x ≡ false → is_word (if b then 32 else x) ≡ false
    choice true x h = space_not_word
    choice false x h = h

    cleared_word : (s : List ℕ) (end : ℕ) → Stands false s end → end < length s → is_word (get_or s end 0) ≡ false → is_word (get_or (without_comments s) end 0) ≡ false
    cleared_word s end there lt h = ap is_word (cleared_byte false s end there lt) ∙ choice (in_comment false (get_or s end 0)) (get_or s end 0) h

word_begins : (s : List ℕ) (at end : ℕ) → Here s at → Word s at end → at < end
word_begins s at end here word =
    elim (cases_lt at end) [
      | inl lt ↦ lt
      | inr le ↦
          let same : end ≡ at = let lo = word.order in omega arith in
          let lt : end < length s = let w = here.within in omega arith in
          let no : is_word (get_or s at 0) ≡ false = subst (λ (i : ℕ). is_word (get_or s i 0) ≡ false) same (word.maximal lt) in
          absurd (let yes = word.first in cc)
    ]

pub word_next : (s : List ℕ) (at end : ℕ) (t : Token) → Here s at → Word s at end → end - at ≤ 255 → Made s at end t → IsNext s at t
word_next s at end t here word short made =
    let lt = word_begins s at end here word in
    let b = made.start_is in
    let e = made.end_is in
    record {
      start = made.start_is;
      begins = omega arith;
      within = let w = word.within in omega arith;
      placed = record {
        place = inr (record {
          begins = omega arith;
          short = omega arith;
          inside = λ i lo hi. word_inside s at end here word i (omega arith) (omega arith);
          maximal = subst (λ (i : ℕ). is_word (get_or (without_comments s) i 0) ≡ false) (sym made.end_is) (word_maximal s at end here word);
        });
        kind = made.kind;
      };
      uncommented = subst (IsUncommented s) (sym made.end_is) (word_stands s at end here word).rest;
    }

pub word_long : (s : List ℕ) (at end : ℕ) → Here s at → Word s at end → 255 < end - at → (i : ℕ) → i ≤ 255 → is_word (get_or (without_comments s) (at + i) 0) ≡ true
word_long s at end here word long i le = word_inside s at end here word (at + i) (omega arith) (omega arith)
