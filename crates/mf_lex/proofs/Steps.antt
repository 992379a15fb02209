-- What is known of the tokens so far goes on behind each gap and each token.
use Rattle.std.proofs.Common.{◌≡◌, ℕ, ◌+◌, ◌-◌, ◌<◌, ◌≤◌, true, false, List, [], ◌∷◌, ◌++◌, length, get_or, sym, refl, ap, ◌∙◌, subst, inl, inr, append_assoc, arith}
use Rattle.std.proofs.lemmas.Bool.{cases_lt, false≢true}
use Rattle.std.proofs.lemmas.List.{append-nil}
use Rattle.mf_model.specs.declared.token.Token.{Token}
use Rattle.mf_model.specs.Tokens.{is_word, is_bracket, is_blank, is_bad, without_comments, AreBlank, AreTokensFrom, IsTokens, IsTokenAt, IsBracketAt, IsWordAt, BadByteAt, TooLongAt}
use Rattle.mf_lex.specs.Reading.{Reading, IsGap, IsNext}
use Rattle.mf_lex.proofs.Classes.{blank_not_word, bracket_not_word, blank_not_bad, bracket_not_bad, word_not_bad}

-- the start of a file

pub begin : (s : List ℕ) → Reading s 0 []
begin s = record {
  within = omega arith;
  extends = λ ts h. h;
  clean = λ k lt. absurd (omega arith);
  uncommented = refl;
  edge = λ k is h. absurd (omega arith);
}

-- a byte that is neither bad nor begins a long word

no_bad : (s : List ℕ) (k : ℕ) → is_bad (get_or (without_comments s) k 0) ≡ false → ¬ BadByteAt s k
no_bad s k h fault = false≢true (sym h ∙ fault.bad)

no_long : (s : List ℕ) (k : ℕ) → is_word (get_or (without_comments s) k 0) ≡ false → ¬ TooLongAt s k
no_long s k h fault =
    false≢true (sym h ∙ ap (λ (i : ℕ). is_word (get_or (without_comments s) i 0)) (omega arith) ∙ fault.long 0 (omega arith))

pub no_fault_blank : (s : List ℕ) (k : ℕ) → is_blank (get_or (without_comments s) k 0) ≡ true → ¬ BadByteAt s k × ¬ TooLongAt s k
no_fault_blank s k h = (no_bad s k (blank_not_bad _ h), no_long s k (blank_not_word _ h))

no_fault_word : (s : List ℕ) (t : Token) → IsWordAt (without_comments s) t.span → (k : ℕ) → t.span.start ≤ k → k < t.span.end → ¬ BadByteAt s k × ¬ TooLongAt s k
no_fault_word s t word k lo hi = (
  no_bad s k (word_not_bad _ (word.inside k lo hi)),
  λ fault. elim (cases_lt t.span.start k) [
    | inl lt ↦
        let none : is_word (get_or (without_comments s) (k - 1) 0) ≡ false = fault.begins (k - 1) (omega arith) in
        false≢true (sym none ∙ word.inside (k - 1) (omega arith) (omega arith))
    | inr le ↦
        let short = word.short in
        let n = t.span.end - k in
        let is : k + n ≡ t.span.end = omega arith in
        let here : is_word (get_or (without_comments s) (k + n) 0) ≡ true = fault.long n (omega arith) in
        false≢true (sym word.maximal ∙ ap (λ (i : ℕ). is_word (get_or (without_comments s) i 0)) (sym is) ∙ here)
  ],
)

no_fault_bracket : (s : List ℕ) (t : Token) → IsBracketAt (without_comments s) t.span → (k : ℕ) → t.span.start ≤ k → k < t.span.end → ¬ BadByteAt s k × ¬ TooLongAt s k
no_fault_bracket s t b k lo hi =
    let one = b.one in
    let is : t.span.start ≡ k = omega arith in
    let here : is_bracket (get_or (without_comments s) k 0) ≡ true = subst (λ (i : ℕ). is_bracket (get_or (without_comments s) i 0) ≡ true) is b.bracket in
    (no_bad s k (bracket_not_bad _ here), no_long s k (bracket_not_word _ here))

pub no_fault_token : (s : List ℕ) (t : Token) → IsTokenAt s t → (k : ℕ) → t.span.start ≤ k → k < t.span.end → ¬ BadByteAt s k × ¬ TooLongAt s k
no_fault_token s t placed k lo hi =
    elim placed.place [
      | inl b ↦ no_fault_bracket s t b k lo hi
      | inr w ↦ no_fault_word s t w k lo hi
    ]

-- a gap

gap_front : (s : List ℕ) (at end : ℕ) (ts : List Token) → at ≤ end → AreBlank (without_comments s) at end → AreTokensFrom s end ts → AreTokensFrom s at ts
gap_front s at end [] order blank h = λ i lo hi.
    elim (cases_lt i end) [ inl lt ↦ blank i lo lt | inr le ↦ h i le hi ]
gap_front s at end (t ∷ ts) order blank h = (
  let le = h.0 in omega arith,
  λ i lo hi. elim (cases_lt i end) [ inl lt ↦ blank i lo lt | inr le ↦ h.1 i le hi ],
  h.2,
  h.3,
)

pub gap_reads : (s : List ℕ) (at end : ℕ) (list : List Token) → Reading s at list → IsGap s at end → Reading s end list
gap_reads s at end list reading gap = record {
  within = gap.within;
  extends = λ ts h. reading.extends ts (gap_front s at end ts (let lt = gap.begins in omega arith) gap.blank h);
  clean = λ k lt. elim (cases_lt k at) [ inl before ↦ reading.clean k before | inr le ↦ no_fault_blank s k (gap.blank k le lt) ];
  uncommented = gap.uncommented;
  edge = λ k is h. absurd (false≢true (sym (blank_not_word _ (gap.blank k (let lt = gap.begins in omega arith) (omega arith))) ∙ h));
}

-- a token

token_edge : (s : List ℕ) (t : Token) → IsTokenAt s t → (k : ℕ) → k + 1 ≡ t.span.end → is_word (get_or (without_comments s) k 0) ≡ true → is_word (get_or (without_comments s) t.span.end 0) ≡ false
token_edge s t placed k is h =
    elim placed.place [
      | inl b ↦
          let one = b.one in
          let same : t.span.start ≡ k = omega arith in
          let here : is_bracket (get_or (without_comments s) k 0) ≡ true = subst (λ (i : ℕ). is_bracket (get_or (without_comments s) i 0) ≡ true) same b.bracket in
          absurd (false≢true (sym (bracket_not_word _ here) ∙ h))
      | inr w ↦ w.maximal
    ]

pub next_reads : (s : List ℕ) (at : ℕ) (list : List Token) (t : Token) → Reading s at list → IsNext s at t → Reading s t.span.end (list ++ t ∷ [])
next_reads s at list t reading next = record {
  within = next.within;
  extends = λ ts h.
      subst (IsTokens s) (sym (append_assoc list (t ∷ []) ts)) (reading.extends (t ∷ ts) (
        let b = next.start in omega arith,
        λ i lo hi. absurd (let b = next.start in omega arith),
        next.placed,
        h,
      ));
  clean = λ k lt. elim (cases_lt k at) [
    | inl before ↦ reading.clean k before
    | inr le ↦ no_fault_token s t next.placed k (let b = next.start in omega arith) lt
  ];
  uncommented = next.uncommented;
  edge = token_edge s t next.placed;
}

-- the end of the file

pub all_read : (s : List ℕ) (at : ℕ) (list : List Token) → Reading s at list → length s ≤ at → IsTokens s list
all_read s at list reading le =
    subst (IsTokens s) (append-nil list) (reading.extends [] (λ i lo hi. absurd (omega arith)))
