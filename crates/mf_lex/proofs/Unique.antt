-- A file with a fault has no tokens, and any other file has one list of them.
use Rattle.std.proofs.Common.{◌≡◌, ℕ, suc, ◌-◌, ◌<◌, ◌≤◌, Bool, true, false, List, [], ◌∷◌, length, get_or, sym, refl, ap, ◌∙◌, subst, inl, inr, arith}
use Rattle.std.proofs.lemmas.Bool.{cases_lt, false≢true}
use Rattle.std.proofs.lemmas.List.{get_or_past}
use Rattle.std.proofs.lemmas.List.Elements.{All-nil, All-cons}
use Rattle.mf_model.specs.declared.token.Span.{Span}
use Rattle.mf_model.specs.declared.token.Token.{Token}
use Rattle.mf_model.specs.Tokens.{is_word, is_blank, in_comment, cleared, without_comments, kind_of, text_of, AreBlank, AreTokensFrom, IsTokens, IsTokenAt, IsBracketAt, IsWordAt, BadByteAt, TooLongAt}
use Rattle.mf_lex.specs.declared.fault.LexFault.{LexFault}
use Rattle.mf_lex.specs.declared.fault.LexFault.TheVariants.{BadByte, TooLong, Memory}
use Rattle.std.specs.List.{All}
use Rattle.mf_lex.specs.Growth.{InFile}
use Rattle.mf_lex.specs.Reading.{IsLexFault, NoTokens}
use Rattle.mf_lex.proofs.Classes.{bracket_not_word, bracket_not_blank, word_not_blank, end_not_word, end_not_bracket}
use Rattle.mf_lex.proofs.Steps.{no_fault_blank, no_fault_token}

-- past the end no byte stands

length-cleared : (inside : Bool) (s : List ℕ) → length (cleared inside s) ≡ length s
length-cleared inside [] = refl
length-cleared inside (b ∷ bs) = ap suc (length-cleared (in_comment inside b) bs)

past : (s : List ℕ) (k : ℕ) → length s ≤ k → get_or (without_comments s) k 0 ≡ 0
past s k le = get_or_past (without_comments s) k 0 (let e = length-cleared false s in omega arith)

-- a file with tokens has no fault

pub no_fault : (s : List ℕ) (at : ℕ) (ts : List Token) → AreTokensFrom s at ts → (k : ℕ) → at ≤ k → ¬ BadByteAt s k × ¬ TooLongAt s k
no_fault s at [] h k le =
    elim (cases_lt k (length s)) [
      | inl lt ↦ no_fault_blank s k (h k le lt)
      | inr ge ↦ (
        λ fault. let w = fault.within in absurd (omega arith),
        λ fault.
            let here : is_word (get_or (without_comments s) k 0) ≡ true = subst (λ (i : ℕ). is_word (get_or (without_comments s) i 0) ≡ true) (omega arith) (fault.long 0 (omega arith)) in
            false≢true (sym (end_not_word _ (past s k ge)) ∙ here),
      )
    ]
no_fault s at (t ∷ ts) h k le =
    elim (cases_lt k t.span.start) [
      | inl lt ↦ no_fault_blank s k (h.1 k le lt)
      | inr ge ↦ elim (cases_lt k t.span.end) [
        | inl inside ↦ no_fault_token s t h.2 k ge inside
        | inr behind ↦ no_fault s t.span.end ts h.3 k behind
      ]
    ]

pub none : (s : List ℕ) (fault : LexFault) → IsLexFault s fault → NoTokens s fault
none s (BadByte at) h = λ tokens are. (no_fault s 0 tokens are at (omega arith)).0 h.0
none s (TooLong at) h = λ tokens are. (no_fault s 0 tokens are at (omega arith)).1 h.0
none s Memory h = tt

-- a token begins where no blank stands, and ends behind its start

not_blank : (s : List ℕ) (t : Token) → IsTokenAt s t → is_blank (get_or (without_comments s) t.span.start 0) ≡ false
not_blank s t placed =
    elim placed.place [
      | inl b ↦ bracket_not_blank _ b.bracket
      | inr w ↦ word_not_blank _ (w.inside t.span.start (omega arith) w.begins)
    ]

starts_within : (s : List ℕ) (t : Token) → IsTokenAt s t → t.span.start < length s
starts_within s t placed =
    elim (cases_lt t.span.start (length s)) [
      | inl lt ↦ lt
      | inr ge ↦
          let nothing = past s t.span.start ge in
          elim placed.place [
            | inl b ↦ absurd (false≢true (sym (end_not_bracket _ nothing) ∙ b.bracket))
            | inr w ↦ absurd (false≢true (sym (end_not_word _ nothing) ∙ w.inside t.span.start (omega arith) w.begins))
          ]
    ]

-- two tokens that begin at one place

bracket_or_word : (s : List ℕ) (t r : Token) → t.span.start ≡ r.span.start → IsBracketAt (without_comments s) t.span → IsWordAt (without_comments s) r.span → ⊥
bracket_or_word s t r same b w =
    let word : is_word (get_or (without_comments s) t.span.start 0) ≡ true = w.inside t.span.start (omega arith) (let lt = w.begins in omega arith) in
    false≢true (sym (bracket_not_word _ b.bracket) ∙ word)

word_ends : (s : List ℕ) (t r : Token) → t.span.start ≡ r.span.start → IsWordAt (without_comments s) t.span → IsWordAt (without_comments s) r.span → r.span.end ≤ t.span.end
word_ends s t r same v w =
    elim (cases_lt t.span.end r.span.end) [
      | inl lt ↦ absurd (false≢true (sym v.maximal ∙ w.inside t.span.end (let b = v.begins in omega arith) lt))
      | inr le ↦ le
    ]

same_end : (s : List ℕ) (t r : Token) → t.span.start ≡ r.span.start → IsTokenAt s t → IsTokenAt s r → t.span.end ≡ r.span.end
same_end s t r same p q =
    elim p.place [
      | inl b ↦ elim q.place [
        | inl c ↦ (let x = b.one in let y = c.one in omega arith)
        | inr w ↦ absurd (bracket_or_word s t r same b w)
      ]
      | inr v ↦ elim q.place [
        | inl c ↦ absurd (bracket_or_word s r t (sym same) c v)
        | inr w ↦ (let x = word_ends s t r same v w in let y = word_ends s r t (sym same) w v in omega arith)
      ]
    ]

same_token : (s : List ℕ) (t r : Token) → t.span.start ≡ r.span.start → IsTokenAt s t → IsTokenAt s r → t ≡ r
same_token s t r same p q =
    let ends = same_end s t r same p q in
    let span : t.span ≡ r.span = λ i. record { start = same i; end = ends i } in
    let kind : t.kind ≡ r.kind = p.kind ∙ ap (λ (x : Span). kind_of (text_of s x)) span ∙ sym q.kind in
    λ i. record { kind = kind i; span = span i }

-- the first tokens begin at one place

begins_first : (s : List ℕ) (at : ℕ) (t r : Token) → at ≤ t.span.start → AreBlank (without_comments s) at r.span.start → IsTokenAt s t → r.span.start ≤ t.span.start
begins_first s at t r le blank placed =
    elim (cases_lt t.span.start r.span.start) [
      | inl lt ↦ absurd (false≢true (sym (not_blank s t placed) ∙ blank t.span.start le lt))
      | inr ge ↦ ge
    ]

no_more : (s : List ℕ) (at : ℕ) (t : Token) → AreBlank (without_comments s) at (length s) → at ≤ t.span.start → IsTokenAt s t → ⊥
no_more s at t blank le placed =
    false≢true (sym (not_blank s t placed) ∙ blank t.span.start le (starts_within s t placed))

unique_from : (s : List ℕ) (at : ℕ) (ts rs : List Token) → AreTokensFrom s at ts → AreTokensFrom s at rs → ts ≡ rs
unique_from s at [] [] h k = refl
unique_from s at [] (r ∷ rs) h k = absurd (no_more s at r h k.0 k.2)
unique_from s at (t ∷ ts) [] h k = absurd (no_more s at t k h.0 h.2)
unique_from s at (t ∷ ts) (r ∷ rs) h k =
    let x = begins_first s at t r h.0 k.1 h.2 in
    let y = begins_first s at r t k.0 h.1 k.2 in
    let same : t.span.start ≡ r.span.start = omega arith in
    let first = same_token s t r same h.2 k.2 in
    let ends = same_end s t r same h.2 k.2 in
    let rest = unique_from s t.span.end ts rs h.3 (subst (λ (i : ℕ). AreTokensFrom s i rs) (sym ends) k.3) in
    λ i. first i ∷ rest i

pub unique : (s : List ℕ) (ts rs : List Token) → IsTokens s ts → IsTokens s rs → ts ≡ rs
unique s ts rs h k = unique_from s 0 ts rs h k

-- each token lies in the file

pub ends_within : (s : List ℕ) (t : Token) → IsTokenAt s t → t.span.end ≤ length s
ends_within s t placed =
    elim placed.place [
      | inl b ↦ (let one = b.one in let lt = starts_within s t placed in omega arith)
      | inr w ↦ elim (cases_lt (t.span.end - 1) (length s)) [
        | inl lt ↦ (let b = w.begins in omega arith)
        | inr ge ↦ absurd (false≢true (sym (end_not_word _ (past s (t.span.end - 1) ge)) ∙ w.inside (t.span.end - 1) (let b = w.begins in omega arith) (let b = w.begins in omega arith)))
      ]
    ]

starts_first : (s : List ℕ) (t : Token) → IsTokenAt s t → t.span.start ≤ t.span.end
starts_first s t placed =
    elim placed.place [ inl b ↦ (let one = b.one in omega arith) | inr w ↦ (let b = w.begins in omega arith) ]

pub in_file : (s : List ℕ) (at : ℕ) (ts : List Token) → AreTokensFrom s at ts → All (InFile s) ts
in_file s at [] h = All-nil (InFile s)
in_file s at (t ∷ ts) h =
    All-cons (InFile s) t ts (record { order = starts_first s t h.2; within = ends_within s t h.2 }) (in_file s t.span.end ts h.3)
