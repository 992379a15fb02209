-- A token of kind Left or Right is one byte.
use Rattle.std.proofs.Common.{◌≡◌, ℕ, ◌+◌, ◌-◌, true, List, [], ◌∷◌, length, drop, sym, refl, ◌∙◌, inl, inr, arith}
use Rattle.std.specs.Prelude.{◌⊎◌, slice_range}
use Rattle.std.specs.Char.{to_ascii_lowercase}
use Rattle.std.proofs.lemmas.List.{length-map, length-take-le, length-drop}
use Rattle.mf_model.specs.declared.token.Token.{Token}
use Rattle.mf_model.specs.declared.token.Kind.TheVariants.{Left, Right}
use Rattle.mf_model.specs.Tokens.{is_only, text_of, IsTokenAt}
use Rattle.mf_lex.proofs.WordKinds.{left_text, right_text}
use Rattle.mf_lex.proofs.Unique.{ends_within}

only_one : (c : ℕ) (text : List ℕ) → is_only c text ≡ true → length text ≡ 1
only_one c [] h = absurd (cc)
only_one c (b ∷ []) h = refl
only_one c (b ∷ d ∷ bs) h = absurd (cc)

length-text : (s : List ℕ) (t : Token) → IsTokenAt s t → length (text_of s t.span) ≡ t.span.end - t.span.start
length-text s t placed =
    let within = ends_within s t placed in
    length-map (slice_range s t.span.start t.span.end) to_ascii_lowercase
    ∙ length-take-le (t.span.end - t.span.start) (drop t.span.start s) (let e = length-drop t.span.start s in omega arith)

pub bracket_one : (s : List ℕ) (t : Token) → IsTokenAt s t → (t.kind ≡ Left) ⊎ (t.kind ≡ Right) → t.span.end ≡ t.span.start + 1
bracket_one s t placed h =
    let one : length (text_of s t.span) ≡ 1 = elim h [
      | inl left ↦ only_one 40 (text_of s t.span) (left_text (text_of s t.span) (sym placed.kind ∙ left))
      | inr right ↦ only_one 41 (text_of s t.span) (right_text (text_of s t.span) (sym placed.kind ∙ right))
    ] in
    let is = length-text s t placed in
    omega arith
