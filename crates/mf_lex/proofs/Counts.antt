-- How many lists are open behind some tokens, and where a list of tokens is split.
use Rattle.std.proofs.Common.{◌≡◌, ℕ, ◌+◌, List, [], ◌∷◌, ◌++◌, sym, refl, ap, ◌∙◌, subst, inl, inr, arith}
use Rattle.std.specs.Prelude.{◌≢◌, ◌⊎◌}
use Rattle.mf_model.specs.declared.token.Token.{Token}
use Rattle.mf_model.specs.declared.token.Kind.{Kind}
use Rattle.mf_model.specs.declared.token.Kind.TheVariants.{Left, Right, Name, Variable, Keyword, Number, Sign, Plain}
use Rattle.mf_model.specs.Trees.{lefts, rights, lefts_in, rights_in, IsOutside, IsDeep, IsSound}

lefts_in-add : (k : Kind) (m n : ℕ) → lefts_in k (m + n) ≡ lefts_in k m + n
lefts_in-add Left m n = omega arith
lefts_in-add Right m n = refl
lefts_in-add Name m n = refl
lefts_in-add Variable m n = refl
lefts_in-add Keyword m n = refl
lefts_in-add Number m n = refl
lefts_in-add Sign m n = refl
lefts_in-add Plain m n = refl

rights_in-add : (k : Kind) (m n : ℕ) → rights_in k (m + n) ≡ rights_in k m + n
rights_in-add Left m n = refl
rights_in-add Right m n = omega arith
rights_in-add Name m n = refl
rights_in-add Variable m n = refl
rights_in-add Keyword m n = refl
rights_in-add Number m n = refl
rights_in-add Sign m n = refl
rights_in-add Plain m n = refl

pub lefts-append : (xs ys : List Token) → lefts (xs ++ ys) ≡ lefts xs + lefts ys
lefts-append [] ys = omega arith
lefts-append (t ∷ xs) ys = ap (lefts_in t.kind) (lefts-append xs ys) ∙ lefts_in-add t.kind (lefts xs) (lefts ys)

pub rights-append : (xs ys : List Token) → rights (xs ++ ys) ≡ rights xs + rights ys
rights-append [] ys = omega arith
rights-append (t ∷ xs) ys = ap (rights_in t.kind) (rights-append xs ys) ∙ rights_in-add t.kind (rights xs) (rights ys)

-- a word opens and closes nothing

pub lefts_in_word : (k : Kind) (n : ℕ) → k ≢ Left → lefts_in k n ≡ n
lefts_in_word Left n h = absurd (h refl)
lefts_in_word Right n h = refl
lefts_in_word Name n h = refl
lefts_in_word Variable n h = refl
lefts_in_word Keyword n h = refl
lefts_in_word Number n h = refl
lefts_in_word Sign n h = refl
lefts_in_word Plain n h = refl

pub rights_in_word : (k : Kind) (n : ℕ) → k ≢ Right → rights_in k n ≡ n
rights_in_word Left n h = refl
rights_in_word Right n h = absurd (h refl)
rights_in_word Name n h = refl
rights_in_word Variable n h = refl
rights_in_word Keyword n h = refl
rights_in_word Number n h = refl
rights_in_word Sign n h = refl
rights_in_word Plain n h = refl

-- a split of a list that one token more makes longer

pub record Earlier (xs before : List Token) (u : Token) : Type 0 where
  pub rest : List Token
  pub is : xs ≡ before ++ u ∷ rest

pub record Last (xs before : List Token) (t u : Token) : Type 0 where
  pub all : before ≡ xs
  pub last : u ≡ t

longer : (before : List Token) (u : Token) (after : List Token) → [] ≡ before ++ u ∷ after → ⊥
longer [] u after e = cc
longer (b ∷ bs) u after e = cc

pub split_last : (xs : List Token) (t : Token) (before : List Token) (u : Token) (after : List Token) → xs ++ t ∷ [] ≡ before ++ u ∷ after → Last xs before t u ⊎ Earlier xs before u
split_last [] t [] u after e = inl (record { all = refl; last = cc })
split_last [] t (b ∷ bs) u after e = absurd (longer bs u after (cc))
split_last (x ∷ xs) t [] u after e = inr (record { rest = xs; is = cc })
split_last (x ∷ xs) t (b ∷ bs) u after e =
    let head : x ≡ b = cc in
    let tail : xs ++ t ∷ [] ≡ bs ++ u ∷ after = cc in
    elim (split_last xs t bs u after tail) [
      | inl h ↦ inl (record { all = (λ i. sym head i ∷ h.all i); last = h.last })
      | inr h ↦ inr (record { rest = h.rest; is = (λ i. head i ∷ h.is i) })
    ]

-- no token of the front has a fault, nor has one more

pub sound_none : IsSound []
sound_none before token after e = absurd (longer before token after e)

pub sound_more : (xs : List Token) (t : Token) → IsSound xs → ¬ IsOutside xs t → ¬ IsDeep xs t → IsSound (xs ++ t ∷ [])
sound_more xs t sound within shallow before u after e =
    elim (split_last xs t before u after e) [
      | inl h ↦ (
        λ fault. within (subst (λ (v : Token). IsOutside xs v) h.last (subst (λ (b : List Token). IsOutside b u) h.all fault)),
        λ fault. shallow (subst (λ (v : Token). IsDeep xs v) h.last (subst (λ (b : List Token). IsDeep b u) h.all fault)),
      )
      | inr h ↦ sound before u h.rest h.is
    ]
