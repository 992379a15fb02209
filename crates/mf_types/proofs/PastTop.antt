-- The way up past `object`, and that it has the same types as the way up to `object`, where that is at the top.
use Rattle.std.proofs.Common.{◌≡◌, ◌≢◌, ℕ, zero, suc, ◌+◌, ◌<◌, Bool, true, false, ◌||◌, if◌then◌else◌, nat_eq, List, [], ◌∷◌, length, refl, sym, ap, ◌∙◌, arith}
use Rattle.std.specs.List.{list_any}
use Rattle.std.proofs.lemmas.Bool.Decides.{Decides-eqb}
use Rattle.mf_model.specs.Objects.{ancestors, member}
use Rattle.mf_types.specs.Ascent.{parent_at}
use Rattle.mf_types.specs.BelowTop as below
use Rattle.mf_types.specs.Related.{upward, descends, is_related, are_related}
use Rattle.mf_types.proofs.ByMarks.{any_same}

not_here : (t u : ℕ) → t ≢ u → nat_eq u t ≡ false
not_here t u apart = by (nat_eq u t) refl
  where
    by : (b : Bool) → nat_eq u t ≡ b → nat_eq u t ≡ false
    by true same = absurd (apart (sym ((Decides-eqb u t).0 same)))
    by false other = other

-- one step up
pub upward_more : (parents : List ℕ) (m n t u next : ℕ) → n ≡ m + 1 → t ≢ u → next ≡ parent_at parents t → member u (upward parents m next) ≡ member u (upward parents n t)
upward_more parents m zero t u next more apart is = absurd (omega (arith, more))
upward_more parents m (suc n) t u next more apart is =
    let same : m ≡ n = omega (arith, more) in
    ap (λ (i : ℕ). member u (upward parents i next)) same
    ∙ (ap (λ (s : ℕ). member u (upward parents n s)) is
    ∙ sym (ap (λ (b : Bool). b || member u (upward parents n (parent_at parents t))) (not_here t u apart)))

-- The same types as below the top

or_itself : (b c : Bool) → (c ≡ true → b ≡ true) → (b || c) ≡ (b || false)
or_itself true c h = refl
or_itself false true h = sym (h refl)
or_itself false false h = refl

-- from the top the way leads nowhere else
at_top : (parents : List ℕ) (n t u : ℕ) → parent_at parents 0 ≡ 0 → t ≡ 0 → member u (upward parents n t) ≡ true → nat_eq u t ≡ true
at_top parents zero t u top is e = let no : ⊥ = cc in absurd no
at_top parents (suc n) t u top is e =
    let back : parent_at parents t ≡ 0 = ap (parent_at parents) is ∙ top in
    by (nat_eq u t) refl e (λ there. ap (nat_eq u) (is ∙ sym back) ∙ at_top parents n (parent_at parents t) u top back there)
  where
    by : (b : Bool) → nat_eq u t ≡ b → (b || member u (upward parents n (parent_at parents t))) ≡ true
        → (member u (upward parents n (parent_at parents t)) ≡ true → nat_eq u t ≡ true) → b ≡ true
    by true same e rest = refl
    by false other e rest = sym other ∙ rest e

same_types : (parents : List ℕ) → parent_at parents 0 ≡ 0 → (n t u : ℕ) → member u (upward parents n t) ≡ member u (ancestors parents n t)
same_types parents top zero t u = refl
same_types parents top (suc n) t u = by (nat_eq t 0) refl (same_types parents top n (parent_at parents t) u)
  where
    by : (b : Bool) → nat_eq t 0 ≡ b → member u (upward parents n (parent_at parents t)) ≡ member u (ancestors parents n (parent_at parents t))
        → (nat_eq u t || member u (upward parents n (parent_at parents t))) ≡ (nat_eq u t || member u (if b then [] else ancestors parents n (parent_at parents t)))
    by true e rest =
        let is = (Decides-eqb t 0).0 e in
        let back : parent_at parents t ≡ 0 = ap (parent_at parents) is ∙ top in
        or_itself (nat_eq u t) (member u (upward parents n (parent_at parents t)))
        (λ there. ap (nat_eq u) (is ∙ sym back) ∙ at_top parents n (parent_at parents t) u top back there)
    by false e rest = ap (λ (b : Bool). nat_eq u t || b) rest

both_ways : (parents : List ℕ) → parent_at parents 0 ≡ 0 → (t u : ℕ) → below.is_related parents t u ≡ is_related parents t u
both_ways parents top t u =
    ap (λ (b : Bool). b || below.descends parents u t) (sym (same_types parents top (length parents) t u))
    ∙ ap (λ (b : Bool). descends parents t u || b) (sym (same_types parents top (length parents) u t))

pub related_below_top : (parents types others : List ℕ) → parent_at parents 0 ≡ 0 → below.are_related parents types others ≡ are_related parents types others
related_below_top parents types others top =
    any_same (λ t. list_any (λ u. below.is_related parents t u) others) (λ t. list_any (λ u. is_related parents t u) others)
    (λ t. any_same (λ u. below.is_related parents t u) (λ u. is_related parents t u) (both_ways parents top t) others) types
