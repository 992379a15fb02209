-- Truths joined from the left, and truths that may be refused.
use Rattle.std.proofs.Common.{◌≡◌, Bool, true, false, ◌||◌, List, [], ◌∷◌, ◌++◌, map, Result, Ok, refl, sym, ap, ◌∙◌}
use Rattle.std.specs.List.{list_any, flat_map}
use Rattle.std.proofs.lemmas.List.{map-append}
use Rattle.std.proofs.lemmas.List.Folds.{list_any-append}
use Rattle.mf_fraction.specs.declared.faults.Wide.{Wide}
use Rattle.mf_model.specs.declared.truth.Truth.{Truth}
use Rattle.mf_model.specs.declared.truth.Truth.TheVariants.{Yes, No, Neither}
use Rattle.mf_model.specs.Meaning.{and_of, or_of, not_of, all_of, any_of}
use Rattle.mf_eval.specs.declared.truth.Connective.{Connective}
use Rattle.mf_eval.specs.declared.truth.Connective.TheVariants.{And, Or}
use Rattle.mf_eval.specs.Answers.{answered, ◌>>=◌}
use Rattle.mf_eval.specs.Judged.{connected, judged_all, judged_front, neutral_of}

not_of-twice : (t : Truth) → not_of (not_of t) ≡ t
not_of-twice Yes = refl
not_of-twice No = refl
not_of-twice Neither = refl

and_neither : (u : Truth) → and_of Neither u ≡ and_of Neither (and_of Neither u)
and_neither Yes = refl
and_neither No = refl
and_neither Neither = refl

and_of-assoc : (s t u : Truth) → and_of (and_of s t) u ≡ and_of s (and_of t u)
and_of-assoc Yes t u = refl
and_of-assoc No t u = refl
and_of-assoc Neither Yes u = refl
and_of-assoc Neither No u = refl
and_of-assoc Neither Neither u = and_neither u

or_of-assoc : (s t u : Truth) → or_of (or_of s t) u ≡ or_of s (or_of t u)
or_of-assoc s t u =
    ap (λ (x : Truth). not_of (and_of x (not_of u))) (not_of-twice (and_of (not_of s) (not_of t)))
    ∙ ap not_of (and_of-assoc (not_of s) (not_of t) (not_of u))
    ∙ sym (ap (λ (x : Truth). not_of (and_of (not_of s) x)) (not_of-twice (and_of (not_of t) (not_of u))))

connected-assoc : (c : Connective) (s t u : Truth) → connected c (connected c s t) u ≡ connected c s (connected c t u)
connected-assoc And s t u = and_of-assoc s t u
connected-assoc Or s t u = or_of-assoc s t u

and_of-yes : (t : Truth) → and_of t Yes ≡ t
and_of-yes Yes = refl
and_of-yes No = refl
and_of-yes Neither = refl

pub connected-neutral : (c : Connective) (t : Truth) → connected c t (neutral_of c) ≡ t
connected-neutral And t = and_of-yes t
connected-neutral Or t = ap not_of (and_of-yes (not_of t)) ∙ not_of-twice t

neutral-connected : (c : Connective) (t : Truth) → connected c (neutral_of c) t ≡ t
neutral-connected And t = refl
neutral-connected Or t = not_of-twice t

abbrev pub joined : Connective → List Truth → Truth
joined c [] = neutral_of c
joined c (t ∷ ts) = connected c t (joined c ts)

pub joined-and : (ts : List Truth) → joined And ts ≡ all_of ts
joined-and [] = refl
joined-and (t ∷ ts) = ap (λ (x : Truth). and_of t x) (joined-and ts)

pub joined-or : (ts : List Truth) → joined Or ts ≡ any_of ts
joined-or [] = refl
joined-or (t ∷ ts) = ap (λ (x : Truth). or_of t x) (joined-or ts)

joined-append : (c : Connective) (ts us : List Truth) → joined c (ts ++ us) ≡ connected c (joined c ts) (joined c us)
joined-append c [] us = sym (neutral-connected c (joined c us))
joined-append c (t ∷ ts) us = ap (λ (x : Truth). connected c t x) (joined-append c ts us) ∙ sym (connected-assoc c t (joined c ts) (joined c us))

pub joined-flat_map : {X Y : Type 0} (c : Connective) (v : Y → Truth) (g : X → List Y) (xs : List X) → joined c (map (λ x. joined c (map v (g x))) xs) ≡ joined c (map v (flat_map g xs))
joined-flat_map c v g [] = refl
joined-flat_map c v g (x ∷ xs) =
    ap (λ (t : Truth). connected c (joined c (map v (g x))) t) (joined-flat_map c v g xs)
    ∙ sym (ap (λ (l : List Truth). joined c l) (map-append v (g x) (flat_map g xs)) ∙ joined-append c (map v (g x)) (map v (flat_map g xs)))

pub list_any-flat_map : {X Y : Type 0} (w : Y → Bool) (g : X → List Y) (xs : List X) → list_any (λ x. list_any w (g x)) xs ≡ list_any w (flat_map g xs)
list_any-flat_map w g [] = refl
list_any-flat_map w g (x ∷ xs) =
    ap (λ (b : Bool). list_any w (g x) || b) (list_any-flat_map w g xs) ∙ sym (list_any-append w (g x) (flat_map g xs))

-- answers that may be refused, one after another
pub then_one : {A B : Type 0} (f : A → B) (w : Bool) (x : A) → (answered w x >>= λ a. Ok (f a)) ≡ answered w (f x)
then_one f true x = refl
then_one f false x = refl

pub then_two : {A B C : Type 0} (f : A → B → C) (w z : Bool) (x : A) (y : B) → (answered w x >>= λ a. answered z y >>= λ b. Ok (f a b)) ≡ answered (w || z) (f x y)
then_two f true z x y = refl
then_two f false true x y = refl
then_two f false false x y = refl

module _ {X : Type 0} (c : Connective) (r : X → Result Truth Wide) (w : X → Bool) (v : X → Truth) (is : (x : X) → r x ≡ answered (w x) (v x)) where
  turn : (t u : Truth) (b : Bool) (xs : List X) → ((s : Truth) → judged_front c s (map r xs) ≡ answered (list_any w xs) (connected c s (joined c (map v xs)))) → (answered b u >>= λ s. judged_front c (connected c t s) (map r xs)) ≡ answered (b || list_any w xs) (connected c t (connected c u (joined c (map v xs))))
  turn t u true xs rest = refl
  turn t u false xs rest = rest (connected c t u) ∙ ap (λ (x : Truth). answered (list_any w xs) x) (connected-assoc c t u (joined c (map v xs)))

  pub judged_front-is : (t : Truth) (xs : List X) → judged_front c t (map r xs) ≡ answered (list_any w xs) (connected c t (joined c (map v xs)))
  judged_front-is t [] = ap Ok (sym (connected-neutral c t))
  judged_front-is t (x ∷ xs) =
      ap (λ (q : Result Truth Wide). q >>= λ s. judged_front c (connected c t s) (map r xs)) (is x) ∙ turn t (v x) (w x) xs (λ s. judged_front-is s xs)

  pub judged_all-is : (xs : List X) → judged_all c (map r xs) ≡ answered (list_any w xs) (joined c (map v xs))
  judged_all-is xs = judged_front-is (neutral_of c) xs ∙ ap (λ (x : Truth). answered (list_any w xs) x) (neutral-connected c (joined c (map v xs)))
