-- What holds of a value where a reading gives one.
use Rattle.std.proofs.Common.{◌≡◌, ℕ, suc, Bool, true, false, ◌&&◌, Option, Some, None, List, [], ◌∷◌, map, length, refl, subst, ap, All}
use Rattle.std.specs.List.{list_all}
use Rattle.std.proofs.lemmas.List.Elements.{All-nil, All-cons}
use Rattle.mf_model.proofs.Choices.{and_true}
use Rattle.mf_model.specs.Plain.{all_true}
use Rattle.mf_model.specs.Options.{◌>>=◌, each, all_some}
use Rattle.mf_types.specs.Typing.{both}

abbrev pub IfGiven : {A : Type 0} → (A → Type 0) → Option A → Type 0
IfGiven P None = Unit {0}
IfGiven P (Some x) = P x

pub given : {A : Type 0} (P : A → Type 0) (o : Option A) → ((x : A) → o ≡ Some x → P x) → IfGiven P o
given P None h = tt
given P (Some x) h = h x refl

pub anything : {A : Type 0} (o : Option A) → IfGiven (λ _. Unit {0}) o
anything o = given (λ _. Unit {0}) o (λ _ _. tt)

pub given_weaker : {A : Type 0} (P Q : A → Type 0) → ((x : A) → P x → Q x) → (o : Option A) → IfGiven P o → IfGiven Q o
given_weaker P Q f None h = tt
given_weaker P Q f (Some x) h = f x h

pub taken : {A : Type 0} (P : A → Type 0) (o : Option A) (x : A) → o ≡ Some x → IfGiven P o → P x
taken P None x e h = let no : ⊥ = cc in absurd no
taken P (Some y) x e h = let same : y ≡ x = cc in subst (λ z. P z) same h

pub then_given : {A B : Type 0} (Q : A → Type 0) (P : B → Type 0) (o : Option A) (f : A → Option B) → IfGiven Q o → ((x : A) → Q x → IfGiven P (f x)) → IfGiven P (o >>= f)
then_given Q P None f h k = tt
then_given Q P (Some x) f h k = k x h

pub made_given : {A B : Type 0} (Q : A → Type 0) (P : B → Type 0) (make : A → B) (o : Option A) → IfGiven Q o → ((x : A) → Q x → P (make x)) → IfGiven P (o >>= (λ x. Some (make x)))
made_given Q P make None h k = tt
made_given Q P make (Some x) h k = k x h

pub both_given : {A B C : Type 0} (Q : A → Type 0) (R : B → Type 0) (P : C → Type 0) (make : A → B → C) (o : Option A) (p : Option B) → IfGiven Q o → IfGiven R p → ((x : A) (y : B) → Q x → R y → P (make x y)) → IfGiven P (both make o p)
both_given Q R P make None p h k j = tt
both_given Q R P make (Some x) None h k j = tt
both_given Q R P make (Some x) (Some y) h k j = j x y h k

cons_given : {A : Type 0} (Q : A → Type 0) (R P : List A → Type 0) (o : Option A) (p : Option (List A)) → IfGiven Q o → IfGiven R p → ((x : A) (xs : List A) → Q x → R xs → P (x ∷ xs)) → IfGiven P (o >>= (λ x. p >>= (λ xs. Some (x ∷ xs))))
cons_given Q R P None p h k j = tt
cons_given Q R P (Some x) None h k j = tt
cons_given Q R P (Some x) (Some xs) h k j = j x xs h k

pub first_true : (a b : Bool) → (a && b) ≡ true → a ≡ true
first_true true b e = refl
first_true false b e = e

pub second_true : (a b : Bool) → (a && b) ≡ true → b ≡ true
second_true true b e = e
second_true false b e = let no : ⊥ = cc in absurd no

-- each passes a test, and there are as many
pub record Read {A B : Type 0} (test : B → Bool) (xs : List A) (ys : List B) : Type 0 where
  pub passes : list_all test ys ≡ true
  pub count : length ys ≡ length xs

pub each_given : {A B : Type 0} (test : B → Bool) (f : A → Option B) → ((x : A) → IfGiven (λ y. test y ≡ true) (f x)) → (xs : List A) → IfGiven (Read test xs) (each f xs)
each_given test f h [] = record { passes = refl; count = refl }
each_given test f h (x ∷ xs) =
    cons_given (λ y. test y ≡ true) (Read test xs) (Read test (x ∷ xs)) (f x) (each f xs) (h x) (each_given test f h xs) (λ y ys here rest.
    record { passes = and_true (test y) (list_all test ys) here rest.passes; count = ap suc rest.count })

pub each_all : {A B : Type 0} (P : B → Type 0) (f : A → Option B) → ((x : A) → IfGiven P (f x)) → (xs : List A) → IfGiven (All P) (each f xs)
each_all P f h [] = All-nil P
each_all P f h (x ∷ xs) = cons_given P (All P) (All P) (f x) (each f xs) (h x) (each_all P f h xs) (λ y ys here rest. All-cons P y ys here rest)

-- the parts of a whole
pub parts_given : {X Y A B : Type 0} (test : B → Bool) (written : Y → Bool) (read : Y → A → Option B) (view : X → Y) (b : A) → ((x : X) → written (view x) ≡ true → IfGiven (λ y. test y ≡ true) (read (view x) b)) → (xs : List X) → all_true (map written (map view xs)) ≡ true → IfGiven (Read test xs) (all_some (map (λ part. part b) (map read (map view xs))))
parts_given test written read view b h [] e = record { passes = refl; count = refl }
parts_given test written read view b h (x ∷ xs) e =
    cons_given (λ y. test y ≡ true) (Read test xs) (Read test (x ∷ xs)) (read (view x) b) _
    (h x (first_true (written (view x)) (all_true (map written (map view xs))) e))
    (parts_given test written read view b h xs (second_true (written (view x)) (all_true (map written (map view xs))) e)) (λ y ys here rest.
    record { passes = and_true (test y) (list_all test ys) here rest.passes; count = ap suc rest.count })

pub all_map : {A : Type 0} (test : A → Bool) (xs : List A) → all_true (map test xs) ≡ list_all test xs
all_map test [] = refl
all_map test (x ∷ xs) = ap (λ (b : Bool). test x && b) (all_map test xs)

pub all_at : {A : Type 0} (test : A → ℕ → Bool) (n : ℕ) (xs : List A) → all_true (map (λ part. part n) (map test xs)) ≡ list_all (λ x. test x n) xs
all_at test n [] = refl
all_at test n (x ∷ xs) = ap (λ (b : Bool). test x n && b) (all_at test n xs)
