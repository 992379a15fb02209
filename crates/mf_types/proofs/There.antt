-- Readings that give something, and lists of faults that are empty.
use Rattle.std.proofs.Common.{◌≡◌, Bool, true, false, if◌then◌else◌, Option, Some, None, List, [], ◌∷◌, ◌++◌, refl, All}
use Rattle.std.specs.List.{flat_map}
use Rattle.std.proofs.lemmas.List.Elements.{All-nil, All-cons}
use Rattle.mf_model.specs.Options.{◌>>=◌, each}
use Rattle.mf_types.specs.Typing.{both}

abbrev pub IsThere : {A : Type 0} → Option A → Type 0
IsThere (Some x) = Unit {0}
IsThere None = ⊥

pub there : {A : Type 0} (o : Option A) → IsThere o → (x : A) × (o ≡ Some x)
there None h = absurd h
there (Some x) h = (x, refl)

pub then_there : {A B : Type 0} (o : Option A) (f : A → Option B) → IsThere o → ((x : A) → IsThere (f x)) → IsThere (o >>= f)
then_there None f h k = absurd h
then_there (Some x) f h k = k x

pub made_there : {A B : Type 0} (make : A → B) (o : Option A) → IsThere o → IsThere (o >>= (λ x. Some (make x)))
made_there make None h = absurd h
made_there make (Some x) h = tt

pub both_there : {A B C : Type 0} (make : A → B → C) (o : Option A) (p : Option B) → IsThere o → IsThere p → IsThere (both make o p)
both_there make None p h k = absurd h
both_there make (Some x) None h k = absurd k
both_there make (Some x) (Some y) h k = tt

pub cons_there : {A : Type 0} (o : Option A) (p : Option (List A)) → IsThere o → IsThere p → IsThere (o >>= (λ x. p >>= (λ xs. Some (x ∷ xs))))
cons_there None p h k = absurd h
cons_there (Some x) None h k = absurd k
cons_there (Some x) (Some xs) h k = tt

no_cons : {A : Type 0} (x : A) (xs : List A) → x ∷ xs ≡ [] → ⊥
no_cons x xs e = cc

-- two lists that are empty together
pub first_empty : {A : Type 0} (xs ys : List A) → xs ++ ys ≡ [] → xs ≡ []
first_empty [] ys e = refl
first_empty (x ∷ xs) ys e = absurd (no_cons x (xs ++ ys) e)

pub second_empty : {A : Type 0} (xs ys : List A) → xs ++ ys ≡ [] → ys ≡ []
second_empty [] ys e = e
second_empty (x ∷ xs) ys e = absurd (no_cons x (xs ++ ys) e)

pub never : {A : Type 0} (P : Type 0) (x : A) (xs : List A) → x ∷ xs ≡ [] → P
never P x xs e = absurd (no_cons x xs e)

-- a test that leaves nothing
pub passed : {A : Type 0} (b : Bool) (x : A) → (if b then [] else x ∷ []) ≡ [] → b ≡ true
passed true x e = refl
passed false x e = absurd (no_cons x [] e)

pub not_met : {A : Type 0} (b : Bool) (x : A) → (if b then x ∷ [] else []) ≡ [] → b ≡ false
not_met true x e = absurd (no_cons x [] e)
not_met false x e = refl

-- each of a list without faults is there
pub each_there : {A B F : Type 0} (read : A → Option B) (faults : A → List F) → ((x : A) → faults x ≡ [] → IsThere (read x)) → (xs : List A) → flat_map faults xs ≡ [] → IsThere (each read xs)
each_there read faults h [] e = tt
each_there read faults h (x ∷ xs) e =
    cons_there (read x) (each read xs) (h x (first_empty (faults x) (flat_map faults xs) e)) (each_there read faults h xs (second_empty (faults x) (flat_map faults xs) e))

-- each of a list without faults has what one without faults has
pub each_passes : {A F : Type 0} (P : A → Type 0) (faults : A → List F) → ((x : A) → faults x ≡ [] → P x) → (xs : List A) → flat_map faults xs ≡ [] → All P xs
each_passes P faults h [] e = All-nil P
each_passes P faults h (x ∷ xs) e = All-cons P x xs (h x (first_empty (faults x) _ e)) (each_passes P faults h xs (second_empty (faults x) _ e))
