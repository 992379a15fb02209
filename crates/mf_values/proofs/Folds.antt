-- Folds whose steps change nothing, or take something.
use Rattle.std.proofs.Common.{◌≡◌, ◌≢◌, ◌⊎◌, inl, inr, List, [], ◌∷◌, ◌++◌, Bool, true, false, filter, refl, sym, ap, ◌∙◌, subst, ⊎_elim}
use Rattle.std.specs.List.{AllByRecursion, Contains, fold}
use Rattle.mf_search.proofs.Members.{in_cons, not_in_nil}

pub fold_taken : {A X : Type 0} (f : A → X → A) (Taken : A → Type 0) → ((a : A) (x : X) → Taken a → Taken (f a x)) → (a : A) (xs : List X) → Taken a → Taken (fold f a xs)
fold_taken f Taken stays a [] t = t
fold_taken f Taken stays a (x ∷ xs) t = fold_taken f Taken stays (f a x) xs (stays a x t)

-- each step that comes at the first value changes nothing, or some step takes
pub fold_quiet : {A X : Type 0} (f : A → X → A) (a : A) (Taken : A → Type 0) → ((b : A) (x : X) → Taken b → Taken (f b x)) → ((x : X) → (f a x ≡ a) ⊎ Taken (f a x)) → (xs : List X) → ((fold f a xs ≡ a) × AllByRecursion (λ x. f a x ≡ a) xs) ⊎ Taken (fold f a xs)
fold_quiet f a Taken stays step [] = inl (refl, tt)
fold_quiet {A} {X} f a Taken stays step (x ∷ xs) = by (step x) (fold_quiet f a Taken stays step xs)
  where
    by : (f a x ≡ a) ⊎ Taken (f a x) → ((fold f a xs ≡ a) × AllByRecursion (λ y. f a y ≡ a) xs) ⊎ Taken (fold f a xs) → ((fold f a (x ∷ xs) ≡ a) × AllByRecursion (λ y. f a y ≡ a) (x ∷ xs)) ⊎ Taken (fold f a (x ∷ xs))
    by (inr t) rest = inr (fold_taken f Taken stays (f a x) xs t)
    by (inl e) (inl quiet) = inl (ap (λ b. fold f b xs) e ∙ quiet.0, (e, quiet.1))
    by (inl e) (inr t) = inr (subst (λ b. Taken (fold f b xs)) (sym e) t)

pub all_contains : {X : Type 0} (P : X → Type 0) (xs : List X) (x : X) → AllByRecursion P xs → Contains xs x → P x
all_contains P [] x all h = absurd (not_in_nil x h)
all_contains P (y ∷ ys) x all h = ⊎_elim (λ e. subst P e all.0) (all_contains P ys x all.1) (in_cons y ys x h)

pub all_append : {X : Type 0} (P : X → Type 0) (xs ys : List X) → AllByRecursion P xs → AllByRecursion P ys → AllByRecursion P (xs ++ ys)
all_append P [] ys a b = b
all_append P (x ∷ xs) ys a b = (a.0, all_append P xs ys a.1 b)

pub all_filter : {X : Type 0} (P : X → Type 0) (p : X → Bool) (xs : List X) → AllByRecursion P xs → AllByRecursion P (filter p xs)
all_filter P p [] all = tt
all_filter {X} P p (x ∷ xs) all = by (p x) refl (all_filter P p xs all.1)
  where
    by : (b : Bool) → p x ≡ b → AllByRecursion P (filter p xs) → AllByRecursion P (filter p (x ∷ xs))
    by true e rest = rw e (all.0, rest)
    by false e rest = rw e rest

pub cons_append : {X : Type 0} (xs : List X) (y : X) → xs ++ y ∷ [] ≢ []
cons_append [] y e = cc
cons_append (x ∷ xs) y e = cc
