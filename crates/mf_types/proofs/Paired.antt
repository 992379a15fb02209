-- Two lists taken together item by item.
use Rattle.std.proofs.Common.{◌≡◌, ℕ, zero, suc, ◌+◌, ◌<◌, ◌≤◌, Some, None, List, [], ◌∷◌, ◌++◌, refl, sym, ap, ◌∙◌, length, drop, take, get_or, slice_get, append_assoc, arith}
use Rattle.std.proofs.lemmas.Option.{none-some, same_Some, slice_get-get_or}
use Rattle.std.proofs.lemmas.List.{append-nil}
use Rattle.mf_types.specs.Tasks.{paired}

to_nothing : {A B C : Type 0} (f : A → B → C) (xs : List A) → paired f xs [] ≡ []
to_nothing f [] = refl
to_nothing f (x ∷ xs) = refl

past : {A B C : Type 0} (f : A → B → C) (n : ℕ) (xs : List A) (ys : List B) → length ys ≤ n → paired f (drop n xs) (drop n ys) ≡ []
past f zero xs [] h = to_nothing f xs
past f zero xs (y ∷ ys) h = absurd (omega arith)
past f (suc n) xs [] h = to_nothing f (drop (suc n) xs)
past f (suc n) [] (y ∷ ys) h = refl
past f (suc n) (x ∷ xs) (y ∷ ys) h = past f n xs ys (omega arith)

missing : {A B C : Type 0} (f : A → B → C) (n : ℕ) (xs : List A) (ys : List B) → slice_get xs n ≡ None → paired f (drop n xs) ys ≡ []
missing f zero [] ys h = refl
missing f zero (x ∷ xs) ys h = absurd (none-some x (sym h))
missing f (suc n) [] ys h = refl
missing f (suc n) (x ∷ xs) ys h = missing f n xs ys h

there : {A B C : Type 0} (f : A → B → C) (n : ℕ) (xs : List A) (ys : List B) (x : A) (y : B) → slice_get xs n ≡ Some x → slice_get ys n ≡ Some y → paired f (drop n xs) (drop n ys) ≡ f x y ∷ paired f (drop (suc n) xs) (drop (suc n) ys)
there f zero [] ys x y h k = absurd (none-some x h)
there f zero (a ∷ xs) [] x y h k = absurd (none-some y k)
there f zero (a ∷ xs) (b ∷ ys) x y h k = rw (same_Some a x h, same_Some b y k) refl
there f (suc n) [] ys x y h k = absurd (none-some x h)
there f (suc n) (a ∷ xs) [] x y h k = absurd (none-some y k)
there f (suc n) (a ∷ xs) (b ∷ ys) x y h k = there f n xs ys x y h k

pub ends : {A B C : Type 0} (f : A → B → C) (n : ℕ) (xs : List A) (ys : List B) (out whole : List C) → out ++ paired f (drop n xs) (drop n ys) ≡ whole → length ys ≤ n → out ≡ whole
ends f n xs ys out whole h k = sym (append-nil out) ∙ ap (λ rest. out ++ rest) (sym (past f n xs ys k)) ∙ h

pub stops : {A B C : Type 0} (f : A → B → C) (n : ℕ) (xs : List A) (ys : List B) (out whole : List C) → out ++ paired f (drop n xs) (drop n ys) ≡ whole → slice_get xs n ≡ None → out ≡ whole
stops f n xs ys out whole h k = sym (append-nil out) ∙ ap (λ rest. out ++ rest) (sym (missing f n xs (drop n ys) k)) ∙ h

pub goes_on : {A B C : Type 0} (f : A → B → C) (n : ℕ) (xs : List A) (ys : List B) (out whole : List C) (x : A) (y : B) → out ++ paired f (drop n xs) (drop n ys) ≡ whole → Some x ≡ slice_get xs n → n < length ys → y ≡ get_or ys n y → (out ++ f x y ∷ []) ++ paired f (drop (n + 1) xs) (drop (n + 1) ys) ≡ whole
goes_on f n xs ys out whole x y h k l e =
    let next : n + 1 ≡ suc n = omega arith in
    let here = there f n xs ys x y (sym k) (slice_get-get_or ys n y l ∙ ap Some (sym e)) in
    rw next (append_assoc out (f x y ∷ []) (paired f (drop (suc n) xs) (drop (suc n) ys)) ∙ ap (λ rest. out ++ rest) (sym here) ∙ h)

-- lists of the same length

pub length_paired : {A B C : Type 0} (f : A → B → C) (xs : List A) (ys : List B) → length ys ≡ length xs → length (paired f xs ys) ≡ length xs
length_paired f [] ys h = refl
length_paired f (x ∷ xs) [] h = absurd (omega (arith, h))
length_paired f (x ∷ xs) (y ∷ ys) h = ap suc (length_paired f xs ys (omega (arith, h)))

pub paired_more : {A B C : Type 0} (f : A → B → C) (xs : List A) (ys : List B) (x : A) (y : B) → length ys ≡ length xs → paired f (xs ++ x ∷ []) (ys ++ y ∷ []) ≡ paired f xs ys ++ f x y ∷ []
paired_more f [] [] x y h = refl
paired_more f [] (b ∷ ys) x y h = absurd (omega (arith, h))
paired_more f (a ∷ xs) [] x y h = absurd (omega (arith, h))
paired_more f (a ∷ xs) (b ∷ ys) x y h = ap (λ rest. f a b ∷ rest) (paired_more f xs ys x y (omega (arith, h)))

pub take_paired : {A B C : Type 0} (f : A → B → C) (n : ℕ) (xs : List A) (ys : List B) → paired f (take n xs) (take n ys) ≡ take n (paired f xs ys)
take_paired f zero xs ys = refl
take_paired f (suc n) [] ys = refl
take_paired f (suc n) (x ∷ xs) [] = refl
take_paired f (suc n) (x ∷ xs) (y ∷ ys) = ap (λ rest. f x y ∷ rest) (take_paired f n xs ys)

pub drop_paired : {A B C : Type 0} (f : A → B → C) (n : ℕ) (xs : List A) (ys : List B) → paired f (drop n xs) (drop n ys) ≡ drop n (paired f xs ys)
drop_paired f zero xs ys = refl
drop_paired f (suc n) [] ys = refl
drop_paired f (suc n) (x ∷ xs) [] = to_nothing f (drop n xs)
drop_paired f (suc n) (x ∷ xs) (y ∷ ys) = drop_paired f n xs ys
