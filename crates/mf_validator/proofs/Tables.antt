-- A table of names that is entered name by name.
use Rattle.std.proofs.Common.{◌≡◌, refl, sym, ◌∙◌, ap, ap₂, ℕ, ◌+◌, ◌<◌, ◌≤◌, Bool, true, false, not, cond, eqb, ltb, if◌then◌else◌, List, [], ◌∷◌, ◌++◌, length, Option, Some, None, slice_get, length-append, arith, is_some}
use Rattle.std.specs.List.{position, position_or_len}
use Rattle.std.specs.Str.{bytes_eq}
use Rattle.std.proofs.lemmas.Bool.Decides.{nat_tests}
use Rattle.std.proofs.lemmas.List.{get_or_append_left}
use Rattle.std.proofs.lemmas.List.Folds.{position_or_len_push}
use Rattle.std.proofs.lemmas.List.Quantifiers.{position-Some}
use Rattle.std.proofs.lemmas.List.Sums.{prefix_len-le-length}
use Rattle.std.proofs.lemmas.Option.{slice_get-get_or}
use Rattle.std.proofs.lemmas.Slice.Eq.{bytes_eq-Decides}
use Rattle.mf_model.specs.Options.{◌>>=◌}
use Rattle.mf_model.specs.Resolution.{number_of}
use Rattle.mf_validator.specs.declared.directory.Directory.{Directory}
use Rattle.mf_validator.specs.Lexicons.{Lists}

or_else : Option ℕ → Option ℕ → Option ℕ
or_else (Some n) other = Some n
or_else None other = other

-- ---- the place of a name in a list with one more

pushed : (n l : ℕ) (t : Bool) → n ≤ l → (e : Bool) → eqb n l ≡ e → (s : Bool) → ltb n l ≡ s
    → cond (ltb (cond e (l + cond t 0 1) n) (l + 1)) (Some (cond e (l + cond t 0 1) n)) None ≡ or_else (cond s (Some n) None) (if t then Some l else None)
unfolding or_else
pushed n l t h true f true g = absurd (grind (arith, nat_tests))
pushed n l true h true f false g = grind (arith, nat_tests)
pushed n l false h true f false g = grind (arith, nat_tests)
pushed n l t h false f true g = grind (arith, nat_tests)
pushed n l t h false f false g = absurd (grind (arith, nat_tests))

push-place : {X : Type 0} (p : X → Bool) (xs : List X) (x : X) → position p (xs ++ x ∷ []) ≡ or_else (position p xs) (if p x then Some (length xs) else None)
push-place p xs x =
    let n : ℕ = position_or_len p xs in
    let l : ℕ = length xs in
    ap₂ (λ m k. cond (ltb m k) (Some m) None) (position_or_len_push p xs x) (length-append xs (x ∷ []))
    ∙ pushed n l (p x) (prefix_len-le-length (λ y. not (p y)) xs) (eqb n l) refl (ltb n l) refl

number-push : (names : List (List ℕ)) (name word : List ℕ) → number_of (names ++ name ∷ []) word ≡ or_else (number_of names word) (if bytes_eq name word then Some (length names) else None)
number-push names name word = push-place (λ own. bytes_eq own word) names name

-- ---- entering a name

at_front : (xs ys : List ℕ) (n : ℕ) → n < length xs → slice_get (xs ++ ys) n ≡ slice_get xs n
at_front xs ys n h = slice_get-get_or (xs ++ ys) n 0 (omega (arith, length-append xs ys)) ∙ ap Some (get_or_append_left xs ys 0 n h) ∙ sym (slice_get-get_or xs n 0 h)

at_seam : (xs : List ℕ) (y n : ℕ) → n ≡ length xs → slice_get (xs ++ y ∷ []) n ≡ Some y
at_seam [] y n e = rw e refl
at_seam (x ∷ xs) y n e = rw e (at_seam xs y (length xs) refl)

-- what the table has under a name, where the name stands at this place of the table
behind : (numbers : List ℕ) (place : Option ℕ) → Option ℕ
behind numbers place = place >>= slice_get numbers

keep : (found other : Option ℕ) → is_some found ≡ true → or_else found other ≡ found
unfolding or_else
keep (Some n) other some = refl
keep None other some = cc

keep_none : (found : Option ℕ) → or_else found None ≡ found
unfolding or_else
keep_none (Some n) = refl
keep_none None = refl

some_behind : (numbers : List ℕ) (place : Option ℕ) → ((n : ℕ) → place ≡ Some n → n < length numbers) → is_some place ≡ true → is_some (behind numbers place) ≡ true
unfolding behind
some_behind numbers (Some n) within some = ap is_some (slice_get-get_or numbers n 0 (within n refl))
some_behind numbers None within some = cc

place-within : (directory : Directory) (names : List (List ℕ)) (word : List ℕ) → Lists directory names → (n : ℕ) → number_of directory.names word ≡ Some n → n < length directory.numbers.items
place-within directory names word lists n e = omega (arith, (position-Some (λ own. bytes_eq own word) directory.names n [] e).0, lists.even)

known_at : (directory : Directory) (names : List (List ℕ)) (name word : List ℕ) (same : Bool) → bytes_eq name word ≡ same → is_some (number_of directory.names name) ≡ true → Lists directory names
    → or_else (number_of names word) (if same then Some (length names) else None) ≡ number_of names word
unfolding behind
known_at directory names name word true e known lists =
    let is : name ≡ word = (bytes_eq-Decides name word).0 e in
    let some : is_some (number_of directory.names word) ≡ true = ap (λ (w : List ℕ). is_some (number_of directory.names w)) (sym is) ∙ known in
    keep (number_of names word) (Some (length names)) (ap is_some (sym (lists.found word)) ∙ some_behind directory.numbers.items (number_of directory.names word) (place-within directory names word lists) some)
known_at directory names name word false e known lists = keep_none (number_of names word)

-- a name that is there is not entered again
pub known-name : (directory : Directory) (names : List (List ℕ)) (name : List ℕ) → is_some (number_of directory.names name) ≡ true → Lists directory names → Lists directory (names ++ name ∷ [])
known-name directory names name known lists = record {
  even = lists.even;
  found = λ word. lists.found word ∙ sym (known_at directory names name word (bytes_eq name word) refl known lists) ∙ sym (number-push names name word);
}

new_at : (numbers : List ℕ) (number : ℕ) (place : Option ℕ) (same : Bool) (k m : ℕ) → ((n : ℕ) → place ≡ Some n → n < length numbers) → k ≡ length numbers → number ≡ m
    → behind (numbers ++ number ∷ []) (or_else place (if same then Some k else None)) ≡ or_else (behind numbers place) (if same then Some m else None)
unfolding behind or_else
new_at numbers number (Some n) same k m within e f =
    at_front numbers (number ∷ []) n (within n refl) ∙ sym (keep (slice_get numbers n) (if same then Some m else None) (ap is_some (slice_get-get_or numbers n 0 (within n refl))))
new_at numbers number None true k m within e f = at_seam numbers number k e ∙ ap Some f
new_at numbers number None false k m within e f = refl

-- a new name is entered with the number of names before it
pub new-name : (directory after : Directory) (names : List (List ℕ)) (name : List ℕ) (number : ℕ) → after.names ≡ directory.names ++ name ∷ []
    → after.numbers.items ≡ directory.numbers.items ++ number ∷ [] → Lists directory names → number ≡ length names → Lists after (names ++ name ∷ [])
unfolding behind
new-name directory after names name number names_are numbers_are lists count = record {
  even = ap length names_are ∙ length-append directory.names (name ∷ []) ∙ ap (λ n. n + 1) lists.even ∙ sym (length-append directory.numbers.items (number ∷ [])) ∙ sym (ap length numbers_are);
  found = λ word.
      ap₂ (λ ns is. behind is (number_of ns word)) names_are numbers_are
      ∙ ap (behind (directory.numbers.items ++ number ∷ [])) (number-push directory.names name word)
      ∙ new_at directory.numbers.items number (number_of directory.names word) (bytes_eq name word) (length directory.names) (length names) (place-within directory names word lists) lists.even count
      ∙ ap (λ o. or_else o (if bytes_eq name word then Some (length names) else None)) (lists.found word)
      ∙ sym (number-push names name word);
}
