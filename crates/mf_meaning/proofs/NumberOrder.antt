-- The order of atoms and of function terms: by a number, then by lists of numbers in lexicographic order.
use Rattle.std.proofs.Common.{◌≡◌, ℕ, Bool, true, false, ◌&&◌, ◌||◌, nat_eq, nat_lt, List, [], ◌∷◌, refl, sym, subst, ap, ◌∙◌, arith}
use Rattle.std.proofs.lemmas.Bool.{and_parts, and_from, eq-eqb, eqb-true, false≢true, le-ltb}
use Rattle.std.proofs.lemmas.Bool.Decides.{nat_tests}
use Rattle.mf_model.specs.States.{numbers_before, same_numbers}

pub same_numbers-is : (ns ms : List ℕ) → same_numbers ns ms ≡ true → ns ≡ ms
same_numbers-is [] [] e = refl
same_numbers-is [] (m ∷ ms) e = absurd (false≢true e)
same_numbers-is (n ∷ ns) [] e = absurd (false≢true e)
same_numbers-is (n ∷ ns) (m ∷ ms) e =
    let parts = and_parts (nat_eq n m) (same_numbers ns ms) e in
    ap (λ k. k ∷ ns) (eqb-true n m parts.0) ∙ ap (λ ks. m ∷ ks) (same_numbers-is ns ms parts.1)

pub same_numbers-self : (ns : List ℕ) → same_numbers ns ns ≡ true
same_numbers-self [] = refl
same_numbers-self (n ∷ ns) = and_from (nat_eq n n) (same_numbers ns ns) (eq-eqb n n refl) (same_numbers-self ns)

numbers_before-self : (ns : List ℕ) → numbers_before ns ns ≡ false
numbers_before-self [] = refl
numbers_before-self (n ∷ ns) = rw (le-ltb n n (omega arith), eq-eqb n n refl) (numbers_before-self ns)

numbers_before-trans : (ns ms ks : List ℕ) → numbers_before ns ms ≡ true → numbers_before ms ks ≡ true → numbers_before ns ks ≡ true
numbers_before-trans ns [] ks a b = absurd (false≢true a)
numbers_before-trans ns (m ∷ ms) [] a b = absurd (false≢true b)
numbers_before-trans [] (m ∷ ms) (k ∷ ks) a b = refl
numbers_before-trans (n ∷ ns) (m ∷ ms) (k ∷ ks) a b =
    let rest : numbers_before ns ms ≡ true → numbers_before ms ks ≡ true → numbers_before ns ks ≡ true = numbers_before-trans ns ms ks in
    grind (arith, nat_tests, a, b, rest)

numbers_before-other : (ns ms : List ℕ) → same_numbers ns ms ≡ false → numbers_before ns ms ≡ false → numbers_before ms ns ≡ true
numbers_before-other [] [] a b = absurd (false≢true (sym a))
numbers_before-other [] (m ∷ ms) a b = absurd (false≢true (sym b))
numbers_before-other (n ∷ ns) [] a b = refl
numbers_before-other (n ∷ ns) (m ∷ ms) a b =
    let rest : same_numbers ns ms ≡ false → numbers_before ns ms ≡ false → numbers_before ms ns ≡ true = numbers_before-other ns ms in
    grind (arith, nat_tests, a, b, rest)

-- a symbol's number with the objects of its arguments

abbrev pub same_key : ℕ → List ℕ → ℕ → List ℕ → Bool
same_key n ns m ms = nat_eq n m && same_numbers ns ms

abbrev pub key_before : ℕ → List ℕ → ℕ → List ℕ → Bool
key_before n ns m ms = nat_lt n m || (nat_eq n m && numbers_before ns ms)

pub same_key-number : (n : ℕ) (ns : List ℕ) (m : ℕ) (ms : List ℕ) → same_key n ns m ms ≡ true → n ≡ m
same_key-number n ns m ms e = eqb-true n m (and_parts (nat_eq n m) (same_numbers ns ms) e).0

pub same_key-objects : (n : ℕ) (ns : List ℕ) (m : ℕ) (ms : List ℕ) → same_key n ns m ms ≡ true → ns ≡ ms
same_key-objects n ns m ms e = same_numbers-is ns ms (and_parts (nat_eq n m) (same_numbers ns ms) e).1

pub same_key-self : (n : ℕ) (ns : List ℕ) → same_key n ns n ns ≡ true
same_key-self n ns = and_from (nat_eq n n) (same_numbers ns ns) (eq-eqb n n refl) (same_numbers-self ns)

pub key_before-self : (n : ℕ) (ns : List ℕ) → key_before n ns n ns ≡ false
key_before-self n ns = rw (le-ltb n n (omega arith), eq-eqb n n refl) (numbers_before-self ns)

pub key_before-trans : (n : ℕ) (ns : List ℕ) (m : ℕ) (ms : List ℕ) (k : ℕ) (ks : List ℕ) → key_before n ns m ms ≡ true → key_before m ms k ks ≡ true → key_before n ns k ks ≡ true
key_before-trans n ns m ms k ks a b = numbers_before-trans (n ∷ ns) (m ∷ ms) (k ∷ ks) a b

pub key_before-other : (n : ℕ) (ns : List ℕ) (m : ℕ) (ms : List ℕ) → same_key n ns m ms ≡ false → key_before n ns m ms ≡ false → key_before m ms n ns ≡ true
key_before-other n ns m ms a b = numbers_before-other (n ∷ ns) (m ∷ ms) a b

-- where one comes before the other they are not the same
numbers_before-apart : (ns ms : List ℕ) → numbers_before ns ms ≡ true → same_numbers ns ms ≡ false
numbers_before-apart ns ms before = apart (same_numbers ns ms) refl
  where
    apart : (b : Bool) → same_numbers ns ms ≡ b → b ≡ false
    apart false e = refl
    apart true e =
        let here = subst (λ ks. numbers_before ns ks ≡ true) (sym (same_numbers-is ns ms e)) before in
        absurd (false≢true (sym (numbers_before-self ns) ∙ here))

pub key_before-apart : (n : ℕ) (ns : List ℕ) (m : ℕ) (ms : List ℕ) → key_before n ns m ms ≡ true → same_key n ns m ms ≡ false
key_before-apart n ns m ms before = numbers_before-apart (n ∷ ns) (m ∷ ms) before

-- where one comes before the other, the other neither comes before it nor is the same
numbers_before-back : (ns ms : List ℕ) → numbers_before ns ms ≡ true → numbers_before ms ns ≡ false
numbers_before-back ns ms before = back (numbers_before ms ns) refl
  where
    back : (b : Bool) → numbers_before ms ns ≡ b → b ≡ false
    back false e = refl
    back true e = absurd (false≢true (sym (numbers_before-self ns) ∙ numbers_before-trans ns ms ns before e))

pub key_before-back : (n : ℕ) (ns : List ℕ) (m : ℕ) (ms : List ℕ) → key_before n ns m ms ≡ true → key_before m ms n ns ≡ false
key_before-back n ns m ms before = numbers_before-back (n ∷ ns) (m ∷ ms) before

same_numbers-back : (ns ms : List ℕ) → numbers_before ns ms ≡ true → same_numbers ms ns ≡ false
same_numbers-back ns ms before = back (same_numbers ms ns) refl
  where
    back : (b : Bool) → same_numbers ms ns ≡ b → b ≡ false
    back false e = refl
    back true e =
        let here = subst (λ ks. numbers_before ns ks ≡ true) (same_numbers-is ms ns e) before in
        absurd (false≢true (sym (numbers_before-self ns) ∙ here))

pub same_key-back : (n : ℕ) (ns : List ℕ) (m : ℕ) (ms : List ℕ) → key_before n ns m ms ≡ true → same_key m ms n ns ≡ false
same_key-back n ns m ms before = same_numbers-back (n ∷ ns) (m ∷ ms) before
