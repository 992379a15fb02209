-- Lists of numbers in lexicographic order, compared from their fronts.
use Rattle.std.proofs.Common.{◌≡◌, ℕ, ◌<◌, ◌≤◌, nat_lt, List, [], length, drop, refl, sym, ap, ◌∙◌, ⊎_elim, arith}
use Rattle.std.proofs.lemmas.Bool.{cases_lt, lt-ltb, le-ltb}
use Rattle.std.proofs.lemmas.List.{drop_more, drop_all}
use Rattle.mf_model.specs.States.{numbers_before}

-- past the end of the first list
numbers_before-end : (ns ms : List ℕ) (i : ℕ) → length ns ≤ i → i ≤ length ms → numbers_before (drop i ns) (drop i ms) ≡ nat_lt i (length ms)
numbers_before-end ns ms i h k = rw (drop_all i ns h) (⊎_elim more none (cases_lt i (length ms)))
  where
    more : i < length ms → numbers_before [] (drop i ms) ≡ nat_lt i (length ms)
    more l = rw (drop_more ms i 0 l, lt-ltb i (length ms) l) refl

    none : length ms ≤ i → numbers_before [] (drop i ms) ≡ nat_lt i (length ms)
    none l = rw (drop_all i ms l, le-ltb i (length ms) l) refl

pub numbers_before-all : (ns ms : List ℕ) (i : ℕ) → length ns ≡ i → i ≤ length ms → nat_lt (length ns) (length ms) ≡ numbers_before (drop i ns) (drop i ms)
numbers_before-all ns ms i h k = ap (λ n. nat_lt n (length ms)) h ∙ sym (numbers_before-end ns ms i (omega arith) k)
