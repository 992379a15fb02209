-- A search among the rows of one hash, and a store with one row more.
use Rattle.std.proofs.Common.{◌≡◌, ◌≢◌, ◌⊎◌, inl, inr, sym, ap, subst, ◌∙◌, ℕ, ◌+◌, ◌-◌, ◌<◌, ◌≤◌, List, [], ◌∷◌, ◌++◌, map, length, get_or, slice_get, Option, Some, None, Contains, arith}
use Rattle.std.proofs.lemmas.Bool.{cases_eq, cases_lt}
use Rattle.std.proofs.lemmas.List.{length-map, map-append, get_or-map}
use Rattle.std.proofs.lemmas.List.Elements.{All-push}
use Rattle.std.proofs.lemmas.List.Quantifiers.{all_pairs_push}
use Rattle.std.proofs.lemmas.Option.{slice_get_within, slice_get-get_or, get_or_from_slice_get}
use Rattle.mf_store.specs.Chains.{Hashes, IsNext}
use Rattle.mf_store.specs.Numbers.{IsSought, IsStore, hash_of}
use Rattle.mf_store.specs.Rows.{RowLists, HasShape}
use Rattle.mf_store.specs.Stored.{StoredRows, with_row}

module _ (hash : ℕ) (hashes : List ℕ) (rows : List RowLists) (row : RowLists) (h : hash ≡ hash_of row) (hs : hashes ≡ map hash_of rows) where
  -- a place of the row is one of its hash
  same_hash : (j : ℕ) → slice_get rows j ≡ Some row → (j < length rows) × (get_or hashes j 0 ≡ hash)
  same_hash j e =
      let within : j < length rows = slice_get_within rows j row e in (
        within,
        ap (λ xs. get_or xs j 0) hs ∙ get_or-map hash_of rows j row 0 within ∙ ap hash_of (get_or_from_slice_get rows j row row e) ∙ sym h,
      )

  length_same : length hashes ≡ length rows
  length_same = ap length hs ∙ length-map rows hash_of

  pub sought_first : (o : Option ℕ) → IsNext hash 0 hashes o → IsSought hash hashes rows row o
  sought_first None none = λ j e. none j (omega arith) (omega (arith, same_hash j e, length_same)) ((same_hash j e).1)
  sought_first (Some i) found = (found.1, found.2, λ j b e. found.3 j (omega arith) b ((same_hash j e).1))

  pub sought_next : (i : ℕ) (o : Option ℕ) → IsSought hash hashes rows row (Some i) → slice_get rows i ≢ Some row → IsNext (get_or hashes i 0) (i + 1) hashes o → IsSought hash hashes rows row o
  sought_next i o sought other ahead = by o (subst (λ k. IsNext k (i + 1) hashes o) sought.1 ahead)
    where
      up_to : (j : ℕ) → j < i + 1 → slice_get rows j ≢ Some row
      up_to j b e = at (cases_eq j i)
        where
          at : (j ≡ i) ⊎ (j ≢ i) → ⊥
          at (inl same) = other (ap (slice_get rows) (sym same) ∙ e)
          at (inr apart) = sought.2 j (omega arith) e

      past : (j : ℕ) → (i + 1 ≤ j → get_or hashes j 0 ≢ hash) → slice_get rows j ≢ Some row
      past j none e = at (cases_lt j (i + 1))
        where
          at : (j < i + 1) ⊎ (i + 1 ≤ j) → ⊥
          at (inl l) = up_to j l e
          at (inr l) = none l ((same_hash j e).1)

      by : (o : Option ℕ) → IsNext hash (i + 1) hashes o → IsSought hash hashes rows row o
      by None none = λ j e. past j (λ l same. none j l (omega (arith, same_hash j e, length_same)) same) e
      by (Some k) found = (found.1, found.2, λ j b. past j (λ l. found.3 j l b))

-- a row with no place is not there
pub not_there : (rows : List RowLists) (row : RowLists) → ((j : ℕ) → slice_get rows j ≢ Some row) → Contains rows row → ⊥
not_there rows row none there = none there.0 (slice_get-get_or rows there.0 row there.1 ∙ ap Some there.2)

-- one row more
pub one_more : (s : StoredRows) (chains : Hashes) (row : RowLists) (hash : ℕ) (next : StoredRows) (more : Hashes) → IsStore s chains → hash ≡ hash_of row → HasShape s.word_count s.value_count row → ((j : ℕ) → slice_get s.rows j ≢ Some row)
    → next ≡ with_row s row → more ≡ record { hashes = chains.hashes ++ hash ∷ []; room = chains.room - 1 } → IsStore next more
one_more s chains row hash next more old h shape none e f =
    subst (λ n. IsStore n more) (sym e) (subst (λ m. IsStore (with_row s row) m) (sym f) (record {
      hashes = ap (λ xs. xs ++ hash ∷ []) old.hashes ∙ ap (λ k. map hash_of s.rows ++ k ∷ []) h ∙ sym (map-append hash_of s.rows (row ∷ []));
      room = (let r : s.room ≤ chains.room = old.room in omega arith);
      different = all_pairs_push (λ a b. a ≢ b) s.rows row old.different (λ k d b same. none k (slice_get-get_or s.rows k d b ∙ ap Some same));
      shaped = All-push (HasShape s.word_count s.value_count) s.rows row old.shaped shape;
    }))
