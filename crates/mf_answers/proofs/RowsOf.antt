-- A row for each sight, and the sights of next rows.
use Rattle.std.proofs.Common.{◌≡◌, ◌⊎◌, ℕ, zero, suc, ◌+◌, ◌<◌, ◌≤◌, Bool, true, false, not, ◌&&◌, ◌||◌, nat_eq, nat_lt, List, [], ◌∷◌, ◌++◌, length, get_or, Option, None, refl, sym, ap, ap₂, ◌∙◌, arith, ⊎_elim}
use Rattle.std.specs.List.{AllByRecursion, fold, list_any}
use Rattle.std.proofs.Math.Path.{fun_ext}
use Rattle.std.proofs.Math.Seq.{get_or-append_seam}
use Rattle.std.proofs.lemmas.Bool.{cases_lt, eqb-true, ltb-true}
use Rattle.std.proofs.lemmas.List.{get_or_append_left, length-append}
use Rattle.std.proofs.lemmas.List.{get_or_past}
use Rattle.mf_fraction.specs.Exact.{Number}
use Rattle.mf_store.specs.Rows.{RowLists, bit_in}
use Rattle.mf_task.specs.declared.ground.GroundChange.{GroundChange}
use Rattle.mf_task.specs.declared.ground.GroundChange.TheVariants as change
use Rattle.mf_task.specs.declared.task.Task.{Task}
use Rattle.mf_task.specs.GroundMeaning.{adds_atom, deletes_atom, next_sight, value_after}
use Rattle.mf_task.specs.Grounding.{words_of}
use Rattle.mf_task.specs.NumberedTasks.{is_numbered_change}
use Rattle.mf_task.specs.Rows.{IsRowOf, Sight, sight_of, word_count}
use Rattle.mf_bridge.specs.Corresponds.{HasSight}
use Rattle.mf_bridge.proofs.RowBits.{bit_of_words, length_words}

-- the first n values of a function
abbrev pub table : {X : Type 0} → (ℕ → X) → ℕ → List X
table f zero = []
table f (suc n) = table f n ++ f n ∷ []

length-table : {X : Type 0} (f : ℕ → X) (n : ℕ) → length (table f n) ≡ n
length-table f zero = refl
length-table f (suc n) = length-append (table f n) (f n ∷ []) ∙ ap (λ k. k + 1) (length-table f n) ∙ omega arith

pub at-table : {X : Type 0} (f : ℕ → X) (n i : ℕ) (d : X) → i < n → get_or (table f n) i d ≡ f i
at-table f zero i d h = absurd (omega (arith, h))
at-table {X} f (suc n) i d h = ⊎_elim (earlier (at-table f n i d)) last (cases_lt i n)
  where
    earlier : (i < n → get_or (table f n) i d ≡ f i) → i < n → get_or (table f n ++ f n ∷ []) i d ≡ f i
    earlier before g = get_or_append_left (table f n) (f n ∷ []) d i (let e = length-table f n in omega (arith, e, g)) ∙ before g

    last : n ≤ i → get_or (table f n ++ f n ∷ []) i d ≡ f i
    last g =
        let same : i ≡ n = omega (arith, g, h) in
        ap (λ k. get_or (table f n ++ f n ∷ []) k d) (same ∙ sym (length-table f n)) ∙ get_or-append_seam (table f n) (f n) [] d ∙ ap f (sym same)

-- the row of a task's shape with this sight
abbrev pub row_of : Task → Sight → RowLists
row_of task sight = record { bits = words_of (word_count (length task.atoms)) (table sight.bit (length task.atoms)); values = table sight.value (length task.terms) }

bits-of : (task : Task) (sight : Sight) (n : ℕ) → bit_in (row_of task sight).bits n ≡ get_or (table sight.bit (length task.atoms)) n false
bits-of task sight n = bit_of_words (word_count (length task.atoms)) (table sight.bit (length task.atoms)) (let e = length-table sight.bit (length task.atoms) in omega (arith, e)) n

pub row-has-shape : (task : Task) (sight : Sight) → IsRowOf task (row_of task sight)
row-has-shape task sight = record {
  words = length_words (word_count (length task.atoms)) (table sight.bit (length task.atoms));
  values = length-table sight.value (length task.terms);
  clear = λ n past. bits-of task sight n ∙ get_or_past (table sight.bit (length task.atoms)) n false (let e = length-table sight.bit (length task.atoms) in omega (arith, e, past));
}

pub row-has-sight : (task : Task) (sight : Sight) → HasSight task sight (row_of task sight)
row-has-sight task sight = record {
  bits = λ n within. bits-of task sight n ∙ at-table sight.bit (length task.atoms) n false within;
  values = λ n within. at-table sight.value (length task.terms) n None within;
}

-- nothing beyond the task's atoms and terms
pub record IsSightOf (task : Task) (sight : Sight) : Type 0 where
  pub bits : (n : ℕ) → length task.atoms ≤ n → sight.bit n ≡ false
  pub values : (n : ℕ) → length task.terms ≤ n → sight.value n ≡ None

pub row-sight-is : (task : Task) (sight : Sight) → IsSightOf task sight → sight_of (row_of task sight) ≡ sight
row-sight-is task sight s = λ i. record { bit = fun_ext bits i; value = fun_ext values i }
  where
    bits : (n : ℕ) → bit_in (row_of task sight).bits n ≡ sight.bit n
    bits n = ⊎_elim (λ within. (row-has-sight task sight).bits n within) (λ past. (row-has-shape task sight).clear n past ∙ sym (s.bits n past)) (cases_lt n (length task.atoms))

    values : (n : ℕ) → get_or (row_of task sight).values n None ≡ sight.value n
    values n = ⊎_elim (λ within. (row-has-sight task sight).values n within) (λ past. get_or_past (row_of task sight).values n None (let e = length-table sight.value (length task.terms) in omega (arith, e, past)) ∙ sym (s.values n past)) (cases_lt n (length task.terms))

pub sight-of-row : (task : Task) (row : RowLists) → IsRowOf task row → IsSightOf task (sight_of row)
sight-of-row task row shape = record { bits = shape.clear; values = λ n past. get_or_past row.values n None (let e = shape.values in omega (arith, e, past)) }

-- next sights

not-among : (n count : ℕ) → count ≤ n → (k : ℕ) → nat_lt k count ≡ true → nat_eq n k ≡ false
not-among n count past k within = by (nat_eq n k) refl
  where
    by : (b : Bool) → nat_eq n k ≡ b → b ≡ false
    by false e = refl
    by true e = let same = eqb-true n k e in let lower = ltb-true k count within in absurd (omega (arith, same, lower, past))

abbrev AreNumbered : Task → List GroundChange → Type 0
AreNumbered task = AllByRecursion (λ c. is_numbered_change task c ≡ true)

one-adds : (task : Task) (n : ℕ) → length task.atoms ≤ n → (c : GroundChange) → is_numbered_change task c ≡ true → adds_atom n c ≡ false
one-adds task n past (change.Add atom) e = not-among n (length task.atoms) past atom e
one-adds task n past (change.Delete atom) e = refl
one-adds task n past (change.Number op term value) e = refl
one-adds task n past (change.Cost value) e = refl
one-adds task n past change.Nothing e = refl

none-added : (task : Task) (n : ℕ) → length task.atoms ≤ n → (cs : List GroundChange) → AreNumbered task cs → list_any (adds_atom n) cs ≡ false
none-added task n past [] all = refl
none-added task n past (c ∷ cs) all = ap₂ (λ (a b : Bool). a || b) (one-adds task n past c all.0) (none-added task n past cs all.1)

one-changes : (task : Task) (sight : Sight) (n : ℕ) → length task.terms ≤ n → (c : GroundChange) → is_numbered_change task c ≡ true → (old : Option Number) → value_after task sight n old c ≡ old
one-changes task sight n past (change.Add atom) e old = refl
one-changes task sight n past (change.Delete atom) e old = refl
one-changes task sight n past (change.Number op term value) e old = rw (not-among n (length task.terms) past term e) refl
one-changes task sight n past (change.Cost value) e old = refl
one-changes task sight n past change.Nothing e old = refl

none-changed : (task : Task) (sight : Sight) (n : ℕ) → length task.terms ≤ n → (cs : List GroundChange) → AreNumbered task cs → (old : Option Number) → fold (value_after task sight n) old cs ≡ old
none-changed task sight n past [] all old = refl
none-changed task sight n past (c ∷ cs) all old = ap (λ v. fold (value_after task sight n) v cs) (one-changes task sight n past c all.0 old) ∙ none-changed task sight n past cs all.1 old

pub next-is-sight : (task : Task) (sight : Sight) (cs : List GroundChange) → IsSightOf task sight → AreNumbered task cs → IsSightOf task (next_sight task sight cs)
next-is-sight task sight cs s all = record {
  bits = λ n past. ap₂ (λ (a b : Bool). a || (b && not (list_any (deletes_atom n) cs))) (none-added task n past cs all) (s.bits n past);
  values = λ n past. none-changed task sight n past cs all (sight.value n) ∙ s.values n past;
}
