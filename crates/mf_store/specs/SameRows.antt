-- What `==` answers at rows, which is whether their two lists are equal.
use Rattle.std.specs.Prelude.{◌≡◌, refl, ℕ, nat_eq, Bool, ◌&&◌, List, ◌++◌, Option, Some, None}
use Rattle.std.proofs.Common.{ap}
use Rattle.std.specs.Bool.{Decides}
use Rattle.std.specs.Cmp.{IsEquivalence, decided, signed_Decides, unsigned_Decides}
use Rattle.std.specs.Cmp.Lexicographic.{pointwise}
use Rattle.std.specs.Hash as fed
use Rattle.std.specs.Option.{option_eq}
use Rattle.std.specs.Ordering.{on, eq_of_both, int_eq}
use Rattle.std.proofs.lemmas.Bool.Decides.{Decides-and, Decides-like}
use Rattle.std.proofs.lemmas.Slice.Eq.{slice_eq-Decides}
use Rattle.mf_fraction.specs.Exact.{Number}
use Rattle.mf_store.specs.Rows.{RowLists}

abbrev pub same_number : Number → Number → Bool
same_number = eq_of_both (on (λ f. f.num) int_eq) (on (λ f. f.den) nat_eq)

abbrev pub same_value : Option Number → Option Number → Bool
same_value = option_eq same_number

abbrev pub same_rows : RowLists → RowLists → Bool
same_rows a b = pointwise nat_eq a.bits b.bits && pointwise same_value a.values b.values

-- what `hash` feeds a hasher at a row
abbrev pub row_writes : RowLists → List (List ℕ)
row_writes row =
    fed.slice fed.u64 row.bits ++ fed.slice (fed.option (λ f. fed.i64 f.num ++ fed.u64 f.den)) row.values

pub same_number-Decides : (a b : Number) → Decides (same_number a b) (a ≡ b)
same_number-Decides a b =
    Decides-like (same_number a b) (λ (p : (a.num ≡ b.num) × (a.den ≡ b.den)). λ i. record { num = p.0 i; den = p.1 i }) (λ e. (ap (λ f. f.num) e, ap (λ f. f.den) e))
    (Decides-and _ _ (signed_Decides a.num b.num) (unsigned_Decides a.den b.den))

pub same_value-Decides : (a b : Option Number) → Decides (same_value a b) (a ≡ b)
same_value-Decides None None = (λ _. refl, λ _. refl)
same_value-Decides None (Some b) = (λ e. cc, λ e. cc)
same_value-Decides (Some a) None = (λ e. cc, λ e. cc)
same_value-Decides (Some a) (Some b) =
    Decides-like (same_number a b) (λ (e : a ≡ b). ap Some e) (λ (e : Some a ≡ Some b). cc) (same_number-Decides a b)

pub same_rows-Decides : (a b : RowLists) → Decides (same_rows a b) (a ≡ b)
same_rows-Decides a b =
    Decides-like (same_rows a b) (λ (p : (a.bits ≡ b.bits) × (a.values ≡ b.values)). λ i. record { bits = p.0 i; values = p.1 i }) (λ e. (ap (λ r. r.bits) e, ap (λ r. r.values) e))
    (Decides-and _ _ (slice_eq-Decides unsigned_Decides a.bits b.bits _ refl) (slice_eq-Decides same_value-Decides a.values b.values _ refl))

pub same_rows_equiv : IsEquivalence same_rows
same_rows_equiv = decided same_rows same_rows-Decides
