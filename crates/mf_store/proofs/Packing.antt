-- Packed rows, one row more.
use Rattle.std.proofs.Common.{◌≡◌, sym, ap, subst, ◌∙◌, ℕ, zero, suc, ◌+◌, ◌-◌, ◌*◌, ◌<◌, ◌≤◌, List, [], ◌∷◌, ◌++◌, map, length, arith}
use Rattle.std.specs.List.{All, flat_map}
use Rattle.std.proofs.lemmas.List.{length-append}
use Rattle.mf_fraction.specs.Exact.{Number}
use Rattle.mf_store.specs.Packed.{row_of, fractions_in, IsStrip}
use Rattle.mf_store.specs.Rows.{RowLists}
use Rattle.mf_store.specs.Stored.{IsPacked}
use Rattle.mf_store.specs.Strips.{Strips}
use Rattle.mf_store.proofs.Strips.{strips_more, one_row_more, length-fractions}

one_less : (room values : ℕ) → 0 < room → (room - 1) * values + values ≡ room * values
one_less zero values h = absurd (omega arith)
one_less (suc r) values h =
    ap (λ n. n * values + values) (let less : suc r - 1 ≡ r = omega arith in less) ∙ omega arith

module _ (words values room : ℕ) (pages : Strips) (fs : List Number) (fraction_capacity strip_capacity : ℕ) (p : IsPacked words values room pages fs fraction_capacity strip_capacity) (some : 0 < room)
    (row : RowLists) (many : length row.values ≡ values) (now : List Number) (e : now ≡ fs ++ flat_map fractions_in row.values) (strip : List ℕ) (is : IsStrip words values (length now) strip)
    (next : Strips) (n : next ≡ record { width = pages.width; strips = pages.strips ++ strip ∷ []; room = pages.room - 1 }) where
  pub IsPacked-pushed : (capacity : ℕ) → strip_capacity ≤ capacity → IsPacked words values (room - 1) next now fraction_capacity capacity
  IsPacked-pushed capacity wide =
      let long : length now ≡ length fs + length (flat_map fractions_in row.values) = ap length e ∙ length-append fs (flat_map fractions_in row.values) in
      let less : (room - 1) * values + values ≡ room * values = one_less room values some in
      let most : length (flat_map fractions_in row.values) ≤ values = omega (arith, length-fractions row.values) in
      let fits : pages.width ≤ strip_capacity = p.strip_room some in
      let width_is : next.width ≡ pages.width = ap (λ s. s.width) n in
      let room_is : next.room ≡ pages.room - 1 = ap (λ s. s.room) n in
      record {
        width = width_is ∙ p.width;
        strips = subst (All (IsStrip words values (length now))) (sym (ap (λ s. s.strips) n)) (strips_more words values fs (flat_map fractions_in row.values) pages.strips p.strips now e strip is);
        pages_room = omega arith;
        fractions_room = omega arith;
        strip_room = λ _. omega arith;
      }

  pub rows_pushed : row_of values now strip ≡ row → map (row_of values now) next.strips ≡ map (row_of values fs) pages.strips ++ row ∷ []
  rows_pushed same =
      ap (λ s. map (row_of values now) s.strips) n
      ∙ one_row_more words values fs (flat_map fractions_in row.values) pages.strips p.strips now e strip row same
