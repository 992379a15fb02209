use Rattle.std.proofs.Common.{◌≡◌, sym, ap, subst, ◌∙◌, ◌<◌, ◌-◌, [], ◌∷◌, ◌++◌, length, vec_capacity}
use Rattle.mf_store.specs.Packed.{row_of, IsStrip}
use Rattle.mf_store.specs.Stored.{IsPacked}
use Rattle.mf_store.proofs.Packing.{IsPacked-pushed, rows_pushed}
use Rattle.mf_store.proofs.packed_rows.PackedRows.push.Goals as goal

words_are : (c : goal.After-self-1) → length c.args.row.now.bits ≡ c.self.inside.word_count
words_are c = c.requires.shape.words ∙ ap (λ s. s.word_count) (sym c.self.view_is)

values_are : (c : goal.After-self-1) → length c.args.row.now.values ≡ c.self.inside.value_count
values_are c = c.requires.shape.values ∙ ap (λ s. s.value_count) (sym c.self.view_is)

some : (c : goal.After-self-1) → 0 < c.self.inside.room
some c = subst (λ s. 0 < s.room) (sym c.self.view_is) c.requires.room

strip_is : (c : goal.After-self-1) → IsStrip c.self.inside.word_count c.self.inside.value_count (length c.pack.new.fractions.items) c.pack.new.strip.items
strip_is c =
    subst (λ n. IsStrip n c.self.inside.value_count (length c.pack.new.fractions.items) c.pack.new.strip.items) (words_are c)
    (subst (λ n. IsStrip (length c.args.row.now.bits) n (length c.pack.new.fractions.items) c.pack.new.strip.items) (values_are c) c.pack.ensures.strip)

next_is : (c : goal.After-self-1) → c.push.new.self ≡ record { width = c.self.inside.pages.width; strips = c.self.inside.pages.strips ++ c.pack.new.strip.items ∷ []; room = c.self.inside.pages.room - 1 }
next_is c = c.push.ensures ∙ (λ i. record { width = c.self.inside.pages.width; strips = c.self.inside.pages.strips ++ c.as_slice.ensures.value i ∷ []; room = c.self.inside.pages.room - 1 })

pub invariant_of-self : goal.invariant_of-self
invariant_of-self c =
    subst (λ n. IsPacked c.self.inside.word_count c.self.inside.value_count (c.self.inside.room - 1) c.push.new.self c.pack.new.fractions.items n (vec_capacity c.pack.new.strip)) (sym c.pack.ensures.fraction_capacity)
    (IsPacked-pushed c.self.inside.word_count c.self.inside.value_count c.self.inside.room c.self.inside.pages c.self.inside.fractions.items (vec_capacity c.self.inside.fractions) (vec_capacity c.self.inside.strip)
    c.self.invariant (some c) c.args.row.now (values_are c) c.pack.new.fractions.items c.pack.ensures.fractions c.pack.new.strip.items (strip_is c) c.push.new.self (next_is c) (vec_capacity c.pack.new.strip) c.pack.ensures.capacity)

pub returns : goal.returns
returns c =
    let rows = rows_pushed c.self.inside.word_count c.self.inside.value_count c.self.inside.room c.self.inside.pages c.self.inside.fractions.items (vec_capacity c.self.inside.fractions) (vec_capacity c.self.inside.strip)
    c.self.invariant (some c) c.args.row.now (values_are c) c.pack.new.fractions.items c.pack.ensures.fractions c.pack.new.strip.items (strip_is c) c.push.new.self (next_is c)
    (ap (λ n. row_of n c.pack.new.fractions.items c.pack.new.strip.items) (sym (values_are c)) ∙ c.pack.ensures.row) in
    λ i. record {
      word_count = ap (λ s. s.word_count) c.self.view_is i;
      value_count = ap (λ s. s.value_count) c.self.view_is i;
      rows = (rows ∙ ap (λ s. s.rows ++ c.args.row.now ∷ []) c.self.view_is) i;
      room = ap (λ s. s.room - 1) c.self.view_is i;
    }
