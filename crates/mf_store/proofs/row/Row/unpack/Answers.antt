use Rattle.std.proofs.Common.{◌≡◌, sym, ap, ◌∙◌, length}
use Rattle.std.proofs.lemmas.List.{length-map, with_items_is}
use Rattle.mf_store.specs.Packed.{value_of}
use Rattle.mf_store.proofs.Strips.{row_of-split}
use Rattle.mf_store.proofs.row.Row.unpack.Goals as goal

pub returns : goal.returns
returns c =
    let bits_long : length c.copy_from_slice.new.self ≡ c.self.inside.bits.len = c.copy_from_slice.ensures.len ∙ c.as_mut_slice-2.ensures.len in
    let values_long : length c.unpack_values.new.values ≡ c.self.inside.values.len =
    ap length c.unpack_values.ensures ∙ length-map c.split_at.result.0.now (value_of c.args.fractions.now) ∙ c.split_at.ensures.front_len ∙ c.len.ensures in
    (λ i. record {
      bits = (with_items_is c.self.inside.bits c.copy_from_slice.new.self bits_long ∙ c.copy_from_slice.ensures.after) i;
      values = (with_items_is c.self.inside.values c.unpack_values.new.values values_long ∙ c.unpack_values.ensures) i;
    })
    ∙ sym (row_of-split c.len.result c.args.fractions.now c.args.strip.now c.split_at.result.0.now c.split_at.result.1.now c.args.self.now
    (c.len.ensures ∙ c.self.inside.values.ok.0 ∙ ap (λ row. length row.values) c.self.view_is)
    c.split_at.ensures.front c.split_at.ensures.back)
