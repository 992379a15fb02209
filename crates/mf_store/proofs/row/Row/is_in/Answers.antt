use Rattle.std.proofs.Common.{◌≡◌, sym, ap, ◌∙◌, length, map, subst}
use Rattle.std.specs.Bool.{Decides}
use Rattle.std.specs.Cmp.{unsigned_Decides}
use Rattle.std.proofs.lemmas.Bool.Decides.{not_from_Decides}
use Rattle.std.proofs.lemmas.Slice.Eq.{slice_eq-Decides}
use Rattle.mf_store.specs.Packed.{value_of}
use Rattle.mf_store.proofs.Strips.{row_of-same_bits, row_of-other_bits}
use Rattle.mf_store.proofs.row.Row.is_in.Goals as goal

pub returns-then-eq : goal.returns-then-eq
returns-then-eq c =
    let bits = (slice_eq-Decides unsigned_Decides c.split_at.result.1.now c.as_slice.result.now c.eq.result c.eq.ensures).0 c.if-eq.true in
    row_of-same_bits c.len.result c.args.fractions.now c.args.strip.now c.split_at.result.0.now c.split_at.result.1.now c.args.self.now
    (c.len.ensures ∙ c.self.inside.values.ok.0 ∙ ap (λ row. length row.values) c.self.view_is)
    c.split_at.ensures.front c.split_at.ensures.back c.are_values.result
    (bits ∙ c.as_slice.ensures.value ∙ ap (λ row. row.bits) c.self.view_is)
    (subst (λ values. Decides c.are_values.result (map (value_of c.args.fractions.now) c.split_at.result.0.now ≡ values)) (c.as_slice-then-eq.ensures.value ∙ ap (λ row. row.values) c.self.view_is) c.are_values.ensures)

pub returns-else-eq : goal.returns-else-eq
returns-else-eq c =
    let other = not_from_Decides c.eq.result (slice_eq-Decides unsigned_Decides c.split_at.result.1.now c.as_slice.result.now c.eq.result c.eq.ensures) c.if-eq.false in
    row_of-other_bits c.len.result c.args.fractions.now c.args.strip.now c.split_at.result.0.now c.split_at.result.1.now c.args.self.now
    (c.len.ensures ∙ c.self.inside.values.ok.0 ∙ ap (λ row. length row.values) c.self.view_is)
    c.split_at.ensures.front c.split_at.ensures.back c.eq.result c.if-eq.false
    (λ e. other (e ∙ ap (λ row. row.bits) (sym c.self.view_is) ∙ sym c.as_slice.ensures.value))
