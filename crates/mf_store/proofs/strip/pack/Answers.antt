use Rattle.std.proofs.Common.{ap, ◌∙◌, ◌++◌}
use Rattle.mf_store.proofs.Strips.{row_of-packed}
use Rattle.mf_store.proofs.strip.pack.Goals as goal

pub returns-clause-row : goal.returns-clause-row
returns-clause-row c =
    row_of-packed c.pack_values.new.fractions.items c.pack_values.new.words.items c.extend_from_slice.new.self.items c.args.row.now
    (c.pack_values.ensures.values ∙ c.values.ensures)
    (c.in-Ok.ensures.items ∙ ap (λ bits. c.pack_values.new.words.items ++ bits) c.bits.ensures)
