use Rattle.std.proofs.Common.{ap, sym, ◌∙◌}
use Rattle.std.specs.Prelude.{nat_eq}
use Rattle.std.specs.Int.{w64}
use Rattle.std.proofs.lemmas.Nat.Bits.{bit_at_set_same, bit_at_set_other, bit_at_clear_same, bit_at_clear_other}
use Rattle.mf_store.proofs.row.with_bit.Goals as goal

pub returns-then-on-clause-bit : goal.returns-then-on-clause-bit
returns-then-on-clause-bit c = ap (λ n. nat_eq n 1) (bit_at_set_same w64 c.args.word c.args.place c.requires) ∙ sym c.if-on.true

pub returns-then-on-clause-others : goal.returns-then-on-clause-others
returns-then-on-clause-others c other within apart = bit_at_set_other w64 c.args.word c.args.place c.requires other apart

pub returns-else-on-clause-bit : goal.returns-else-on-clause-bit
returns-else-on-clause-bit c = ap (λ n. nat_eq n 1) (bit_at_clear_same w64 c.args.word c.args.place c.requires) ∙ sym c.if-on.false

pub returns-else-on-clause-others : goal.returns-else-on-clause-others
returns-else-on-clause-others c other within apart = bit_at_clear_other w64 c.args.word c.args.place c.requires other within apart
