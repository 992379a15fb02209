use Rattle.std.proofs.Common.{◌≡◌, ap, ◌∙◌, Ok}
use Rattle.mf_fraction.specs.Checked.{checked}
use Rattle.mf_fraction.specs.Exact.{whole}
use Rattle.mf_store.proofs.Words.{checked-whole, number_read}
use Rattle.mf_store.proofs.word.whole_number.Goals as goal

pub unreachable-requires : goal.unreachable-requires
unreachable-requires c =
    let is : c.whole.result ≡ Ok (whole c.args.n) = c.whole.ensures ∙ ap (λ n. checked (whole n)) (number_read c.args.n c.ranges.n) ∙ checked-whole c.args.n c.requires in
    let other = c.in-Err.is in
    cc

pub returns : goal.returns
returns c =
    let is : c.whole.result ≡ Ok (whole c.args.n) = c.whole.ensures ∙ ap (λ n. checked (whole n)) (number_read c.args.n c.ranges.n) ∙ checked-whole c.args.n c.requires in
    let other = c.in-Ok.is in
    cc
