use Rattle.std.proofs.Common.{ap, ◌∙◌, fold}
use Rattle.std.specs.Hash.FoldHasher as folding
use Rattle.mf_store.specs.SameRows.{row_writes}
use Rattle.mf_store.specs.Numbers.{hash_of}
use Rattle.mf_store.proofs.store.hash_of_row.Goals as goal

pub returns : goal.returns
unfolding hash_of
returns c =
    c.finish.ensures ∙ ap folding.finish c.hash.ensures ∙ ap (λ h. folding.finish (fold folding.write h (row_writes c.args.row.now))) c.default-hasher.ensures
