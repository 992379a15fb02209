use Rattle.std.proofs.Common.{◌∙◌, ap}
use Rattle.mf_model.specs.States.{with_atom}
use Rattle.mf_eval.proofs.Sorting.{fold_next, with_atom_insert}
use Rattle.mf_eval.proofs.start.atom_set.Goals as goal

pub loop-atom-preserved : goal.loop-atom-preserved
loop-atom-preserved c =
    let before = c.loop-atom.atoms.keys in
    let added = c.in_ok-insert.ensures.keys ∙ with_atom_insert before c.in_ok-copy.field-0 ∙ ap (with_atom before) c.in_ok-copy.ensures in
    fold_next with_atom before _ c.args.listed.now c.loop-atom.atom-index c.atom-item.result c.loop-atom-test.true c.atom-item.is added
    ∙ c.loop-atom.invariant
