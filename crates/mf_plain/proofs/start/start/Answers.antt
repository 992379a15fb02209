use Rattle.std.proofs.Common.{◌∙◌, refl}
use Rattle.mf_plain.proofs.Starting.{start_is, started}
use Rattle.mf_plain.proofs.Values.{goal_value}
use Rattle.mf_plain.proofs.start.start.Goals as goal

pub returns : goal.returns
returns c budget =
    started c.args.task.now budget c.unmet-value.result (record { atoms = c.in_ok-atoms.atoms; values = c.new-6.result }) c.new.result c.new-2.result c.new-3.result c.new-4.result c.new-5.result.items c.open.new.progress
    c.new.ensures c.new-2.ensures c.new-3.ensures c.new-4.ensures c.new-5.ensures.items
    (start_is c.args.task.now (record { atoms = c.in_ok-atoms.atoms; values = c.new-6.result }) c.as_slice.result.now c.in_ok-atoms.atoms c.new-6.result c.requires.searchable c.as_slice.ensures c.in_ok-atoms.ensures c.new-6.ensures refl)
    (c.unmet-value.ensures ∙ goal_value c.args.task.now (record { atoms = c.in_ok-atoms.atoms; values = c.new-6.result }) c.args.goal.now c.as_slice-2.result.now c.requires.searchable c.requires.goal c.as_slice-2.ensures)
    c.in_ok-open.ensures.history c.in_ok-open.ensures.taken
