use Rattle.std.proofs.Common.{◌∙◌}
use Rattle.mf_plain.proofs.Values.{goal_value}
use Rattle.mf_plain.proofs.OpeningChildren.{child_is_known, child_is_new}
use Rattle.mf_plain.proofs.progress.open_successor.Goals as goal

pub returns-then-is_known-clause-opened : goal.returns-then-is_known-clause-opened
returns-then-is_known-clause-opened c os taken below t =
    child_is_known c.args.task.now os taken c.args.parent c.args.successor c.as_slice.result.now c.args.progress.now c.as_slice.ensures c.if-is_known.ensures t

pub returns-clause-opened : goal.returns-clause-opened
returns-clause-opened c os taken below t =
    child_is_new c.args.task.now os taken c.args.parent c.args.successor c.unmet-value.result c.as_slice.result.now c.args.progress.now c.open.new.progress c.as_slice.ensures c.if-is_known.ensures
    (c.unmet-value.ensures ∙ goal_value c.args.task.now c.args.successor.state c.args.goal.now c.as_slice-2.result.now c.requires.searchable c.requires.goal c.as_slice-2.ensures)
    c.in_ok-open.ensures.history c.in_ok-open.ensures.taken below t
