use Rattle.std.proofs.Common.{◌∙◌, ap, not}
use Rattle.std.specs.List.{list_all}
use Rattle.mf_task.specs.LimitClosure.{may_hold}
use Rattle.mf_task.specs.Rows.{sight_of}
use Rattle.mf_limit.specs.Sets.{family_of}
use Rattle.mf_limit.proofs.Closing.{limit-holds}
use Rattle.mf_limit.proofs.dead_end.dead.Goals as goal

pub returns : goal.returns
returns c =
    let task = c.args.task.now in
    let sight = sight_of c.args.row.now in
    let sets = c.in_ok-sets.sets in
    ap not (c.may_all_hold.ensures ∙ ap (list_all (may_hold task sight (family_of sets))) c.as_slice.ensures ∙ limit-holds task sight sets c.in_ok-sets.ensures task.goal)
