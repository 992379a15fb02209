use Rattle.mf_plain.proofs.Values.{goal_is_conjunction}
use Rattle.mf_plain.proofs.start.goal_atoms.Goals as goal

pub list_needs-requires : goal.list_needs-requires
list_needs-requires c = goal_is_conjunction c.args.task.now c.requires
