use Rattle.mf_plain.proofs.OpeningChildren.{state_expanded}
use Rattle.mf_plain.proofs.searching.expand.Goals as goal

pub returns-clause-opened : goal.returns-clause-opened
returns-clause-opened c os taken below t =
    state_expanded c.args.task.now os taken c.args.state c.args.instances.now c.as_slice.result.now c.index-as_slice-state.result c.in_ok-children.children c.args.progress.now c.open_successors.new.progress
    c.requires.listed c.as_slice.ensures c.requires.within c.index-as_slice-state.is c.in_ok-children.ensures t
    (c.in_ok-open_successors.ensures.opened os taken below t)
