use Rattle.mf_input.proofs.FileLemmas.{tokens_refused, tree_refused}
use Rattle.mf_input.proofs.files.read_tree.Goals as goal

pub returns-in-Ok : goal.returns-in-Ok
returns-in-Ok c =
    rw c.tree_fault.ensures (tree_refused c.args.source.now c.in-Ok.found.list c.in-Err-tree.fault c.in-Ok.ensures.tokens_are c.in-Err-tree.ensures.fault c.in-Err-tree.ensures.none)

pub returns : goal.returns
returns c = rw c.lex_fault.ensures (tokens_refused c.args.source.now c.in-Err.fault c.in-Err.ensures.fault c.in-Err.ensures.none)
