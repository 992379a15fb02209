use Rattle.std.proofs.Common.{ℕ, List, sym, subst}
use Rattle.std.specs.List.{All}
use Rattle.mf_model.specs.declared.token.Token.{Token}
use Rattle.mf_lex.specs.Growth.{InFile, Gives, tree_of}
use Rattle.mf_lex.proofs.Unique.{in_file}
use Rattle.mf_lex.proofs.Whole.{Read, tree_is, fault_is, none_is}
use Rattle.mf_lex.proofs.lists.tree.Goals as goal
use Rattle.mf_lex.proofs.lists.tree.Goals.{After-grown_tree}

pub grown_tree-requires : goal.grown_tree-requires
grown_tree-requires c =
    subst (λ (ts : List Token). All (InFile c.args.source.now) ts) (sym c.as_slice.ensures) (in_file c.args.source.now 0 c.args.tokens.now.list c.requires.tokens_are)

-- the answer, by the tokens and the length that were passed
read : (c : After-grown_tree) → Read c.args.source.now c.args.tokens.now.list c.grown_tree.result
read c =
    subst (λ (n : ℕ). Gives c.grown_tree.result (tree_of c.args.source.now n c.args.tokens.now.list)) c.requires.length
    (subst (λ (ts : List Token). Gives c.grown_tree.result (tree_of c.args.source.now c.args.tokens.now.length ts)) c.as_slice.ensures c.grown_tree.ensures)

pub returns-clause-tree_is : goal.returns-clause-tree_is
returns-clause-tree_is c = tree_is c.args.source.now c.args.tokens.now.list c.requires.tokens_are c.grown_tree.result (read (goal.at.returns-clause-tree_is c).After-grown_tree)

pub returns-clause-fault : goal.returns-clause-fault
returns-clause-fault c = fault_is c.args.source.now c.args.tokens.now.list c.requires.tokens_are c.grown_tree.result (read (goal.at.returns-clause-fault c).After-grown_tree)

pub returns-clause-none : goal.returns-clause-none
returns-clause-none c = none_is c.args.source.now c.args.tokens.now.list c.requires.tokens_are c.grown_tree.result (read (goal.at.returns-clause-none c).After-grown_tree)
