-- What the answer of `tree` says.
use Rattle.std.specs.Prelude.{ℕ, List, Result, Ok, Err}
use Rattle.mf_model.specs.declared.token.Token.{Token}
use Rattle.mf_model.specs.declared.tree.Tree.{Tree}
use Rattle.mf_model.specs.Trees.{IsTreeOf, UnbalancedAt, TooDeepAt}
use Rattle.mf_lex.specs.declared.fault.TreeFault.{TreeFault}
use Rattle.mf_lex.specs.declared.fault.TreeFault.TheVariants.{Unbalanced, TooDeep, Memory}

-- the first fault in the file
abbrev pub IsTreeFault : List ℕ → List Token → TreeFault → Type 0
IsTreeFault source tokens (Unbalanced at) = UnbalancedAt source tokens at
IsTreeFault source tokens (TooDeep at) = TooDeepAt tokens at
IsTreeFault source tokens Memory = Unit {0}

-- a file with a fault is no list
abbrev pub NoTree : List ℕ → TreeFault → Type 0
NoTree source (Unbalanced at) = (tree : Tree) → ¬ IsTreeOf source tree
NoTree source (TooDeep at) = (tree : Tree) → ¬ IsTreeOf source tree
NoTree source Memory = Unit {0}

abbrev pub IsTreeAnswer : List ℕ → List Token → Result Tree TreeFault → Type 0
IsTreeAnswer source tokens (Ok tree) = IsTreeOf source tree
IsTreeAnswer source tokens (Err fault) = IsTreeFault source tokens fault
