-- The tree of a list of tokens, one token at a time.
use Rattle.std.specs.Prelude.{◌≡◌, ℕ, ◌≤◌, if◌then◌else◌, nat_lt, List, [], ◌∷◌, ◌++◌, length, reverse, Option, Some, None, Result, Ok, Err}
use Rattle.mf_model.specs.declared.token.Token.{Token}
use Rattle.mf_model.specs.declared.token.Kind.{Kind}
use Rattle.mf_model.specs.declared.token.Kind.TheVariants.{Left, Right, Name, Variable, Keyword, Number, Sign, Plain}
use Rattle.mf_model.specs.declared.tree.Tree.{Tree}
use Rattle.mf_model.specs.declared.tree.Tree.TheVariants.{Leaf, Branch}
use Rattle.mf_model.specs.Tokens.{text_of}
use Rattle.mf_lex.specs.declared.growth.Frame.{Frame}
use Rattle.mf_lex.specs.declared.growth.Lists.{Lists}
use Rattle.mf_lex.specs.declared.fault.TreeFault.{TreeFault}
use Rattle.mf_lex.specs.declared.fault.TreeFault.TheVariants.{Unbalanced, TooDeep, Memory}

abbrev pub with_item : Tree → Frame → Frame
with_item item frame = record { start = frame.start; items = frame.items ++ item ∷ [] }

abbrev pub leaf_of : List ℕ → Token → Tree
leaf_of source token = Leaf token.kind (text_of source token.span) token.span

abbrev pub opened : Token → Frame
opened token = record { start = token.span.start; items = [] }

abbrev pub closed : Frame → Token → Tree
closed frame token = Branch frame.items (record { start = frame.start; end = token.span.end })

-- what a token leads to: the innermost open list with those around it, the whole tree, or a fault
pub data Step : Type 0 where
  goes : Frame → List Frame → Step
  ends : Tree → Step
  fails : TreeFault → Step

abbrev pub open_step : Frame → List Frame → Token → Step
open_step top below token =
    if nat_lt (length below) 255 then goes (opened token) (top ∷ below) else fails (TooDeep token.span.start)

abbrev pub close_step : Frame → List Frame → Token → Step
close_step top [] token = ends (closed top token)
close_step top (frame ∷ below) token = goes (with_item (closed top token) frame) below

abbrev pub leaf_step : List ℕ → Frame → List Frame → Token → Step
leaf_step source top below token = goes (with_item (leaf_of source token) top) below

abbrev pub step_by : Kind → List ℕ → Frame → List Frame → Token → Step
step_by Left source top below token = open_step top below token
step_by Right source top below token = close_step top below token
step_by Name source top below token = leaf_step source top below token
step_by Variable source top below token = leaf_step source top below token
step_by Keyword source top below token = leaf_step source top below token
step_by Number source top below token = leaf_step source top below token
step_by Sign source top below token = leaf_step source top below token
step_by Plain source top below token = leaf_step source top below token

unfoldable pub step_of : List ℕ → Frame → List Frame → Token → Step
step_of source top below token = step_by token.kind source top below token

-- a tree with tokens behind it
abbrev pub alone : Tree → List Token → Result Tree TreeFault
alone tree [] = Ok tree
alone tree (t ∷ ts) = Err (Unbalanced t.span.start)

abbrev pub after_step : (Frame → List Frame → Result Tree TreeFault) → List Token → Step → Result Tree TreeFault
after_step go ts (goes top below) = go top below
after_step go ts (ends tree) = alone tree ts
after_step go ts (fails fault) = Err fault

abbrev pub grow : List ℕ → ℕ → List Token → Frame → List Frame → Result Tree TreeFault
grow source end [] top below = Err (Unbalanced end)
grow source end (t ∷ ts) top below =
    after_step (λ frame frames. grow source end ts frame frames) ts (step_of source top below t)

abbrev pub start_by : Kind → List ℕ → ℕ → Token → List Token → Result Tree TreeFault
start_by Left source end t ts = grow source end ts (opened t) []
start_by Right source end t ts = Err (Unbalanced t.span.start)
start_by Name source end t ts = Err (Unbalanced t.span.start)
start_by Variable source end t ts = Err (Unbalanced t.span.start)
start_by Keyword source end t ts = Err (Unbalanced t.span.start)
start_by Number source end t ts = Err (Unbalanced t.span.start)
start_by Sign source end t ts = Err (Unbalanced t.span.start)
start_by Plain source end t ts = Err (Unbalanced t.span.start)

abbrev pub tree_of : List ℕ → ℕ → List Token → Result Tree TreeFault
tree_of source end [] = Err (Unbalanced end)
tree_of source end (t ∷ ts) = start_by t.kind source end t ts

-- ---- what the calls say

-- the answer is what was read, unless memory ran out
abbrev pub Gives : Result Tree TreeFault → Result Tree TreeFault → Type 0
Gives (Ok tree) read = read ≡ Ok tree
Gives (Err (Unbalanced at)) read = read ≡ Err (Unbalanced at)
Gives (Err (TooDeep at)) read = read ≡ Err (TooDeep at)
Gives (Err Memory) read = Unit {0}

-- the same of one step, with the open lists that it leaves
abbrev pub Makes : Result (Option Tree) TreeFault → Lists → Step → Type 0
Makes (Ok None) lists step = step ≡ goes lists.top (reverse lists.below)
Makes (Ok (Some tree)) lists step = step ≡ ends tree
Makes (Err (Unbalanced at)) lists step = step ≡ fails (Unbalanced at)
Makes (Err (TooDeep at)) lists step = step ≡ fails (TooDeep at)
Makes (Err Memory) lists step = Unit {0}

pub record InFile (source : List ℕ) (token : Token) : Type 0 where
  pub order : token.span.start ≤ token.span.end
  pub within : token.span.end ≤ length source
