-- The faults that stand in declarations, actions and the init stand in order.
use Rattle.std.proofs.Common.{◌≡◌, ℕ, ◌+◌, ◌-◌, ◌<◌, ◌≤◌, Option, Some, None, List, [], ◌∷◌, ◌++◌, map, refl, sym, subst, arith}
use Rattle.mf_model.specs.declared.token.Kind.{Kind}
use Rattle.mf_model.specs.declared.token.Kind.TheVariants.{Left, Right, Name, Variable, Keyword, Number, Sign, Plain}
use Rattle.mf_model.specs.declared.token.Span.{Span}
use Rattle.mf_model.specs.declared.tree.Tree.{Tree}
use Rattle.mf_model.specs.declared.tree.Tree.TheViews.{out-Tree}
use Rattle.mf_model.specs.declared.tree.Tree.TheOpen.{Tree-F}
use Rattle.mf_model.specs.declared.form.Word.{Word}
use Rattle.mf_model.specs.Trees.{span_of, InRow, IsPlaced}
use Rattle.mf_reader.specs.declared.fault.FormFault.{FormFault}
use Rattle.mf_reader.specs.declared.fault.FormFault.TheVariants.{UnknownRequirement}
use Rattle.mf_reader.specs.declared.typed.Listed.TheVariants.{Variables}
use Rattle.mf_reader.specs.Order.{start_of}
use Rattle.mf_reader.specs.Said.{Said, said, faulty, each}
use Rattle.mf_reader.specs.Faces as face
use Rattle.mf_reader.specs.Heads.{function_of, predicate_of}
use Rattle.mf_reader.specs.Seen.{seen}
use Rattle.mf_reader.specs.Headers.{header_by, predicate_layer, predicate_header, function_layer, function_header}
use Rattle.mf_reader.specs.Requirements.{is_known, requirement_leaf, requirement_layer, requirement_of, requirements_of}
use Rattle.mf_reader.proofs.Rows.{Within, wider, joined, single, Row}
use Rattle.mf_reader.proofs.Choices.{by_test}
use Rattle.mf_reader.proofs.WordOrder.{none_in, bad_in, group_within}
use Rattle.mf_reader.proofs.TreeOrder.{span_leaf, span_branch, leaf_placed, list_placed, seen_in_order, all_in_order, row_of}

-- Trees in a row

abbrev pub Trees : ℕ → List Tree → ℕ → Type 0
Trees from ts to = InRow Tree span_of IsPlaced from ts to

pub trees_order : (from : ℕ) (ts : List Tree) (to : ℕ) → Trees from ts to → from ≤ to
trees_order from [] to h = h
trees_order from (t ∷ ts) to h =
    let o = seen_in_order t h.1 in
    let a = h.0 in let b = o.first in let d = o.some in let rest = trees_order (span_of t).end ts to h.2 in omega arith

pub trees_wider : (from less : ℕ) (ts : List Tree) (to more : ℕ) → less ≤ from → to ≤ more → Trees from ts to → Trees less ts more
trees_wider from less [] to more below above h = omega arith
trees_wider from less (t ∷ ts) to more below above h =
    let a = h.0 in (omega arith, h.1, trees_wider (span_of t).end (span_of t).end ts to more (omega arith) above h.2)

pub trees_tail : (from : ℕ) (t : Tree) (ts : List Tree) (to : ℕ) → Trees from (t ∷ ts) to → Trees from ts to
trees_tail from t ts to h =
    let o = seen_in_order t h.1 in
    let a = h.0 in let b = o.first in let d = o.some in
    trees_wider (span_of t).end from ts to to (omega arith) (omega arith) h.2

pub seen_row : (from : ℕ) (ts : List Tree) (to : ℕ) → Trees from ts to → Row from (map seen ts) to
seen_row from ts to h = row_of from ts to (all_in_order ts) h

-- what is said of a tree stands within it
abbrev pub Holds : (Tree → List FormFault) → Type 0
Holds f = (t : Tree) → IsPlaced t → Within (span_of t).start (f t) (span_of t).end

pub in_row : (from : ℕ) (t : Tree) (ts : List Tree) (to : ℕ) (fs gs : List FormFault) → Trees from (t ∷ ts) to → Within (span_of t).start fs (span_of t).end → Within (span_of t).end gs to → Within from (fs ++ gs) to
in_row from t ts to fs gs row h rest =
    let a = row.0 in
    joined from fs (span_of t).end gs to (wider (span_of t).start from fs (span_of t).end (span_of t).end (omega arith) (omega arith) h) rest

pub one_in_row : (from : ℕ) (t : Tree) (to : ℕ) (fs : List FormFault) → Trees from (t ∷ []) to → Within (span_of t).start fs (span_of t).end → Within from fs to
one_in_row from t to fs row h =
    let a = row.0 in let b = row.2 in wider (span_of t).start from fs (span_of t).end to (omega arith) (omega arith) h

pub each_in_row : {A : Type 0} (f : Tree → Said A) → Holds (λ t. (f t).faults) → (from : ℕ) (ts : List Tree) (to : ℕ) → Trees from ts to → Within from (each f ts).faults to
each_in_row f holds from [] to row = row
each_in_row f holds from (t ∷ ts) to row = in_row from t ts to (f t).faults (each f ts).faults row (holds t row.1) (each_in_row f holds (span_of t).end ts to row.2)

abbrev pub LeavesHold : (Tree-F Tree → List FormFault) → Type 0
LeavesHold layer = (kind : Kind) (text : List ℕ) (span : Span) → span.start < span.end → Within span.start (layer (Tree-F.Leaf kind text span)) span.end

abbrev pub ListsHold : (Tree-F Tree → List FormFault) → Type 0
ListsHold layer = (items : List Tree) (span : Span) → span.start < span.end → Trees span.start items span.end → Within span.start (layer (Tree-F.Branch items span)) span.end

pub moved : (fs : List FormFault) (span place : Span) → place ≡ span → Within span.start fs span.end → Within place.start fs place.end
moved fs span place is h = subst (λ (z : Span). Within z.start fs z.end) (sym is) h

layered_by : (layer : Tree-F Tree → List FormFault) → LeavesHold layer → ListsHold layer → (t : Tree) → IsPlaced t → (x : Tree-F Tree) → out-Tree t ≡ x → Within (span_of t).start (layer x) (span_of t).end
layered_by layer leaves lists t placed (Tree-F.Leaf kind text span) is =
    moved (layer (Tree-F.Leaf kind text span)) span (span_of t) (span_leaf kind text span t is) (leaves kind text span (leaf_placed kind text span t is placed))
layered_by layer leaves lists t placed (Tree-F.Branch items span) is =
    let h = list_placed items span t is placed in
    moved (layer (Tree-F.Branch items span)) span (span_of t) (span_branch items span t is)
    (lists items span h.0 (trees_wider (span.start + 1) span.start items (span.end - 1) span.end (omega arith) (omega arith) h.1))

pub layered : (layer : Tree-F Tree → List FormFault) → LeavesHold layer → ListsHold layer → Holds (λ t. layer (out-Tree t))
layered layer leaves lists t placed = layered_by layer leaves lists t placed (out-Tree t) refl

-- a fault at the tree itself
pub at_tree : (t : Tree) (f : Span → FormFault) → IsPlaced t → ((span : Span) → start_of (f span) ≡ span.start) → Within (span_of t).start (f (face.span_of (seen t).face) ∷ []) (span_of t).end
at_tree t f placed place =
    let o = seen_in_order t placed in
    let s = face.span_of (seen t).face in
    let is = place s in let a = o.first in let b = o.some in
    single (span_of t).start (f s) (span_of t).end (omega (arith, is)) (omega (arith, is))

-- Headers

header_within : (o : Option Word) (span : Span) (parts : List Tree) → span.start < span.end → Trees span.start parts span.end → Within span.start (header_by o span parts).faults span.end
header_within None span parts some row = bad_in span some
header_within (Some w) span parts some row = group_within Variables [] span.start (map seen parts) span.end (seen_row span.start parts span.end row)

predicate_lists : ListsHold (λ x. (predicate_layer x).faults)
predicate_lists [] span some row = bad_in span some
predicate_lists (head ∷ parts) span some row = header_within (predicate_of (seen head).face) span parts some (trees_tail span.start head parts span.end row)

pub predicate_holds : Holds (λ t. (predicate_header t).faults)
predicate_holds = layered (λ x. (predicate_layer x).faults) (λ kind text span some. bad_in span some) predicate_lists

function_lists : ListsHold (λ x. (function_layer x).faults)
function_lists [] span some row = bad_in span some
function_lists (head ∷ parts) span some row = header_within (function_of (seen head).face) span parts some (trees_tail span.start head parts span.end row)

pub function_holds : Holds (λ t. (function_header t).faults)
function_holds = layered (λ x. (function_layer x).faults) (λ kind text span some. bad_in span some) function_lists

-- Requirements

known_within : (text : List ℕ) (span : Span) → span.start < span.end → Within span.start (requirement_leaf Keyword text span).faults span.end
known_within text span some =
    by_test (λ (x : Said (Unit {0})). Within span.start x.faults span.end) (is_known text) (said tt) (faulty (UnknownRequirement span) tt)
    (λ is. none_in span some) (λ is. single span.start (UnknownRequirement span) span.end (omega arith) some)

requirement_leaves : LeavesHold (λ x. (requirement_layer x).faults)
requirement_leaves Keyword text span some = known_within text span some
requirement_leaves Left text span some = bad_in span some
requirement_leaves Right text span some = bad_in span some
requirement_leaves Name text span some = bad_in span some
requirement_leaves Variable text span some = bad_in span some
requirement_leaves Number text span some = bad_in span some
requirement_leaves Sign text span some = bad_in span some
requirement_leaves Plain text span some = bad_in span some

requirement_holds : Holds (λ t. (requirement_of t).faults)
requirement_holds = layered (λ x. (requirement_layer x).faults) requirement_leaves (λ items span some row. bad_in span some)

pub requirements_within : (from : ℕ) (ts : List Tree) (to : ℕ) → Trees from ts to → Within from (requirements_of ts).faults to
requirements_within from [] to row = row
requirements_within from (t ∷ ts) to row = in_row from t ts to (requirement_of t).faults (requirements_of ts).faults row (requirement_holds t row.1) (requirements_within (span_of t).end ts to row.2)
