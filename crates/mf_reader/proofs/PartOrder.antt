-- The faults that stand in functions, actions and the init stand in order.
use Rattle.std.proofs.Common.{◌≡◌, ℕ, ◌+◌, ◌<◌, ◌≤◌, Bool, true, false, Option, Some, None, List, [], ◌∷◌, ◌-◌, map, refl, sym, arith}
use Rattle.mf_model.specs.declared.token.Kind.TheVariants.{Left, Right, Name, Variable, Keyword, Number, Sign, Plain}
use Rattle.mf_model.specs.declared.token.Span.{Span}
use Rattle.mf_model.specs.declared.tree.Tree.{Tree}
use Rattle.mf_model.specs.declared.tree.Tree.TheViews.{out-Tree}
use Rattle.mf_model.specs.declared.tree.Tree.TheOpen.{Tree-F}
use Rattle.mf_model.specs.declared.form.Word.{Word}
use Rattle.mf_model.specs.declared.form.Header.{Header}
use Rattle.mf_model.specs.Trees.{span_of, IsPlaced}
use Rattle.mf_reader.specs.declared.actions.Slots.{Slots}
use Rattle.mf_reader.specs.declared.fault.FormFault.TheVariants.{LeftOut, BadForm}
use Rattle.mf_reader.specs.declared.inits.InitHead.{InitHead}
use Rattle.mf_reader.specs.declared.inits.InitHead.TheVariants as init
use Rattle.mf_reader.specs.declared.keys.PartKey.{PartKey}
use Rattle.mf_reader.specs.declared.keys.PartKey.TheVariants as part
use Rattle.mf_reader.specs.Said.{Said, bad, left_out, both}
use Rattle.mf_reader.specs.Faces as face
use Rattle.mf_reader.specs.Faces.{Face, is_dash, name_at}
use Rattle.mf_reader.specs.Heads.{function_of}
use Rattle.mf_reader.specs.Keys.{part_key_of}
use Rattle.mf_reader.specs.Seen.{seen}
use Rattle.mf_reader.specs.Headers.{function_header, empty_header}
use Rattle.mf_reader.specs.Functions.{is_of_other_type, function_item, grouped, functions_from, functions_of}
use Rattle.mf_reader.specs.Actions.{may_stand, with_part, parts_from, action_at}
use Rattle.mf_reader.specs.Inits.{empty_item, number_at, named_call, start_layer, start_term, differ, made_value, init_value, init_atom, init_not, begins_with_number, init_head_of, item_by, item_layer, init_item, init_of}
use Rattle.mf_reader.proofs.Rows.{Within, each_within}
use Rattle.mf_reader.proofs.Choices.{by_test}
use Rattle.mf_reader.proofs.WordOrder.{name_keeps, bad_in, left_in}
use Rattle.mf_reader.proofs.TreeOrder.{seen_in_order, span_branch, span_leaf, leaf_placed, list_placed}
use Rattle.mf_reader.proofs.SectionOrder.{Trees, trees_order, trees_wider, trees_tail, seen_row, Holds, in_row, one_in_row, ListsHold, moved, layered, at_tree, function_holds}

pub bad_at : (t : Tree) → IsPlaced t → Within (span_of t).start (BadForm (face.span_of (seen t).face) ∷ []) (span_of t).end
bad_at t placed = at_tree t BadForm placed (λ span. refl)

left_at : (t : Tree) → IsPlaced t → Within (span_of t).start (LeftOut (face.span_of (seen t).face) ∷ []) (span_of t).end
left_at t placed = at_tree t LeftOut placed (λ span. refl)

-- Functions

item_holds : (begun : Bool) (t : Tree) (ts : List Tree) → IsPlaced t → Within (span_of t).start (function_item begun t ts).faults (span_of t).end
item_holds true t ts placed = function_holds t placed
item_holds false t ts placed =
    by_test (λ (x : Said Header). Within (span_of t).start x.faults (span_of t).end) (is_of_other_type ts) (left_out (face.span_of (seen t).face) (empty_header (face.span_of (seen t).face))) (function_header t)
    (λ is. left_at t placed) (λ is. function_holds t placed)

grouped_within : (begun : Bool) (d k : Tree) (ts : List Tree) (later : Said (List Header)) (from to : ℕ) → Trees from (d ∷ k ∷ ts) to → Within (span_of k).end later.faults to → Within from (grouped begun (face.span_of (seen d).face) k later).faults to
grouped_within false d k ts later from to row rest =
    in_row from d (k ∷ ts) to (BadForm (face.span_of (seen d).face) ∷ []) [] row (bad_at d row.1) (trees_order (span_of d).end (k ∷ ts) to row.2)
grouped_within true d k ts later from to row rest =
    in_row from k ts to (seen k).types.faults later.faults (trees_tail from d (k ∷ ts) to row) (seen_in_order k row.2.1).types rest

functions_within : (begun : Bool) (from : ℕ) (ts : List Tree) (to : ℕ) → Trees from ts to → Within from (functions_from begun ts).faults to
functions_within begun from [] to row = row
functions_within begun from (t ∷ []) to row =
    by_test (λ (x : Said (List Header)). Within from x.faults to) (is_dash (seen t).face) (bad (face.span_of (seen t).face) []) (both (λ header headers. header ∷ headers) (function_item begun t []) (functions_from true []))
    (λ is. one_in_row from t to (BadForm (face.span_of (seen t).face) ∷ []) row (bad_at t row.1))
    (λ is. in_row from t [] to (function_item begun t []).faults [] row (item_holds begun t [] row.1) row.2)
functions_within begun from (t ∷ k ∷ ts) to row =
    by_test (λ (x : Said (List Header)). Within from x.faults to) (is_dash (seen t).face) (grouped begun (face.span_of (seen t).face) k (functions_from false ts)) (both (λ header headers. header ∷ headers) (function_item begun t (k ∷ ts)) (functions_from true (k ∷ ts)))
    (λ is. grouped_within begun t k ts (functions_from false ts) from to row (functions_within false (span_of k).end ts to row.2.2))
    (λ is. in_row from t (k ∷ ts) to (function_item begun t (k ∷ ts)).faults (functions_from true (k ∷ ts)).faults row (item_holds begun t (k ∷ ts) row.1) (functions_within true (span_of t).end (k ∷ ts) to row.2))

pub functions_hold : (from : ℕ) (ts : List Tree) (to : ℕ) → Trees from ts to → Within from (functions_of ts).faults to
functions_hold from ts to row = functions_within false from ts to row

-- Actions

part_holds : (key : PartKey) (slots : Slots) → Holds (λ t. (with_part key slots t).faults)
part_holds part.Parameters slots t placed = (seen_in_order t placed).variables
part_holds part.Precondition slots t placed = (seen_in_order t placed).cond
part_holds part.Effect slots t placed = (seen_in_order t placed).effect
part_holds part.Other slots t placed = let o = seen_in_order t placed in let a = o.first in let b = o.some in omega arith

parts_within : (slots : Slots) (from : ℕ) (ts : List Tree) (to : ℕ) → Trees from ts to → Within from (parts_from slots ts).faults to
parts_within slots from [] to row = row
parts_within slots from (key ∷ []) to row = one_in_row from key to (BadForm (face.span_of (seen key).face) ∷ []) row (bad_at key row.1)
parts_within slots from (key ∷ t ∷ ts) to row =
    by_test (λ (x : Said Slots). Within from x.faults to) (may_stand (part_key_of (seen key).face) slots)
    (both (λ part rest. rest) (with_part (part_key_of (seen key).face) slots t) (parts_from (with_part (part_key_of (seen key).face) slots t).value ts))
    (bad (face.span_of (seen key).face) slots)
    (λ is. in_row from t ts to (with_part (part_key_of (seen key).face) slots t).faults (parts_from (with_part (part_key_of (seen key).face) slots t).value ts).faults (trees_tail from key (t ∷ ts) to row) (part_holds (part_key_of (seen key).face) slots t row.2.1) (parts_within (with_part (part_key_of (seen key).face) slots t).value (span_of t).end ts to row.2.2))
    (λ is. in_row from key (t ∷ ts) to (BadForm (face.span_of (seen key).face) ∷ []) [] row (bad_at key row.1) (trees_order (span_of key).end (t ∷ ts) to row.2))

pub action_within : (span : Span) (ts : List Tree) → span.start < span.end → Trees span.start ts span.end → Within span.start (action_at span ts).faults span.end
action_within span [] some row = bad_in span some
action_within span (name ∷ parts) some row =
    in_row span.start name parts span.end (name_at (seen name).face).faults (parts_from _ parts).faults row (name_keeps (seen name) (span_of name).start (span_of name).end (seen_in_order name row.1)) (parts_within _ (span_of name).end parts span.end row.2)

-- The init

number_face : (f : Face) (from to : ℕ) → from ≤ (face.span_of f).start → (face.span_of f).start < to → Within from (number_at f).faults to
number_face (face.Branch span) from to a b = (a, b, omega arith)
number_face (face.Leaf Number text span) from to a b = omega arith
number_face (face.Leaf Left text span) from to a b = (a, b, omega arith)
number_face (face.Leaf Right text span) from to a b = (a, b, omega arith)
number_face (face.Leaf Name text span) from to a b = (a, b, omega arith)
number_face (face.Leaf Variable text span) from to a b = (a, b, omega arith)
number_face (face.Leaf Keyword text span) from to a b = (a, b, omega arith)
number_face (face.Leaf Sign text span) from to a b = (a, b, omega arith)
number_face (face.Leaf Plain text span) from to a b = (a, b, omega arith)

number_holds : Holds (λ t. (number_at (seen t).face).faults)
number_holds t placed = let o = seen_in_order t placed in number_face (seen t).face (span_of t).start (span_of t).end o.first o.some

named_within : (o : Option Word) (span : Span) (parts : List Tree) → span.start < span.end → Trees span.start parts span.end → Within span.start (named_call o span parts).faults span.end
named_within None span parts some row = bad_in span some
named_within (Some w) span parts some row = each_within (λ s. name_at s.face) name_keeps span.start (map seen parts) span.end (seen_row span.start parts span.end row)

start_lists : ListsHold (λ x. (start_layer x).faults)
start_lists [] span some row = bad_in span some
start_lists (head ∷ parts) span some row = named_within (function_of (seen head).face) span parts some (trees_tail span.start head parts span.end row)

start_holds : Holds (λ t. (start_term t).faults)
start_holds = layered (λ x. (start_layer x).faults) (λ kind text span some. bad_in span some) start_lists

value_within : (span : Span) (parts : List Tree) → span.start < span.end → Trees span.start parts span.end → Within span.start (init_value span parts).faults span.end
value_within span [] some row = bad_in span some
value_within span (a ∷ []) some row = bad_in span some
value_within span (a ∷ b ∷ []) some row =
    by_test (λ x. Within span.start x.faults span.end) (differ (seen a).face (seen b).face) (bad span (empty_item span)) (both made_value (start_term a) (number_at (seen b).face))
    (λ is. bad_in span some)
    (λ is. in_row span.start a (b ∷ []) span.end (start_term a).faults (number_at (seen b).face).faults row (start_holds a row.1) (one_in_row (span_of a).end b span.end (number_at (seen b).face).faults row.2 (number_holds b row.2.1)))
value_within span (a ∷ b ∷ d ∷ rest) some row = bad_in span some

denied_within : (span : Span) (parts : List Tree) → span.start < span.end → Trees span.start parts span.end → Within span.start (init_not span parts).faults span.end
denied_within span [] some row = bad_in span some
denied_within span (a ∷ []) some row = one_in_row span.start a span.end (seen a).atom.faults row (seen_in_order a row.1).atom
denied_within span (a ∷ b ∷ rest) some row = bad_in span some

item_by_within : (h : InitHead) (span : Span) (parts : List Tree) (t : Tree) → span.start < span.end → Trees span.start parts span.end → Within span.start (seen t).atom.faults span.end → Within span.start (item_by h span parts t).faults span.end
item_by_within init.At span parts t some row atom =
    by_test (λ x. Within span.start x.faults span.end) (begins_with_number parts) (left_out span (empty_item span)) (init_atom t) (λ is. left_in span some) (λ is. atom)
item_by_within init.Equal span parts t some row atom = value_within span parts some row
item_by_within init.Not span parts t some row atom = denied_within span parts some row
item_by_within init.Other span parts t some row atom = atom

item_case : (t : Tree) → IsPlaced t → (x : Tree-F Tree) → out-Tree t ≡ x → Within (span_of t).start (item_layer x t).faults (span_of t).end
item_case t placed (Tree-F.Leaf kind text span) is = moved (BadForm span ∷ []) span (span_of t) (span_leaf kind text span t is) (bad_in span (leaf_placed kind text span t is placed))
item_case t placed (Tree-F.Branch [] span) is = moved (BadForm span ∷ []) span (span_of t) (span_branch [] span t is) (bad_in span (list_placed [] span t is placed).0)
item_case t placed (Tree-F.Branch (head ∷ parts) span) is =
    let h = list_placed (head ∷ parts) span t is placed in
    let row = trees_tail span.start head parts span.end (trees_wider (span.start + 1) span.start (head ∷ parts) (span.end - 1) span.end (omega arith) (omega arith) h.1) in
    moved (item_by (init_head_of (seen head).face) span parts t).faults span (span_of t) (span_branch (head ∷ parts) span t is)
    (item_by_within (init_head_of (seen head).face) span parts t h.0 row (moved (seen t).atom.faults (span_of t) span (sym (span_branch (head ∷ parts) span t is)) (seen_in_order t placed).atom))

init_holds : Holds (λ t. (init_item t).faults)
init_holds t placed = item_case t placed (out-Tree t) refl

pub init_within : (from : ℕ) (ts : List Tree) (to : ℕ) → Trees from ts to → Within from (init_of ts).faults to
init_within from [] to row = row
init_within from (t ∷ ts) to row = in_row from t ts to (init_item t).faults (init_of ts).faults row (init_holds t row.1) (init_within (span_of t).end ts to row.2)
