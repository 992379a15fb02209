-- In a tree whose spans are nested and in a row, the faults of each place stand in order.
use Rattle.std.proofs.Common.{◌≡◌, ℕ, ◌+◌, ◌-◌, ◌<◌, ◌≤◌, List, [], ◌∷◌, map, ap, sym, ◌∙◌, subst, arith}
use Rattle.std.specs.List.{AllByRecursion}
use Rattle.mf_model.specs.declared.token.Kind.{Kind}
use Rattle.mf_model.specs.declared.token.Span.{Span}
use Rattle.mf_model.specs.declared.tree.Tree.{Tree, map-Tree}
use Rattle.mf_model.specs.declared.tree.Tree.TheViews.{out-Tree, roll-out-Tree}
use Rattle.mf_model.specs.declared.tree.Tree.TheOpen.{Tree-F}
use Rattle.mf_model.specs.declared.tree.Tree.TheFolds.{fold_out-Tree}
use Rattle.mf_model.specs.Forms.{IsLeaf, IsList}
use Rattle.mf_model.specs.Trees.{span_step, span_of, InRow, placed_form, IsPlaced}
use Rattle.mf_model.proofs.PlacedTrees.{placed_roll}
use Rattle.mf_reader.specs.declared.places.EffectPlace.TheVariants as effect_place
use Rattle.mf_reader.specs.declared.places.ExprPlace.TheVariants as expr_place
use Rattle.mf_reader.specs.Faces.{Leaf}
use Rattle.mf_reader.specs.Places.{Seen}
use Rattle.mf_reader.specs.Seen.{seen, seen_word, seen_list}
use Rattle.mf_reader.specs.declared.typed.Listed.TheVariants.{Variables}
use Rattle.mf_reader.proofs.Branches.{seen_leaf, seen_branch, by_trees}
use Rattle.mf_reader.proofs.Rows.{Ordered, Row, row_wider}
use Rattle.mf_reader.proofs.WordOrder.{name_within, bad_in, types_in_list, parent_in_list, group_within, atom_in_list, call_in_list}
use Rattle.mf_reader.proofs.FormOrder.{word_expr_in, list_expr_in, list_cond_in, list_effect_in}

-- What the definition of places gives for a word and for a list

pub span_leaf : (kind : Kind) (text : List ℕ) (span : Span) (t : Tree) → IsLeaf kind text span t → span_of t ≡ span
span_leaf kind text span t h = fold_out-Tree Span span_step t ∙ ap (λ (x : Tree-F Tree). span_step (map-Tree Tree Span span_of x)) h

pub span_branch : (items : List Tree) (span : Span) (t : Tree) → IsList items span t → span_of t ≡ span
span_branch items span t h = fold_out-Tree Span span_step t ∙ ap (λ (x : Tree-F Tree). span_step (map-Tree Tree Span span_of x)) h

placed_layer : (t : Tree) (x : Tree-F Tree) → out-Tree t ≡ x → IsPlaced t → placed_form Tree (λ y. y) IsPlaced x
placed_layer t x is h =
    subst (λ (y : Tree-F Tree). placed_form Tree (λ z. z) IsPlaced y) is
    (subst (λ (T : Type 0). T) (ap IsPlaced (sym (roll-out-Tree t)) ∙ placed_roll (out-Tree t)) h)

pub leaf_placed : (kind : Kind) (text : List ℕ) (span : Span) (t : Tree) → IsLeaf kind text span t → IsPlaced t → span.start < span.end
leaf_placed kind text span t leaf h = placed_layer t (Tree-F.Leaf kind text span) leaf h

pub list_placed : (items : List Tree) (span : Span) (t : Tree) → IsList items span t → IsPlaced t → (span.start < span.end) × InRow Tree span_of IsPlaced (span.start + 1) items (span.end - 1)
list_placed items span t list h = placed_layer t (Tree-F.Branch items span) list h

-- Order

abbrev pub SeenInOrder : Tree → Type 0
SeenInOrder t = IsPlaced t → Ordered (seen t) (span_of t).start (span_of t).end

word_ordered : (kind : Kind) (text : List ℕ) (span : Span) → span.start < span.end → Ordered (seen_word kind text span) span.start span.end
word_ordered kind text span some =
    let first : span.start ≤ span.start = omega arith in
    record {
      first = first;
      some = some;
      types = name_within (Leaf kind text span) span.start span.end first some;
      parent = name_within (Leaf kind text span) span.start span.end first some;
      variables = bad_in span some;
      atom = bad_in span some;
      call = bad_in span some;
      expr = word_expr_in expr_place.Action kind text span some;
      metric = word_expr_in expr_place.Metric kind text span some;
      cond = bad_in span some;
      effect = bad_in span some;
      inner = bad_in span some;
    }

list_ordered : (span : Span) (items : List Seen) → span.start < span.end → Row span.start items span.end → Ordered (seen_list span items) span.start span.end
list_ordered span items some row = record {
  first = omega arith;
  some = some;
  types = types_in_list span items some row;
  parent = parent_in_list span items some;
  variables = group_within Variables [] span.start items span.end row;
  atom = atom_in_list span items some row;
  call = call_in_list span items some row;
  expr = list_expr_in expr_place.Action span items some row;
  metric = list_expr_in expr_place.Metric span items some row;
  cond = list_cond_in span items some row;
  effect = list_effect_in effect_place.Action span items some row;
  inner = list_effect_in effect_place.When span items some row;
}

pub row_of : (from : ℕ) (ts : List Tree) (to : ℕ) → AllByRecursion SeenInOrder ts → InRow Tree span_of IsPlaced from ts to → Row from (map seen ts) to
row_of from [] to all row = row
row_of from (t ∷ ts) to all row = ((span_of t).start, (span_of t).end, row.0, all.0 row.1, row_of (span_of t).end ts to all.1 row.2)

ordered_at : (s : Seen) (span : Span) (t : Tree) → seen t ≡ s → span_of t ≡ span → Ordered s span.start span.end → Ordered (seen t) (span_of t).start (span_of t).end
ordered_at s span t is place h =
    subst (λ (z : Seen). Ordered z (span_of t).start (span_of t).end) (sym is) (subst (λ (z : Span). Ordered s z.start z.end) (sym place) h)

pub seen_in_order : (t : Tree) → SeenInOrder t
seen_in_order = by_trees SeenInOrder
    (λ kind text span t leaf placed. ordered_at (seen_word kind text span) span t (seen_leaf kind text span t leaf) (span_leaf kind text span t leaf) (word_ordered kind text span (leaf_placed kind text span t leaf placed)))
    (λ items span t list all placed.
    let h = list_placed items span t list placed in
    let row = row_of (span.start + 1) items (span.end - 1) all h.1 in
    ordered_at (seen_list span (map seen items)) span t (seen_branch items span t list) (span_branch items span t list)
    (list_ordered span (map seen items) h.0 (row_wider (span.start + 1) span.start (map seen items) (span.end - 1) span.end (omega arith) (omega arith) row)))

pub all_in_order : (ts : List Tree) → AllByRecursion SeenInOrder ts
all_in_order [] = tt
all_in_order (t ∷ ts) = (seen_in_order t, all_in_order ts)
