-- A tree is a word or a list: what is said of each, and induction.
use Rattle.std.proofs.Common.{◌≡◌, ℕ, List, [], ◌∷◌, map, refl, ap, sym, ◌∙◌, subst}
use Rattle.std.specs.List.{AllByRecursion}
use Rattle.mf_model.specs.declared.token.Kind.{Kind}
use Rattle.mf_model.specs.declared.token.Span.{Span}
use Rattle.mf_model.specs.declared.tree.Tree.{Tree, map-Tree}
use Rattle.mf_model.specs.declared.tree.Tree.TheViews.{out-Tree, out-roll-Tree, roll-Tree}
use Rattle.mf_model.specs.declared.tree.Tree.TheOpen.{Tree-F}
use Rattle.mf_model.specs.declared.tree.Tree.TheFolds.{ind-Tree, fold_out-Tree}
use Rattle.mf_model.specs.Forms.{IsLeaf, IsList}
use Rattle.mf_reader.specs.GrammarTerms.{IsListed}
use Rattle.mf_reader.specs.Places.{Seen}
use Rattle.mf_reader.specs.Seen.{seen_step, seen_word, seen_list, seen}

pub seen_out : (t : Tree) → seen t ≡ seen_step (map-Tree Tree Seen seen (out-Tree t))
seen_out t = fold_out-Tree Seen seen_step t

pub seen_leaf : (kind : Kind) (text : List ℕ) (span : Span) (t : Tree) → IsLeaf kind text span t → seen t ≡ seen_word kind text span
seen_leaf kind text span t h = seen_out t ∙ ap (λ (x : Tree-F Tree). seen_step (map-Tree Tree Seen seen x)) h

pub seen_branch : (items : List Tree) (span : Span) (t : Tree) → IsList items span t → seen t ≡ seen_list span (map seen items)
seen_branch items span t h = seen_out t ∙ ap (λ (x : Tree-F Tree). seen_step (map-Tree Tree Seen seen x)) h

firsts : (P : Tree → Type 0) (ps : List ((t : Tree) × P t)) → AllByRecursion P (map (λ p. p.0) ps)
firsts P [] = tt
firsts P (p ∷ ps) = (p.1, firsts P ps)

abbrev ForLeaves : (Tree → Type 0) → Type 0
ForLeaves P = (kind : Kind) (text : List ℕ) (span : Span) (t : Tree) → IsLeaf kind text span t → P t

abbrev ForLists : (Tree → Type 0) → Type 0
ForLists P = (items : List Tree) (span : Span) (t : Tree) → IsList items span t → AllByRecursion P items → P t

layer : (P : Tree → Type 0) → ForLeaves P → ForLists P → (y : Tree-F ((t : Tree) × P t)) → P (roll-Tree (map-Tree ((t : Tree) × P t) Tree (λ e. e.0) y))
layer P leaves lists (Tree-F.Leaf kind text span) = leaves kind text span (roll-Tree (Tree-F.Leaf kind text span)) (out-roll-Tree (Tree-F.Leaf kind text span))
layer P leaves lists (Tree-F.Branch ps span) = lists (map (λ p. p.0) ps) span (roll-Tree (Tree-F.Branch (map (λ p. p.0) ps) span)) (out-roll-Tree (Tree-F.Branch (map (λ p. p.0) ps) span)) (firsts P ps)

pub by_trees : (P : Tree → Type 0) → ForLeaves P → ForLists P → (t : Tree) → P t
by_trees P leaves lists = ind-Tree P (λ x y is. subst (λ (z : Tree-F Tree). P (roll-Tree z)) is (layer P leaves lists y))

by_layer : (P : Tree → Type 0) (t : Tree) (x : Tree-F Tree) → out-Tree t ≡ x → ForLeaves P → ((items : List Tree) (span : Span) (t : Tree) → IsList items span t → P t) → P t
by_layer P t (Tree-F.Leaf kind text span) is leaves lists = leaves kind text span t is
by_layer P t (Tree-F.Branch items span) is leaves lists = lists items span t is

-- without induction
pub by_cases : (P : Tree → Type 0) → ForLeaves P → ((items : List Tree) (span : Span) (t : Tree) → IsList items span t → P t) → (t : Tree) → P t
by_cases P leaves lists t = by_layer P t (out-Tree t) refl leaves lists

-- the items of a list have what is claimed
abbrev pub Below : (Tree → Type 0) → Tree → Type 0
Below P t = (items : List Tree) (span : Span) → IsList items span t → AllByRecursion P items

pub leaf_list : {B : Type 0} (kind : Kind) (text : List ℕ) (span : Span) (items : List Tree) (other : Span) (t : Tree) → IsLeaf kind text span t → IsList items other t → B
leaf_list kind text span items other t a b = let e = sym a ∙ b in let h : ⊥ = cc in absurd h

pub one_list : (items others : List Tree) (span other : Span) (t : Tree) → IsList items span t → IsList others other t → items ≡ others
one_list items others span other t a b = let e = sym a ∙ b in cc

pub by_parts : (P : Tree → Type 0) → ((t : Tree) → Below P t → P t) → (t : Tree) → P t
by_parts P step = by_trees P
    (λ kind text span t leaf. step t (λ items other list. leaf_list kind text span items other t leaf list))
    (λ items span t list all. step t (λ others other same. subst (AllByRecursion P) (one_list items others span other t list same) all))

-- the items behind the head have what all items have
pub parts_below : (P : Tree → Type 0) (text : List ℕ) (parts : List Tree) (span : Span) (t : Tree) → Below P t → IsListed text parts span t → AllByRecursion P parts
parts_below P text parts span t below is = (below (is.0 ∷ parts) span is.1).1
