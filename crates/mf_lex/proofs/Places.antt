-- The spans of a tree of a file are nested and in a row.
use Rattle.std.proofs.Common.{◌≡◌, ℕ, ◌+◌, ◌-◌, ◌<◌, ◌≤◌, List, [], ◌∷◌, ◌++◌, map, sym, ap, ◌∙◌, subst, append_assoc, inl, inr, arith, rules}
use Rattle.std.proofs.lemmas.List.{append-nil}
use Rattle.mf_model.specs.declared.token.Span.{Span}
use Rattle.mf_model.specs.declared.token.Token.{Token}
use Rattle.mf_model.specs.declared.token.Kind.{Kind}
use Rattle.mf_model.specs.declared.tree.Tree.{Tree, the_lemmas, roll-Tree, map-Tree}
use Rattle.mf_model.specs.declared.tree.Tree.TheVariants.{Leaf, Branch}
use Rattle.mf_model.specs.declared.tree.Tree.TheOpen.{Tree-F}
use Rattle.mf_model.specs.declared.tree.Tree.TheFolds.{ind-Tree}
use Rattle.mf_model.specs.Tokens.{IsTokenAt, AreTokensFrom}
use Rattle.mf_model.specs.Trees.{flat, joined, left_of, right_of, IsTreeOf, span_of, InRow, IsPlaced}
use Rattle.mf_model.proofs.PlacedTrees.{placed_roll}
use Rattle.mf_lex.proofs.Folds.{flat_leaf, flat_branch}
use Rattle.mf_lex.proofs.Whole.{rolled_leaf, rolled_branch}

-- ---- what the definition gives for a word and for a list

pub span_leaf : (kind : Kind) (text : List ℕ) (span : Span) → span_of (Leaf kind text span) ≡ span
span_leaf kind text span = search (rules, the_lemmas)

pub span_branch : (items : List Tree) (span : Span) → span_of (Branch items span) ≡ span
span_branch items span = search (rules, the_lemmas)

pub placed_leaf : (kind : Kind) (text : List ℕ) (span : Span) → IsPlaced (Leaf kind text span) ≡ (span.start < span.end)
placed_leaf kind text span = ap IsPlaced (rolled_leaf kind text span) ∙ placed_roll (Tree-F.Leaf kind text span)

pub placed_branch : (items : List Tree) (span : Span) → IsPlaced (Branch items span) ≡ ((span.start < span.end) × InRow Tree span_of IsPlaced (span.start + 1) items (span.end - 1))
placed_branch items span = ap IsPlaced (rolled_branch items span) ∙ placed_roll (Tree-F.Branch items span)

make : (A B : Type 0) → A ≡ B → B → A
make A B e b = subst (λ (T : Type 0). T) (sym e) b

-- ---- each tree among tokens

record Lies (s : List ℕ) (at : ℕ) (tree : Tree) (rest : List Token) : Type 0 where
  placed : IsPlaced tree
  first : at ≤ (span_of tree).start
  some : (span_of tree).start < (span_of tree).end
  behind : AreTokensFrom s (span_of tree).end rest

abbrev Lie : Tree → Type 0
Lie tree =
    (s : List ℕ) (at : ℕ) (rest : List Token) → AreTokensFrom s at (flat tree ++ rest) → Lies s at tree rest

abbrev Each : List Tree → Type 0
Each [] = Unit {0}
Each (x ∷ xs) = Lie x × Each xs

some_bytes : (s : List ℕ) (t : Token) → IsTokenAt s t → t.span.start < t.span.end
some_bytes s t placed =
    elim placed.place [ inl b ↦ (let one = b.one in omega arith) | inr w ↦ w.begins ]

lie_leaf : (kind : Kind) (text : List ℕ) (span : Span) → Lie (Leaf kind text span)
lie_leaf kind text span s at rest h =
    let token : Token = record { kind = kind; span = span } in
    let k : AreTokensFrom s at (token ∷ rest) = subst (λ (ts : List Token). AreTokensFrom s at (ts ++ rest)) (flat_leaf kind text span) h in
    let some = some_bytes s token k.2 in
    let is = span_leaf kind text span in
    record {
      placed = make _ _ (placed_leaf kind text span) some;
      first = subst (λ (x : Span). at ≤ x.start) (sym is) k.0;
      some = subst (λ (x : Span). x.start < x.end) (sym is) some;
      behind = subst (λ (x : Span). AreTokensFrom s x.end rest) (sym is) k.3;
    }

-- items, and the token behind them
record Row (s : List ℕ) (from : ℕ) (items : List Tree) (t : Token) (rest : List Token) : Type 0 where
  row : InRow Tree span_of IsPlaced from items t.span.start
  order : from ≤ t.span.start
  placed : IsTokenAt s t
  behind : AreTokensFrom s t.span.end rest

row_of : (items : List Tree) → Each items → (s : List ℕ) (from : ℕ) (t : Token) (rest : List Token) → AreTokensFrom s from (joined (map flat items) ++ t ∷ rest) → Row s from items t rest
row_of [] each s from t rest h = record { row = h.0; order = h.0; placed = h.2; behind = h.3 }
row_of (x ∷ xs) each s from t rest h =
    let lies = each.0 s from (joined (map flat xs) ++ t ∷ rest) (subst (AreTokensFrom s from) (append_assoc (flat x) (joined (map flat xs)) (t ∷ rest)) h) in
    let more = row_of xs each.1 s (span_of x).end t rest lies.behind in
    record {
      row = (lies.first, lies.placed, more.row);
      order = let a = lies.first in let b = lies.some in let c = more.order in omega arith;
      placed = more.placed;
      behind = more.behind;
    }

lie_branch : (items : List Tree) (span : Span) → Each items → Lie (Branch items span)
lie_branch items span each s at rest h =
    let inner = joined (map flat items) in
    let k : AreTokensFrom s at (left_of span ∷ ((inner ++ right_of span ∷ []) ++ rest)) = subst (λ (ts : List Token). AreTokensFrom s at (ts ++ rest)) (flat_branch items span) h in
    let row = row_of items each s (span.start + 1) (right_of span) rest (subst (AreTokensFrom s (span.start + 1)) (append_assoc inner (right_of span ∷ []) rest) k.3) in
    let is = span_branch items span in
    let some : span.start < span.end = let a = row.order in omega arith in
    record {
      placed = make _ _ (placed_branch items span) (some, row.row);
      first = subst (λ (x : Span). at ≤ x.start) (sym is) k.0;
      some = subst (λ (x : Span). x.start < x.end) (sym is) some;
      behind = subst (λ (x : Span). AreTokensFrom s x.end rest) (sym is) row.behind;
    }

firsts : (ps : List ((t : Tree) × Lie t)) → Each (map (λ p. p.0) ps)
firsts [] = tt
firsts (p ∷ ps) = (p.1, firsts ps)

lie_layer : (y : Tree-F ((t : Tree) × Lie t)) → Lie (roll-Tree (map-Tree ((t : Tree) × Lie t) Tree (λ e. e.0) y))
lie_layer (Tree-F.Leaf kind text span) = subst Lie (rolled_leaf kind text span) (lie_leaf kind text span)
lie_layer (Tree-F.Branch ps span) = subst Lie (rolled_branch (map (λ p. p.0) ps) span) (lie_branch (map (λ p. p.0) ps) span (firsts ps))

lie : (t : Tree) → Lie t
lie = ind-Tree Lie (λ x y is. subst (λ (z : Tree-F Tree). Lie (roll-Tree z)) is (lie_layer y))

pub placed : (s : List ℕ) (t : Tree) → IsTreeOf s t → IsPlaced t
placed s t h = (lie t s 0 [] (subst (AreTokensFrom s 0) (sym (append-nil (flat t))) h.tokens)).placed
