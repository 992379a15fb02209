-- The words of the tree of a file have the kinds of their texts.
use Rattle.std.proofs.Common.{◌≡◌, ℕ, true, List, [], ◌∷◌, ◌++◌, map, sym, ap, ◌∙◌, subst}
use Rattle.std.specs.List.{All, AllByRecursion}
use Rattle.std.proofs.lemmas.List.Elements.{All-nil, All-cons, All-head, All-tail, All-append}
use Rattle.mf_model.specs.declared.token.Span.{Span}
use Rattle.mf_model.specs.declared.token.Token.{Token}
use Rattle.mf_model.specs.declared.token.Kind.{Kind}
use Rattle.mf_model.specs.declared.token.Kind.TheVariants.{Name}
use Rattle.mf_model.specs.declared.tree.Tree.{Tree, roll-Tree, map-Tree}
use Rattle.mf_model.specs.declared.tree.Tree.TheVariants.{Leaf, Branch}
use Rattle.mf_model.specs.declared.tree.Tree.TheOpen.{Tree-F}
use Rattle.mf_model.specs.declared.tree.Tree.TheViews.{roll-out-Tree}
use Rattle.mf_model.specs.declared.tree.Tree.TheFolds.{ind-Tree}
use Rattle.mf_model.specs.Forms.{IsLeaf, IsList}
use Rattle.mf_model.specs.Tokens.{is_name, kind_of, text_of, AreTokensFrom}
use Rattle.mf_model.specs.Trees.{TreeWord, flat, words, joined, left_of, right_of, IsWordOf, IsTreeOf}
use Rattle.mf_lex.proofs.Folds.{flat_leaf, flat_branch, words_leaf, words_branch}
use Rattle.mf_lex.proofs.Whole.{all_left, all_right, rolled_leaf, rolled_branch}
use Rattle.mf_lex.proofs.WordKinds.{name_text}

abbrev pub HasKind : TreeWord → Type 0
HasKind word = word.kind ≡ kind_of word.text

-- each word of the tree has the kind of its text
abbrev pub IsKinded : Tree → Type 0
IsKinded t = All HasKind (words t)

-- tokens

abbrev IsKindIn : List ℕ → Token → Type 0
IsKindIn source token = token.kind ≡ kind_of (text_of source token.span)

tokens_kinded : (source : List ℕ) (at : ℕ) (ts : List Token) → AreTokensFrom source at ts → All (IsKindIn source) ts
tokens_kinded source at [] h = All-nil (IsKindIn source)
tokens_kinded source at (t ∷ ts) h =
    let here = h.2 in
    All-cons (IsKindIn source) t ts here.kind (tokens_kinded source t.span.end ts h.3)

-- trees

abbrev Follows : List ℕ → Tree → Type 0
Follows source t = All (IsKindIn source) (flat t) → All (IsWordOf source) (words t) → IsKinded t

leaf_follows : (source : List ℕ) (kind : Kind) (text : List ℕ) (span : Span) → Follows source (Leaf kind text span)
leaf_follows source kind text span tokens are =
    let word : TreeWord = record { kind = kind; text = text; span = span } in
    let token : Token = record { kind = kind; span = span } in
    let kind_is : kind ≡ kind_of (text_of source span) = All-head (IsKindIn source) token [] (subst (All (IsKindIn source)) (flat_leaf kind text span) tokens) in
    let of_source : IsWordOf source word = All-head (IsWordOf source) word [] (subst (All (IsWordOf source)) (words_leaf kind text span) are) in
    subst (All HasKind) (sym (words_leaf kind text span)) (All-cons HasKind word [] (kind_is ∙ ap kind_of (sym of_source.text)) (All-nil HasKind))

items_follow : (source : List ℕ) (items : List Tree) → AllByRecursion (Follows source) items → All (IsKindIn source) (joined (map flat items)) → All (IsWordOf source) (joined (map words items)) → All HasKind (joined (map words items))
items_follow source [] each tokens are = All-nil HasKind
items_follow source (t ∷ ts) each tokens are =
    All-append HasKind (words t) (joined (map words ts))
    (each.0 (all_left (IsKindIn source) (flat t) (joined (map flat ts)) tokens) (all_left (IsWordOf source) (words t) (joined (map words ts)) are))
    (items_follow source ts each.1 (all_right (IsKindIn source) (flat t) (joined (map flat ts)) tokens) (all_right (IsWordOf source) (words t) (joined (map words ts)) are))

branch_follows : (source : List ℕ) (items : List Tree) (span : Span) → AllByRecursion (Follows source) items → Follows source (Branch items span)
branch_follows source items span each tokens are =
    let row = joined (map flat items) in
    let inner = all_left (IsKindIn source) row (right_of span ∷ []) (All-tail (IsKindIn source) (left_of span) (row ++ right_of span ∷ []) (subst (All (IsKindIn source)) (flat_branch items span) tokens)) in
    subst (All HasKind) (sym (words_branch items span)) (items_follow source items each inner (subst (All (IsWordOf source)) (words_branch items span) are))

firsts_follow : (source : List ℕ) (ps : List ((t : Tree) × Follows source t)) → AllByRecursion (Follows source) (map (λ p. p.0) ps)
firsts_follow source [] = tt
firsts_follow source (p ∷ ps) = (p.1, firsts_follow source ps)

layer_follows : (source : List ℕ) (y : Tree-F ((t : Tree) × Follows source t)) → Follows source (roll-Tree (map-Tree ((t : Tree) × Follows source t) Tree (λ p. p.0) y))
layer_follows source (Tree-F.Leaf kind text span) = subst (Follows source) (rolled_leaf kind text span) (leaf_follows source kind text span)
layer_follows source (Tree-F.Branch ps span) =
    subst (Follows source) (rolled_branch (map (λ p. p.0) ps) span) (branch_follows source (map (λ p. p.0) ps) span (firsts_follow source ps))

follows : (source : List ℕ) (t : Tree) → Follows source t
follows source = ind-Tree (Follows source) (λ x y is. subst (λ (z : Tree-F Tree). Follows source (roll-Tree z)) is (layer_follows source y))

pub tree_kinded : (source : List ℕ) (t : Tree) → IsTreeOf source t → IsKinded t
tree_kinded source t is = follows source t (tokens_kinded source 0 (flat t) is.tokens) is.words

-- one layer down

pub name_kinded : (text : List ℕ) (span : Span) (t : Tree) → IsLeaf Name text span t → IsKinded t → is_name text ≡ true
name_kinded text span t h kinded =
    let word : TreeWord = record { kind = Name; text = text; span = span } in
    let same : t ≡ Leaf Name text span = sym (roll-out-Tree t) ∙ (ap roll-Tree h ∙ sym (rolled_leaf Name text span)) in
    name_text text (sym (All-head HasKind word [] (subst (All HasKind) (ap words same ∙ words_leaf Name text span) kinded)))

items_kinded : (items : List Tree) → All HasKind (joined (map words items)) → All IsKinded items
items_kinded [] h = All-nil IsKinded
items_kinded (t ∷ ts) h =
    All-cons IsKinded t ts (all_left HasKind (words t) (joined (map words ts)) h) (items_kinded ts (all_right HasKind (words t) (joined (map words ts)) h))

pub list_kinded : (items : List Tree) (span : Span) (t : Tree) → IsList items span t → IsKinded t → All IsKinded items
list_kinded items span t h kinded =
    let same : t ≡ Branch items span = sym (roll-out-Tree t) ∙ (ap roll-Tree h ∙ sym (rolled_branch items span)) in
    items_kinded items (subst (All HasKind) (ap words same ∙ words_branch items span) kinded)
