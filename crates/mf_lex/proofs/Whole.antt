-- The tokens of a tree grow into that tree, so a file has one tree at most.
use Rattle.std.proofs.Common.{◌≡◌, ℕ, ◌+◌, ◌<◌, ◌≤◌, Bool, true, List, [], ◌∷◌, ◌++◌, length, map, Ok, Err, sym, refl, ap, ◌∙◌, subst, append_assoc, arith, rules}
use Rattle.std.specs.Prelude.{◌≢◌, nat_lt, if◌then◌else◌, Result, IfOk, IfErr}
use Rattle.std.specs.List.{All}
use Rattle.std.proofs.lemmas.Bool.Decides.{nat_tests}
use Rattle.std.proofs.lemmas.List.{append-nil, get_or_append_left, get_or-append-add, length-append}
use Rattle.std.proofs.lemmas.List.Elements.{All-head}
use Rattle.mf_model.specs.declared.token.Span.{Span}
use Rattle.mf_model.specs.declared.token.Token.{Token}
use Rattle.mf_model.specs.declared.token.Kind.{Kind}
use Rattle.mf_model.specs.declared.token.Kind.TheVariants.{Left, Right, Name, Variable, Keyword, Number, Sign, Plain}
use Rattle.mf_model.specs.declared.tree.Tree.{Tree, the_lemmas, roll-Tree, map-Tree}
use Rattle.mf_model.specs.declared.tree.Tree.TheVariants.{Leaf, Branch}
use Rattle.mf_model.specs.declared.tree.Tree.TheOpen.{Tree-F}
use Rattle.mf_model.specs.declared.tree.Tree.TheFolds.{ind-Tree}
use Rattle.mf_model.specs.Tokens.{IsTokens}
use Rattle.mf_model.specs.Trees.{TreeWord, flat, depth, greatest, words, joined, left_of, right_of, IsWordOf, IsTreeOf}
use Rattle.mf_lex.specs.declared.growth.Frame.{Frame}
use Rattle.mf_lex.specs.declared.fault.TreeFault.{TreeFault}
use Rattle.mf_lex.specs.declared.fault.TreeFault.TheVariants.{Unbalanced, TooDeep, Memory}
use Rattle.mf_lex.specs.Growth.{goes, fails, with_item, opened, open_step, leaf_step, step_by, step_of, after_step, grow, tree_of, Gives}
use Rattle.mf_lex.specs.Answers.{IsTreeAnswer, IsTreeFault, NoTree}
use Rattle.mf_lex.proofs.Folds.{flat_leaf, flat_branch, depth_leaf, depth_branch, words_leaf, words_branch}
use Rattle.mf_lex.proofs.Growing.{answer}
use Rattle.mf_lex.proofs.Unique.{unique}

-- ---- both parts of a list

pub all_left : {X : Type 0} (P : X → Type 0) (xs ys : List X) → All P (xs ++ ys) → All P xs
all_left P xs ys h =
    λ k d lt. subst P (get_or_append_left xs ys d k lt) (h k d (let e = length-append xs ys in omega arith))

pub all_right : {X : Type 0} (P : X → Type 0) (xs ys : List X) → All P (xs ++ ys) → All P ys
all_right P xs ys h =
    λ k d lt. subst P (get_or-append-add xs ys k d) (h (length xs + k) d (let e = length-append xs ys in omega arith))

-- ---- the tokens of one tree

-- in any open list, where it is not too deep, they add the tree
abbrev Grows : Tree → Type 0
Grows tree =
    (s : List ℕ) (end : ℕ) (rest : List Token) (top : Frame) (below : List Frame) → All (IsWordOf s) (words tree) → depth tree + (length below + 1) ≤ 256 → grow s end (flat tree ++ rest) top below ≡ grow s end rest (with_item tree top) below

abbrev Each : List Tree → Type 0
Each [] = Unit {0}
Each (x ∷ xs) = Grows x × Each xs

step_word : (k : Kind) (s : List ℕ) (top : Frame) (below : List Frame) (t : Token) → k ≢ Left → k ≢ Right → step_by k s top below t ≡ leaf_step s top below t
step_word Left s top below t not_left not_right = absurd (not_left refl)
step_word Right s top below t not_left not_right = absurd (not_right refl)
step_word Name s top below t not_left not_right = refl
step_word Variable s top below t not_left not_right = refl
step_word Keyword s top below t not_left not_right = refl
step_word Number s top below t not_left not_right = refl
step_word Sign s top below t not_left not_right = refl
step_word Plain s top below t not_left not_right = refl

grow_leaf : (kind : Kind) (text : List ℕ) (span : Span) → Grows (Leaf kind text span)
unfolding step_of
grow_leaf kind text span s end rest top below are shallow =
    let word = All-head (IsWordOf s) (record { kind = kind; text = text; span = span }) [] (subst (λ (ws : List TreeWord). All (IsWordOf s) ws) (words_leaf kind text span) are) in
    let token : Token = record { kind = kind; span = span } in
    ap (λ (ts : List Token). grow s end (ts ++ rest) top below) (flat_leaf kind text span)
    ∙ ap (after_step (λ f fs. grow s end rest f fs) rest) (step_word kind s top below token word.not_left word.not_right)
    ∙ ap (λ (x : List ℕ). grow s end rest (with_item (Leaf kind x span) top) below) (sym word.text)

open_goes : (top : Frame) (below : List Frame) (t : Token) → length below < 255 → open_step top below t ≡ goes (opened t) (top ∷ below)
open_goes top below t lt =
    let e : nat_lt (length below) 255 ≡ true = grind (arith, nat_tests) in
    ap (λ (b : Bool). if b then goes (opened t) (top ∷ below) else fails (TooDeep t.span.start)) e

abbrev with_items : List Tree → Frame → Frame
with_items items f = record { start = f.start; items = f.items ++ items }

grow_items : (items : List Tree) → Each items → (s : List ℕ) (end : ℕ) (tail : List Token) (f : Frame) (fs : List Frame) → All (IsWordOf s) (joined (map words items)) → greatest (map depth items) + (length fs + 1) ≤ 256 → grow s end (joined (map flat items) ++ tail) f fs ≡ grow s end tail (with_items items f) fs
grow_items [] each s end tail f fs are shallow =
    ap (λ (xs : List Tree). grow s end tail (record { start = f.start; items = xs }) fs) (sym (append-nil f.items))
grow_items (x ∷ xs) each s end tail f fs are shallow =
    ap (λ (ts : List Token). grow s end ts f fs) (append_assoc (flat x) (joined (map flat xs)) tail)
    ∙ each.0 s end (joined (map flat xs) ++ tail) f fs (all_left (IsWordOf s) (words x) (joined (map words xs)) are) (omega arith)
    ∙ grow_items xs each.1 s end tail (with_item x f) fs (all_right (IsWordOf s) (words x) (joined (map words xs)) are) (omega arith)
    ∙ ap (λ (ys : List Tree). grow s end tail (record { start = f.start; items = ys }) fs) (append_assoc f.items (x ∷ []) xs)

-- the items of a list, and the `)` behind them

grow_inner : (items : List Tree) (span : Span) → Each items → (s : List ℕ) (end : ℕ) (rest : List Token) (fs : List Frame) → All (IsWordOf s) (words (Branch items span)) → depth (Branch items span) + length fs ≤ 256 → grow s end ((joined (map flat items) ++ right_of span ∷ []) ++ rest) (opened (left_of span)) fs ≡ grow s end (right_of span ∷ rest) (record { start = span.start; items = items }) fs
grow_inner items span each s end rest fs are shallow =
    let d = depth_branch items span in
    ap (λ (ts : List Token). grow s end ts (opened (left_of span)) fs) (append_assoc (joined (map flat items)) (right_of span ∷ []) rest)
    ∙ grow_items items each s end (right_of span ∷ rest) (opened (left_of span)) fs (subst (λ (ws : List TreeWord). All (IsWordOf s) ws) (words_branch items span) are) (omega arith)

grow_branch : (items : List Tree) (span : Span) → Each items → Grows (Branch items span)
unfolding step_of
grow_branch items span each s end rest top below are shallow =
    let d = depth_branch items span in
    ap (λ (ts : List Token). grow s end (ts ++ rest) top below) (flat_branch items span)
    ∙ ap (after_step (λ f fs. grow s end ((joined (map flat items) ++ right_of span ∷ []) ++ rest) f fs) ((joined (map flat items) ++ right_of span ∷ []) ++ rest)) (open_goes top below (left_of span) (omega arith))
    ∙ grow_inner items span each s end rest (top ∷ below) are (omega arith)

-- ---- every tree

firsts : (ps : List ((t : Tree) × Grows t)) → Each (map (λ p. p.0) ps)
firsts [] = tt
firsts (p ∷ ps) = (p.1, firsts ps)

pub rolled_leaf : (kind : Kind) (text : List ℕ) (span : Span) → Leaf kind text span ≡ roll-Tree (Tree-F.Leaf kind text span)
rolled_leaf kind text span = search (rules, the_lemmas)

pub rolled_branch : (items : List Tree) (span : Span) → Branch items span ≡ roll-Tree (Tree-F.Branch items span)
rolled_branch items span = search (rules, the_lemmas)

grow_layer : (y : Tree-F ((t : Tree) × Grows t)) → Grows (roll-Tree (map-Tree ((t : Tree) × Grows t) Tree (λ e. e.0) y))
grow_layer (Tree-F.Leaf kind text span) = subst Grows (rolled_leaf kind text span) (grow_leaf kind text span)
grow_layer (Tree-F.Branch ps span) =
    subst Grows (rolled_branch (map (λ p. p.0) ps) span) (grow_branch (map (λ p. p.0) ps) span (firsts ps))

grows : (t : Tree) → Grows t
grows = ind-Tree Grows (λ x y is. subst (λ (z : Tree-F Tree). Grows (roll-Tree z)) is (grow_layer y))

all_grow : (items : List Tree) → Each items
all_grow [] = tt
all_grow (t ∷ ts) = (grows t, all_grow ts)

-- ---- the tree of a file

abbrev Found : Tree → Type 0
Found tree =
    (s : List ℕ) (end : ℕ) → 0 < depth tree → depth tree ≤ 256 → All (IsWordOf s) (words tree) → tree_of s end (flat tree) ≡ Ok tree

found_branch : (items : List Tree) (span : Span) → Found (Branch items span)
unfolding step_of
found_branch items span s end some shallow are =
    let same = append-nil (joined (map flat items) ++ right_of span ∷ []) in
    ap (tree_of s end) (flat_branch items span)
    ∙ sym (ap (λ (ts : List Token). grow s end ts (opened (left_of span)) []) same)
    ∙ grow_inner items span (all_grow items) s end [] [] are (omega arith)

found_layer : (y : Tree-F ((t : Tree) × Found t)) → Found (roll-Tree (map-Tree ((t : Tree) × Found t) Tree (λ e. e.0) y))
found_layer (Tree-F.Leaf kind text span) =
    subst Found (rolled_leaf kind text span) (λ s end some shallow are. let d = depth_leaf kind text span in absurd (omega arith))
found_layer (Tree-F.Branch ps span) = subst Found (rolled_branch (map (λ p. p.0) ps) span) (found_branch (map (λ p. p.0) ps) span)

found : (t : Tree) → Found t
found = ind-Tree Found (λ x y is. subst (λ (z : Tree-F Tree). Found (roll-Tree z)) is (found_layer y))

pub tree_found : (s : List ℕ) (end : ℕ) (t : Tree) → IsTreeOf s t → tree_of s end (flat t) ≡ Ok t
tree_found s end t is = found t s end is.is_list is.shallow is.words

abbrev kept : Tree → Result Tree TreeFault
kept t = Ok t

pub unique_tree : (s : List ℕ) (t r : Tree) → IsTreeOf s t → IsTreeOf s r → t ≡ r
unique_tree s t r h k =
    let same : flat t ≡ flat r = unique s (flat t) (flat r) h.tokens k.tokens in
    let left : tree_of s 0 (flat t) ≡ Ok t = tree_found s 0 t h in
    let right : tree_of s 0 (flat r) ≡ Ok r = tree_found s 0 r k in
    let both : kept t ≡ kept r = sym left ∙ ap (tree_of s 0) same ∙ right in
    cc

no_tree : (s : List ℕ) (tokens : List Token) → IsTokens s tokens → (fault : TreeFault) → tree_of s (length s) tokens ≡ Err fault → (t : Tree) → ¬ IsTreeOf s t
no_tree s tokens are fault wrong t h =
    let same : flat t ≡ tokens = unique s (flat t) tokens h.tokens are in
    let left : tree_of s (length s) (flat t) ≡ Ok t = tree_found s (length s) t h in
    let both : Ok t ≡ Err fault = sym left ∙ ap (tree_of s (length s)) same ∙ wrong in
    cc

-- ---- the clauses of `tree`

abbrev pub Read : List ℕ → List Token → Result Tree TreeFault → Type 0
Read s tokens r = Gives r (tree_of s (length s) tokens)

pub tree_is : (s : List ℕ) (tokens : List Token) → IsTokens s tokens → (r : Result Tree TreeFault) → Read s tokens r → IfOk r (IsTreeOf s)
tree_is s tokens are (Ok t) read = subst (IsTreeAnswer s tokens) read (answer s tokens are)
tree_is s tokens are (Err fault) read = tt

pub fault_is : (s : List ℕ) (tokens : List Token) → IsTokens s tokens → (r : Result Tree TreeFault) → Read s tokens r → IfErr r (IsTreeFault s tokens)
fault_is s tokens are (Ok t) read = tt
fault_is s tokens are (Err (Unbalanced at)) read = subst (IsTreeAnswer s tokens) read (answer s tokens are)
fault_is s tokens are (Err (TooDeep at)) read = subst (IsTreeAnswer s tokens) read (answer s tokens are)
fault_is s tokens are (Err Memory) read = tt

pub none_is : (s : List ℕ) (tokens : List Token) → IsTokens s tokens → (r : Result Tree TreeFault) → Read s tokens r → IfErr r (NoTree s)
none_is s tokens are (Ok t) read = tt
none_is s tokens are (Err (Unbalanced at)) read = no_tree s tokens are (Unbalanced at) read
none_is s tokens are (Err (TooDeep at)) read = no_tree s tokens are (TooDeep at) read
none_is s tokens are (Err Memory) read = tt
