-- What the folds over a tree give for a word and for a list.
use Rattle.std.proofs.Common.{◌≡◌, ℕ, ◌+◌, List, [], ◌∷◌, ◌++◌, map, rules}
use Rattle.mf_model.specs.declared.token.Span.{Span}
use Rattle.mf_model.specs.declared.token.Kind.{Kind}
use Rattle.mf_model.specs.declared.tree.Tree.{Tree, the_lemmas}
use Rattle.mf_model.specs.declared.tree.Tree.TheVariants.{Leaf, Branch}
use Rattle.mf_model.specs.Trees.{flat, depth, greatest, words, joined, left_of, right_of}

pub flat_leaf : (kind : Kind) (text : List ℕ) (span : Span) → flat (Leaf kind text span) ≡ (record { kind = kind; span = span }) ∷ []
flat_leaf kind text span = search (rules, the_lemmas)

pub flat_branch : (items : List Tree) (span : Span) → flat (Branch items span) ≡ left_of span ∷ (joined (map flat items) ++ right_of span ∷ [])
flat_branch items span = search (rules, the_lemmas)

pub depth_leaf : (kind : Kind) (text : List ℕ) (span : Span) → depth (Leaf kind text span) ≡ 0
depth_leaf kind text span = search (rules, the_lemmas)

pub depth_branch : (items : List Tree) (span : Span) → depth (Branch items span) ≡ 1 + greatest (map depth items)
depth_branch items span = search (rules, the_lemmas)

pub words_leaf : (kind : Kind) (text : List ℕ) (span : Span) → words (Leaf kind text span) ≡ (record { kind = kind; text = text; span = span }) ∷ []
words_leaf kind text span = search (rules, the_lemmas)

pub words_branch : (items : List Tree) (span : Span) → words (Branch items span) ≡ joined (map words items)
words_branch items span = search (rules, the_lemmas)
