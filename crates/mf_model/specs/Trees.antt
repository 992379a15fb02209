-- The tree of a file: its tokens with each pair of brackets drawn together, and where brackets are wrong.
use Rattle.std.specs.Prelude.{◌≡◌, ◌≢◌, ℕ, ◌+◌, ◌-◌, ◌<◌, ◌≤◌, max, ◌⊎◌, List, [], ◌∷◌, ◌++◌, length}
use Rattle.std.specs.List.{All}
use Rattle.mf_model.specs.declared.token.Span.{Span}
use Rattle.mf_model.specs.declared.token.Token.{Token}
use Rattle.mf_model.specs.declared.token.Kind.{Kind}
use Rattle.mf_model.specs.declared.token.Kind.TheVariants.{Left, Right, Name, Variable, Keyword, Number, Sign, Plain}
use Rattle.mf_model.specs.declared.tree.Tree.{Tree, fold-Tree, rec-Tree}
use Rattle.mf_model.specs.declared.tree.Tree.TheOpen.{Tree-F}
use Rattle.mf_model.specs.Tokens.{IsTokens, text_of}

abbrev pub joined : {A : Type 0} → List (List A) → List A
joined [] = []
joined (xs ∷ rest) = xs ++ joined rest

-- ---- what stands in a tree

-- the `(` that begins a list, and the `)` that ends it
abbrev pub left_of : Span → Token
left_of span = record { kind = Left; span = record { start = span.start; end = span.start + 1 } }

abbrev pub right_of : Span → Token
right_of span = record { kind = Right; span = record { start = span.end - 1; end = span.end } }

abbrev pub flat_step : Tree-F (List Token) → List Token
flat_step (Tree-F.Leaf kind text span) = record { kind = kind; span = span } ∷ []
flat_step (Tree-F.Branch items span) = left_of span ∷ (joined items ++ right_of span ∷ [])

-- the tokens of a tree in order
abbrev pub flat : Tree → List Token
flat = fold-Tree (List Token) flat_step

abbrev pub greatest : List ℕ → ℕ
greatest [] = 0
greatest (n ∷ ns) = max n (greatest ns)

abbrev pub depth_step : Tree-F ℕ → ℕ
depth_step (Tree-F.Leaf kind text span) = 0
depth_step (Tree-F.Branch items span) = 1 + greatest items

-- how many lists stand in one another: 0 for a word alone
abbrev pub depth : Tree → ℕ
depth = fold-Tree ℕ depth_step

pub record TreeWord : Type 0 where
  pub kind : Kind
  pub text : List ℕ
  pub span : Span

abbrev pub words_step : Tree-F (List TreeWord) → List TreeWord
words_step (Tree-F.Leaf kind text span) = record { kind = kind; text = text; span = span } ∷ []
words_step (Tree-F.Branch items span) = joined items

-- the words of a tree in order
abbrev pub words : Tree → List TreeWord
words = fold-Tree (List TreeWord) words_step

-- ---- the tree of a file

-- no bracket, and its text is its bytes in lower case
pub record IsWordOf (source : List ℕ) (word : TreeWord) : Type 0 where
  pub not_left : word.kind ≢ Left
  pub not_right : word.kind ≢ Right
  pub text : word.text ≡ text_of source word.span

-- the tree is one list, at most 256 lists stand in one another, and its tokens are those of the file
pub record IsTreeOf (source : List ℕ) (tree : Tree) : Type 0 where
  pub is_list : 0 < depth tree
  pub shallow : depth tree ≤ 256
  pub words : All (IsWordOf source) (words tree)
  pub tokens : IsTokens source (flat tree)

-- ---- places

abbrev pub span_step : Tree-F Span → Span
span_step (Tree-F.Leaf kind text span) = span
span_step (Tree-F.Branch items span) = span

abbrev pub span_of : Tree → Span
span_of = fold-Tree Span span_step

-- the items stand one behind the other, from a place up to another
abbrev pub InRow : (X : Type 0) → (X → Span) → (X → Type 0) → ℕ → List X → ℕ → Type 0
InRow X span IsPart from [] to = from ≤ to
InRow X span IsPart from (x ∷ xs) to =
    (from ≤ (span x).start) × IsPart x × InRow X span IsPart (span x).end xs to

abbrev pub placed_form : (X : Type 0) → (X → Tree) → (X → Type 0) → Tree-F X → Type 0
placed_form X tree IsPart (Tree-F.Leaf kind text span) = span.start < span.end
placed_form X tree IsPart (Tree-F.Branch items span) =
    (span.start < span.end) × InRow X (λ x. span_of (tree x)) IsPart (span.start + 1) items (span.end - 1)

-- spans are nested and in a row: the items of a list stand between its brackets, in order
abbrev pub IsPlaced : Tree → Type 0
IsPlaced = rec-Tree (Type 0) placed_form

-- ---- faults

abbrev pub lefts_in : Kind → ℕ → ℕ
lefts_in Left n = 1 + n
lefts_in Right n = n
lefts_in Name n = n
lefts_in Variable n = n
lefts_in Keyword n = n
lefts_in Number n = n
lefts_in Sign n = n
lefts_in Plain n = n

abbrev pub rights_in : Kind → ℕ → ℕ
rights_in Left n = n
rights_in Right n = 1 + n
rights_in Name n = n
rights_in Variable n = n
rights_in Keyword n = n
rights_in Number n = n
rights_in Sign n = n
rights_in Plain n = n

abbrev pub lefts : List Token → ℕ
lefts [] = 0
lefts (t ∷ ts) = lefts_in t.kind (lefts ts)

abbrev pub rights : List Token → ℕ
rights [] = 0
rights (t ∷ ts) = rights_in t.kind (rights ts)

-- how many lists are open behind these tokens
abbrev pub open_lists : List Token → ℕ
open_lists tokens = lefts tokens - rights tokens

-- no list is open where the token stands, and it isn't the `(` that begins the file
pub record IsOutside (before : List Token) (token : Token) : Type 0 where
  pub none_open : open_lists before ≡ 0
  pub no_start : before ≡ [] → token.kind ≢ Left

-- the token opens one list more than 256
pub record IsDeep (before : List Token) (token : Token) : Type 0 where
  pub all_open : open_lists before ≡ 256
  pub left : token.kind ≡ Left

-- neither stands at any of these tokens
abbrev pub IsSound : List Token → Type 0
IsSound tokens =
    (before : List Token) (token : Token) (after : List Token) → tokens ≡ before ++ token ∷ after → ¬ IsOutside before token × ¬ IsDeep before token

-- the file ends before its list is closed
pub record IsUnclosed (tokens : List Token) : Type 0 where
  pub open_or_none : (0 < open_lists tokens) ⊎ (tokens ≡ [])

-- the first wrong place is a token outside the list, or the end of the file
abbrev pub UnbalancedAt : List ℕ → List Token → ℕ → Type 0
UnbalancedAt source tokens at =
    ((before : List Token) × (token : Token) × (after : List Token) × (tokens ≡ before ++ token ∷ after) × IsSound before × IsOutside before token × (at ≡ token.span.start))
    ⊎ (IsSound tokens × IsUnclosed tokens × (at ≡ length source))

-- the first wrong place is a token that opens a list too many
abbrev pub TooDeepAt : List Token → ℕ → Type 0
TooDeepAt tokens at =
    (before : List Token) × (token : Token) × (after : List Token) × (tokens ≡ before ++ token ∷ after) × IsSound before × IsDeep before token × (at ≡ token.span.start)
