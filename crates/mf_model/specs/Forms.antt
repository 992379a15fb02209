-- What the forms of domains and problems are made of (PDDL 2.1: Fox and Long, JAIR 2003, appendix A): words,
-- headed lists, atoms, the parts of an action and the sections of a file.
use Rattle.std.specs.Prelude.{◌≡◌, ◌≢◌, ℕ, false, ◌⊎◌, Option, Some, None, List, [], ◌∷◌, ◌++◌, codes}
use Rattle.std.specs.List.{list_any, AllByRecursion}
use Rattle.std.specs.Str.{bytes_eq}
use Rattle.mf_model.specs.declared.token.Kind.{Kind}
use Rattle.mf_model.specs.declared.token.Kind.TheVariants.{Name, Variable}
use Rattle.mf_model.specs.declared.token.Span.{Span}
use Rattle.mf_model.specs.declared.tree.Tree.{Tree}
use Rattle.mf_model.specs.declared.tree.Tree.TheViews.{out-Tree}
use Rattle.mf_model.specs.declared.tree.Tree.TheOpen.{Tree-F}
use Rattle.mf_model.specs.declared.form.Word.{Word}

-- Trees

-- the tree is a word
abbrev pub IsLeaf : Kind → List ℕ → Span → Tree → Type 0
IsLeaf kind text span t = out-Tree t ≡ Tree-F.Leaf kind text span

-- the tree is a list
abbrev pub IsList : List Tree → Span → Tree → Type 0
IsList items span t = out-Tree t ≡ Tree-F.Branch items span

-- the tree is this word
abbrev pub IsWord : List ℕ → Tree → Type 0
IsWord text t = (kind : Kind) × (span : Span) × IsLeaf kind text span t

-- the parts of a list behind its head word, and its span
pub record Headed : Type 0 where
  pub parts : List Tree
  pub span : Span

-- the tree is a list whose head is this word
abbrev pub IsHeaded : List ℕ → Headed → Tree → Type 0
IsHeaded text headed t = (head : Tree) × IsList (head ∷ headed.parts) headed.span t × IsWord text head

abbrev pub HasHead : List ℕ → Tree → Type 0
HasHead text t = (headed : Headed) × IsHeaded text headed t

-- as many values as trees, each the form of its tree
abbrev pub Each : {A : Type 0} → (A → Tree → Type 0) → List A → List Tree → Type 0
Each Form [] [] = Unit {0}
Each Form (x ∷ xs) (t ∷ ts) = Form x t × Each Form xs ts
Each Form (x ∷ xs) [] = ⊥
Each Form [] (t ∷ ts) = ⊥

-- Words

abbrev pub IsName : Word → Tree → Type 0
IsName w t = IsLeaf Name w.text w.span t

abbrev pub IsVariable : Word → Tree → Type 0
IsVariable w t = IsLeaf Variable w.text w.span t

abbrev pub IsTerm : Word → Tree → Type 0
IsTerm w t = IsName w t ⊎ IsVariable w t

-- the heads of conditions, effects and types that name no predicate
abbrev pub reserved : List (List ℕ)
reserved = codes "not" ∷ codes "and" ∷ codes "or" ∷ codes "imply" ∷ codes "forall" ∷ codes "exists" ∷ codes "when" ∷ codes "either" ∷ codes "assign" ∷ codes "increase" ∷ codes "decrease" ∷ codes "scale-up" ∷ codes "scale-down" ∷ []

abbrev pub IsPredicate : Word → Tree → Type 0
IsPredicate w t = IsName w t × (list_any (λ word. bytes_eq w.text word) reserved ≡ false)

-- Atoms: (predicate term*)

pub record IsAtom (predicate : Word) (terms : List Word) (span : Span) (t : Tree) : Type 0 where
  pub head : Tree
  pub parts : List Tree
  pub list : IsList (head ∷ parts) span t
  pub names : IsPredicate predicate head
  pub arguments : Each IsTerm terms parts

-- Actions: (:action name part*), with parts in any order

-- a keyword and the value behind it
pub record Part : Type 0 where
  pub key : List ℕ
  pub value : Tree

-- keywords and values take turns
abbrev pub TakeTurns : List Part → List Tree → Type 0
TakeTurns [] [] = Unit {0}
TakeTurns (p ∷ ps) (k ∷ v ∷ ts) = IsWord p.key k × (p.value ≡ v) × TakeTurns ps ts
TakeTurns _ _ = ⊥

abbrev pub IsActionKey : Part → Type 0
IsActionKey p = (p.key ≡ codes ":parameters") ⊎ ((p.key ≡ codes ":precondition") ⊎ (p.key ≡ codes ":effect"))

abbrev pub NoPart : List ℕ → List Part → Type 0
NoPart key = AllByRecursion (λ p. p.key ≢ key)

-- the one part with a keyword
pub record OnePart (key : List ℕ) (value : Tree) (parts : List Part) : Type 0 where
  pub before : List Part
  pub after : List Part
  pub split : parts ≡ before ++ record { key = key; value = value } ∷ after
  pub none_before : NoPart key before
  pub none_after : NoPart key after

-- the value of a part that stands at most once
abbrev pub IsPart : List ℕ → Option Tree → List Part → Type 0
IsPart key None parts = NoPart key parts
IsPart key (Some value) parts = OnePart key value parts

-- Sections, in any order

abbrev pub NoSection : List ℕ → List Tree → Type 0
NoSection key = AllByRecursion (λ t. ¬ HasHead key t)

-- the one section with a keyword
pub record OneSection (key : List ℕ) (headed : Headed) (sections : List Tree) : Type 0 where
  pub before : List Tree
  pub section : Tree
  pub after : List Tree
  pub split : sections ≡ before ++ section ∷ after
  pub is : IsHeaded key headed section
  pub none_before : NoSection key before
  pub none_after : NoSection key after

-- a section that stands at most once
abbrev pub IsSection : List ℕ → Option Headed → List Tree → Type 0
IsSection key None sections = NoSection key sections
IsSection key (Some headed) sections = OneSection key headed sections

-- one word of any kind
abbrev pub IsTitle : List ℕ → List Tree → Type 0
IsTitle name ts = (t : Tree) × (ts ≡ t ∷ []) × IsWord name t

-- (domain name) and the like
abbrev pub IsNamed : List ℕ → List ℕ → Tree → Type 0
IsNamed key name t = (headed : Headed) × IsHeaded key headed t × IsTitle name headed.parts
