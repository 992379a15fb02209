-- The grammar of domains and problems, row by row (PDDL 2.1: Fox and Long, JAIR 2003, appendix A, in this
-- planner's profile): words, types, typed lists, atoms and function terms.
use Rattle.std.specs.Prelude.{◌≡◌, ◌≢◌, ℕ, ◌⊎◌, List, [], ◌∷◌, ◌++◌, codes}
use Rattle.mf_model.specs.declared.token.Span.{Span}
use Rattle.mf_model.specs.declared.tree.Tree.{Tree}
use Rattle.mf_model.specs.declared.form.Word.{Word}
use Rattle.mf_model.specs.declared.form.Typed.{Typed}
use Rattle.mf_model.specs.TypedLists.{typed_as}
use Rattle.mf_model.specs.Forms.{IsList, IsWord, IsHeaded, Each, IsName, IsVariable, IsTerm}

-- (word part*)
abbrev pub IsListed : List ℕ → List Tree → Span → Tree → Type 0
IsListed text parts span t = IsHeaded text (record { parts = parts; span = span }) t

-- Types

abbrev pub IsNamedType : List Word → Tree → Type 0
IsNamedType types t = (w : Word) × (types ≡ w ∷ []) × IsName w t

-- (either name+)
pub record IsEither (types : List Word) (t : Tree) : Type 0 where
  pub parts : List Tree
  pub span : Span
  pub list : IsListed (codes "either") parts span t
  pub names : Each IsName types parts
  pub some : types ≢ []

abbrev pub IsType : List Word → Tree → Type 0
IsType types t = IsNamedType types t ⊎ IsEither types t

-- Lists in groups: item+ - kind, and at last items alone

pub record Group (A B : Type 0) : Type 0 where
  pub items : List A
  pub kind : B

abbrev pub IsDash : Tree → Type 0
IsDash t = IsWord (codes "-") t

-- a `-` is no item
abbrev pub IsItem : {A : Type 0} → (A → Tree → Type 0) → A → Tree → Type 0
IsItem Form x t = Form x t × ¬ IsDash t

-- a group stands in front of the rest
pub record IsGroup {A B : Type 0} (Form : A → Tree → Type 0) (Kind : B → Tree → Type 0) (g : Group A B) (ts rest : List Tree) : Type 0 where
  pub front : List Tree
  pub dash : Tree
  pub kind : Tree
  pub split : ts ≡ front ++ dash ∷ kind ∷ rest
  pub some : g.items ≢ []
  pub are_items : Each (IsItem Form) g.items front
  pub is_dash : IsDash dash
  pub is_kind : Kind g.kind kind

abbrev pub AreGrouped : {A B : Type 0} → (A → Tree → Type 0) → (B → Tree → Type 0) → List (Group A B) → List A → List Tree → Type 0
AreGrouped Form Kind [] last ts = Each (IsItem Form) last ts
AreGrouped Form Kind (g ∷ gs) last ts = (rest : List Tree) × IsGroup Form Kind g ts rest × AreGrouped Form Kind gs last rest

-- Typed lists

-- each item with the types of its group; the last ones have none
abbrev pub typed_items : List (Group Word (List Word)) → List Word → List Typed
typed_items [] last = typed_as [] last
typed_items (g ∷ gs) last = typed_as g.kind g.items ++ typed_items gs last

abbrev pub AreTyped : (Word → Tree → Type 0) → (List Word → Tree → Type 0) → List Typed → List Tree → Type 0
AreTyped Form Kind items ts =
    (groups : List (Group Word (List Word))) × (last : List Word) × AreGrouped Form Kind groups last ts × (items ≡ typed_items groups last)

-- parameters, and the variables of a quantifier
abbrev pub AreVariables : List Typed → List Tree → Type 0
AreVariables = AreTyped IsVariable IsType

-- constants and objects
abbrev pub AreObjects : List Typed → List Tree → Type 0
AreObjects = AreTyped IsName IsType

-- types with the types above them
abbrev pub AreSubtypes : List Typed → List Tree → Type 0
AreSubtypes = AreTyped IsName IsNamedType

-- (typed)
abbrev pub IsVariableList : List Typed → Tree → Type 0
IsVariableList items t = (ts : List Tree) × (span : Span) × IsList ts span t × AreVariables items ts

-- Function terms: (name term*)

pub record IsCall (function : Word) (terms : List Word) (span : Span) (t : Tree) : Type 0 where
  pub head : Tree
  pub parts : List Tree
  pub list : IsList (head ∷ parts) span t
  pub named : IsName function head
  pub arguments : Each IsTerm terms parts
