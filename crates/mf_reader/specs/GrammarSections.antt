-- The grammar of the sections of a file: declarations, actions and the facts at the start.
use Rattle.std.specs.Prelude.{◌≡◌, ℕ, true, false, ◌⊎◌, Option, Some, None, List, [], ◌∷◌, ◌++◌, codes}
use Rattle.std.specs.List.{list_any, AllByRecursion}
use Rattle.std.specs.Str.{bytes_eq}
use Rattle.mf_model.specs.declared.token.Kind.TheVariants.{Keyword, Number}
use Rattle.mf_model.specs.declared.token.Span.{Span}
use Rattle.mf_model.specs.declared.tree.Tree.{Tree}
use Rattle.mf_model.specs.declared.form.Word.{Word}
use Rattle.mf_model.specs.declared.form.Typed.{Typed}
use Rattle.mf_model.specs.declared.form.Header.{Header}
use Rattle.mf_model.specs.declared.form.RawCond.{RawCond}
use Rattle.mf_model.specs.declared.form.RawCond.TheVariants as c
use Rattle.mf_model.specs.declared.form.RawEffect.{RawEffect}
use Rattle.mf_model.specs.declared.form.RawEffect.TheVariants as e
use Rattle.mf_model.specs.declared.form.RawAction.{RawAction}
use Rattle.mf_model.specs.declared.form.RawValue.{RawValue}
use Rattle.mf_model.specs.declared.form.RawMetric.{RawMetric}
use Rattle.mf_model.specs.Forms.{IsLeaf, IsList, IsWord, HasHead, Each, IsName, IsPredicate, IsAtom, Part, TakeTurns, IsActionKey, IsPart}
use Rattle.mf_reader.specs.Requirements.{known}
use Rattle.mf_reader.specs.GrammarTerms.{IsListed, Group, AreGrouped, AreVariables, IsVariableList}
use Rattle.mf_reader.specs.GrammarExpressions.{IsMetricExpr}
use Rattle.mf_reader.specs.GrammarConditions.{IsCond}
use Rattle.mf_reader.specs.GrammarEffects.{IsEffect}

-- Requirements

pub record IsRequirement (t : Tree) : Type 0 where
  pub text : List ℕ
  pub span : Span
  pub keyword : IsLeaf Keyword text span t
  pub is_known : list_any (λ word. bytes_eq text word) known ≡ true

-- Declarations: (name typed)

pub record IsHeader (IsHead : Word → Tree → Type 0) (h : Header) (t : Tree) : Type 0 where
  pub head : Tree
  pub parts : List Tree
  pub span : Span
  pub list : IsList (head ∷ parts) span t
  pub named : IsHead h.word head
  pub parameters : AreVariables h.parameters parts

abbrev pub ArePredicates : List Header → List Tree → Type 0
ArePredicates = Each (IsHeader IsPredicate)

-- the only type of functions
abbrev pub IsNumber : Word → Tree → Type 0
IsNumber w t = IsName w t × (w.text ≡ codes "number")

abbrev pub grouped_items : {A B : Type 0} → List (Group A B) → List A → List A
grouped_items [] last = last
grouped_items (g ∷ gs) last = g.items ++ grouped_items gs last

-- headers, in groups `header+ - number`, and at last headers alone
abbrev pub AreFunctions : List Header → List Tree → Type 0
AreFunctions headers ts =
    (groups : List (Group Header Word)) × (last : List Header) × AreGrouped (IsHeader IsName) IsNumber groups last ts × (headers ≡ grouped_items groups last)

-- Actions: (:action name part*), with parts in any order

-- no parameters where the part is missing
abbrev pub AreParameters : List Typed → Option Tree → Type 0
AreParameters items None = items ≡ []
AreParameters items (Some t) = IsVariableList items t

-- the empty conjunction, with the span of the action, where the part is missing
abbrev pub IsPrecondition : Span → RawCond → Option Tree → Type 0
IsPrecondition span raw None = raw ≡ c.And [] span
IsPrecondition span raw (Some t) = IsCond raw t

-- the empty group, with the span of the action, where the part is missing
abbrev pub IsOutcome : Span → RawEffect → Option Tree → Type 0
IsOutcome span raw None = raw ≡ e.Group [] span
IsOutcome span raw (Some t) = IsEffect raw t

pub record IsAction (a : RawAction) (t : Tree) : Type 0 where
  pub name : Tree
  pub rest : List Tree
  pub span : Span
  pub list : IsListed (codes ":action") (name ∷ rest) span t
  pub named : IsName a.word name
  pub parts : List Part
  pub turns : TakeTurns parts rest
  pub keys : AllByRecursion IsActionKey parts
  pub parameters_part : Option Tree
  pub condition_part : Option Tree
  pub effect_part : Option Tree
  pub parameters_stand : IsPart (codes ":parameters") parameters_part parts
  pub condition_stands : IsPart (codes ":precondition") condition_part parts
  pub effect_stands : IsPart (codes ":effect") effect_part parts
  pub parameters : AreParameters a.parameters parameters_part
  pub condition : IsPrecondition span a.condition condition_part
  pub effect : IsOutcome span a.effect effect_part

-- the actions are the sections with the keyword, in their order
abbrev pub AreActions : List RawAction → List Tree → Type 0
AreActions actions [] = actions ≡ []
AreActions actions (t ∷ ts) =
    (¬ HasHead (codes ":action") t × AreActions actions ts)
    ⊎ ((a : RawAction) × (rest : List RawAction) × (actions ≡ a ∷ rest) × IsAction a t × AreActions rest ts)

-- What holds at the start: atoms, (not atom), and (= (name name*) number)

pub record IsFact (raw : RawCond) (t : Tree) : Type 0 where
  pub predicate : Word
  pub terms : List Word
  pub span : Span
  pub is : raw ≡ c.Atom predicate terms span
  pub atom : IsAtom predicate terms span t

-- a list with the head `=` is a value, and no atom
abbrev pub IsHeld : RawCond → Tree → Type 0
IsHeld raw t = IsFact raw t × ¬ HasHead (codes "=") t

pub record IsDenied (raw : RawCond) (t : Tree) : Type 0 where
  pub part : RawCond
  pub span : Span
  pub tree : Tree
  pub is : raw ≡ c.Not part span
  pub list : IsListed (codes "not") (tree ∷ []) span t
  pub fact : IsFact part tree

pub record IsStartValue (v : RawValue) (t : Tree) : Type 0 where
  pub term : Tree
  pub head : Tree
  pub parts : List Tree
  pub number : Tree
  pub span : Span
  pub inner : Span
  pub list : IsListed (codes "=") (term ∷ number ∷ []) span t
  pub term_list : IsList (head ∷ parts) inner term
  pub named : IsName v.function head
  pub objects : Each IsName v.objects parts
  pub value : IsLeaf Number v.value.text v.value.span number

abbrev pub AreStarts : List RawCond → List RawValue → List Tree → Type 0
AreStarts atoms values [] = (atoms ≡ []) × (values ≡ [])
AreStarts atoms values (t ∷ ts) =
    ((a : RawCond) × (rest : List RawCond) × (atoms ≡ a ∷ rest) × (IsHeld a t ⊎ IsDenied a t) × AreStarts rest values ts)
    ⊎ ((v : RawValue) × (rest : List RawValue) × (values ≡ v ∷ rest) × IsStartValue v t × AreStarts atoms rest ts)

-- Metrics: minimize expr, or maximize expr

abbrev pub IsDirection : RawMetric → Tree → Type 0
IsDirection m t = (IsWord (codes "minimize") t × (m.least ≡ true)) ⊎ (IsWord (codes "maximize") t × (m.least ≡ false))

abbrev pub AreMetric : RawMetric → List Tree → Type 0
AreMetric m ts = (w : Tree) × (t : Tree) × (ts ≡ w ∷ t ∷ []) × IsDirection m w × IsMetricExpr m.value t
