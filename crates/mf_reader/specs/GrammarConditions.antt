-- The grammar of conditions.
use Rattle.std.specs.Prelude.{◌≡◌, ℕ, false, ◌⊎◌, List, [], ◌∷◌, codes}
use Rattle.std.specs.List.{list_any}
use Rattle.std.specs.Str.{bytes_eq}
use Rattle.mf_model.specs.declared.token.Span.{Span}
use Rattle.mf_model.specs.declared.tree.Tree.{Tree}
use Rattle.mf_model.specs.declared.task.Relation.{Relation}
use Rattle.mf_model.specs.declared.task.Relation.TheVariants.{Less, AtMost, Equal, AtLeast, More}
use Rattle.mf_model.specs.declared.form.Word.{Word}
use Rattle.mf_model.specs.declared.form.RawCond.{RawCond, rec-RawCond}
use Rattle.mf_model.specs.declared.form.RawCond.TheOpen.{RawCond-F}
use Rattle.mf_model.specs.Forms.{IsList, IsTerm, IsAtom, Each}
use Rattle.mf_reader.specs.GrammarTerms.{IsListed, IsVariableList}
use Rattle.mf_reader.specs.GrammarExpressions.{IsPair, IsOne, IsExpr}

abbrev pub relation_word : Relation → List ℕ
relation_word Less = codes "<"
relation_word AtMost = codes "<="
relation_word Equal = codes "="
relation_word AtLeast = codes ">="
relation_word More = codes ">"

-- the heads of the other conditions, which the names of predicates allow; `preference` is left out
abbrev pub cond_words : List (List ℕ)
cond_words = codes "=" ∷ codes "<" ∷ codes "<=" ∷ codes ">=" ∷ codes ">" ∷ codes "preference" ∷ []

pub record IsAtomCond (predicate : Word) (terms : List Word) (span : Span) (t : Tree) : Type 0 where
  pub atom : IsAtom predicate terms span t
  pub other : list_any (λ word. bytes_eq predicate.text word) cond_words ≡ false

-- (word part*)
abbrev pub IsRow : List ℕ → (List Tree → Type 0) → Span → Tree → Type 0
IsRow text AreParts span t = (ts : List Tree) × IsListed text ts span t × AreParts ts

-- (and part*), or () for none
abbrev pub IsGrouped : (List Tree → Type 0) → Span → Tree → Type 0
IsGrouped AreParts span t = IsRow (codes "and") AreParts span t ⊎ (IsList [] span t × AreParts [])

abbrev pub IsCond_form : (X : Type 0) → (X → RawCond) → (X → Tree → Type 0) → RawCond-F X → Tree → Type 0
IsCond_form X raw IsPart (RawCond-F.Atom predicate terms span) t = IsAtomCond predicate terms span t
IsCond_form X raw IsPart (RawCond-F.Same left right span) t = IsPair (codes "=") (IsTerm left) (IsTerm right) span t
IsCond_form X raw IsPart (RawCond-F.Compare relation left right span) t = IsPair (relation_word relation) (IsExpr left) (IsExpr right) span t
IsCond_form X raw IsPart (RawCond-F.Not part span) t = IsOne (codes "not") (IsPart part) span t
IsCond_form X raw IsPart (RawCond-F.And parts span) t = IsGrouped (Each IsPart parts) span t
IsCond_form X raw IsPart (RawCond-F.Or parts span) t = IsRow (codes "or") (Each IsPart parts) span t
IsCond_form X raw IsPart (RawCond-F.Imply left right span) t = IsPair (codes "imply") (IsPart left) (IsPart right) span t
IsCond_form X raw IsPart (RawCond-F.All variables part span) t = IsPair (codes "forall") (IsVariableList variables) (IsPart part) span t
IsCond_form X raw IsPart (RawCond-F.Any variables part span) t = IsPair (codes "exists") (IsVariableList variables) (IsPart part) span t

abbrev pub IsCond : RawCond → Tree → Type 0
IsCond = rec-RawCond (Tree → Type 0) IsCond_form
