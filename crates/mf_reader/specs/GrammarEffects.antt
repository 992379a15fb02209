-- The grammar of effects, and of those that can stand behind a condition.
use Rattle.std.specs.Prelude.{ℕ, List, codes}
use Rattle.mf_model.specs.declared.token.Span.{Span}
use Rattle.mf_model.specs.declared.tree.Tree.{Tree}
use Rattle.mf_model.specs.declared.task.Op.{Op}
use Rattle.mf_model.specs.declared.task.Op.TheVariants.{Assign, Increase, Decrease, ScaleUp, ScaleDown}
use Rattle.mf_model.specs.declared.form.Word.{Word}
use Rattle.mf_model.specs.declared.form.RawCond.{RawCond}
use Rattle.mf_model.specs.declared.form.RawEffect.{RawEffect, rec-RawEffect}
use Rattle.mf_model.specs.declared.form.RawEffect.TheOpen.{RawEffect-F}
use Rattle.mf_model.specs.Forms.{IsAtom, Each}
use Rattle.mf_reader.specs.GrammarTerms.{IsCall, IsVariableList}
use Rattle.mf_reader.specs.GrammarExpressions.{IsOne, IsPair, IsExpr}
use Rattle.mf_reader.specs.GrammarConditions.{IsGrouped, IsCond}

abbrev pub op_word : Op → List ℕ
op_word Assign = codes "assign"
op_word Increase = codes "increase"
op_word Decrease = codes "decrease"
op_word ScaleUp = codes "scale-up"
op_word ScaleDown = codes "scale-down"

-- an atom with this predicate and these terms
abbrev pub IsAtomOf : Word → List Word → Tree → Type 0
IsAtomOf predicate terms t = (span : Span) × IsAtom predicate terms span t

-- a function term with this function and these terms
abbrev pub IsCallOf : Word → List Word → Tree → Type 0
IsCallOf function terms t = (span : Span) × IsCall function terms span t

-- an effect; `IsWhen` says which conditions can stand before an effect at its place
abbrev pub IsEffect_form : (RawCond → RawEffect → Span → Tree → Type 0) → (X : Type 0) → (X → RawEffect) → (X → Tree → Type 0) → RawEffect-F X → Tree → Type 0
IsEffect_form IsWhen X raw IsPart (RawEffect-F.Add predicate terms span) t = IsAtom predicate terms span t
IsEffect_form IsWhen X raw IsPart (RawEffect-F.Delete predicate terms span) t = IsOne (codes "not") (IsAtomOf predicate terms) span t
IsEffect_form IsWhen X raw IsPart (RawEffect-F.Change op function terms value span) t = IsPair (op_word op) (IsCallOf function terms) (IsExpr value) span t
IsEffect_form IsWhen X raw IsPart (RawEffect-F.Group parts span) t = IsGrouped (Each IsPart parts) span t
IsEffect_form IsWhen X raw IsPart (RawEffect-F.Each variables part span) t = IsPair (codes "forall") (IsVariableList variables) (IsPart part) span t
IsEffect_form IsWhen X raw IsPart (RawEffect-F.When condition part span) t = IsWhen condition (raw part) span t

abbrev pub NoWhen : RawCond → RawEffect → Span → Tree → Type 0
NoWhen condition part span t = ⊥

-- an effect inside the effect of a `when`
abbrev pub IsInnerEffect : RawEffect → Tree → Type 0
IsInnerEffect = rec-RawEffect (Tree → Type 0) (IsEffect_form NoWhen)

abbrev pub IsWhen : RawCond → RawEffect → Span → Tree → Type 0
IsWhen condition part span t = IsPair (codes "when") (IsCond condition) (IsInnerEffect part) span t

abbrev pub IsEffect : RawEffect → Tree → Type 0
IsEffect = rec-RawEffect (Tree → Type 0) (IsEffect_form IsWhen)
