-- What is said of a tree at each place where it could stand.
use Rattle.std.specs.Prelude.{List}
use Rattle.mf_model.specs.declared.form.Word.{Word}
use Rattle.mf_model.specs.declared.form.Typed.{Typed}
use Rattle.mf_model.specs.declared.form.RawCond.{RawCond}
use Rattle.mf_model.specs.declared.form.RawEffect.{RawEffect}
use Rattle.mf_model.specs.declared.form.RawExpr.{RawExpr}
use Rattle.mf_reader.specs.declared.atoms.AtomForm.{AtomForm}
use Rattle.mf_reader.specs.declared.atoms.CallForm.{CallForm}
use Rattle.mf_reader.specs.declared.places.EffectPlace.{EffectPlace}
use Rattle.mf_reader.specs.declared.places.EffectPlace.TheVariants as effect_place
use Rattle.mf_reader.specs.declared.places.ExprPlace.{ExprPlace}
use Rattle.mf_reader.specs.declared.places.ExprPlace.TheVariants as expr_place
use Rattle.mf_reader.specs.Faces.{Face}
use Rattle.mf_reader.specs.Said.{Said}

pub record Seen : Type 0 where
  pub face : Face
  -- the types of a variable, a constant or an object
  pub types : Said (List Word)
  -- a type, or the parent of types, in `:types`
  pub parent : Said Word
  -- typed variables in brackets
  pub variables : Said (List Typed)
  -- a predicate with terms
  pub atom : Said AtomForm
  -- a function with terms
  pub call : Said CallForm
  -- an expression in a condition or an effect, and one in a metric
  pub expr : Said RawExpr
  pub metric : Said RawExpr
  pub cond : Said RawCond
  -- an effect, and one inside the effect of a `when`
  pub effect : Said RawEffect
  pub inner : Said RawEffect

abbrev pub expr_in : ExprPlace → Seen → Said RawExpr
expr_in expr_place.Action s = s.expr
expr_in expr_place.Metric s = s.metric

abbrev pub effect_in : EffectPlace → Seen → Said RawEffect
effect_in effect_place.Action s = s.effect
effect_in effect_place.When s = s.inner
