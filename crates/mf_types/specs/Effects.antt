-- Faults in effects.
use Rattle.std.specs.Prelude.{Bool, true, List, ◌++◌}
use Rattle.mf_model.specs.declared.task.Op.{Op}
use Rattle.mf_model.specs.declared.task.Op.TheVariants.{Assign, Increase, Decrease, ScaleUp, ScaleDown}
use Rattle.mf_model.specs.declared.token.Span.{Span}
use Rattle.mf_model.specs.declared.form.Word.{Word}
use Rattle.mf_model.specs.declared.form.RawExpr.{RawExpr}
use Rattle.mf_model.specs.declared.form.RawEffect.{RawEffect, fold-RawEffect}
use Rattle.mf_model.specs.declared.form.RawEffect.TheOpen.{RawEffect-F}
use Rattle.mf_types.specs.declared.least.Fault.{Fault}
use Rattle.mf_types.specs.Scopes.{Scope}
use Rattle.mf_types.specs.Arguments.{atom_faults, function_faults}
use Rattle.mf_types.specs.Sites.{Site}
use Rattle.mf_types.specs.Expressions.{seen, linear_faults}
use Rattle.mf_types.specs.Quantified.{quantified}
use Rattle.mf_types.specs.Conditions.{all_faults, both_faults, cond_faults}

-- whether an effect with such a value is linear: a scaling only by a constant
abbrev pub fits_op : Op → Bool → Bool
fits_op Assign constant = true
fits_op Increase constant = true
fits_op Decrease constant = true
fits_op ScaleUp constant = constant
fits_op ScaleDown constant = constant

-- a numeric effect: its term, its value, and how it changes the one by the other
abbrev pub change_faults : Site → Op → Word → List Word → RawExpr → Span → Scope → List Fault
change_faults site op function terms value span scope =
    (function_faults site scope function terms ++ (seen site value).faults scope) ++ linear_faults site span (fits_op op (seen site value).constant)

abbrev pub effect_step : Site → RawEffect-F (Scope → List Fault) → Scope → List Fault
effect_step site (RawEffect-F.Add predicate terms span) scope = atom_faults site scope predicate terms
effect_step site (RawEffect-F.Delete predicate terms span) scope = atom_faults site scope predicate terms
effect_step site (RawEffect-F.Change op function terms value span) scope = change_faults site op function terms value span scope
effect_step site (RawEffect-F.Group parts span) scope = all_faults parts scope
effect_step site (RawEffect-F.Each variables part span) scope = quantified site variables part scope
effect_step site (RawEffect-F.When condition part span) scope = both_faults (cond_faults site condition) part scope

abbrev pub effect_faults : Site → RawEffect → Scope → List Fault
effect_faults site = fold-RawEffect (Scope → List Fault) (effect_step site)
