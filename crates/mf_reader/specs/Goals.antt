-- The goal and the metric of a problem.
use Rattle.std.specs.Prelude.{Bool, true, false, List, [], ◌∷◌, codes}
use Rattle.mf_model.specs.declared.token.Span.{Span}
use Rattle.mf_model.specs.declared.tree.Tree.{Tree}
use Rattle.mf_model.specs.declared.form.RawCond.{RawCond}
use Rattle.mf_model.specs.declared.form.RawCond.TheVariants as c
use Rattle.mf_model.specs.declared.form.RawExpr.{RawExpr}
use Rattle.mf_model.specs.declared.form.RawExpr.TheVariants as x
use Rattle.mf_model.specs.declared.form.RawMetric.{RawMetric}
use Rattle.mf_reader.specs.Faces.{has_text, span_of}
use Rattle.mf_reader.specs.Said.{Said, said, bad, both}
use Rattle.mf_reader.specs.Seen.{seen}

-- (:goal cond)
abbrev pub goal_at : Span → List Tree → Said RawCond
goal_at span (t ∷ []) = (seen t).cond
goal_at span ts = bad span (c.And [] span)

abbrev pub direction_by : Bool → Bool → Span → Said Bool
direction_by true greatest span = said true
direction_by false true span = said false
direction_by false false span = bad span true

-- whether the least value is asked for, or the greatest
abbrev pub direction_of : Tree → Said Bool
direction_of t = direction_by (has_text (codes "minimize") (seen t).face) (has_text (codes "maximize") (seen t).face) (span_of (seen t).face)

abbrev pub made_metric : Bool → RawExpr → RawMetric
made_metric least value = record { least = least; value = value }

-- (:metric minimize expr)
abbrev pub metric_at : Span → List Tree → Said RawMetric
metric_at span (direction ∷ t ∷ []) = both made_metric (direction_of direction) (seen t).metric
metric_at span ts = bad span (made_metric true (x.TotalTime span))
