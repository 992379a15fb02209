use Rattle.mf_reader.proofs.ExprReadings.{expr_reads, metric_reads}
use Rattle.mf_reader.proofs.LawForms.{read_at}
use Rattle.mf_reader.specs.GrammarExpressions.{IsExpr, IsMetricExpr}
use Rattle.mf_reader.proofs.laws.expressions_are_read.Goals as goal

pub returns-clause-expressions : goal.returns-clause-expressions
returns-clause-expressions c = read_at (λ s. s.expr) IsExpr expr_reads

pub returns-clause-metrics : goal.returns-clause-metrics
returns-clause-metrics c = read_at (λ s. s.metric) IsMetricExpr metric_reads
