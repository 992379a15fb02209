-- What the grammar keeps: sums and products have two parts at least, only a metric reads `total-time` without brackets
-- or as a function of that name, no `when` effect occurs in another, and what is declared has a word of kind Name.
use Rattle.std.specs.Prelude.{ℕ, ◌+◌, ◌≤◌, Bool, true, false, ◌&&◌, nat_le, IsTrue, Option, Some, None, length, All}
use Rattle.mf_model.specs.Plain.{all_true}
use Rattle.mf_model.specs.Tokens.{is_name}
use Rattle.mf_model.specs.Trees.{greatest}
use Rattle.mf_model.specs.declared.form.Word.{Word}
use Rattle.mf_model.specs.declared.form.RawExpr.{RawExpr, fold-RawExpr}
use Rattle.mf_model.specs.declared.form.RawExpr.TheOpen.{RawExpr-F}
use Rattle.mf_model.specs.declared.form.RawCond.{RawCond, fold-RawCond}
use Rattle.mf_model.specs.declared.form.RawCond.TheOpen.{RawCond-F}
use Rattle.mf_model.specs.declared.form.RawEffect.{RawEffect, fold-RawEffect}
use Rattle.mf_model.specs.declared.form.RawEffect.TheOpen.{RawEffect-F}
use Rattle.mf_model.specs.declared.form.RawAction.{RawAction}
use Rattle.mf_model.specs.declared.form.RawMetric.{RawMetric}
use Rattle.mf_model.specs.declared.form.Domain.{Domain}
use Rattle.mf_model.specs.declared.form.Problem.{Problem}

abbrev pub expr_step : Bool → RawExpr-F Bool → Bool
expr_step timed (RawExpr-F.Number word span) = true
expr_step timed (RawExpr-F.Function function terms span) = true
expr_step timed (RawExpr-F.Sum parts span) = nat_le 2 (length parts) && all_true parts
expr_step timed (RawExpr-F.Difference left right span) = left && right
expr_step timed (RawExpr-F.Negative part span) = part
expr_step timed (RawExpr-F.Product parts span) = nat_le 2 (length parts) && all_true parts
expr_step timed (RawExpr-F.Quotient left right span) = left && right
expr_step timed (RawExpr-F.TotalTime span) = timed

-- whether it may read the number of steps
abbrev pub is_written_expr : Bool → RawExpr → Bool
is_written_expr timed = fold-RawExpr Bool (expr_step timed)

abbrev pub cond_step : RawCond-F Bool → Bool
cond_step (RawCond-F.Atom predicate terms span) = true
cond_step (RawCond-F.Same left right span) = true
cond_step (RawCond-F.Compare relation left right span) = is_written_expr false left && is_written_expr false right
cond_step (RawCond-F.Not part span) = part
cond_step (RawCond-F.And parts span) = all_true parts
cond_step (RawCond-F.Or parts span) = all_true parts
cond_step (RawCond-F.Imply left right span) = left && right
cond_step (RawCond-F.All variables part span) = part
cond_step (RawCond-F.Any variables part span) = part

abbrev pub is_written_cond : RawCond → Bool
is_written_cond = fold-RawCond Bool cond_step

abbrev pub effect_step : RawEffect-F Bool → Bool
effect_step (RawEffect-F.Add predicate terms span) = true
effect_step (RawEffect-F.Delete predicate terms span) = true
effect_step (RawEffect-F.Change op function terms value span) = is_written_expr false value
effect_step (RawEffect-F.Group parts span) = all_true parts
effect_step (RawEffect-F.Each variables part span) = part
effect_step (RawEffect-F.When condition part span) = is_written_cond condition && part

abbrev pub is_written_effect : RawEffect → Bool
is_written_effect = fold-RawEffect Bool effect_step

abbrev pub is_written_action : RawAction → Bool
is_written_action action = is_written_cond action.condition && is_written_effect action.effect

abbrev pub is_written_metric : Option RawMetric → Bool
is_written_metric None = true
is_written_metric (Some metric) = is_written_expr true metric.value

-- `when` effects

abbrev pub when_step : RawEffect-F ℕ → ℕ
when_step (RawEffect-F.Add predicate terms span) = 0
when_step (RawEffect-F.Delete predicate terms span) = 0
when_step (RawEffect-F.Change op function terms value span) = 0
when_step (RawEffect-F.Group parts span) = greatest parts
when_step (RawEffect-F.Each variables part span) = part
when_step (RawEffect-F.When condition part span) = 1 + part

-- how many `when` effects occur in one another
abbrev pub when_depth : RawEffect → ℕ
when_depth = fold-RawEffect ℕ when_step

-- Names

-- a word of kind Name, in lower case
abbrev pub IsNamed : Word → Type 0
IsNamed w = IsTrue (is_name w.text)

-- what is declared, and the types above the declared ones
pub record AreNamed (d : Domain) (p : Problem) : Type 0 where
  pub types : All (λ item. IsNamed item.word) d.types
  pub parents : All (λ item. All IsNamed item.types) d.types
  pub constants : All (λ item. IsNamed item.word) d.constants
  pub objects : All (λ item. IsNamed item.word) p.objects
  pub predicates : All (λ h. IsNamed h.word) d.predicates
  pub functions : All (λ h. IsNamed h.word) d.functions
  pub actions : All (λ a. IsNamed a.word) d.actions

-- Both files

pub record IsWritten (d : Domain) (p : Problem) : Type 0 where
  pub actions : All (λ a. IsTrue (is_written_action a)) d.actions
  pub goal : IsTrue (is_written_cond p.goal)
  pub metric : IsTrue (is_written_metric p.metric)
  pub flat : All (λ a. when_depth a.effect ≤ 1) d.actions
  pub names : AreNamed d p
