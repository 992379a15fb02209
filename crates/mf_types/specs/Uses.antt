-- Faults where the names of two files are used: in actions, in the start, in the goal and in the metric.
use Rattle.std.specs.Prelude.{true, false, Option, Some, None, List, [], ◌++◌}
use Rattle.std.specs.List.{flat_map}
use Rattle.mf_model.specs.declared.form.Domain.{Domain}
use Rattle.mf_model.specs.declared.form.FileKind.TheVariants.{DomainFile, ProblemFile}
use Rattle.mf_model.specs.declared.form.Problem.{Problem}
use Rattle.mf_model.specs.declared.form.RawAction.{RawAction}
use Rattle.mf_model.specs.declared.form.RawCond.{RawCond}
use Rattle.mf_model.specs.declared.form.RawMetric.{RawMetric}
use Rattle.mf_model.specs.declared.form.RawValue.{RawValue}
use Rattle.mf_types.specs.declared.least.Fault.{Fault}
use Rattle.mf_types.specs.Names.{Declared}
use Rattle.mf_types.specs.Scopes.{variables_of}
use Rattle.mf_types.specs.Arguments.{function_faults}
use Rattle.mf_types.specs.Sites.{Site}
use Rattle.mf_types.specs.Expressions.{expr_faults}
use Rattle.mf_types.specs.Declarations.{beyond, item_words}
use Rattle.mf_types.specs.Quantified.{variable_limit}
use Rattle.mf_types.specs.Conditions.{both_faults, cond_faults}
use Rattle.mf_types.specs.Effects.{effect_faults}

abbrev pub in_domain : Declared → Site
in_domain declared = record { declared = declared; file = DomainFile; linear = true }

abbrev pub in_problem : Declared → Site
in_problem declared = record { declared = declared; file = ProblemFile; linear = true }

-- a metric may be of any form
abbrev pub in_metric : Declared → Site
in_metric declared = record { declared = declared; file = ProblemFile; linear = false }

-- Actions

-- the condition and the effect, under the parameters
abbrev pub action_use_faults : Site → RawAction → List Fault
action_use_faults site action =
    beyond site.file variable_limit (item_words action.parameters)
    ++ both_faults (cond_faults site action.condition) (effect_faults site action.effect) (variables_of site.declared.types action.parameters)

abbrev pub action_faults : Declared → List RawAction → List Fault
action_faults declared actions = flat_map (action_use_faults (in_domain declared)) actions

-- The problem

-- a condition without variables round it: the goal, an atom of the start, or a `not` of one
abbrev pub closed_faults : Site → RawCond → List Fault
closed_faults site cond = cond_faults site cond []

-- the term of a start value
abbrev pub value_term_faults : Site → RawValue → List Fault
value_term_faults site start = function_faults site [] start.function start.objects

abbrev pub start_faults : Site → List RawCond → List RawValue → List Fault
start_faults site atoms values = flat_map (closed_faults site) atoms ++ flat_map (value_term_faults site) values

abbrev pub metric_faults : Declared → Option RawMetric → List Fault
metric_faults declared (Some metric) = expr_faults (in_metric declared) metric.value []
metric_faults declared None = []

-- Both files

abbrev pub uses_in : Declared → Domain → Problem → List Fault
uses_in declared d p =
    ((action_faults declared d.actions ++ start_faults (in_problem declared) p.atoms p.values) ++ closed_faults (in_problem declared) p.goal)
    ++ metric_faults declared p.metric
