-- A domain and a problem of the grammar are written as it says.
use Rattle.std.proofs.Common.{◌≡◌, ℕ, ◌≤◌, Bool, true, Option, Some, None, List, [], ◌∷◌, inl, inr, ap, sym, ◌∙◌, subst, arith, All}
use Rattle.std.proofs.lemmas.List.Elements.{All-nil, All-cons}
use Rattle.mf_model.proofs.Choices.{and_true}
use Rattle.mf_model.specs.declared.token.Span.{Span}
use Rattle.mf_model.specs.declared.tree.Tree.{Tree}
use Rattle.mf_model.specs.declared.form.RawCond.{RawCond}
use Rattle.mf_model.specs.declared.form.RawCond.TheVariants as c
use Rattle.mf_model.specs.declared.form.RawCond.TheOpen.{RawCond-F}
use Rattle.mf_model.specs.declared.form.RawCond.TheFolds.{fold-roll-RawCond}
use Rattle.mf_model.specs.declared.form.RawEffect.{RawEffect}
use Rattle.mf_model.specs.declared.form.RawEffect.TheVariants as e
use Rattle.mf_model.specs.declared.form.RawEffect.TheOpen.{RawEffect-F}
use Rattle.mf_model.specs.declared.form.RawEffect.TheFolds.{fold-roll-RawEffect}
use Rattle.mf_model.specs.declared.form.RawAction.{RawAction}
use Rattle.mf_model.specs.declared.form.RawMetric.{RawMetric}
use Rattle.mf_model.specs.declared.form.Domain.{Domain}
use Rattle.mf_model.specs.declared.form.Problem.{Problem}
use Rattle.mf_model.specs.Forms.{Headed}
use Rattle.mf_model.specs.Trees.{IsTreeOf}
use Rattle.mf_lex.proofs.KindedTrees.{tree_kinded}
use Rattle.mf_reader.specs.GrammarSections.{IsPrecondition, IsOutcome, IsAction, AreActions}
use Rattle.mf_reader.specs.GrammarFiles.{IsMetric, IsDomain, IsProblem}
use Rattle.mf_types.specs.Written.{cond_step, is_written_cond, effect_step, is_written_effect, is_written_action, is_written_metric, when_step, when_depth, IsWritten}
use Rattle.mf_input.proofs.WrittenExpressions.{metric_expr_written}
use Rattle.mf_input.proofs.WrittenConditions.{cond_written}
use Rattle.mf_input.proofs.WrittenEffects.{effect_written}
use Rattle.mf_input.proofs.FlatForms.{effect_flat}
use Rattle.mf_input.proofs.NamedForms.{files_named}

precondition_written : (span : Span) (raw : RawCond) (part : Option Tree) → IsPrecondition span raw part → is_written_cond raw ≡ true
precondition_written span raw None h = ap is_written_cond (h ∙ sym (c.rolls-And [] span)) ∙ fold-roll-RawCond Bool cond_step (RawCond-F.And [] span)
precondition_written span raw (Some t) h = cond_written raw t h

outcome_written : (span : Span) (raw : RawEffect) (part : Option Tree) → IsOutcome span raw part → is_written_effect raw ≡ true
outcome_written span raw None h = ap is_written_effect (h ∙ sym (e.rolls-Group [] span)) ∙ fold-roll-RawEffect Bool effect_step (RawEffect-F.Group [] span)
outcome_written span raw (Some t) h = effect_written raw t h

action_written : (a : RawAction) (t : Tree) → IsAction a t → is_written_action a ≡ true
action_written a t h =
    and_true (is_written_cond a.condition) (is_written_effect a.effect)
    (precondition_written h.span a.condition h.condition_part h.condition) (outcome_written h.span a.effect h.effect_part h.effect)

abbrev Written : RawAction → Type 0
Written a = is_written_action a ≡ true

actions_written : (actions : List RawAction) (ts : List Tree) → AreActions actions ts → All Written actions
actions_written actions [] h = subst (λ v. All Written v) (sym h) (All-nil Written)
actions_written actions (t ∷ ts) (inl others) = actions_written actions ts others.1
actions_written actions (t ∷ ts) (inr (a, rest, is, action, others)) =
    subst (λ v. All Written v) (sym is) (All-cons Written a rest (action_written a t action) (actions_written rest ts others))

metric_written : (metric : Option RawMetric) (section : Option Headed) → IsMetric metric section → is_written_metric metric ≡ true
metric_written metric None h = ap is_written_metric h
metric_written metric (Some headed) h = ap is_written_metric h.1 ∙ metric_expr_written h.0.value h.2.1 h.2.4

-- `when` effects

outcome_flat : (span : Span) (raw : RawEffect) (part : Option Tree) → IsOutcome span raw part → when_depth raw ≤ 1
outcome_flat span raw None h =
    let none : when_depth raw ≡ 0 = ap when_depth (h ∙ sym (e.rolls-Group [] span)) ∙ fold-roll-RawEffect ℕ when_step (RawEffect-F.Group [] span) in
    omega (arith, none)
outcome_flat span raw (Some t) h = effect_flat raw t h

abbrev Flat : RawAction → Type 0
Flat a = when_depth a.effect ≤ 1

actions_flat : (actions : List RawAction) (ts : List Tree) → AreActions actions ts → All Flat actions
actions_flat actions [] h = subst (λ v. All Flat v) (sym h) (All-nil Flat)
actions_flat actions (t ∷ ts) (inl others) = actions_flat actions ts others.1
actions_flat actions (t ∷ ts) (inr (a, rest, is, action, others)) =
    subst (λ v. All Flat v) (sym is) (All-cons Flat a rest (outcome_flat action.span a.effect action.effect_part action.effect) (actions_flat rest ts others))

-- both files

pub files_written : (domain problem : List ℕ) (domain_tree problem_tree : Tree) (d : Domain) (p : Problem) → IsTreeOf domain domain_tree → IsTreeOf problem problem_tree → IsDomain d domain_tree → IsProblem p problem_tree →
    IsWritten d p
files_written domain problem domain_tree problem_tree d p domain_is problem_is is_domain is_problem = record {
  actions = actions_written d.actions is_domain.sections is_domain.actions;
  goal = cond_written p.goal is_problem.goal_tree is_problem.goal;
  metric = metric_written p.metric is_problem.metric_section is_problem.is_metric;
  flat = actions_flat d.actions is_domain.sections is_domain.actions;
  names = files_named domain_tree problem_tree d p (tree_kinded domain domain_tree domain_is) (tree_kinded problem problem_tree problem_is) is_domain is_problem;
}
