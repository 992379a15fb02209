-- The task of two files without faults is linear.
use Rattle.std.proofs.Common.{◌≡◌, ℕ, Bool, true, false, ◌&&◌, not, List, [], ◌∷◌, ◌++◌, refl, ap, ◌∙◌, All}
use Rattle.std.specs.List.{flat_map, list_all, list_any}
use Rattle.std.proofs.lemmas.List.Elements.{All-head, All-tail}
use Rattle.mf_model.proofs.Choices.{and_true}
use Rattle.mf_model.specs.declared.form.RawAction.{RawAction}
use Rattle.mf_model.specs.declared.form.Domain.{Domain}
use Rattle.mf_model.specs.declared.form.Problem.{Problem}
use Rattle.mf_model.specs.declared.task.Action.{Action}
use Rattle.mf_model.specs.declared.task.Op.{Op}
use Rattle.mf_model.specs.declared.task.Op.TheVariants.{Assign, Increase, Decrease, ScaleUp, ScaleDown}
use Rattle.mf_model.specs.declared.task.Expr.{Expr}
use Rattle.mf_model.specs.declared.task.Cond.{Cond}
use Rattle.mf_model.specs.declared.task.Effect.{Effect}
use Rattle.mf_model.specs.declared.task.TypedTask.{TypedTask}
use Rattle.mf_model.specs.Expressions.{every_side, every_change}
use Rattle.mf_model.specs.Functions.{changes, is_constant}
use Rattle.mf_model.specs.Linearity.{function_degree, degree_of, is_within, is_constant_degree, is_linear, is_linear_change, is_linear_task}
use Rattle.mf_model.specs.Options.{each}
use Rattle.mf_types.specs.AllFaults.{faults_of}
use Rattle.mf_types.specs.Arguments.{function_faults}
use Rattle.mf_types.specs.Conditions.{cond_faults}
use Rattle.mf_types.specs.DeclarationFaults.{declaration_faults_in}
use Rattle.mf_types.specs.Declarations.{beyond, item_words}
use Rattle.mf_types.specs.Effects.{fits_op}
use Rattle.mf_types.specs.Expressions.{seen}
use Rattle.mf_types.specs.Names.{declared_by, is_member}
use Rattle.mf_types.specs.Quantified.{variable_limit}
use Rattle.mf_types.specs.Scopes.{variables_of}
use Rattle.mf_types.specs.Sites.{Site}
use Rattle.mf_types.specs.Tasks.{action_of, IsTaskOf}
use Rattle.mf_types.specs.Typing.{inside, types_in, expr_of, cond_of, effect_of}
use Rattle.mf_types.specs.Uses.{in_domain, in_problem, action_use_faults, action_faults, start_faults, closed_faults}
use Rattle.mf_types.specs.Written.{is_written_cond, is_written_effect, is_written_action, IsWritten}
use Rattle.mf_types.proofs.ConstantFunctions.{constant_alike}
use Rattle.mf_types.proofs.EveryChange.{ChangePasses, CondPasses, changes_pass}
use Rattle.mf_types.proofs.EverySide.{EachPasses, sides_pass}
use Rattle.mf_types.proofs.Given.{IfGiven, given_weaker, anything, taken, then_given, made_given, first_true, second_true}
use Rattle.mf_types.proofs.LinearExpressions.{IsKnown, linear_passed, expr_degree}
use Rattle.mf_types.proofs.There.{first_empty, second_empty}

-- one expression

within_degree : (b : Bool) → is_within (function_degree b) ≡ true
within_degree true = refl
within_degree false = refl

constant_degree : (b : Bool) → is_constant_degree (function_degree b) ≡ b
constant_degree true = refl
constant_degree false = refl

linear_degree : (constant : ℕ → Bool) (b : Bool) (a : Expr) → degree_of constant a ≡ function_degree b → is_linear constant a ≡ true
linear_degree constant b a h = ap is_within h ∙ within_degree b

change_degree : (constant : ℕ → Bool) (op : Op) (n : ℕ) (b : Bool) (a : Expr) → fits_op op b ≡ true → degree_of constant a ≡ function_degree b → is_linear_change constant op n a ≡ true
change_degree constant Assign n b a fits h = linear_degree constant b a h
change_degree constant Increase n b a fits h = linear_degree constant b a h
change_degree constant Decrease n b a fits h = linear_degree constant b a h
change_degree constant ScaleUp n b a fits h = ap is_constant_degree h ∙ (constant_degree b ∙ fits)
change_degree constant ScaleDown n b a fits h = ap is_constant_degree h ∙ (constant_degree b ∙ fits)

module _ (site : Site) (outside : site.linear ≡ true) (constant : ℕ → Bool) (known : IsKnown site constant) where
  expr_linear : EachPasses site (is_linear constant)
  expr_linear raw scope w e binders =
      given_weaker (λ a. degree_of constant a ≡ function_degree (seen site raw).constant) (λ a. is_linear constant a ≡ true) (linear_degree constant (seen site raw).constant)
      (expr_of site.declared raw binders) (expr_degree site outside constant known raw scope w e binders)

  change_linear : ChangePasses site (is_linear_change constant)
  change_linear op function terms raw span scope w e n binders =
      let value = function_faults site scope function terms ++ (seen site raw).faults scope in
      let own = second_empty (function_faults site scope function terms) _ (first_empty value _ e) in
      let fits = linear_passed site span (fits_op op (seen site raw).constant) outside (second_empty value _ e) in
      given_weaker (λ a. degree_of constant a ≡ function_degree (seen site raw).constant) (λ a. is_linear_change constant op n a ≡ true) (λ a. change_degree constant op n (seen site raw).constant a fits)
      (expr_of site.declared raw binders) (expr_degree site outside constant known raw scope w own binders)

  pub cond_linear : CondPasses site (every_side (is_linear constant))
  cond_linear = sides_pass site (is_linear constant) expr_linear

  -- actions

  abbrev IsLinearAction : Action → Type 0
  IsLinearAction action = (every_side (is_linear constant) action.condition && every_change (is_linear_change constant) (every_side (is_linear constant)) action.effect) ≡ true

  action_linear : (raw : RawAction) → is_written_action raw ≡ true → action_use_faults site raw ≡ [] → IfGiven IsLinearAction (action_of site.declared raw)
  unfolding action_of
  action_linear raw w e =
      let types = types_in site.declared raw.parameters in
      let scope = variables_of site.declared.types raw.parameters in
      let parts = second_empty (beyond site.file variable_limit (item_words raw.parameters)) _ e in
      let Side : Cond → Bool = every_side (is_linear constant) in
      let Change : Effect → Bool = every_change (is_linear_change constant) Side in
      then_given (λ _. Unit {0}) IsLinearAction (inside [] raw.parameters) _ (anything (inside [] raw.parameters)) (λ binders _.
      then_given (λ a. Side a ≡ true) IsLinearAction (cond_of site.declared raw.condition binders) _
      (cond_linear raw.condition scope (first_true (is_written_cond raw.condition) (is_written_effect raw.effect) w) (first_empty (cond_faults site raw.condition scope) _ parts) binders) (λ condition h.
      made_given (λ a. Change a ≡ true) IsLinearAction (λ effect. record { name = raw.word.text; parameters = types; condition = condition; effect = effect }) (effect_of site.declared raw.effect binders)
      (changes_pass site (is_linear_change constant) Side change_linear cond_linear raw.effect scope (second_true (is_written_cond raw.condition) (is_written_effect raw.effect) w) (second_empty (cond_faults site raw.condition scope) _ parts) binders) (λ effect k.
      and_true (Side condition) (Change effect) h k)))

  pub actions_linear : (raws : List RawAction) → All (λ raw. is_written_action raw ≡ true) raws → flat_map (action_use_faults site) raws ≡ [] →
      IfGiven (λ actions. list_all (λ action. every_side (is_linear constant) action.condition && every_change (is_linear_change constant) (every_side (is_linear constant)) action.effect) actions ≡ true) (each (action_of site.declared) raws)
  actions_linear [] w e = refl
  actions_linear (raw ∷ raws) w e =
      let test : Action → Bool = λ action. every_side (is_linear constant) action.condition && every_change (is_linear_change constant) (every_side (is_linear constant)) action.effect in
      let Every : List Action → Type 0 = λ actions. list_all test actions ≡ true in
      then_given IsLinearAction Every (action_of site.declared raw) _ (action_linear raw (All-head (λ r. is_written_action r ≡ true) raw raws w) (first_empty (action_use_faults site raw) _ e)) (λ action here.
      made_given Every Every (λ actions. action ∷ actions) (each (action_of site.declared) raws) (actions_linear raws (All-tail (λ r. is_written_action r ≡ true) raw raws w) (second_empty (action_use_faults site raw) _ e)) (λ actions rest.
      and_true (test action) (list_all test actions) here rest))

-- the task

pub task_linear : (d : Domain) (p : Problem) (task : TypedTask) → IsWritten d p → faults_of d p ≡ [] → IsTaskOf d p task → is_linear_task task ≡ true
task_linear d p task written e is =
    let declared = declared_by d p in
    let constant = is_constant task in
    let known : IsKnown (in_domain declared) constant = λ name n number.
    taken (λ actions. not (list_any (λ action. changes n action.effect) actions) ≡ not (is_member declared.changed name)) _ task.actions is.actions (constant_alike declared d.actions name n refl number) in
    let uses = second_empty (declaration_faults_in declared d p) _ e in
    let actions = action_faults declared d.actions in
    let start = start_faults (in_problem declared) p.atoms p.values in
    let goal = closed_faults (in_problem declared) p.goal in
    let to_goal = first_empty ((actions ++ start) ++ goal) _ uses in
    let actions_empty = first_empty actions _ (first_empty (actions ++ start) _ to_goal) in
    let goal_empty = second_empty (actions ++ start) _ to_goal in
    and_true
    (list_all (λ action. every_side (is_linear constant) action.condition && every_change (is_linear_change constant) (every_side (is_linear constant)) action.effect) task.actions)
    (every_side (is_linear constant) task.goal)
    (taken (λ found. list_all (λ action. every_side (is_linear constant) action.condition && every_change (is_linear_change constant) (every_side (is_linear constant)) action.effect) found ≡ true) _ task.actions is.actions
    (actions_linear (in_domain declared) refl constant known d.actions written.actions actions_empty))
    (taken (λ a. every_side (is_linear constant) a ≡ true) _ task.goal is.goal (cond_linear (in_problem declared) refl constant known p.goal [] written.goal goal_empty []))
