-- A small task, computed: a truck drives from a to b over a road of length 5, and the total cost is what it drives.
use Rattle.std.proofs.Common.{◌≡◌, ℕ, pos, Bool, true, false, List, [], ◌∷◌, ◌++◌, map, Option, Some, None, refl, sym, subst, ap, ◌∙◌, arith}
use Rattle.std.specs.List.{filter}
use Rattle.mf_fraction.specs.Exact.{Number, whole}
use Rattle.mf_model.specs.declared.task.Op.TheVariants.{Increase}
use Rattle.mf_model.specs.declared.task.Term.{Term}
use Rattle.mf_model.specs.declared.task.Term.TheVariants.{Variable, Object as ObjectTerm}
use Rattle.mf_model.specs.declared.task.Action.{Action}
use Rattle.mf_model.specs.declared.task.Valued.{Valued}
use Rattle.mf_model.specs.declared.task.TypedTask.{TypedTask}
use Rattle.mf_model.specs.declared.task.Expr.{Expr}
use Rattle.mf_model.specs.declared.task.Expr.TheOpen.{Expr-F}
use Rattle.mf_model.specs.declared.task.Expr.TheFolds.{fold-roll-Expr, map-Expr}
use Rattle.mf_model.specs.declared.task.Expr.TheViews.{roll-Expr}
use Rattle.mf_model.specs.declared.task.Cond.{Cond, fold-Cond}
use Rattle.mf_model.specs.declared.task.Cond.TheOpen.{Cond-F}
use Rattle.mf_model.specs.declared.task.Cond.TheFolds.{fold-roll-Cond, map-Cond}
use Rattle.mf_model.specs.declared.task.Cond.TheViews.{roll-Cond}
use Rattle.mf_model.specs.declared.task.Effect.{Effect, fold-Effect}
use Rattle.mf_model.specs.declared.task.Effect.TheOpen.{Effect-F}
use Rattle.mf_model.specs.declared.task.Effect.TheFolds.{fold-roll-Effect, map-Effect}
use Rattle.mf_model.specs.declared.task.Effect.TheViews.{roll-Effect}
use Rattle.mf_model.specs.declared.state.Instance.{Instance}
use Rattle.mf_model.specs.declared.state.PlainState.{PlainState}
use Rattle.mf_model.specs.declared.truth.Truth.{Truth}
use Rattle.mf_model.specs.Application.{Change, Added, Deleted, Changed, changed_state, changes_of, firing_of, firing_step, is_applicable}
use Rattle.mf_model.specs.Functions.{fitting_step, is_constant, is_cost, is_static}
use Rattle.mf_model.specs.LiveInstances.{StaticTests, AtomIs, is_live_front, live_instances, tests_step}
use Rattle.mf_model.specs.Meaning.{holds_step, truth_in, value_of, value_step}
use Rattle.mf_model.specs.Objects.{bindings, kinds_of}
use Rattle.mf_model.specs.Plans.{is_goal}
use Rattle.mf_model.specs.SearchStates.{search_state, with_costs}
use Rattle.mf_model.specs.States.{look_of, start_of}
use Rattle.mf_model.specs.Views.{Look}
use Rattle.mf_meaning.specs.SearchPlans.{IsSearchPlanFrom, next_search_state}

-- predicates: 0 is `at`, 1 is `road`; functions: 0 is `total-cost`, 1 is `length`

abbrev from_to : List Term
from_to = Variable 0 ∷ Variable 1 ∷ []

abbrev at_place : ℕ → Cond
at_place n = roll-Cond (Cond-F.Atom 0 (Variable n ∷ []))

abbrev drive : Action
drive = record {
  name = [];
  parameters = (0 ∷ []) ∷ (0 ∷ []) ∷ [];
  condition = roll-Cond (Cond-F.And (at_place 0 ∷ roll-Cond (Cond-F.Atom 1 from_to) ∷ []));
  effect = roll-Effect (Effect-F.Group (
      roll-Effect (Effect-F.Delete 0 (Variable 0 ∷ []))
      ∷ roll-Effect (Effect-F.Add 0 (Variable 1 ∷ []))
      ∷ roll-Effect (Effect-F.Change Increase 0 [] (roll-Expr (Expr-F.Function 1 from_to)))
      ∷ []));
}

abbrev pub task : TypedTask
task = record {
  types = record { name = []; parent = 0 } ∷ [];
  objects = record { name = []; types = 0 ∷ [] } ∷ record { name = []; types = 0 ∷ [] } ∷ [];
  predicates = record { name = []; parameters = (0 ∷ []) ∷ [] } ∷ record { name = []; parameters = (0 ∷ []) ∷ (0 ∷ []) ∷ [] } ∷ [];
  functions = record { name = []; parameters = [] } ∷ record { name = []; parameters = (0 ∷ []) ∷ (0 ∷ []) ∷ [] } ∷ [];
  actions = drive ∷ [];
  atoms = record { predicate = 1; objects = 0 ∷ 1 ∷ [] } ∷ record { predicate = 0; objects = 0 ∷ [] } ∷ [];
  values = record { cell = record { function = 1; objects = 0 ∷ 1 ∷ [] }; value = whole (pos 5) } ∷ record { cell = record { function = 0; objects = [] }; value = whole (pos 0) } ∷ [];
  goal = roll-Cond (Cond-F.Atom 0 (ObjectTerm 1 ∷ []));
  metric = None;
}

-- one layer of a fold whose results are functions

fitting_roll : (f : ℕ) (x : Effect-F Effect) (scope : List (List ℕ)) → fold-Effect (List (List ℕ) → Bool) (fitting_step task f) (roll-Effect x) scope ≡ fitting_step task f (map-Effect Effect (List (List ℕ) → Bool) (fold-Effect (List (List ℕ) → Bool) (fitting_step task f)) x) scope
fitting_roll f x scope = ap (λ (test : List (List ℕ) → Bool). test scope) (fold-roll-Effect (List (List ℕ) → Bool) (fitting_step task f) x)

firing_roll : (objects : List (List ℕ)) (look : Look) (x : Effect-F Effect) (b : List ℕ) → firing_of objects look (roll-Effect x) b ≡ firing_step objects look (map-Effect Effect (List ℕ → List Change) (firing_of objects look) x) b
firing_roll objects look x b = ap (λ (changes : List ℕ → List Change). changes b) (fold-roll-Effect (List ℕ → List Change) (firing_step objects look) x)

truth_roll : (objects : List (List ℕ)) (look : Look) (x : Cond-F Cond) (b : List ℕ) → truth_in objects look (roll-Cond x) b ≡ holds_step objects look (map-Cond Cond (List ℕ → Truth) (truth_in objects look) x) b
truth_roll objects look x b = ap (λ (truth : List ℕ → Truth). truth b) (fold-roll-Cond (List ℕ → Truth) (holds_step objects look) x)

value_roll : (look : Look) (x : Expr-F Expr) (b : List ℕ) → value_of look (roll-Expr x) b ≡ value_step look (map-Expr Expr (List ℕ → Option Number) (value_of look) x) b
value_roll look x b = ap (λ (value : List ℕ → Option Number). value b) (fold-roll-Expr (List ℕ → Option Number) (value_step look) x)

-- what its predicates and functions are

at_is_no_static : is_static task 0 ≡ false
at_is_no_static = simp fold-roll-Effect

roads_are_static : is_static task 1 ≡ true
roads_are_static = simp fold-roll-Effect

cost_is_cost : is_cost task 0 ≡ true
cost_is_cost = simp (fitting_roll, fold-roll-Effect, fold-roll-Cond, fold-roll-Expr)

length_is_no_cost : is_cost task 1 ≡ false
length_is_no_cost = simp (fold-roll-Effect, fold-roll-Cond, fold-roll-Expr)

length_is_constant : is_constant task 1 ≡ true
length_is_constant = simp fold-roll-Effect

-- the one instance over the road is live

along : Instance
along = record { action = 0; objects = 0 ∷ 1 ∷ [] }

tests : fold-Cond StaticTests (tests_step (is_static task)) drive.condition ≡ record { affirmed = AtomIs true 1 from_to ∷ []; negated = [] }
tests = simp (fold-roll-Cond, fold-roll-Effect)

one_is_live : live_instances task ≡ along ∷ []
unfolding along
one_is_live = ap (λ (found : StaticTests). map (λ (arguments : List ℕ). record { action = 0; objects = arguments }) (filter (is_live_front (look_of (start_of task)) found.affirmed) (bindings (kinds_of task) drive.parameters [])) ++ []) tests

-- the search state lacks the total cost, and gets it back at its start value

length_value : Valued
length_value = record { cell = record { function = 1; objects = 0 ∷ 1 ∷ [] }; value = whole (pos 5) }

search_start : PlainState
search_start = record { atoms = (start_of task).atoms; values = length_value ∷ [] }

cost_is_left_out : search_state task (start_of task) ≡ search_start
unfolding search_start length_value
cost_is_left_out = simp (cost_is_cost, length_is_no_cost)

cost_is_put_back : with_costs task search_start ≡ start_of task
unfolding search_start length_value
cost_is_put_back = simp (cost_is_cost, length_is_no_cost)

-- driving along the road is a plan of the search states

driven : changes_of task (start_of task) along ≡ Deleted 0 (0 ∷ []) ∷ Added 0 (1 ∷ []) ∷ Changed Increase 0 [] (Some (whole (pos 5))) ∷ []
unfolding along
driven = simp (firing_roll, value_roll)

arrived : PlainState
arrived = record { atoms = record { predicate = 0; objects = 1 ∷ [] } ∷ record { predicate = 1; objects = 0 ∷ 1 ∷ [] } ∷ []; values = length_value ∷ [] }

drive_leads_there : next_search_state task search_start along ≡ arrived
unfolding arrived length_value
drive_leads_there =
    ap (λ (s : PlainState). search_state task (changed_state s (changes_of task s along))) cost_is_put_back
    ∙ ap (λ (changes : List Change). search_state task (changed_state (start_of task) changes)) driven
    ∙ simp (cost_is_cost, length_is_no_cost)

drive_is_applicable_at_start : is_applicable task (start_of task) along ≡ true
unfolding along
drive_is_applicable_at_start = simp (truth_roll, firing_roll, value_roll)

drive_is_applicable : is_applicable task (with_costs task search_start) along ≡ true
drive_is_applicable = ap (λ (s : PlainState). is_applicable task s along) cost_is_put_back ∙ drive_is_applicable_at_start

goal_is_reached : is_goal task (with_costs task arrived) ≡ true
unfolding arrived length_value
goal_is_reached = simp (truth_roll, cost_is_cost, length_is_no_cost)

drive_is_a_plan : IsSearchPlanFrom task search_start (along ∷ [])
unfolding along
drive_is_a_plan = ((1, omega arith, refl), drive_is_applicable, subst (λ (s : PlainState). is_goal task (with_costs task s) ≡ true) (sym drive_leads_there) goal_is_reached)
