-- `count`: one instance, `(inc)`, adds 1 to the term `(n)`, and the goal is that it is at least 10. The packed task is written by
-- hand: the term has the number 0, and the forms are `n - 10` and `1`. Three of its states, with their values and their helpful
-- instances by `ff`.
use Rattle.std.proofs.Common.{◌≡◌, ℕ, pos, negsuc, true, false, not, ◌&&◌, if◌then◌else◌, nat_eq, List, [], ◌∷◌, ◌++◌, map, Option, Some, None, refl, ap, ◌∙◌}
use Rattle.mf_fraction.specs.Gcd.{gcd}
use Rattle.mf_fraction.specs.Exact.{whole, reduce, sum_of, difference_of, product_of, negative_of, order_of, is_below, fits}
use Rattle.mf_model.specs.declared.task.Op.TheVariants.{Increase}
use Rattle.mf_model.specs.declared.task.Relation.TheVariants.{AtLeast}
use Rattle.mf_task.specs.declared.form.Form.{Form}
use Rattle.mf_task.specs.declared.ground.GroundCond.TheVariants as node
use Rattle.mf_task.specs.declared.ground.GroundChange.TheVariants.{Number}
use Rattle.mf_task.specs.declared.task.Task.{Task}
use Rattle.mf_task.specs.declared.value.HeuristicKind.TheVariants.{Ff}
use Rattle.mf_task.specs.HeuristicValues.{helpful_of, state_value}
use Rattle.mf_task.specs.Layers as layers
use Rattle.mf_task.specs.Layers.{Layer, all_levels, form_is_met}
use Rattle.mf_task.specs.LimitClosure.{Family, is_dead, limit_closure, may_compare}
use Rattle.mf_task.specs.RelaxedPlan.{FormNeed, LayerNeed, form_needs}
use Rattle.mf_task.specs.Rows.{Sight}
use Rattle.mf_task.proofs.AtomPlans.{HasPlan, goal_needs, level_here, planned_helpful, planned_value, relaxation_in}
use Rattle.mf_task.proofs.AtomTasks.{AtomAction, action_of, after-atoms, atoms_after, compare-may_hold, first_where, level-compare, required-compare}

abbrev actions : List AtomAction
actions = record { instance = record { action = 0; objects = [] }; needs = []; changes = Number Increase 0 (Some 1) ∷ [] } ∷ []

abbrev less : ℕ → Form
less n = record { constant = whole (negsuc n); parts = record { coefficient = whole (pos 1); term = 0 } ∷ [] }

abbrev count : Task
count = record {
  atoms = [];
  terms = record { function = 0; objects = [] } ∷ [];
  forms = less 9 ∷ record { constant = whole (pos 1); parts = [] } ∷ [];
  actions = map action_of actions;
  goal = node.Compare AtLeast 0 ∷ [];
  start = record { bits = []; values = Some (whole (pos 0)) ∷ [] };
}

-- the state in which the term has this value
abbrev with_number : ℕ → Sight
with_number n = record { bit = λ atom. false; value = λ term. if nat_eq term 0 then Some (whole (pos n)) else None }

module _ (sight : Sight) where
  alive : may_compare sight (atoms_after count sight actions 4) AtLeast (less 9) true ≡ true → is_dead count sight ≡ false
  alive may =
      ap (λ b. not (b && true))
      (compare-may_hold count sight (limit_closure count sight) AtLeast 0
      ∙ ap (λ (f : Family). may_compare sight f AtLeast (less 9) true) (after-atoms count sight actions refl 4)
      ∙ may)

  abbrev goal_level_in : List Layer → Option ℕ
  goal_level_in ls = all_levels (first_where (λ layer. form_is_met layer layers.AtLeast (less 9)) ls ∷ [])

  abbrev goal_needs_in : List Layer → List LayerNeed
  goal_needs_in ls = form_needs (relaxation_in count actions refl sight ls) layers.AtLeast (less 9) (first_where (λ layer. form_is_met layer layers.AtLeast (less 9)) ls) ++ []

  level_is : (ls : List Layer) → level_here count actions refl sight ls ≡ goal_level_in ls
  level_is ls = ap (λ (l : Option ℕ). all_levels (l ∷ [])) (level-compare count ls AtLeast 0)

  needs_are : (ls : List Layer) → goal_needs count actions refl sight ls ≡ goal_needs_in ls
  needs_are ls = ap (λ (ns : List LayerNeed). ns ++ []) (required-compare (relaxation_in count actions refl sight ls) AtLeast 0)

  abbrev Planned : ℕ → ℕ → List LayerNeed → List ℕ → Type 0
  Planned level value needs helpful = HasPlan count actions refl sight goal_level_in goal_needs_in level level value needs helpful

-- the goal is to be met at this layer
abbrev goal_at : ℕ → List LayerNeed
goal_at layer = record { layer = layer; need = FormNeed false (less 9) } ∷ []

-- the value 0 at 10

plan_10 : Planned (with_number 10) 0 0 [] []
unfolding fits sum_of difference_of product_of negative_of reduce gcd order_of is_below
plan_10 = record {
  level_is = level_is (with_number 10);
  needs_are = needs_are (with_number 10);
  is_alive = alive (with_number 10) refl;
  has_level = λ rest. refl;
  has_needs = λ rest. refl;
  free = λ rest. tt;
  has_length = λ rest. refl;
  are_helpful = λ rest. refl;
}

value_10 : state_value Ff count (with_number 10) ≡ Some 0
value_10 = planned_value count actions refl (with_number 10) plan_10 1000 refl

helpful_10 : helpful_of Ff count (with_number 10) ≡ []
helpful_10 = planned_helpful count actions refl (with_number 10) plan_10 1000 refl

-- the value 1 at 9

plan_9 : Planned (with_number 9) 1 1 (goal_at 1) (0 ∷ [])
unfolding fits sum_of difference_of product_of negative_of reduce gcd order_of is_below
plan_9 = record {
  level_is = level_is (with_number 9);
  needs_are = needs_are (with_number 9);
  is_alive = alive (with_number 9) refl;
  has_level = λ rest. refl;
  has_needs = λ rest. refl;
  free = λ rest. ((refl, tt), tt);
  has_length = λ rest. refl;
  are_helpful = λ rest. refl;
}

value_9 : state_value Ff count (with_number 9) ≡ Some 1
value_9 = planned_value count actions refl (with_number 9) plan_9 999 refl

helpful_9 : helpful_of Ff count (with_number 9) ≡ 0 ∷ []
helpful_9 = planned_helpful count actions refl (with_number 9) plan_9 999 refl

-- the value 10 at 0

plan_0 : Planned (with_number 0) 10 10 (goal_at 10) (0 ∷ [])
unfolding fits sum_of difference_of product_of negative_of reduce gcd order_of is_below
plan_0 = record {
  level_is = level_is (with_number 0);
  needs_are = needs_are (with_number 0);
  is_alive = alive (with_number 0) refl;
  has_level = λ rest. refl;
  has_needs = λ rest. refl;
  free = λ rest. ((refl, tt), ((refl, tt), ((refl, tt), ((refl, tt), ((refl, tt), ((refl, tt), ((refl, tt), ((refl, tt), ((refl, tt), ((refl, tt), tt))))))))));
  has_length = λ rest. refl;
  are_helpful = λ rest. refl;
}

value_0 : state_value Ff count (with_number 0) ≡ Some 10
value_0 = planned_value count actions refl (with_number 0) plan_0 990 refl

helpful_0 : helpful_of Ff count (with_number 0) ≡ 0 ∷ []
helpful_0 = planned_helpful count actions refl (with_number 0) plan_0 990 refl
