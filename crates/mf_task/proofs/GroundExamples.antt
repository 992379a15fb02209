-- The packed task of a small typed task, computed. Predicate 0 (p) is static and holds at the start, predicate 1 (q) is added by
-- the one action; function 0 (n) changes, function 1 (cost) is a cost, function 2 (five) is constant.
use Rattle.std.proofs.Common.{◌≡◌, ℕ, pos, negsuc, true, false, List, [], ◌∷◌, Some, None, rules}
use Rattle.mf_fraction.specs.Gcd.{gcd}
use Rattle.mf_fraction.specs.Exact.{Number, whole, reduce, sum_of, product_of, order_of}
use Rattle.mf_model.specs.declared.task.Action.{Action}
use Rattle.mf_model.specs.declared.task.Cond.{Cond, the_lemmas as condition_lemmas}
use Rattle.mf_model.specs.declared.task.Cond.TheVariants as condition
use Rattle.mf_model.specs.declared.task.Effect.{the_lemmas as effect_lemmas}
use Rattle.mf_model.specs.declared.task.Effect.TheVariants as effect
use Rattle.mf_model.specs.declared.task.Expr.{Expr, the_lemmas as expression_lemmas}
use Rattle.mf_model.specs.declared.task.Expr.TheVariants as expression
use Rattle.mf_model.specs.declared.task.Op.TheVariants.{Assign, Increase}
use Rattle.mf_model.specs.declared.task.Relation.TheVariants.{AtLeast, Equal}
use Rattle.mf_model.specs.declared.task.Symbol.{Symbol}
use Rattle.mf_model.specs.declared.task.TypedTask.{TypedTask}
use Rattle.mf_model.specs.declared.state.Instance.{Instance}
use Rattle.mf_model.specs.Functions.{is_cost}
use Rattle.mf_task.specs.declared.form.Form.{Form}
use Rattle.mf_task.specs.declared.ground.GroundCond.{the_lemmas}
use Rattle.mf_task.specs.declared.ground.GroundCond.TheVariants as node
use Rattle.mf_task.specs.declared.ground.GroundChange.TheVariants as change
use Rattle.mf_task.specs.Grounding.{Numbering, atoms_of, ground_cond, ground_conjuncts, ground_effects}

abbrev term : ℕ → Expr
term function = expression.Function function []

abbrev number : ℕ → Expr
number n = expression.Number (whole (pos n))

-- precondition `(and (p) (>= (n) 0) (>= (five) 5))`
abbrev precondition : Cond
precondition = condition.And (condition.Atom 0 [] ∷ condition.Compare AtLeast (term 0) (number 0) ∷ condition.Compare AtLeast (term 2) (number 5) ∷ [])

-- effect `(and (assign (n) 5) (when (p) (q)) (increase (cost) (n)))`
abbrev action : Action
action = record {
  name = [];
  parameters = [];
  condition = precondition;
  effect = effect.Group (effect.Change Assign 0 [] (number 5) ∷ effect.When (condition.Atom 0 []) (effect.Add 1 []) ∷ effect.Change Increase 1 [] (term 0) ∷ []);
}

abbrev symbol : Symbol
symbol = record { name = []; parameters = [] }

-- goal `(and (q) (= (n) 5))`
abbrev task : TypedTask
task = record {
  types = [];
  objects = [];
  predicates = symbol ∷ symbol ∷ [];
  functions = symbol ∷ symbol ∷ symbol ∷ [];
  actions = action ∷ [];
  atoms = record { predicate = 0; objects = [] } ∷ [];
  values = record { cell = record { function = 0; objects = [] }; value = whole (pos 0) } ∷ record { cell = record { function = 1; objects = [] }; value = whole (pos 0) } ∷ record { cell = record { function = 2; objects = [] }; value = whole (pos 5) } ∷ [];
  goal = condition.And (condition.Atom 1 [] ∷ condition.Compare Equal (term 0) (number 5) ∷ []);
  metric = None;
}

abbrev instances : List Instance
instances = record { action = 0; objects = [] } ∷ []

-- the static atom p is no atom of rows
atoms_are : atoms_of task instances ≡ record { predicate = 1; objects = [] } ∷ []
atoms_are = search (rules, effect_lemmas, condition_lemmas, expression_lemmas)

abbrev form : Number → Form
form constant = record { constant = constant; parts = record { coefficient = whole (pos 1); term = 0 } ∷ [] }

-- the numbers of q, of n and of the forms n - 5, n, 5
abbrev numbering : Numbering
numbering = record {
  task = task;
  atoms = record { predicate = 1; objects = [] } ∷ [];
  terms = record { function = 0; objects = [] } ∷ [];
  forms = form (whole (negsuc 4)) ∷ form (whole (pos 0)) ∷ record { constant = whole (pos 5); parts = [] } ∷ [];
}

-- facts that hold are left out of `and`: p, and that five is at least 5
precondition_is : ground_cond numbering precondition [] ≡ node.And (node.Compare AtLeast 1 ∷ [])
unfolding sum_of product_of reduce gcd order_of
precondition_is = search (rules, the_lemmas, effect_lemmas, condition_lemmas, expression_lemmas)

goal_is : ground_conjuncts numbering task.goal [] ≡ node.Atom 0 ∷ node.Compare Equal 0 ∷ []
unfolding sum_of product_of reduce gcd order_of
goal_is = search (rules, the_lemmas, effect_lemmas, condition_lemmas, expression_lemmas)

is_no_cost : is_cost task 0 ≡ false
is_no_cost = search (rules, effect_lemmas, condition_lemmas, expression_lemmas)

is_a_cost : is_cost task 1 ≡ true
is_a_cost = search (rules, effect_lemmas, condition_lemmas, expression_lemmas)

-- in the order of the text; of an effect on a cost its right side alone is left
effects_are : ground_effects numbering action.effect [] ≡ record { condition = node.Fact true; change = change.Number Assign 0 (Some 2) } ∷ record { condition = node.Fact true; change = change.Add 0 } ∷ record { condition = node.Fact true; change = change.Cost (Some 1) } ∷ []
unfolding sum_of product_of reduce gcd order_of
effects_are = search (rules, the_lemmas, effect_lemmas, condition_lemmas, expression_lemmas, is_no_cost, is_a_cost)
