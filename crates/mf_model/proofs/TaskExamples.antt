-- The definitions of what a task's functions, predicates and instances are, computed on small cases.
use Rattle.std.proofs.Common.{◌≡◌, ℕ, pos, true, false, [], ◌∷◌, nat_eq, None, rules}
use Rattle.mf_fraction.specs.Exact.{whole}
use Rattle.mf_model.specs.declared.task.Action.{Action}
use Rattle.mf_model.specs.declared.task.Cond.{the_lemmas as condition_lemmas}
use Rattle.mf_model.specs.declared.task.Cond.TheVariants as cond
use Rattle.mf_model.specs.declared.task.Effect.{the_lemmas as effect_lemmas}
use Rattle.mf_model.specs.declared.task.Effect.TheVariants as effect
use Rattle.mf_model.specs.declared.task.Expr.{Expr, the_lemmas as expression_lemmas}
use Rattle.mf_model.specs.declared.task.Expr.TheVariants as expr
use Rattle.mf_model.specs.declared.task.Object.{Object}
use Rattle.mf_model.specs.declared.task.Op.TheVariants.{Decrease, Increase}
use Rattle.mf_model.specs.declared.task.Relation.TheVariants.{AtLeast}
use Rattle.mf_model.specs.declared.task.Term.{Term}
use Rattle.mf_model.specs.declared.task.Term.TheVariants.{Variable, Object as ObjectTerm}
use Rattle.mf_model.specs.declared.task.TypedTask.{TypedTask}
use Rattle.mf_model.specs.declared.task.Valued.{Valued}
use Rattle.mf_model.specs.SearchStates.{search_state, with_costs}
use Rattle.mf_model.specs.States.{start_of}
use Rattle.mf_model.specs.declared.state.PlainState.{PlainState}
use Rattle.mf_model.specs.Linearity.{Degree, Linear, Beyond, degree_of}
use Rattle.mf_model.specs.LiveInstances.{AtomIs, SameIs, tests_of, live_instances, live_prefixes}
use Rattle.mf_model.specs.Functions.{is_constant, is_cost, is_static}

-- two variables
a : Term
a = Variable 0

b : Term
b = Variable 1

-- Static tests, where predicate 0 alone is static

-- `(and (next ?a ?b) (not (= ?a ?b)))`
next_and_apart : tests_of (nat_eq 0) (cond.And (cond.Atom 0 (a ∷ b ∷ []) ∷ cond.Not (cond.Same a b) ∷ [])) ≡ AtomIs true 0 (a ∷ b ∷ []) ∷ SameIs false a b ∷ []
next_and_apart = search (rules, condition_lemmas)

-- a negation of a negation is no test, nor is a disjunction
twice_negated : tests_of (nat_eq 0) (cond.Not (cond.Not (cond.Atom 0 []))) ≡ []
twice_negated = search (rules, condition_lemmas)

one_choice : tests_of (nat_eq 0) (cond.Or (cond.Atom 0 [] ∷ [])) ≡ []
one_choice = search (rules, condition_lemmas)

-- Degrees, where function 0 alone is constant

degree : Expr → Degree
degree = degree_of (nat_eq 0)

changing : Expr
changing = expr.Function 1 []

two : Expr
two = expr.Number (whole (pos 2))

-- `(* (x) (/ (c) 2))`
scaled_is_linear : degree (expr.Product (changing ∷ expr.Quotient (expr.Function 0 []) two ∷ [])) ≡ Linear
unfolding degree changing two
scaled_is_linear = search (rules, expression_lemmas)

-- `(* (x) (x))`
square_is_beyond : degree (expr.Product (changing ∷ changing ∷ [])) ≡ Beyond
unfolding degree changing
square_is_beyond = search (rules, expression_lemmas)

-- `(/ 2 (x))`
inverse_is_beyond : degree (expr.Quotient two changing) ≡ Beyond
unfolding degree changing two
inverse_is_beyond = search (rules, expression_lemmas)

-- A task: `go ?a ?b` needs `(next ?a ?b)`, `(at ?a)` and fuel, moves to `?b`, uses fuel and raises the cost. Two objects,
-- `(at 0)` and `(next 0 1)` at the start. Predicate 0 is `at`, function 0 is the cost.

abbrev one : Expr
one = expr.Number (whole (pos 1))

abbrev go : Action
go = record {
  name = 103 ∷ [];
  parameters = (0 ∷ []) ∷ (0 ∷ []) ∷ [];
  condition = cond.And (cond.Atom 1 (Variable 0 ∷ Variable 1 ∷ []) ∷ cond.Atom 0 (Variable 0 ∷ []) ∷ cond.Compare AtLeast (expr.Function 1 []) one ∷ []);
  effect = effect.Group (effect.Delete 0 (Variable 0 ∷ []) ∷ effect.Add 0 (Variable 1 ∷ []) ∷ effect.Change Decrease 1 [] one ∷ effect.Change Increase 0 [] one ∷ []);
}

abbrev valued : ℕ → ℕ → Valued
valued function n = record { cell = record { function = function; objects = [] }; value = whole (pos n) }

abbrev room : Object
room = record { name = 114 ∷ []; types = 0 ∷ [] }

abbrev task : TypedTask
task = record {
  types = record { name = 111 ∷ []; parent = 0 } ∷ [];
  objects = room ∷ room ∷ [];
  predicates = record { name = 97 ∷ []; parameters = (0 ∷ []) ∷ [] } ∷ record { name = 110 ∷ []; parameters = (0 ∷ []) ∷ (0 ∷ []) ∷ [] } ∷ [];
  functions = record { name = 99 ∷ []; parameters = [] } ∷ record { name = 102 ∷ []; parameters = [] } ∷ [];
  actions = go ∷ [];
  atoms = record { predicate = 0; objects = 0 ∷ [] } ∷ record { predicate = 1; objects = 0 ∷ 1 ∷ [] } ∷ [];
  values = valued 1 5 ∷ valued 0 0 ∷ [];
  goal = cond.Atom 0 (ObjectTerm 1 ∷ []);
  metric = None;
}

changing_cost : is_constant task 0 ≡ false
changing_cost = search (rules, effect_lemmas)

at_is_fluent : is_static task 0 ≡ false
at_is_fluent = search (rules, effect_lemmas)

next_is_static : is_static task 1 ≡ true
next_is_static = search (rules, effect_lemmas)

-- the cost is only summed, never read, and defined at the start
cost : is_cost task 0 ≡ true
cost = search (rules, condition_lemmas, effect_lemmas, expression_lemmas)

-- the fuel is read by a condition
fuel_is_no_cost : is_cost task 1 ≡ false
fuel_is_no_cost = search (rules, condition_lemmas, effect_lemmas, expression_lemmas)

start : PlainState
start = start_of task

-- the terms of the cost leave the state, and come back at their start values
searched : search_state task start ≡ record { atoms = task.atoms; values = valued 1 5 ∷ [] }
unfolding start
searched = search (rules, condition_lemmas, effect_lemmas, expression_lemmas)

raised : PlainState
raised = record { atoms = task.atoms; values = valued 0 7 ∷ valued 1 5 ∷ [] }

started : with_costs task (search_state task raised) ≡ record { atoms = task.atoms; values = valued 0 0 ∷ valued 1 5 ∷ [] }
unfolding raised
started = search (rules, condition_lemmas, effect_lemmas, expression_lemmas)

-- four live fronts: the empty one, each object, and the pair of which `next` holds
live : live_prefixes task go ≡ 4
live = search (rules, condition_lemmas, effect_lemmas)

one_instance : live_instances task ≡ record { action = 0; objects = 0 ∷ 1 ∷ [] } ∷ []
one_instance = search (rules, condition_lemmas, effect_lemmas)
