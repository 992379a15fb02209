-- `rooms`: a robot carries a ball from one room to another. The packed task is written by hand: its atoms are `(at-robot rooma)`,
-- `(at-robot roomb)`, `(at ball1 rooma)`, `(at ball1 roomb)`, `(holding ball1)` and `(free)`, with the numbers 0 to 5, and the
-- goal is `(at ball1 roomb)`. Five of its states, with their values and their helpful instances by `ff`.
use Rattle.std.proofs.Common.{◌≡◌, ℕ, ◌+◌, false, true, not, ◌&&◌, nat_eq, List, [], ◌∷◌, ◌++◌, map, Option, Some, None, refl, sym, ap, ◌∙◌}
use Rattle.std.specs.List.{list_any}
use Rattle.mf_model.specs.declared.state.Instance.{Instance}
use Rattle.mf_task.specs.declared.ground.GroundCond.TheVariants as node
use Rattle.mf_task.specs.declared.ground.GroundChange.TheVariants.{Add, Delete}
use Rattle.mf_task.specs.declared.task.Task.{Task}
use Rattle.mf_task.specs.declared.value.HeuristicKind.TheVariants.{Ff}
use Rattle.mf_task.specs.HeuristicValues.{helpful_of, state_value}
use Rattle.mf_task.specs.Layers.{Layer, all_levels}
use Rattle.mf_task.specs.LimitClosure.{Family, family_after, is_dead, limit_closure}
use Rattle.mf_task.specs.RelaxedPlan.{AtomNeed, LayerNeed}
use Rattle.mf_task.specs.Rows.{Sight}
use Rattle.mf_task.proofs.AtomPlans.{HasPlan, goal_needs, level_here, planned_helpful, planned_value, relaxation_in}
use Rattle.mf_task.proofs.AtomTasks.{AtomAction, action_of, after-atoms, atom-may_hold, atom_level, atoms_after, later_by, level-atom, needed_atom, required-atom, stays}

abbrev instance : ℕ → List ℕ → Instance
instance action objects = record { action = action; objects = objects }

-- move: from a room to a room
abbrev move : (here there : ℕ) → AtomAction
move here there = record { instance = instance 0 (here ∷ there ∷ []); needs = here ∷ []; changes = Add there ∷ Delete here ∷ [] }

-- pick the ball up in a room, and drop it there
abbrev pick : (room : ℕ) → AtomAction
pick room = record { instance = instance 1 (2 ∷ room ∷ []); needs = (2 + room) ∷ room ∷ 5 ∷ []; changes = Add 4 ∷ Delete (2 + room) ∷ Delete 5 ∷ [] }

abbrev drop : (room : ℕ) → AtomAction
drop room = record { instance = instance 2 (2 ∷ room ∷ []); needs = 4 ∷ room ∷ []; changes = Add (2 + room) ∷ Add 5 ∷ Delete 4 ∷ [] }

abbrev actions : List AtomAction
actions = move 0 0 ∷ move 0 1 ∷ move 1 0 ∷ move 1 1 ∷ pick 0 ∷ pick 1 ∷ drop 0 ∷ drop 1 ∷ []

abbrev rooms : Task
rooms = record {
  atoms = record { predicate = 2; objects = 0 ∷ [] } ∷ record { predicate = 2; objects = 1 ∷ [] } ∷ record { predicate = 3; objects = 2 ∷ 0 ∷ [] } ∷ record { predicate = 3; objects = 2 ∷ 1 ∷ [] } ∷ record { predicate = 4; objects = 2 ∷ [] } ∷ record { predicate = 5; objects = [] } ∷ [];
  terms = [];
  forms = [];
  actions = map action_of actions;
  goal = node.Atom 3 ∷ [];
  start = record { bits = 37 ∷ []; values = [] };
}

-- the state in which these atoms are true
abbrev with_atoms : List ℕ → Sight
with_atoms atoms = record { bit = λ atom. list_any (nat_eq atom) atoms; value = λ term. None }

module _ (sight : Sight) where
  -- the goal may hold after some rounds
  alive : (rounds more : ℕ) → later_by more rounds ≡ 13 → (atoms_after rooms sight actions rounds).yes 3 ≡ true → is_dead rooms sight ≡ false
  alive rounds more all may =
      let reached = stays rooms sight rounds more 3 (ap (λ (f : Family). f.yes 3) (after-atoms rooms sight actions refl rounds) ∙ may) in
      ap (λ b. not (b && true)) (atom-may_hold rooms sight (limit_closure rooms sight) 3 ∙ ap (λ (k : ℕ). (family_after rooms sight k).yes 3) (sym all) ∙ reached)

  abbrev goal_level_in : List Layer → Option ℕ
  goal_level_in layers = all_levels (atom_level layers 3 true ∷ [])

  abbrev goal_needs_in : List Layer → List LayerNeed
  goal_needs_in layers = (needed_atom (relaxation_in rooms actions refl sight layers) 3).needs true ++ []

  level_is : (layers : List Layer) → level_here rooms actions refl sight layers ≡ goal_level_in layers
  level_is layers = ap (λ (l : Option ℕ). all_levels (l ∷ [])) (level-atom rooms layers 3)

  needs_are : (layers : List Layer) → goal_needs rooms actions refl sight layers ≡ goal_needs_in layers
  needs_are layers = ap (λ (ns : List LayerNeed). ns ++ []) (required-atom (relaxation_in rooms actions refl sight layers) 3)

  abbrev Planned : ℕ → ℕ → List LayerNeed → List ℕ → Type 0
  Planned level value needs helpful = HasPlan rooms actions refl sight goal_level_in goal_needs_in level level value needs helpful

-- the goal is to be met at this layer
abbrev goal_at : ℕ → List LayerNeed
goal_at layer = record { layer = layer; need = AtomNeed true 3 } ∷ []

-- The robot and the ball are in rooma: value 3, and `(move rooma roomb)` and `(pick ball1 rooma)` are helpful

abbrev state_0 : Sight
state_0 = with_atoms (0 ∷ 2 ∷ 5 ∷ [])

plan_0 : Planned state_0 2 3 (goal_at 2) (1 ∷ 4 ∷ [])
plan_0 = record {
  level_is = level_is state_0;
  needs_are = needs_are state_0;
  is_alive = alive state_0 2 11 refl refl;
  has_level = λ rest. refl;
  has_needs = λ rest. refl;
  free = λ rest. ((refl, tt), ((refl, (refl, tt)), tt));
  has_length = λ rest. refl;
  are_helpful = λ rest. refl;
}

value_0 : state_value Ff rooms state_0 ≡ Some 3
value_0 = planned_value rooms actions refl state_0 plan_0 998 refl

helpful_0 : helpful_of Ff rooms state_0 ≡ 1 ∷ 4 ∷ []
helpful_0 = planned_helpful rooms actions refl state_0 plan_0 998 refl

-- The robot is in roomb, the ball in rooma: value 3, and `(move roomb rooma)` is helpful

abbrev state_1 : Sight
state_1 = with_atoms (1 ∷ 2 ∷ 5 ∷ [])

plan_1 : Planned state_1 3 3 (goal_at 3) (2 ∷ [])
plan_1 = record {
  level_is = level_is state_1;
  needs_are = needs_are state_1;
  is_alive = alive state_1 3 10 refl refl;
  has_level = λ rest. refl;
  has_needs = λ rest. refl;
  free = λ rest. ((refl, tt), ((refl, tt), ((refl, tt), tt)));
  has_length = λ rest. refl;
  are_helpful = λ rest. refl;
}

value_1 : state_value Ff rooms state_1 ≡ Some 3
value_1 = planned_value rooms actions refl state_1 plan_1 997 refl

helpful_1 : helpful_of Ff rooms state_1 ≡ 2 ∷ []
helpful_1 = planned_helpful rooms actions refl state_1 plan_1 997 refl

-- The robot holds the ball in rooma: value 2, and `(move rooma roomb)` is helpful

abbrev state_2 : Sight
state_2 = with_atoms (0 ∷ 4 ∷ [])

plan_2 : Planned state_2 2 2 (goal_at 2) (1 ∷ [])
plan_2 = record {
  level_is = level_is state_2;
  needs_are = needs_are state_2;
  is_alive = alive state_2 2 11 refl refl;
  has_level = λ rest. refl;
  has_needs = λ rest. refl;
  free = λ rest. ((refl, tt), ((refl, tt), tt));
  has_length = λ rest. refl;
  are_helpful = λ rest. refl;
}

value_2 : state_value Ff rooms state_2 ≡ Some 2
value_2 = planned_value rooms actions refl state_2 plan_2 998 refl

helpful_2 : helpful_of Ff rooms state_2 ≡ 1 ∷ []
helpful_2 = planned_helpful rooms actions refl state_2 plan_2 998 refl

-- The robot holds the ball in roomb: value 1, and `(drop ball1 roomb)` is helpful

abbrev state_3 : Sight
state_3 = with_atoms (1 ∷ 4 ∷ [])

plan_3 : Planned state_3 1 1 (goal_at 1) (7 ∷ [])
plan_3 = record {
  level_is = level_is state_3;
  needs_are = needs_are state_3;
  is_alive = alive state_3 1 12 refl refl;
  has_level = λ rest. refl;
  has_needs = λ rest. refl;
  free = λ rest. ((refl, tt), tt);
  has_length = λ rest. refl;
  are_helpful = λ rest. refl;
}

value_3 : state_value Ff rooms state_3 ≡ Some 1
value_3 = planned_value rooms actions refl state_3 plan_3 999 refl

helpful_3 : helpful_of Ff rooms state_3 ≡ 7 ∷ []
helpful_3 = planned_helpful rooms actions refl state_3 plan_3 999 refl

-- The robot and the ball are in roomb: value 0, and no instance is helpful

abbrev state_4 : Sight
state_4 = with_atoms (1 ∷ 3 ∷ 5 ∷ [])

plan_4 : Planned state_4 0 0 [] []
plan_4 = record {
  level_is = level_is state_4;
  needs_are = needs_are state_4;
  is_alive = alive state_4 0 13 refl refl;
  has_level = λ rest. refl;
  has_needs = λ rest. refl;
  free = λ rest. tt;
  has_length = λ rest. refl;
  are_helpful = λ rest. refl;
}

value_4 : state_value Ff rooms state_4 ≡ Some 0
value_4 = planned_value rooms actions refl state_4 plan_4 1000 refl

helpful_4 : helpful_of Ff rooms state_4 ≡ []
helpful_4 = planned_helpful rooms actions refl state_4 plan_4 1000 refl
