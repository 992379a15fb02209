-- The space of a case: search states, their values and their successor lists.
use Rattle.std.specs.Prelude.{ℕ, ◌+◌, if◌then◌else◌, nat_eq, Bool, false, List, [], ◌∷◌, Option, Some, None, slice_get}
use Rattle.std.specs.List.{list_any}
use Rattle.mf_fraction.specs.Exact.{Number}
use Rattle.mf_search.specs.Space.{Child, Grown, Listed, LeadsOut, Space}
use Rattle.mf_model.specs.declared.task.Atom.{Atom}
use Rattle.mf_model.specs.declared.task.Cell.{Cell}
use Rattle.mf_model.specs.declared.task.TypedTask.{TypedTask}
use Rattle.mf_model.specs.declared.state.Instance.{Instance}
use Rattle.mf_model.specs.declared.state.PlainState.{PlainState}
use Rattle.mf_model.specs.Application.{is_applicable, next_state}
use Rattle.mf_model.specs.LiveInstances.{live_instances}
use Rattle.mf_model.specs.SearchStates.{search_state, with_costs}
use Rattle.mf_model.specs.States.{is_atom, start_of, value_at}
use Rattle.mf_task.specs.declared.task.Task.{Task}
use Rattle.mf_task.specs.declared.value.HeuristicKind.{HeuristicKind}
use Rattle.mf_task.specs.Grounding.{ground_of}
use Rattle.mf_task.specs.HeuristicValues.{helpful_of, state_value}
use Rattle.mf_task.specs.Rows.{Sight}
use Rattle.mf_task.specs.SameStates.{same_state, same_state_is}
use Rattle.mf_task.specs.Width.{way_out}

-- a typed task, the heuristic, and how many states may be taken
pub record Case : Type 0 where
  pub task : TypedTask
  pub heuristic : HeuristicKind
  pub budget : ℕ

-- the packed task of the live instances
abbrev pub packed_of : TypedTask → Task
packed_of task = ground_of task (live_instances task)

abbrev pub shows_atom : PlainState → Option Atom → Bool
shows_atom state (Some atom) = list_any (is_atom atom.predicate atom.objects) state.atoms
shows_atom state None = false

abbrev pub value_shown : PlainState → Option Cell → Option Number
value_shown state (Some cell) = value_at state.values cell.function cell.objects
value_shown state None = None

-- a search state by the numbers of atoms and terms
abbrev pub sight_in : Task → PlainState → Sight
sight_in packed state = record {
  bit = λ atom. shows_atom state (slice_get packed.atoms atom);
  value = λ term. value_shown state (slice_get packed.terms term);
}

abbrev pub is_among : List ℕ → ℕ → Bool
is_among ns n = list_any (nat_eq n) ns

-- an applicable instance, of number n, with the next search state
abbrev pub child_by : TypedTask → PlainState → List ℕ → ℕ → Instance → Child PlainState
child_by task state helpful n instance =
    record { instance = n; state = search_state task (next_state task (with_costs task state) instance); helpful = is_among helpful n }

abbrev pub children_from : TypedTask → PlainState → List ℕ → ℕ → List Instance → List (Child PlainState)
children_from task state helpful n [] = []
children_from task state helpful n (instance ∷ instances) =
    if is_applicable task (with_costs task state) instance
    then child_by task state helpful n instance ∷ children_from task state helpful (n + 1) instances
    else children_from task state helpful (n + 1) instances

-- the applicable live instances in their order, with the next search states
abbrev pub successor_list : Case → PlainState → List (Child PlainState)
successor_list case state =
    children_from case.task state (helpful_of case.heuristic (packed_of case.task) (sight_in (packed_of case.task) state)) 0 (live_instances case.task)

abbrev pub grown_by : Case → PlainState → Option ℕ → Grown PlainState
grown_by case state (Some n) = LeadsOut n
grown_by case state None = Listed (successor_list case state)

-- the successor list of a search state, or the least applicable live instance that leads out of the width
abbrev pub grown_of : Case → PlainState → Grown PlainState
grown_of case state = grown_by case state (way_out (packed_of case.task) (sight_in (packed_of case.task) state))

abbrev pub value_in : Case → PlainState → Option ℕ
value_in case state = state_value case.heuristic (packed_of case.task) (sight_in (packed_of case.task) state)

abbrev pub start_in : Case → PlainState
start_in case = search_state case.task (start_of case.task)

-- the search states of the case: the start, and the value and the successor list of each
unfoldable pub space_of : Case → Space PlainState
space_of case = record {
  start = start_in case;
  value = value_in case;
  grow = grown_of case;
  same = same_state;
  same_is = same_state_is;
}
