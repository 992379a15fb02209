-- The case of the task that has nothing, whose goal holds.
use Rattle.std.specs.Prelude.{[], None}
use Rattle.mf_model.specs.declared.task.Cond.TheVariants.{And}
use Rattle.mf_model.specs.declared.task.TypedTask.{TypedTask}
use Rattle.mf_task.specs.declared.value.HeuristicKind.TheVariants.{Goals}
use Rattle.mf_task.specs.Successors.{Case}

abbrev pub no_task : TypedTask
no_task = record {
  types = [];
  objects = [];
  predicates = [];
  functions = [];
  actions = [];
  atoms = [];
  values = [];
  goal = And [];
  metric = None;
}

abbrev pub no_case : Case
no_case = record { task = no_task; heuristic = Goals; budget = 1 }
