-- The types of one object.
use Rattle.std.specs.Prelude.{ℕ, List, length}
use Rattle.std.specs.List.{flat_map}
use Rattle.mf_model.specs.declared.task.Object.{Object}
use Rattle.mf_model.specs.declared.task.TypedTask.{TypedTask}
use Rattle.mf_model.specs.Objects.{ancestors, parents_of}

-- its declared ones and those from which they descend
abbrev pub kinds_of_object : TypedTask → Object → List ℕ
kinds_of_object task object = flat_map (ancestors (parents_of task) (length task.types)) object.types
