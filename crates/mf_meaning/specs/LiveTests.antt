-- The test that tells the live instances among all.
use Rattle.std.specs.Prelude.{ℕ, Bool, false, List, Option, Some, None, slice_get}
use Rattle.mf_model.specs.declared.task.Action.{Action}
use Rattle.mf_model.specs.declared.task.TypedTask.{TypedTask}
use Rattle.mf_model.specs.declared.state.Instance.{Instance}
use Rattle.mf_model.specs.LiveInstances.{is_live_front, static_tests}
use Rattle.mf_model.specs.States.{look_of, start_of}

abbrev pub are_live_arguments : TypedTask → List ℕ → Option Action → Bool
are_live_arguments task objects (Some action) = is_live_front (look_of (start_of task)) (static_tests task action) objects
are_live_arguments task objects None = false

-- the static tests of its action hold at the start
abbrev pub is_live : TypedTask → Instance → Bool
is_live task instance = are_live_arguments task instance.objects (slice_get task.actions instance.action)
