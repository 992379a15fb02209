-- How the changes of an action go into a row, one by one.
use Rattle.std.specs.Prelude.{ℕ, Bool, ◌||◌, not, List, get_or, Option, Some, None}
use Rattle.std.specs.List.{fold, list_any}
use Rattle.mf_fraction.specs.Exact.{Number}
use Rattle.mf_task.specs.declared.ground.GroundChange.{GroundChange}
use Rattle.mf_task.specs.declared.ground.GroundChange.TheVariants as change
use Rattle.mf_task.specs.declared.task.Task.{Task}
use Rattle.mf_task.specs.GroundMeaning.{value_after}
use Rattle.mf_task.specs.Rows.{Sight}
use Rattle.mf_task.specs.Width.{all_fit, has_wide_right_side}

-- a right side of the changes is wide, or a partial new value does not fit, from these values on
abbrev pub is_change_wide : Task → Sight → (ℕ → Option Number) → List GroundChange → Bool
is_change_wide task sight current changes = list_any (has_wide_right_side task sight) changes || not (all_fit task sight current changes)

-- the values in a list, by their numbers
abbrev pub values_in : List (Option Number) → ℕ → Option Number
values_in values term = get_or values term None

-- the value of the term after the changes
abbrev pub changed_value : Task → Sight → List GroundChange → ℕ → Option Number → Option Number
changed_value task sight changes term old = fold (value_after task sight term) old changes

-- the atom that a change deletes, or adds
abbrev pub deleted_by : GroundChange → Option ℕ
deleted_by (change.Add atom) = None
deleted_by (change.Delete atom) = Some atom
deleted_by (change.Number op term value) = None
deleted_by (change.Cost value) = None
deleted_by change.Nothing = None

abbrev pub added_by : GroundChange → Option ℕ
added_by (change.Add atom) = Some atom
added_by (change.Delete atom) = None
added_by (change.Number op term value) = None
added_by (change.Cost value) = None
added_by change.Nothing = None
