-- The values of a state under changes, over stored fractions alone: the first partial result that does not fit ends them.
use Rattle.std.specs.Prelude.{◌&&◌, List, [], ◌∷◌, Option, Result, Ok}
use Rattle.mf_fraction.specs.Exact.{Number}
use Rattle.mf_fraction.specs.declared.faults.Wide.{Wide}
use Rattle.mf_model.specs.declared.task.Op.{Op}
use Rattle.mf_model.specs.declared.task.Valued.{Valued}
use Rattle.mf_model.specs.Application.{Change, Added, Deleted, Changed, new_value, reads_old, with_some_value}
use Rattle.mf_model.specs.States.{value_at}
use Rattle.mf_eval.specs.Answers.{answered, ◌>>=◌}
use Rattle.mf_eval.specs.Width.{is_too_wide}

abbrev pub kept_result : Op → Option Number → Option Number → Result (Option Number) Wide
kept_result op old value = answered (reads_old op && is_too_wide (new_value op old value)) (new_value op old value)

abbrev pub kept_change : List Valued → Change → Result (List Valued) Wide
kept_change values (Changed op function objects value) =
    kept_result op (value_at values function objects) value >>= λ new. Ok (with_some_value values function objects new)
kept_change values (Added predicate objects) = Ok values
kept_change values (Deleted predicate objects) = Ok values

abbrev pub kept_changes : List Valued → List Change → Result (List Valued) Wide
kept_changes values [] = Ok values
kept_changes values (change ∷ changes) = kept_change values change >>= λ next. kept_changes next changes
