-- What the effects that fire at a layer do, one after the other.
use Rattle.std.specs.Prelude.{ℕ, Bool, true, false, List, [], ◌∷◌, ◌++◌, Option, Some, None, is_some, if◌then◌else◌}
use Rattle.std.specs.List.{fold}
use Rattle.mf_task.specs.declared.ground.GroundChange.{GroundChange}
use Rattle.mf_task.specs.declared.ground.GroundChange.TheVariants as change
use Rattle.mf_task.specs.declared.ground.GroundEffect.{GroundEffect}
use Rattle.mf_task.specs.declared.ground.GroundAction.{GroundAction}
use Rattle.mf_task.specs.declared.task.Task.{Task}
use Rattle.mf_task.specs.GroundMeaning.{optional_form_at}
use Rattle.mf_task.specs.Layers.{Counting, Layer, counting_with, factor_of, has_range, optional_form_range}
use Rattle.mf_graph.specs.declared.gains.Gains.{Gains}
use Rattle.mf_graph.specs.declared.levels.Levels.{Levels}
use Rattle.mf_graph.specs.FirstLevels.{level_by}

abbrev pub no_gains : Gains
no_gains = record { adds = []; deletes = []; counted = [] }

abbrev pub with_counting : Gains → ℕ → Option Counting → Gains
with_counting gains term (Some counting) = record { adds = gains.adds; deletes = gains.deletes; counted = gains.counted ++ record { term = term; counting = counting } ∷ [] }
with_counting gains term None = gains

abbrev pub with_change : Task → Layer → Gains → GroundChange → Gains
with_change task layer gains (change.Add atom) = record { adds = gains.adds ++ atom ∷ []; deletes = gains.deletes; counted = gains.counted }
with_change task layer gains (change.Delete atom) = record { adds = gains.adds; deletes = gains.deletes ++ atom ∷ []; counted = gains.counted }
with_change task layer gains (change.Number op term value) =
    with_counting gains term (counting_with op (has_range layer term) (factor_of op (optional_form_at task value)) (optional_form_range layer (optional_form_at task value)))
with_change task layer gains (change.Cost value) = gains
with_change task layer gains change.Nothing = gains

abbrev pub with_effect : Task → Levels → Layer → Gains → GroundEffect → Gains
with_effect task levels layer gains effect = if is_some (level_by levels effect.condition true) then with_change task layer gains effect.change else gains

abbrev pub with_action : Task → Levels → Layer → Gains → GroundAction → Gains
with_action task levels layer gains action =
    if is_some (level_by levels action.condition true) then fold (with_effect task levels layer) gains action.effects else gains
