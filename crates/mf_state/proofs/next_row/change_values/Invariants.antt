use Rattle.std.proofs.Common.{◌≡◌, ℕ, drop, false, true}
use Rattle.std.specs.List.{list_any}
use Rattle.mf_task.specs.GroundMeaning.{ground_firing}
use Rattle.mf_task.specs.Rows.{IsRowOf, sight_of}
use Rattle.mf_task.specs.Width.{is_wide_cond}
use Rattle.mf_state.specs.Changing.{changed_value, is_change_wide, values_in}
use Rattle.mf_state.specs.PackedTasks.{are_sound_effects}
use Rattle.mf_state.proofs.next_row.change_values.Given as goal

abbrev pub invariant-loop-effect : goal.invariant-loop-effect
invariant-loop-effect l = record {
  shape : IsRowOf l.task l.next;
  bits : l.next.bits ≡ l.fn.next.bits;
  width : is_change_wide l.task (sight_of l.row) (values_in l.next.values) (ground_firing l.task (sight_of l.row) (drop l.effect-index l.effects)) ≡ is_change_wide l.task (sight_of l.row) (values_in l.fn.next.values) (ground_firing l.task (sight_of l.row) l.effects);
  values : (term : ℕ) → changed_value l.task (sight_of l.row) (ground_firing l.task (sight_of l.row) (drop l.effect-index l.effects)) term (values_in l.next.values term) ≡ changed_value l.task (sight_of l.row) (ground_firing l.task (sight_of l.row) l.effects) term (values_in l.fn.next.values term);
  narrow : list_any (λ effect. is_wide_cond l.task (sight_of l.row) effect.condition) (drop l.effect-index l.effects) ≡ false;
  sound : are_sound_effects l.task (drop l.effect-index l.effects) ≡ true;
}
