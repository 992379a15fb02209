use Rattle.std.proofs.Common.{◌≡◌, ℕ, ◌||◌, drop, false, true}
use Rattle.std.specs.List.{list_any}
use Rattle.mf_store.specs.Rows.{bit_in}
use Rattle.mf_task.specs.GroundMeaning.{adds_atom, ground_firing}
use Rattle.mf_task.specs.Rows.{IsRowOf, sight_of}
use Rattle.mf_task.specs.Width.{is_wide_cond}
use Rattle.mf_state.specs.PackedTasks.{are_sound_effects}
use Rattle.mf_state.proofs.next_row.add_atoms.Given as goal

abbrev pub invariant-loop-effect : goal.invariant-loop-effect
invariant-loop-effect l = record {
  shape : IsRowOf l.task l.next;
  bits : (atom : ℕ) → (list_any (adds_atom atom) (ground_firing l.task (sight_of l.row) (drop l.effect-index l.effects)) || bit_in l.next.bits atom) ≡ (list_any (adds_atom atom) (ground_firing l.task (sight_of l.row) l.effects) || bit_in l.fn.next.bits atom);
  values : l.next.values ≡ l.fn.next.values;
  narrow : list_any (λ effect. is_wide_cond l.task (sight_of l.row) effect.condition) (drop l.effect-index l.effects) ≡ false;
  sound : are_sound_effects l.task (drop l.effect-index l.effects) ≡ true;
}
