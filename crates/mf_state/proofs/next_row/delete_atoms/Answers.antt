use Rattle.std.proofs.Common.{◌&&◌, ◌+◌, not, Bool, List, drop, sym, ap, ◌∙◌}
use Rattle.std.specs.List.{list_any}
use Rattle.mf_store.specs.Rows.{bit_in}
use Rattle.mf_task.specs.declared.ground.GroundEffect.{GroundEffect}
use Rattle.mf_task.specs.GroundMeaning.{deletes_atom, ground_firing}
use Rattle.mf_task.specs.Rows.{sight_of}
use Rattle.mf_state.proofs.Effects.{deleted_first}
use Rattle.mf_state.proofs.Loops.{front_is, all_next, any_next}
use Rattle.mf_state.proofs.next_row.delete_atoms.Goals as goal

pub loop-effect-preserved : goal.loop-effect-preserved
loop-effect-preserved c =
    let task = c.args.task.now in
    let sight = sight_of c.args.row.now in
    let rest : List GroundEffect = drop (c.loop-effect.effect-index + 1) c.args.effects.now in
    let front = front_is c.args.effects.now c.loop-effect.effect-index c.effect-item.result c.loop-effect-test.true c.effect-item.is in
    record {
      shape = c.delete_atom.ensures.shape;
      bits = λ atom.
          ap (λ (b : Bool). b && not (list_any (deletes_atom atom) (ground_firing task sight rest))) (c.delete_atom.ensures.bits atom)
          ∙ sym (deleted_first task sight c.effect-item.result rest (bit_in c.loop-effect.next.bits atom) atom)
          ∙ sym (ap (λ (es : List GroundEffect). bit_in c.loop-effect.next.bits atom && not (list_any (deletes_atom atom) (ground_firing task sight es))) front)
          ∙ c.loop-effect.invariant.bits atom;
      values = c.delete_atom.ensures.values ∙ c.loop-effect.invariant.values;
      narrow = any_next _ c.args.effects.now c.loop-effect.effect-index c.effect-item.result front c.loop-effect.invariant.narrow;
      sound = all_next _ c.args.effects.now c.loop-effect.effect-index c.effect-item.result front c.loop-effect.invariant.sound;
    }
