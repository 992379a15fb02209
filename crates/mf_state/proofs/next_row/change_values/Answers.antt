use Rattle.std.proofs.Common.{◌+◌, ap, List, drop, sym, ◌∙◌}
use Rattle.mf_task.specs.declared.ground.GroundEffect.{GroundEffect}
use Rattle.mf_task.specs.GroundMeaning.{ground_firing}
use Rattle.mf_task.specs.Rows.{sight_of}
use Rattle.mf_state.specs.Changing.{changed_value, is_change_wide, values_in}
use Rattle.mf_state.proofs.Effects.{value_next, wide_next}
use Rattle.mf_state.proofs.Loops.{front_is, all_next, any_next}
use Rattle.mf_state.proofs.next_row.change_values.Goals as goal

pub loop-effect-preserved : goal.loop-effect-preserved
loop-effect-preserved c =
    let task = c.args.task.now in
    let sight = sight_of c.args.row.now in
    let current = values_in c.loop-effect.next.values in
    let new = values_in c.change_value.new.next.values in
    let rest : List GroundEffect = drop (c.loop-effect.effect-index + 1) c.args.effects.now in
    let front = front_is c.args.effects.now c.loop-effect.effect-index c.effect-item.result c.loop-effect-test.true c.effect-item.is in
    let narrow = c.in-Ok.ensures.width in
    let are = c.in-Ok.ensures.values in
    record {
      shape = c.change_value.ensures.shape;
      bits = c.change_value.ensures.bits ∙ c.loop-effect.invariant.bits;
      width =
          wide_next task sight c.effect-item.result rest current new narrow are
          ∙ sym (ap (λ (es : List GroundEffect). is_change_wide task sight current (ground_firing task sight es)) front)
          ∙ c.loop-effect.invariant.width;
      values = λ term.
          value_next task sight c.effect-item.result rest current new narrow are term
          ∙ sym (ap (λ (es : List GroundEffect). changed_value task sight (ground_firing task sight es) term (current term)) front)
          ∙ c.loop-effect.invariant.values term;
      narrow = any_next _ c.args.effects.now c.loop-effect.effect-index c.effect-item.result front c.loop-effect.invariant.narrow;
      sound = all_next _ c.args.effects.now c.loop-effect.effect-index c.effect-item.result front c.loop-effect.invariant.sound;
    }
