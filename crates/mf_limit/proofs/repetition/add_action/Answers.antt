use Rattle.std.proofs.Common.{◌∙◌, sym, ap}
use Rattle.std.specs.List.{flat_map}
use Rattle.mf_task.specs.LimitClosure.{effect_gains}
use Rattle.mf_task.specs.Rows.{sight_of}
use Rattle.mf_limit.proofs.Growing.{grows-by, grows-then}
use Rattle.mf_limit.proofs.repetition.add_action.Goals as goal

pub returns-then-may_hold : goal.returns-then-may_hold
returns-then-may_hold c =
    let task = c.args.scene.now.task.now in
    let sight = sight_of c.args.scene.now.row.now in
    let action = c.args.action.now in
    grows-then task sight action.condition (λ f. flat_map (effect_gains task sight f) action.effects) c.args.sets.now c.add_effects.new.sets c.add_effects.result (sym c.may_hold.ensures ∙ c.if-may_hold.true)
    (grows-by c.args.sets.now c.add_effects.new.sets (λ f. flat_map (effect_gains task sight f) c.as_slice.result.now) (λ f. flat_map (effect_gains task sight f) action.effects) c.add_effects.result (λ f. ap (flat_map (effect_gains task sight f)) c.as_slice.ensures) c.add_effects.ensures)
