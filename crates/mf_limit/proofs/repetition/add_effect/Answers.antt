use Rattle.std.proofs.Common.{◌∙◌, sym}
use Rattle.mf_task.specs.LimitClosure.{change_gains}
use Rattle.mf_task.specs.Rows.{sight_of}
use Rattle.mf_limit.proofs.Growing.{grows-then}
use Rattle.mf_limit.proofs.repetition.add_effect.Goals as goal

pub returns-then-may_hold : goal.returns-then-may_hold
returns-then-may_hold c =
    let task = c.args.scene.now.task.now in
    let sight = sight_of c.args.scene.now.row.now in
    let effect = c.args.effect.now in
    grows-then task sight effect.condition (λ f. change_gains task sight f effect.change) c.args.sets.now c.add_change.new.sets c.add_change.result (sym c.may_hold.ensures ∙ c.if-may_hold.true) c.add_change.ensures
