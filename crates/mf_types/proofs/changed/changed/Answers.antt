use Rattle.std.proofs.Common.{refl, sym, ◌∙◌, List, []}
use Rattle.std.proofs.lemmas.List.{at_drop_all}
use Rattle.mf_model.specs.declared.form.RawAction.{RawAction}
use Rattle.mf_types.specs.Names.{changed_in, changed_by}
use Rattle.mf_types.specs.Tables.{entered}
use Rattle.mf_types.proofs.Firsts.{walked, entered-empty}
use Rattle.mf_types.proofs.changed.changed.Goals as goal

pub loop-action-preserved : goal.loop-action-preserved
loop-action-preserved c =
    walked changed_in (λ (a : RawAction). changed_by a.effect) c.args.actions.now c.loop-action.action-index c.action-item.result c.loop-action.names c.add_changed.new.names (entered [] (changed_in c.args.actions.now))
    (λ _ _. refl) c.loop-action-test.true c.action-item.is c.loop-action.invariant c.in_ok-add_changed.ensures

pub returns : goal.returns
returns c =
    sym (at_drop_all (λ (actions : List RawAction). entered c.loop-action.names (changed_in actions)) c.args.actions.now c.loop-action.action-index c.loop-action-test.false)
    ∙ (c.loop-action.invariant ∙ entered-empty (changed_in c.args.actions.now))
