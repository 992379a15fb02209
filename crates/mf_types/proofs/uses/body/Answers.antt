use Rattle.mf_types.specs.Conditions.{cond_faults}
use Rattle.mf_types.specs.Effects.{effect_faults}
use Rattle.mf_types.specs.Sites.{site_of}
use Rattle.mf_types.proofs.Walks.{both_parts}
use Rattle.mf_types.proofs.uses.body.Goals as goal

pub returns : goal.returns
returns c =
    both_parts c.effect.result (cond_faults (site_of c.args.site.now) c.args.action.now.condition) (effect_faults (site_of c.args.site.now) c.args.action.now.effect) c.args.scope.now _ _ _ c.in_ok-best.ensures.same c.in_ok-best.ensures.value c.effect.ensures.value
