use Rattle.mf_plain.specs.Changes.{adds_of, deletes_of}
use Rattle.mf_plain.proofs.EffectLaws.{after_is}
use Rattle.mf_plain.proofs.applying.after_effect.Goals as goal

pub returns : goal.returns
returns c =
    after_is c.args.state.now c.as_slice.result.now c.in_ok-atoms.atoms c.add.new.atoms c.as_slice-2.result.now c.in_ok-values.values
    (deletes_of c.args.effect.now c.args.binding.now) (adds_of c.args.effect.now c.args.binding.now)
    c.as_slice.ensures c.in_ok-atoms.ensures c.in_ok-add.ensures c.as_slice-2.ensures c.in_ok-values.ensures
