use Rattle.mf_types.proofs.Depths.{jump_is_ancestor}
use Rattle.mf_types.proofs.ancestry.Ancestry.jump.Goals as goal

pub returns : goal.returns
returns c =
    jump_is_ancestor c.args.self.now c.args.from c.in_ok-place.place c.in_ok-above.above c.requires.from c.requires.above c.in_ok-place.ensures c.in_ok-above.ensures
    c.if-place-from.false c.if-above-from.false
