use Rattle.mf_task.specs.LinearForms.{minus_one}
use Rattle.mf_normal.proofs.PartLists.{rising_end}
use Rattle.mf_normal.proofs.parts.opposite_parts.Goals as goal

pub returns-clause-rising : goal.returns-clause-rising
returns-clause-rising c = rising_end minus_one c.args.parts.now c.loop-part.part-index c.loop-part.opposites c.loop-part-test.false c.loop-part.invariant.0 c.requires
