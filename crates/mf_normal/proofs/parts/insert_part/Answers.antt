use Rattle.mf_normal.proofs.PartLists.{inserted}
use Rattle.mf_normal.proofs.parts.insert_part.Goals as goal

pub returns : goal.returns
returns c = inserted c.args.parts.now c.insert.new.self c.args.at c.args.part.now c.requires.1 c.in_ok-insert.ensures.ok
