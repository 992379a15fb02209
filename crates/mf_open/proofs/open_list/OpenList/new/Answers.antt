use Rattle.mf_open.proofs.Others.{sound_empty}
use Rattle.mf_open.proofs.open_list.OpenList.new.Goals as goal

pub invariant_of-result : goal.invariant_of-result
invariant_of-result c = sound_empty c.new-2.result c.new.result.items c.new.ensures.items c.new-2.ensures.0 c.new-2.ensures.1
