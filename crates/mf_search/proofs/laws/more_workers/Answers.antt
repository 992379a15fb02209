use Rattle.mf_search.specs.World.{begin}
use Rattle.mf_search.proofs.OneStep.{legal_more}
use Rattle.mf_search.proofs.laws.more_workers.Goals as goal

pub returns : goal.returns
returns g c sp budget few more entries h legal = legal_more sp budget few more (begin sp) entries h legal
