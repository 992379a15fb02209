use Rattle.mf_search.proofs.Walking.{kept_opened, kept_finite, kept_reached}
use Rattle.mf_search.proofs.reaching.kept_facts_hold.Goals as goal

pub returns-clause-opened : goal.returns-clause-opened
returns-clause-opened g c sp budget workers entries x legal start kept k = kept_opened sp budget workers entries g.F.Fact.holds x legal start kept k

pub returns-clause-finite : goal.returns-clause-finite
returns-clause-finite g c sp x start kept r finite = kept_finite sp g.F.Fact.holds x start kept r finite

pub returns-clause-reached : goal.returns-clause-reached
returns-clause-reached g c sp x start kept r = kept_reached sp g.F.Fact.holds x start kept r
