use Rattle.mf_search.proofs.OneStep.{legal_push, legal_last, legal_front, world_push, world_extends}
use Rattle.mf_search.proofs.Answering.{ended_stops}
use Rattle.mf_search.proofs.steps.one_entry_more.Goals as goal

pub returns-clause-legal : goal.returns-clause-legal
returns-clause-legal g c sp budget workers entries entry = (λ h. legal_last sp budget workers entries entry h, λ h. legal_push sp budget workers entries entry h.0 h.1)

pub returns-clause-world : goal.returns-clause-world
returns-clause-world g c sp entries entry = world_push sp entries entry

pub returns-clause-front : goal.returns-clause-front
returns-clause-front g c sp budget workers front rest legal = legal_front sp budget workers front rest legal

pub returns-clause-ended : goal.returns-clause-ended
returns-clause-ended g c sp budget workers w entry ended may = ended_stops sp budget workers w entry ended may

pub returns-clause-longer : goal.returns-clause-longer
returns-clause-longer g c sp front rest = (world_extends sp front rest).longer

pub returns-clause-earlier : goal.returns-clause-earlier
returns-clause-earlier g c sp front rest i low = (world_extends sp front rest).same i low
