use Rattle.std.proofs.Common.{subst}
use Rattle.mf_search.specs.World.{AllDifferent, world}
use Rattle.mf_search.proofs.Sound.{legal_sound, apart_states}
use Rattle.mf_search.proofs.OneStep.{taken_is}
use Rattle.mf_search.proofs.laws.taken_once.Goals as goal

pub returns-clause-taken : goal.returns-clause-taken
returns-clause-taken g c sp budget workers entries legal = subst AllDifferent (taken_is sp entries) (legal_sound sp budget workers entries legal).once

pub returns-clause-opened : goal.returns-clause-opened
returns-clause-opened g c sp budget workers entries legal = apart_states sp (world sp entries).opened (legal_sound sp budget workers entries legal).apart
