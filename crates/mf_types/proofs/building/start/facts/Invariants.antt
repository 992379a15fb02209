use Rattle.std.proofs.Common.{◌≡◌, drop}
use Rattle.mf_types.specs.Gives.{with_front}
use Rattle.mf_types.specs.Tables.{declared_of}
use Rattle.mf_types.specs.Tasks.{facts_of}
use Rattle.mf_types.proofs.building.start.facts.Given as goal

abbrev pub invariant-loop-raw : goal.invariant-loop-raw
invariant-loop-raw l = with_front l.out (facts_of (declared_of l.tables) (drop l.raw-index l.raws)) ≡ facts_of (declared_of l.tables) l.raws
