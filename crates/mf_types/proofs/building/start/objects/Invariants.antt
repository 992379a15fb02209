use Rattle.std.proofs.Common.{◌≡◌, drop}
use Rattle.mf_types.specs.Gives.{with_front}
use Rattle.mf_types.specs.Tables.{declared_of}
use Rattle.mf_types.specs.Tasks.{objects_of}
use Rattle.mf_types.proofs.building.start.objects.Given as goal

abbrev pub invariant-loop-word : goal.invariant-loop-word
invariant-loop-word l = with_front l.out (objects_of (declared_of l.tables) (drop l.word-index l.words)) ≡ objects_of (declared_of l.tables) l.words
