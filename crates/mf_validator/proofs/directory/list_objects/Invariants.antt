use Rattle.std.proofs.Common.{map, take}
use Rattle.mf_validator.specs.Lexicons.{Lists}
use Rattle.mf_validator.proofs.directory.list_objects.Given as goal

abbrev pub invariant-loop-number : goal.invariant-loop-number
invariant-loop-number l = Lists l.directory (map (λ object. object.name) (take l.number l.objects))
