use Rattle.std.proofs.Common.{◌≡◌, ◌++◌, drop}
use Rattle.mf_types.specs.Tasks.{paired, object_named}
use Rattle.mf_types.proofs.building.declarations.objects.Given as goal

abbrev pub invariant-loop-n : goal.invariant-loop-n
invariant-loop-n l = l.out ++ paired object_named (drop l.n l.names) (drop l.n l.types) ≡ paired object_named l.names l.types
