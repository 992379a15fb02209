use Rattle.std.proofs.Common.{◌≡◌, ◌++◌, drop}
use Rattle.mf_types.specs.Tasks.{paired, type_named}
use Rattle.mf_types.proofs.building.declarations.type_names.Given as goal

abbrev pub invariant-loop-n : goal.invariant-loop-n
invariant-loop-n l = l.out ++ paired type_named (drop l.n l.names) (drop l.n l.parents) ≡ paired type_named l.names l.parents
