use Rattle.std.proofs.Common.{◌≡◌, ◌++◌, drop}
use Rattle.mf_types.specs.Tasks.{paired, symbol_named}
use Rattle.mf_types.proofs.building.declarations.symbols.Given as goal

abbrev pub invariant-loop-n : goal.invariant-loop-n
invariant-loop-n l = l.out ++ paired symbol_named (drop l.n l.names) (drop l.n l.types) ≡ paired symbol_named l.names l.types
