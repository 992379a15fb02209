use Rattle.std.proofs.Common.{◌≡◌, ◌++◌, map, take}
use Rattle.mf_model.specs.Resolution.{typed_names}
use Rattle.mf_types.specs.Scopes.{variable_of}
use Rattle.mf_types.proofs.scope.enter.Given as goal

abbrev pub invariant-loop-n : goal.invariant-loop-n
invariant-loop-n l = l.scope ≡ l.fn.scope ++ map (variable_of l.tables.types l.items) (take l.n (typed_names l.items))
