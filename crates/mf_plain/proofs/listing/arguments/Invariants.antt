use Rattle.std.proofs.Common.{◌≡◌, [], drop}
use Rattle.std.specs.List.{flat_map}
use Rattle.mf_model.specs.Objects.{kinds_of, bindings}
use Rattle.mf_plain.proofs.listing.arguments.Given as goal

abbrev pub invariant-loop-types : goal.invariant-loop-types
invariant-loop-types l = flat_map (bindings (kinds_of l.task) (drop l._types-index l.parameters)) l.fronts ≡ bindings (kinds_of l.task) l.parameters []
