use Rattle.std.proofs.Common.{◌≡◌, drop, map}
use Rattle.std.specs.List.{flat_map}
use Rattle.mf_types.specs.Names.{changed_by}
use Rattle.mf_types.specs.Tables.{entered}
use Rattle.mf_types.proofs.changed.+add_changed.Given as goal

abbrev pub invariant-add_changed_by_all-loop-effect : goal.invariant-add_changed_by_all-loop-effect
invariant-add_changed_by_all-loop-effect l =
    entered l.names (flat_map (λ names. names) (map changed_by (drop l.effect-index l.effects))) ≡ entered l.fn.names (flat_map (λ names. names) (map changed_by l.effects))
