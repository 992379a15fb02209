use Rattle.std.proofs.Common.{◌≡◌, ◌++◌, Some, drop}
use Rattle.mf_model.specs.Options.{◌>>=◌, each}
use Rattle.mf_types.specs.Names.{firsts}
use Rattle.mf_types.specs.Tables.{declared_of}
use Rattle.mf_types.specs.Tasks.{term_key, value_of, values_of}
use Rattle.mf_types.proofs.building.start.values.Given as goal

abbrev pub invariant-loop-raw : goal.invariant-loop-raw
invariant-loop-raw l =
    (each (value_of (declared_of l.tables)) (drop l.raw-index l.raws) >>= (λ others. Some (l.out ++ firsts term_key l.keys others)))
    ≡ values_of (declared_of l.tables) l.raws
