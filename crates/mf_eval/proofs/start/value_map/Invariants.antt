use Rattle.std.proofs.Common.{◌≡◌, [], drop, map}
use Rattle.std.specs.List.{fold}
use Rattle.mf_model.specs.States.{with_value}
use Rattle.mf_eval.specs.Entries.{as_valued}
use Rattle.mf_eval.proofs.start.value_map.Given as goal

abbrev pub invariant-loop-valued : goal.invariant-loop-valued
invariant-loop-valued l = fold with_value (map as_valued l.values.entries) (drop l.valued-index l.listed) ≡ fold with_value [] l.listed
