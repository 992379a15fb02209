use Rattle.std.proofs.Common.{◌≡◌, [], drop}
use Rattle.mf_ground.specs.Statics.{touched_in, with_numbers}
use Rattle.mf_ground.proofs.touched.touched_predicates.Given as goal

abbrev pub invariant-loop-action : goal.invariant-loop-action
invariant-loop-action l = with_numbers l.touched (touched_in (drop l.action-index l.actions)) ≡ with_numbers [] (touched_in l.actions)
