use Rattle.std.proofs.Common.{◌≡◌, ◌≤◌, length, drop}
use Rattle.std.specs.Cmp.Lexicographic.{slice_cmp}
use Rattle.std.specs.Ordering.{nat_cmp}
use Rattle.mf_model.specs.Views.{objects_of}
use Rattle.mf_eval.proofs.order.compare_objects.Given as goal

abbrev pub invariant-loop-at : goal.invariant-loop-at
invariant-loop-at l = record {
  within : l.at ≤ length l.terms;
  rest : slice_cmp nat_cmp (drop l.at l.objects) (objects_of l.binding (drop l.at l.terms)) ≡ slice_cmp nat_cmp l.objects (objects_of l.binding l.terms);
}
