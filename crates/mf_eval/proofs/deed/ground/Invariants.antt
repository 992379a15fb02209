use Rattle.std.proofs.Common.{◌≡◌, take}
use Rattle.mf_model.specs.Views.{objects_of}
use Rattle.mf_eval.proofs.deed.ground.Given as goal

abbrev pub invariant-loop-term : goal.invariant-loop-term
invariant-loop-term l = l.objects.items ≡ objects_of l.binding (take l.term-index l.terms)
