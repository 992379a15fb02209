use Rattle.std.proofs.Common.{◌≡◌, ◌≤◌, length, drop}
use Rattle.mf_model.specs.States.{numbers_before}
use Rattle.mf_plain.proofs.order.objects_before.Given as goal

abbrev pub invariant-loop-i : goal.invariant-loop-i
invariant-loop-i l = record { within : l.i ≤ length l.right; rest : numbers_before (drop l.i l.left) (drop l.i l.right) ≡ numbers_before l.left l.right }
