use Rattle.std.proofs.Common.{◌≡◌, ◌++◌}
use Rattle.mf_plain.specs.Listing.{of_action}
use Rattle.mf_plain.proofs.listing.list_action.Given as goal

abbrev pub invariant-loop-objects : goal.invariant-loop-objects
invariant-loop-objects l = l.out ≡ l.fn.out ++ of_action l.action l.yielded
