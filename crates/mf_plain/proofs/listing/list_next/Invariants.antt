use Rattle.std.proofs.Common.{◌≡◌, ◌++◌}
use Rattle.mf_plain.specs.Listing.{numbers_from, with_next}
use Rattle.mf_plain.proofs.listing.list_next.Given as goal

abbrev pub invariant-loop-object : goal.invariant-loop-object
invariant-loop-object l = l.out ≡ l.fn.out ++ with_next (numbers_from 0 l.object) l.front
