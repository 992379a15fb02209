use Rattle.std.proofs.Common.{◌≡◌, take}
use Rattle.mf_plain.specs.Listing.{numbers_from, extended}
use Rattle.mf_plain.proofs.listing.extend.Given as goal

abbrev pub invariant-loop-front : goal.invariant-loop-front
invariant-loop-front l = l.out ≡ extended (numbers_from 0 l.count) (take l.front-index l.fronts)
