use Rattle.std.proofs.Common.{◌≡◌, ◌++◌, drop}
use Rattle.mf_model.specs.Application.{instances_from}
use Rattle.mf_model.specs.Objects.{kinds_of}
use Rattle.mf_plain.proofs.listing.instances.Given as goal

abbrev pub invariant-loop-number : goal.invariant-loop-number
invariant-loop-number l = l.out ++ instances_from (kinds_of l.task) l.number (drop l.number l.action-items) ≡ instances_from (kinds_of l.task) 0 l.action-items
