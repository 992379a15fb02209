use Rattle.std.proofs.Common.{◌≡◌, map, length}
use Rattle.mf_reader.specs.Groups.{from_groups}
use Rattle.mf_reader.specs.Seen.{seen}
use Rattle.mf_reader.specs.Typed.{typed_list}
use Rattle.mf_reader.proofs.typed.typed_list.Given as goal

abbrev pub invariant-loop-items : goal.invariant-loop-items
invariant-loop-items l = from_groups l.listed l.groups (map seen l.items) ≡ typed_list l.listed (map seen l.fn.items)

abbrev pub decreases-loop-items : goal.decreases-loop-items
decreases-loop-items l = length l.items
