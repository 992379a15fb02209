use Rattle.std.proofs.Common.{take}
use Rattle.mf_types.proofs.Marked.{AreMarked}
use Rattle.mf_types.proofs.marks.mark_above.Given as goal

abbrev pub invariant-loop-own : goal.invariant-loop-own
invariant-loop-own l = AreMarked l.parents (take l.own-index l.types) l.marks.items
