use Rattle.std.proofs.Common.{◌-◌, length, take}
use Rattle.mf_permits.specs.Tables.{HasRoom, IsWhole, OpensList}
use Rattle.mf_permits.proofs.opening.open_children.Given as goal

abbrev pub invariant-loop-child : goal.invariant-loop-child
invariant-loop-child g l = record {
  whole : IsWhole g.N.Naming.case l.tables;
  room : HasRoom (length l.children - l.child-index) l.tables;
  opened : OpensList g.N.Naming.case l.parent (take l.child-index l.children) l.fn.tables l.tables;
}
