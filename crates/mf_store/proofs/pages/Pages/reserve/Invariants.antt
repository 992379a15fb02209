use Rattle.std.proofs.Common.{◌≡◌, ◌≤◌, ◌+◌, ◌*◌}
use Rattle.mf_store.proofs.pages.Pages.reserve.Given as goal

abbrev pub invariant-loop : goal.invariant-loop
invariant-loop l = record {
  width : l.self.width ≡ l.fn.self.width;
  strips : l.self.strips ≡ l.fn.self.strips;
  room : l.fn.self.room + 1024 * l.counter ≤ l.self.room;
}
