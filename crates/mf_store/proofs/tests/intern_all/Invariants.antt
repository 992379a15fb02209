use Rattle.std.proofs.Common.{◌≡◌, length}
use Rattle.mf_store.proofs.tests.intern_all.Given as goal

abbrev pub invariant-loop-number : goal.invariant-loop-number
invariant-loop-number g l = record {
  words : (l.store.word_count ≡ 3) × (length l.row.bits ≡ 3);
  values : length l.row.values ≡ l.store.value_count;
}
