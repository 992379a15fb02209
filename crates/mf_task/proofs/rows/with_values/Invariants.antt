use Rattle.std.proofs.Common.{◌≡◌, length, vec_capacity}
use Rattle.mf_task.specs.CaseRows.{children_with}
use Rattle.mf_task.proofs.rows.with_values.Given as goal

abbrev pub invariant-loop-offspring : goal.invariant-loop-offspring
invariant-loop-offspring l = record {
  made : l.children.items ≡ children_with l.yielded l.values;
  count : l.at ≡ length l.yielded;
  len : length l.children.items ≡ length l.yielded;
  room : vec_capacity l.children ≡ vec_capacity l.fn.children;
}
