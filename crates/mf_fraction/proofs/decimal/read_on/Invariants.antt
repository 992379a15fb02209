use Rattle.std.proofs.Common.{◌≡◌, ◌≤◌, ◌*◌, ◌^◌, drop}
use Rattle.mf_fraction.specs.Within.{continued}
use Rattle.mf_fraction.proofs.decimal.read_on.Given as goal

abbrev pub invariant-loop-digit : goal.invariant-loop-digit
invariant-loop-digit l = record {
  small : l.size ≤ 2 ^ 62 * 10 ^ 18;
  whole : continued l.size (drop l.digit-index l.digits) ≡ continued l.fn.start l.digits;
}
