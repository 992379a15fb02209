use Rattle.std.proofs.Common.{◌≡◌, drop}
use Rattle.mf_model.specs.Plain.{are_below}
use Rattle.mf_plain.proofs.searchable.are_below.Given as goal

abbrev pub invariant-loop-number : goal.invariant-loop-number
invariant-loop-number l = are_below l.objects (drop l.number-index l.numbers) ≡ are_below l.objects l.numbers
