use Rattle.std.proofs.Common.{◌≡◌, drop}
use Rattle.mf_model.specs.Plain.{are_plain_terms}
use Rattle.mf_plain.proofs.searchable.are_plain_terms.Given as goal

abbrev pub invariant-loop-term : goal.invariant-loop-term
invariant-loop-term l = are_plain_terms l.variables l.objects (drop l.term-index l.terms) ≡ are_plain_terms l.variables l.objects l.terms
