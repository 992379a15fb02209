use Rattle.mf_plain.specs.UnderWay.{IsUnderWay}
use Rattle.mf_plain.proofs.searching.search.Given as goal

abbrev pub invariant-loop-take : goal.invariant-loop-take
invariant-loop-take l = IsUnderWay l.task l.budget l._take l.progress
