use Rattle.std.proofs.Common.{sym, ◌∙◌}
use Rattle.mf_plain.proofs.Placing.{place_there}
use Rattle.mf_plain.proofs.order.place_of.Goals as goal

pub returns-then-same : goal.returns-then-same
returns-then-same c =
    c.loop-i.invariant
    ∙ place_there c.args.atoms.now c.args.atom.now c.index-atoms-i.result c.loop-i.i c.loop-i-test.true c.index-atoms-i.is (sym c.same.ensures ∙ c.if-same.true)
