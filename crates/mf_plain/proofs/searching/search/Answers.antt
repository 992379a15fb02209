use Rattle.std.proofs.Common.{◌≡◌, Option, Some, subst}
use Rattle.mf_search.specs.declared.status.Status.{Status}
use Rattle.mf_plain.specs.UnderWay.{IsNext}
use Rattle.mf_plain.proofs.searching.search.Goals as goal

pub returns-in-Some : goal.returns-in-Some
returns-in-Some c =
    let is : c.in_ok-status.field-0 ≡ Some c.in-Some.status = c.in-Some.is in
    subst (λ (found : Option Status). IsNext c.args.task.now c.args.budget c.loop-take._take c.advance.new.progress found) is (c.in_ok-status.ensures c.args.budget c.loop-take._take c.loop-take-test.true c.loop-take.invariant)

pub loop-take-preserved : goal.loop-take-preserved
loop-take-preserved c =
    subst (λ (found : Option Status). IsNext c.args.task.now c.args.budget c.loop-take._take c.advance.new.progress found) c.in_default.is (c.in_ok-status.ensures c.args.budget c.loop-take._take c.loop-take-test.true c.loop-take.invariant)
