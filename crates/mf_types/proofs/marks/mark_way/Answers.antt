use Rattle.std.proofs.Common.{rules, ◌≡◌, ◌<◌, length, true}
use Rattle.mf_types.specs.Marks.{is_marked}
use Rattle.mf_types.proofs.Marked.{way_ends_at_a_mark, way_ends_at_the_top, way_goes_on}
use Rattle.mf_types.proofs.marks.mark_way.Goals as goal

pub returns-in-Some-true : goal.returns-in-Some-true
returns-in-Some-true c =
    let met : is_marked c.loop-step.marks c.loop-step.current ≡ true = search rules in
    way_ends_at_a_mark c.args.parents.now c.args.from c.loop-step._step c.loop-step.current c.args.marks.now c.loop-step.marks c.loop-step.invariant met

pub returns-then-current-eq0 : goal.returns-then-current-eq0
returns-then-current-eq0 c =
    let within : c.loop-step.current < length c.loop-step.marks = search rules in
    way_ends_at_the_top c.args.parents.now c.args.from c.loop-step._step c.loop-step.current c.args.marks.now c.loop-step.marks c.loop-step.invariant c.loop-step-test.true within c.if-current-eq0.true

pub loop-step-preserved : goal.loop-step-preserved
loop-step-preserved c =
    let within : c.loop-step.current < length c.loop-step.marks = search rules in
    rw c.number_at-current.ensures
    (way_goes_on c.args.parents.now c.args.from c.loop-step._step c.loop-step.current c.args.marks.now c.loop-step.marks c.loop-step.invariant c.loop-step-test.true within c.if-current-eq0.false)
