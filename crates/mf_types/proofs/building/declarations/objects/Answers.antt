use Rattle.std.proofs.Common.{sym}
use Rattle.mf_types.proofs.Paired.{ends, stops, goes_on}
use Rattle.mf_types.specs.Tasks.{object_named}
use Rattle.mf_types.proofs.building.declarations.objects.Goals as goal

pub returns-in_default : goal.returns-in_default
returns-in_default c = stops object_named c.loop-n.n c.args.names.now c.args.types.now c.loop-n.out _ c.loop-n.invariant (sym c.in_default.ensures)

pub loop-n-preserved : goal.loop-n-preserved
loop-n-preserved c =
    let whole = goes_on object_named c.loop-n.n c.args.names.now c.args.types.now c.loop-n.out _ c.in-Some.name.now c.index-types-n.result c.loop-n.invariant c.in-Some.ensures c.loop-n-test.true c.index-types-n.is in
    rw (c.in_ok-push.ensures.ok, c.in_ok-from_slice.ensures, c.in_ok-narrow.ensures, c.numbers.ensures) whole

pub returns : goal.returns
returns c = ends object_named c.loop-n.n c.args.names.now c.args.types.now c.loop-n.out _ c.loop-n.invariant c.loop-n-test.false
