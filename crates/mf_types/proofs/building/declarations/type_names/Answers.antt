use Rattle.std.proofs.Common.{rules, sym, get_or}
use Rattle.mf_types.proofs.Paired.{ends, stops, goes_on}
use Rattle.mf_types.specs.Tasks.{type_named}
use Rattle.mf_types.proofs.building.declarations.type_names.Goals as goal

pub returns-in_default : goal.returns-in_default
returns-in_default c = stops type_named c.loop-n.n c.args.names.now c.args.parents.now c.loop-n.out _ c.loop-n.invariant (sym c.in_default.ensures)

pub loop-n-preserved : goal.loop-n-preserved
loop-n-preserved c =
    let whole = goes_on type_named c.loop-n.n c.args.names.now c.args.parents.now c.loop-n.out _ c.in-Some.name.now (get_or c.args.parents.now c.loop-n.n 0) c.loop-n.invariant c.in-Some.ensures c.loop-n-test.true (search rules) in
    rw (c.in_ok-push.ensures.ok, c.in_ok-from_slice.ensures) whole

pub returns : goal.returns
returns c = ends type_named c.loop-n.n c.args.names.now c.args.parents.now c.loop-n.out _ c.loop-n.invariant c.loop-n-test.false
