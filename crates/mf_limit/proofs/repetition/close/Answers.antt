use Rattle.std.proofs.Common.{◌≡◌, subst, ℕ, arith}
use Rattle.mf_task.specs.LimitClosure.{round_count}
use Rattle.mf_task.specs.Rows.{sight_of}
use Rattle.mf_limit.proofs.Closing.{IsUnderway, ended, ended-all, underway-first, underway-next}
use Rattle.mf_limit.proofs.repetition.close.Goals as goal

pub loop-round-init : goal.loop-round-init
loop-round-init c = underway-first c.args.scene.now.task.now (sight_of c.args.scene.now.row.now) c.requires.numbered c.args.sets.now c.requires.sizes c.requires.first

pub add_round-requires-clause-sizes : goal.add_round-requires-clause-sizes
add_round-requires-clause-sizes c = c.loop-round.invariant.sizes

pub returns-then-not-add_round : goal.returns-then-not-add_round
returns-then-not-add_round c =
    ended c.args.scene.now.task.now (sight_of c.args.scene.now.row.now) c.requires.numbered c.loop-round.sets c.add_round.new.sets c.add_round.result c.add_round.ensures c.loop-round._round c.loop-round.invariant c.if-not-add_round.true

pub loop-round-preserved : goal.loop-round-preserved
loop-round-preserved c =
    underway-next c.args.scene.now.task.now (sight_of c.args.scene.now.row.now) c.requires.numbered c.loop-round.sets c.add_round.new.sets c.add_round.result c.add_round.ensures c.loop-round._round c.loop-round.invariant

pub returns : goal.returns
returns c =
    let task = c.args.scene.now.task.now in
    let sight = sight_of c.args.scene.now.row.now in
    let count : c.loop-round._round ≡ round_count task = omega (arith, c.loop-round-test.false, c.loop-round.auto._round-end, c.len-atoms.ensures, c.len-terms.ensures) in
    ended-all task sight c.requires.numbered c.loop-round.sets (subst (λ (n : ℕ). IsUnderway task sight n c.loop-round.sets) count c.loop-round.invariant)
