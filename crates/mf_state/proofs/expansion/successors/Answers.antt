use Rattle.std.proofs.Common.{◌≡◌, ◌+◌, ◌++◌, List, drop, sym, ap, subst, ◌∙◌, get_or, ℕ, Some, length, ◌<◌}
use Rattle.std.proofs.lemmas.Option.{slice_get-get_or}
use Rattle.mf_task.specs.declared.ground.GroundAction.{GroundAction}
use Rattle.mf_task.specs.Rows.{sight_of}
use Rattle.mf_task.specs.Width.{way_out_from}
use Rattle.mf_state.specs.NextRows.{applicable_from, instances_of}
use Rattle.mf_state.proofs.Loops.{front_is, all_next, any_next}
use Rattle.mf_state.proofs.OneMore.{ended, further, instances_more}
use Rattle.mf_state.proofs.expansion.successors.Goals as goal

pub returns-in-Err : goal.returns-in-Err
returns-in-Err c =
    let task = c.args.task.now in
    let sight = sight_of c.args.row.now in
    let n : ℕ = c.loop-number.number in
    let are : c.as_slice-action-items.result.now ≡ task.actions = c.as_slice-action-items.ensures in
    let item = c.action-item.is ∙ ap (λ (l : List GroundAction). get_or l n c.action-item.result) are in
    let within : n < length task.actions = subst (λ (l : List GroundAction). n < length l) are c.loop-number-test.true in
    let front = front_is task.actions n c.action-item.result within item in
    ended task sight c.action-item.result n (drop (n + 1) task.actions) c.loop-number.list c.add_next.new.list c.in-Err.fault c.in-Err.ensures (sym (ap (way_out_from task sight n) front) ∙ c.loop-number.invariant.within)

pub loop-number-preserved : goal.loop-number-preserved
loop-number-preserved c =
    let task = c.args.task.now in
    let sight = sight_of c.args.row.now in
    let n : ℕ = c.loop-number.number in
    let rest : List GroundAction = drop (n + 1) task.actions in
    let are : c.as_slice-action-items.result.now ≡ task.actions = c.as_slice-action-items.ensures in
    let item = c.action-item.is ∙ ap (λ (l : List GroundAction). get_or l n c.action-item.result) are in
    let within : n < length task.actions = subst (λ (l : List GroundAction). n < length l) are c.loop-number-test.true in
    let front = front_is task.actions n c.action-item.result within item in
    let added = c.in-Ok.ensures in
    record {
      instances =
          instances_more task sight c.action-item.result n rest c.loop-number.list c.add_next.new.list added.instances
          ∙ sym (ap (λ (l : List GroundAction). instances_of c.loop-number.list ++ applicable_from task sight n l) front)
          ∙ c.loop-number.invariant.instances;
      within =
          sym (further task sight c.action-item.result n rest added.within)
          ∙ sym (ap (way_out_from task sight n) front)
          ∙ c.loop-number.invariant.within;
      rows = added.rows (slice_get-get_or task.actions n c.action-item.result within ∙ ap Some (sym item)) c.loop-number.invariant.rows;
      narrow = any_next _ task.actions n c.action-item.result front c.loop-number.invariant.narrow;
      sound = all_next _ task.actions n c.action-item.result front c.loop-number.invariant.sound;
    }
