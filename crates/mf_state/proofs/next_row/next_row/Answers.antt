use Rattle.std.proofs.Common.{refl, subst, sym, ap, List, ◌≡◌, false}
use Rattle.mf_task.specs.declared.ground.GroundEffect.{GroundEffect}
use Rattle.mf_task.specs.GroundMeaning.{ground_firing}
use Rattle.mf_task.specs.Rows.{sight_of}
use Rattle.mf_state.specs.Changing.{is_change_wide, values_in}
use Rattle.mf_state.proofs.NextSights.{IsMadeBy, leads_out_by, next_row_by}
use Rattle.mf_state.proofs.next_row.next_row.Goals as goal

pub returns-then-not-stays_narrow : goal.returns-then-not-stays_narrow
returns-then-not-stays_narrow c =
    let task = c.args.task.now in
    let sight = sight_of c.args.row.now in
    let done = c.in-Ok-change_values.ensures in
    let made =
    subst (λ (es : List GroundEffect). IsMadeBy task sight (ground_firing task sight es) c.in-Ok.next c.delete_atoms.new.next c.add_atoms.new.next c.change_values.new.next) c.as_slice-effects.ensures (record {
      old_is = ap sight_of (sym c.in-Ok.ensures);
      deleted_bits = c.delete_atoms.ensures.bits;
      deleted_values = c.delete_atoms.ensures.values;
      added_bits = c.add_atoms.ensures.bits;
      added_values = c.add_atoms.ensures.values;
      next_bits = done.bits;
      next_values = done.values;
    }) in (
      refl,
      leads_out_by task sight c.args.action.now c.in-Ok.next c.delete_atoms.new.next c.add_atoms.new.next c.change_values.new.next made c.stays_narrow.result c.stays_narrow.ensures c.if-not-stays_narrow.true,
    )

pub returns : goal.returns
returns c =
    let task = c.args.task.now in
    let sight = sight_of c.args.row.now in
    let done = c.in-Ok-change_values.ensures in
    let made =
    subst (λ (es : List GroundEffect). IsMadeBy task sight (ground_firing task sight es) c.in-Ok.next c.delete_atoms.new.next c.add_atoms.new.next c.change_values.new.next) c.as_slice-effects.ensures (record {
      old_is = ap sight_of (sym c.in-Ok.ensures);
      deleted_bits = c.delete_atoms.ensures.bits;
      deleted_values = c.delete_atoms.ensures.values;
      added_bits = c.add_atoms.ensures.bits;
      added_values = c.add_atoms.ensures.values;
      next_bits = done.bits;
      next_values = done.values;
    }) in
    let within =
    subst (λ (es : List GroundEffect). false ≡ is_change_wide task sight (values_in c.add_atoms.new.next.values) (ground_firing task sight es)) c.as_slice-effects.ensures done.width in
    next_row_by task sight c.args.action.now c.in-Ok.next c.delete_atoms.new.next c.add_atoms.new.next c.change_values.new.next made c.stays_narrow.result c.stays_narrow.ensures c.change_values.ensures.shape within c.if-not-stays_narrow.false
