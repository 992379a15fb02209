use Rattle.std.proofs.Common.{◌≤◌, ap, arith, pos, length}
use Rattle.std.proofs.lemmas.List.{get_or_past}
use Rattle.mf_fraction.specs.Exact.{whole}
use Rattle.mf_task.specs.GroundMeaning.{form_at}
use Rattle.mf_task.specs.LinearForms.{constant_form}
use Rattle.mf_task.specs.Rows.{sight_of}
use Rattle.mf_limit.specs.Sets.{family_of}
use Rattle.mf_limit.proofs.KnownValues.{chance-beyond}
use Rattle.mf_limit.proofs.chance.chance_of_number.Goals as goal

pub returns-in-None : goal.returns-in-None
returns-in-None c =
    let task = c.args.scene.now.task.now in
    let few : length task.forms ≤ c.args.form = omega (arith, ap length c.as_slice.ensures, c.in-None.ensures.lookup.3) in
    chance-beyond (sight_of c.args.scene.now.row.now) (family_of c.args.sets.now) (form_at task c.args.form) (get_or_past task.forms c.args.form (constant_form (whole (pos 0))) few)
