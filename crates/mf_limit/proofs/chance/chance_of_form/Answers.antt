use Rattle.mf_task.specs.Rows.{sight_of}
use Rattle.mf_limit.specs.Sets.{family_of}
use Rattle.mf_limit.proofs.KnownValues.{chances-are}
use Rattle.mf_limit.proofs.chance.chance_of_form.Goals as goal

pub returns : goal.returns
returns c =
    chances-are (sight_of c.args.row.now) (family_of c.args.sets.now) c.args.form.now c.as_slice-parts.result.now c.as_slice-parts.ensures c.may_be_defined.result c.may_be_defined.ensures c.known_value.result c.known_value.ensures
    c.sign_of_known.result c.sign_of_known.ensures c.may_go_up.result c.may_go_up.ensures c.may_go_down.result c.may_go_down.ensures
