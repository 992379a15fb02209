use Rattle.std.proofs.Common.{sym, ◌∙◌, ap, List}
use Rattle.mf_task.specs.declared.form.Part.{Part}
use Rattle.mf_task.specs.Rows.{sight_of}
use Rattle.mf_task.specs.Width as width
use Rattle.mf_state.proofs.FormValues.{form-undefined}
use Rattle.mf_state.proofs.forms.value_of_form.Goals as goal

pub returns-then-not-are_defined-clause-exact : goal.returns-then-not-are_defined-clause-exact
returns-then-not-are_defined-clause-exact c =
    let value = (sight_of c.args.row.now).value in
    sym (form-undefined value c.args.form.now (sym (ap (λ (ps : List Part). width.all_defined value ps) c.as_slice.ensures) ∙ sym c.are_defined.ensures ∙ c.if-not-are_defined.true))
