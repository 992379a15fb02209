use Rattle.std.proofs.Common.{sym, ◌∙◌, ap, Option, Some, Ok, Bor}
use Rattle.std.specs.Option.{option_copied}
use Rattle.mf_fraction.specs.Exact.{Number}
use Rattle.mf_task.specs.declared.form.Form.{Form}
use Rattle.mf_task.specs.LinearForms.{form_value}
use Rattle.mf_task.specs.Rows.{sight_of}
use Rattle.mf_task.specs.Width as width
use Rattle.mf_state.specs.Answers.{answer_of}
use Rattle.mf_state.proofs.FormValues.{form_absent, value_of_zero}
use Rattle.mf_state.proofs.forms.numbered_value.Goals as goal

pub returns-in-None-clause-checked : goal.returns-in-None-clause-checked
returns-in-None-clause-checked c =
    ap (λ (a : Number). Ok (Some a)) c.zero.ensures
    ∙ sym (ap (λ (a : Form). answer_of (width.bounded_value (sight_of c.args.row.now).value a)) (form_absent c.args.task.now c.args.number (sym c.get.ensures.value ∙ ap (λ (o : Option (Bor Form)). option_copied o) c.in-None.is)))

pub returns-in-None-clause-exact : goal.returns-in-None-clause-exact
returns-in-None-clause-exact c =
    ap (λ (a : Number). Some a) c.zero.ensures
    ∙ value_of_zero
    ∙ sym (ap (λ (a : Form). form_value (sight_of c.args.row.now).value a) (form_absent c.args.task.now c.args.number (sym c.get.ensures.value ∙ ap (λ (o : Option (Bor Form)). option_copied o) c.in-None.is)))
