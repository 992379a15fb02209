use Rattle.std.proofs.Common.{None, Some, Option, ap, sym, pos, ◌∙◌}
use Rattle.std.specs.Option.{option_copied}
use Rattle.mf_fraction.specs.Exact.{Number, whole}
use Rattle.mf_task.specs.declared.form.Form.{Form}
use Rattle.mf_task.specs.LinearForms.{constant_form}
use Rattle.mf_task.specs.Layers.{constant_alone}
use Rattle.mf_graph.proofs.Lists.{get_or_none}
use Rattle.mf_graph.proofs.counting.constant_at.Goals as goal

pub returns-in-None : goal.returns-in-None
returns-in-None c =
    ap (λ (a : Number). Some a) c.zero_number.ensures
    ∙ ap (λ (a : Form). constant_alone a.constant a.parts) (get_or_none c.args.task.now.forms c.args.number (constant_form (whole (pos 0))) (sym c.get.ensures.value ∙ ap option_copied c.in-None.is))
