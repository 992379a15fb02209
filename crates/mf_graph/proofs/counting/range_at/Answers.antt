use Rattle.std.proofs.Common.{None, Some, Option, ap, ap₂, sym, pos, ◌∙◌}
use Rattle.std.specs.Option.{option_copied}
use Rattle.mf_fraction.specs.Exact.{whole}
use Rattle.mf_task.specs.declared.form.Form.{Form}
use Rattle.mf_task.specs.LinearForms.{constant_form}
use Rattle.mf_task.specs.Layers.{Bound, Range, form_range}
use Rattle.mf_graph.specs.LayerLists.{shown}
use Rattle.mf_graph.proofs.Lists.{get_or_none}
use Rattle.mf_graph.proofs.counting.range_at.Goals as goal

between : Bound → Bound → Option Range
between low high = Some (record { low = low; high = high })

pub returns-in-None : goal.returns-in-None
unfolding between
returns-in-None c =
    ap (λ (r : Range). Some r) c.new.ensures
    ∙ ap₂ between c.zero.ensures c.zero-in-None.ensures
    ∙ ap (λ (a : Form). form_range (shown c.args.layer.now) a) (get_or_none c.args.task.now.forms c.args.number (constant_form (whole (pos 0))) (sym c.get.ensures.value ∙ ap option_copied c.in-None.is))
