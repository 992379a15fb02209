use Rattle.std.proofs.Common.{◌≡◌, drop}
use Rattle.mf_task.specs.Layers.{form_range}
use Rattle.mf_graph.specs.LayerLists.{shown}
use Rattle.mf_graph.proofs.Ranges.{range_on}
use Rattle.mf_graph.proofs.range.form_range.Given as goal

abbrev pub invariant-loop-part : goal.invariant-loop-part
invariant-loop-part l = range_on (shown l.layer) l.low l.high (drop l.part-index l.form.parts) ≡ form_range (shown l.layer) l.form
