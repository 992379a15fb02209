-- The layer that flags and ranges in lists are.
use Rattle.std.specs.Prelude.{true, false, get_or, None}
use Rattle.mf_task.specs.Layers as layers
use Rattle.mf_graph.specs.declared.layer.Layer.{Layer}

abbrev pub shown : Layer → layers.Layer
shown layer = record {
  possible = λ atom. get_or layer.possible atom false;
  possibly_false = λ atom. get_or layer.possibly_false atom true;
  range = λ term. get_or layer.ranges term None;
}
