-- Values as entries of a map from terms to numbers.
use Rattle.mf_fraction.specs.Exact.{Number}
use Rattle.mf_model.specs.declared.task.Cell.{Cell}
use Rattle.mf_model.specs.declared.task.Valued.{Valued}

abbrev pub as_valued : Cell × Number → Valued
as_valued entry = record { cell = entry.0; value = entry.1 }
