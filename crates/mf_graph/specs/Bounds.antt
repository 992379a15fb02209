-- A bound by the number that it keeps, of which there is none where it is endless.
use Rattle.std.specs.Prelude.{Option, Some, None, Result, Ok, Err}
use Rattle.mf_fraction.specs.declared.faults.Wide.{Wide}
use Rattle.mf_fraction.specs.Exact.{Number}
use Rattle.mf_task.specs.Layers.{Bound, Finite, Endless}

abbrev pub bound_of : Option Number → Bound
bound_of (Some a) = Finite a
bound_of None = Endless

abbrev pub number_of : Bound → Option Number
number_of (Finite a) = Some a
number_of Endless = None

abbrev pub of_outcome : Result Number Wide → Bound
of_outcome (Ok a) = Finite a
of_outcome (Err fault) = Endless
