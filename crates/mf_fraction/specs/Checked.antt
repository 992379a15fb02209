-- What an operation answers: the exact result where it fits, else the fault.
use Rattle.std.specs.Prelude.{Option, Some, None, Result, Ok, Err, if◌then◌else◌}
use Rattle.mf_fraction.specs.declared.faults.Wide.{Wide}
use Rattle.mf_fraction.specs.declared.faults.DivFault.{DivFault}
use Rattle.mf_fraction.specs.declared.faults.DivFault.TheVariants as fault
use Rattle.mf_fraction.specs.Exact.{Number, fits}

abbrev pub wide : Wide
wide = record {}

unfoldable pub checked : Number → Result Number Wide
checked a = if fits a then Ok a else Err wide

-- of a quotient, which there may not be
unfoldable pub checked_quotient : Option Number → Result Number DivFault
checked_quotient None = Err fault.ZeroDivisor
checked_quotient (Some a) = if fits a then Ok a else Err fault.Wide
