use Rattle.mf_fraction.proofs.DecimalValues.{not_a_number}
use Rattle.mf_fraction.proofs.laws.reading_laws.Goals as goal

pub returns : goal.returns
returns c = not_a_number
