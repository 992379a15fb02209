-- What a call that fills in a value answers: the value is whole where no fault stands, and else the first fault
-- is answered.
use Rattle.std.specs.Prelude.{◌≡◌, [], Result, Ok, Err}
use Rattle.mf_reader.specs.declared.fault.FormFault.{FormFault}
use Rattle.mf_reader.specs.Said.{Said, Refuses}

abbrev pub Fills : {A : Type 0} → Result (Unit {0}) FormFault → A → Said A → Type 0
Fills (Ok done) v x = (x.faults ≡ []) × (x.value ≡ v)
Fills (Err fault) v x = Refuses fault x.faults
