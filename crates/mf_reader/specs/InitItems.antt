-- How far the init of a problem is read.
use Rattle.std.specs.Prelude.{◌≡◌, [], ◌∷◌, ◌++◌, Result, Ok, Err}
use Rattle.mf_reader.specs.declared.fault.FormFault.{FormFault}
use Rattle.mf_reader.specs.declared.fault.FormFault.TheVariants.{Memory}
use Rattle.mf_reader.specs.declared.inits.InitItem.{InitItem}
use Rattle.mf_reader.specs.declared.inits.InitItem.TheVariants.{Fact, Value}
use Rattle.mf_reader.specs.declared.inits.Starts.{Starts}

abbrev pub with_last : Starts → InitItem → Starts
with_last starts (Fact cond) = record starts { atoms = starts.atoms ++ cond ∷ [] }
with_last starts (Value value) = record starts { values = starts.values ++ value ∷ [] }

-- what was read so far, and then the rest
abbrev pub joined : Starts → Starts → Starts
joined front rest = record { atoms = front.atoms ++ rest.atoms; values = front.values ++ rest.values }

abbrev pub Adds : Result (Unit {0}) FormFault → Starts → Starts → Type 0
Adds (Ok done) new all = new ≡ all
Adds (Err fault) new all = fault ≡ Memory
