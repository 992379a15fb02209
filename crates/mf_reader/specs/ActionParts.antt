-- How far the parts of an action are read.
use Rattle.std.specs.Prelude.{◌≡◌, List, Result, Ok, Err}
use Rattle.std.specs.Borrow.{Bor}
use Rattle.mf_model.specs.declared.tree.Tree.{Tree}
use Rattle.mf_reader.specs.declared.actions.Slots.{Slots}
use Rattle.mf_reader.specs.declared.fault.FormFault.{FormFault}
use Rattle.mf_reader.specs.Actions.{parts_from}
use Rattle.mf_reader.specs.Said.{Said, Refuses}

-- a call reads on: the parts and what it hands back give all that was to be read
abbrev pub GoesOn : Slots → Said Slots → Result (Bor (List Tree)) FormFault → Type 0
GoesOn slots all (Ok rest) = parts_from slots rest.now ≡ all
GoesOn slots all (Err fault) = Refuses fault all.faults
