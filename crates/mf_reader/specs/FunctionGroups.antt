-- How far the functions of a domain are read.
use Rattle.std.specs.Prelude.{◌≡◌, List, Result, Ok, Err}
use Rattle.std.specs.Borrow.{Bor}
use Rattle.mf_model.specs.declared.token.Span.{Span}
use Rattle.mf_model.specs.declared.tree.Tree.{Tree}
use Rattle.mf_model.specs.declared.form.Header.{Header}
use Rattle.mf_reader.specs.declared.fault.FormFault.{FormFault}
use Rattle.mf_reader.specs.declared.functions.FunctionGroups.{FunctionGroups}
use Rattle.mf_reader.specs.Functions.{dash_from, functions_from}
use Rattle.mf_reader.specs.Said.{Said, Refuses, behind}

-- the functions that are read, and what follows them
abbrev pub from_groups : FunctionGroups → List Tree → Said (List Header)
from_groups groups ts = behind groups.done (functions_from groups.begun ts)

-- the same, where a `-` was read last
abbrev pub from_dash : FunctionGroups → Span → List Tree → Said (List Header)
from_dash groups dash ts = behind groups.done (dash_from groups.begun dash ts)

-- a call reads on: the functions and what it hands back give all that was to be read
abbrev pub GoesOn : FunctionGroups → Said (List Header) → Result (Bor (List Tree)) FormFault → Type 0
GoesOn groups all (Ok rest) = from_groups groups rest.now ≡ all
GoesOn groups all (Err fault) = Refuses fault all.faults
