-- How far a typed list is read.
use Rattle.std.specs.Prelude.{◌≡◌, List, map, Result, Ok, Err}
use Rattle.std.specs.Borrow.{Bor}
use Rattle.mf_model.specs.declared.token.Span.{Span}
use Rattle.mf_model.specs.declared.tree.Tree.{Tree}
use Rattle.mf_model.specs.declared.form.Typed.{Typed}
use Rattle.mf_reader.specs.declared.fault.FormFault.{FormFault}
use Rattle.mf_reader.specs.declared.typed.Groups.{Groups}
use Rattle.mf_reader.specs.declared.typed.Listed.{Listed}
use Rattle.mf_reader.specs.Places.{Seen}
use Rattle.mf_reader.specs.Said.{Said, Refuses, behind}
use Rattle.mf_reader.specs.Seen.{seen}
use Rattle.mf_reader.specs.Typed.{dash_from, group_from}

-- the groups that are read, and what follows them
abbrev pub from_groups : Listed → Groups → List Seen → Said (List Typed)
from_groups listed groups ss = behind groups.done (group_from listed groups.pending ss)

-- the same, where a `-` was read last
abbrev pub from_dash : Listed → Groups → Span → List Seen → Said (List Typed)
from_dash listed groups dash ss = behind groups.done (dash_from listed groups.pending dash ss)

-- a call reads on: the groups and what it hands back give all that was to be read
abbrev pub GoesOn : Listed → Groups → Said (List Typed) → Result (Bor (List Tree)) FormFault → Type 0
GoesOn listed groups all (Ok rest) = from_groups listed groups (map seen rest.now) ≡ all
GoesOn listed groups all (Err fault) = Refuses fault all.faults
