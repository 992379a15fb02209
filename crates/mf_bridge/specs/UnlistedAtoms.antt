-- Atoms that no row has a bit for.
use Rattle.std.specs.Prelude.{◌≡◌, false, length}
use Rattle.mf_task.specs.Grounding.{Numbering}
use Rattle.mf_task.specs.Rows.{Sight}

-- the bit past those of all atoms, which stands for each atom that is none of them, is not set
abbrev pub HidesUnlistedAtoms : Numbering → Sight → Type 0
HidesUnlistedAtoms numbering sight = sight.bit (length numbering.atoms) ≡ false
