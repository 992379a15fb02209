-- Where names are used.
use Rattle.std.specs.Prelude.{Bool, if◌then◌else◌, List, []}
use Rattle.mf_model.specs.declared.form.FileKind.{FileKind}
use Rattle.mf_types.specs.declared.least.Fault.{Fault}
use Rattle.mf_types.specs.declared.site.Site as code
use Rattle.mf_types.specs.Names.{Declared}
use Rattle.mf_types.specs.Tables.{declared_of}

-- what is declared, in which file, and whether products must be linear there
pub record Site : Type 0 where
  pub declared : Declared
  pub file : FileKind
  pub linear : Bool

-- what contracts see of a site
abbrev pub site_of : code.Site → Site
site_of site = record { declared = declared_of site.tables.now; file = site.file; linear = site.linear }

abbrev pub unless : Bool → List Fault → List Fault
unless holds faults = if holds then [] else faults
