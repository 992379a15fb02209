use Rattle.mf_reader.proofs.LawForms.{read_lists}
use Rattle.mf_reader.proofs.TypedReadings.{variables_read, objects_read, subtypes_read}
use Rattle.mf_reader.specs.GrammarTerms.{AreObjects, AreSubtypes, AreVariables}
use Rattle.mf_reader.specs.Typed.{typed_names, typed_types, typed_variables}
use Rattle.mf_reader.proofs.laws.typed_lists_are_read.Goals as goal

pub returns-clause-variables : goal.returns-clause-variables
returns-clause-variables c = read_lists typed_variables AreVariables variables_read

pub returns-clause-objects : goal.returns-clause-objects
returns-clause-objects c = read_lists typed_names AreObjects objects_read

pub returns-clause-types : goal.returns-clause-types
returns-clause-types c = read_lists typed_types AreSubtypes subtypes_read
