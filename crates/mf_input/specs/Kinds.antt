-- Each fault of a reader as a refusal: its kind, and where it starts.
use Rattle.std.specs.Prelude.{ℕ}
use Rattle.mf_model.specs.declared.form.FileKind.{FileKind}
use Rattle.mf_lex.specs.declared.fault.LexFault.{LexFault}
use Rattle.mf_lex.specs.declared.fault.LexFault.TheVariants as lex
use Rattle.mf_lex.specs.declared.fault.TreeFault.{TreeFault}
use Rattle.mf_lex.specs.declared.fault.TreeFault.TheVariants as tree
use Rattle.mf_reader.specs.declared.fault.FormFault.{FormFault}
use Rattle.mf_reader.specs.declared.fault.FormFault.TheVariants as form
use Rattle.mf_types.specs.declared.fault.NameFault.{NameFault}
use Rattle.mf_types.specs.declared.fault.NameFault.TheVariants as name
use Rattle.mf_input.specs.declared.refusal.RefusalKind.{RefusalKind}
use Rattle.mf_input.specs.declared.refusal.RefusalKind.TheVariants.{BadByte, WordTooLong, Unbalanced, TooDeep, UnknownRequirement, LeftOut, BadForm, DeclaredTwice, TypeCycle, UnknownName, WrongCount, WrongType, TooMany, WideNumber, NotLinear}
use Rattle.mf_input.specs.declared.refusal.FileFault.{FileFault}
use Rattle.mf_input.specs.declared.refusal.FileFault.TheVariants.{Refused, Memory}
use Rattle.mf_input.specs.declared.refusal.InputFault.{InputFault}
use Rattle.mf_input.specs.declared.refusal.InputFault.TheVariants as input

abbrev pub lex_refusal : LexFault → FileFault
lex_refusal (lex.BadByte at) = Refused BadByte at
lex_refusal (lex.TooLong at) = Refused WordTooLong at
lex_refusal lex.Memory = Memory

abbrev pub tree_refusal : TreeFault → FileFault
tree_refusal (tree.Unbalanced at) = Refused Unbalanced at
tree_refusal (tree.TooDeep at) = Refused TooDeep at
tree_refusal tree.Memory = Memory

abbrev pub form_refusal : FormFault → FileFault
form_refusal (form.UnknownRequirement span) = Refused UnknownRequirement span.start
form_refusal (form.LeftOut span) = Refused LeftOut span.start
form_refusal (form.BadForm span) = Refused BadForm span.start
form_refusal form.Memory = Memory

abbrev pub refused_at : FileKind → RefusalKind → ℕ → InputFault
refused_at file kind at = input.Refused (record { file = file; kind = kind; at = at })

abbrev pub file_refusal : FileKind → FileFault → InputFault
file_refusal file (Refused kind at) = refused_at file kind at
file_refusal file Memory = input.Memory

abbrev pub name_refusal : NameFault → InputFault
name_refusal (name.Twice file span) = refused_at file DeclaredTwice span.start
name_refusal (name.TypeCycle file span) = refused_at file TypeCycle span.start
name_refusal (name.UnknownName file span) = refused_at file UnknownName span.start
name_refusal (name.WrongCount file span) = refused_at file WrongCount span.start
name_refusal (name.WrongType file span) = refused_at file WrongType span.start
name_refusal (name.TooMany file span) = refused_at file TooMany span.start
name_refusal (name.WideNumber file span) = refused_at file WideNumber span.start
name_refusal (name.NotLinear file span) = refused_at file NotLinear span.start
name_refusal name.Memory = input.Memory
