-- Faults of the declarations of a domain and a problem, and of the start values.
use Rattle.std.specs.Prelude.{List, [], ◌++◌}
use Rattle.std.specs.List.{flat_map}
use Rattle.mf_model.specs.declared.form.Domain.{Domain}
use Rattle.mf_model.specs.declared.form.FileKind.TheVariants.{DomainFile}
use Rattle.mf_model.specs.declared.form.Header.{Header}
use Rattle.mf_model.specs.declared.form.Problem.{Problem}
use Rattle.mf_model.specs.declared.form.RawAction.{RawAction}
use Rattle.mf_model.specs.declared.form.Typed.{Typed}
use Rattle.mf_types.specs.declared.least.Fault.{Fault}
use Rattle.mf_types.specs.Cycles.{cycle_faults}
use Rattle.mf_types.specs.Declarations.{action_words, beyond, header_words, item_words, list_faults, most_actions, most_parameters, most_symbols, object_list_faults, repeats}
use Rattle.mf_types.specs.Names.{Declared, kept_types, type_firsts}
use Rattle.mf_types.specs.Quantified.{item_faults}
use Rattle.mf_types.specs.Sites.{Site}
use Rattle.mf_types.specs.StartValues.{value_faults}
use Rattle.mf_types.specs.Uses.{in_domain, in_problem}

-- types count in the order in which they first stand, as item or as parent
abbrev pub type_list_faults : Declared → List Typed → List Fault
type_list_faults declared items =
    repeats DomainFile [] (item_words (kept_types items)) ++ beyond DomainFile most_symbols (type_firsts items) ++ cycle_faults declared items

abbrev pub parameter_faults : Site → List Typed → List Fault
parameter_faults site items = list_faults DomainFile most_parameters (item_words items) ++ flat_map (item_faults site) items

abbrev pub header_parameter_faults : Site → Header → List Fault
header_parameter_faults site h = parameter_faults site h.parameters

-- predicates or functions
abbrev pub header_list_faults : Site → List Header → List Fault
header_list_faults site headers = list_faults DomainFile most_symbols (header_words headers) ++ flat_map (header_parameter_faults site) headers

abbrev pub action_parameter_faults : Site → RawAction → List Fault
action_parameter_faults site a = parameter_faults site a.parameters

abbrev pub action_list_faults : Site → List RawAction → List Fault
action_list_faults site actions = list_faults DomainFile most_actions (action_words actions) ++ flat_map (action_parameter_faults site) actions

abbrev pub object_faults : Declared → List Typed → List Typed → List Fault
object_faults declared constants objects =
    object_list_faults (item_words constants) (item_words objects)
    ++ flat_map (item_faults (in_domain declared)) constants
    ++ flat_map (item_faults (in_problem declared)) objects

abbrev pub declaration_faults_in : Declared → Domain → Problem → List Fault
declaration_faults_in declared d p =
    type_list_faults declared d.types
    ++ object_faults declared d.constants p.objects
    ++ header_list_faults (in_domain declared) d.predicates
    ++ header_list_faults (in_domain declared) d.functions
    ++ action_list_faults (in_domain declared) d.actions
    ++ value_faults p.values
