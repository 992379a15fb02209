-- Where no fault stands in the declarations of two files, none stands in any of their lists.
use Rattle.std.proofs.Common.{◌≡◌, [], ◌++◌}
use Rattle.mf_model.specs.declared.form.Domain.{Domain}
use Rattle.mf_model.specs.declared.form.Problem.{Problem}
use Rattle.mf_types.specs.DeclarationFaults.{type_list_faults, object_faults, header_list_faults, action_list_faults, declaration_faults_in}
use Rattle.mf_types.specs.Names.{Declared}
use Rattle.mf_types.specs.StartValues.{value_faults}
use Rattle.mf_types.specs.Uses.{in_domain}
use Rattle.mf_types.proofs.There.{first_empty, second_empty}

pub record AreFaultless (declared : Declared) (d : Domain) (p : Problem) : Type 0 where
  pub types : type_list_faults declared d.types ≡ []
  pub objects : object_faults declared d.constants p.objects ≡ []
  pub predicates : header_list_faults (in_domain declared) d.predicates ≡ []
  pub functions : header_list_faults (in_domain declared) d.functions ≡ []
  pub actions : action_list_faults (in_domain declared) d.actions ≡ []
  pub values : value_faults p.values ≡ []

pub faultless_lists : (declared : Declared) (d : Domain) (p : Problem) → declaration_faults_in declared d p ≡ [] → AreFaultless declared d p
faultless_lists declared d p e =
    let site = in_domain declared in
    let types = type_list_faults declared d.types in
    let objects = object_faults declared d.constants p.objects in
    let predicates = header_list_faults site d.predicates in
    let functions = header_list_faults site d.functions in
    let actions = action_list_faults site d.actions in
    let to_actions = first_empty ((((types ++ objects) ++ predicates) ++ functions) ++ actions) _ e in
    let to_functions = first_empty (((types ++ objects) ++ predicates) ++ functions) _ to_actions in
    let to_predicates = first_empty ((types ++ objects) ++ predicates) _ to_functions in
    let to_objects = first_empty (types ++ objects) _ to_predicates in
    record {
      types = first_empty types _ to_objects;
      objects = second_empty types _ to_objects;
      predicates = second_empty (types ++ objects) _ to_predicates;
      functions = second_empty ((types ++ objects) ++ predicates) _ to_functions;
      actions = second_empty (((types ++ objects) ++ predicates) ++ functions) _ to_actions;
      values = second_empty ((((types ++ objects) ++ predicates) ++ functions) ++ actions) _ e;
    }
