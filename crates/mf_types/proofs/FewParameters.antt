-- Where no list of parameters goes beyond its limit, each predicate, function and action has at most 32 parameters.
use Rattle.std.proofs.Common.{◌≡◌, ℕ, ◌≤◌, List, [], length, map, sym, subst, arith, All}
use Rattle.std.proofs.lemmas.List.{length-map}
use Rattle.std.proofs.lemmas.List.Elements.{All-map}
use Rattle.mf_model.specs.declared.form.FileKind.TheVariants.{DomainFile}
use Rattle.mf_model.specs.declared.form.Domain.{Domain}
use Rattle.mf_model.specs.declared.form.Header.{Header}
use Rattle.mf_model.specs.declared.form.Problem.{Problem}
use Rattle.mf_model.specs.declared.form.RawAction.{RawAction}
use Rattle.mf_model.specs.declared.form.Typed.{Typed}
use Rattle.mf_model.specs.declared.task.Action.{Action}
use Rattle.mf_model.specs.declared.task.Symbol.{Symbol}
use Rattle.mf_model.specs.declared.task.TypedTask.{TypedTask}
use Rattle.mf_types.specs.AllFaults.{faults_of}
use Rattle.mf_types.specs.DeclarationFaults.{parameter_faults, header_parameter_faults, header_list_faults, action_parameter_faults, action_list_faults, declaration_faults_in}
use Rattle.mf_types.specs.Declarations.{action_words, header_words, item_words, list_faults, most_actions, most_parameters, most_symbols, repeats}
use Rattle.mf_model.specs.TaskLimits.{HaveFewParameters}
use Rattle.mf_types.specs.Names.{Declared, declared_by, firsts, header_text, header_types, item_types}
use Rattle.mf_types.specs.Sites.{Site}
use Rattle.mf_types.specs.Tasks.{action_of, paired, symbol_named, IsTaskOf}
use Rattle.mf_types.specs.Typing.{inside, types_in, cond_of, effect_of}
use Rattle.mf_types.specs.Uses.{in_domain}
use Rattle.mf_types.proofs.Faultless.{faultless_lists}
use Rattle.mf_types.proofs.Given.{IfGiven, anything, taken, then_given, made_given}
use Rattle.mf_types.proofs.There.{first_empty, second_empty, each_passes}
use Rattle.mf_types.proofs.ThereScopes.{few_words}
use Rattle.mf_types.proofs.ValidTask.{each_written, firsts_all, paired_all}

few_parameters : (site : Site) (items : List Typed) → parameter_faults site items ≡ [] → length (types_in site.declared items) ≤ 32
few_parameters site items e =
    let words = item_words items in
    let list = first_empty (list_faults DomainFile most_parameters words) _ e in
    let count = few_words DomainFile most_parameters words (second_empty (repeats DomainFile [] words) _ list) in
    let words_are = length-map items (λ (item : Typed). item.word) in
    let types_are = length-map items (item_types site.declared.types) in
    omega (arith, count, words_are, types_are)

-- predicates or functions

abbrev IsShort : Declared → Header → Type 0
IsShort declared header = length (types_in declared header.parameters) ≤ 32

abbrev TakesFew : Symbol → Type 0
TakesFew symbol = length symbol.parameters ≤ 32

short_headers : (site : Site) (headers : List Header) → header_list_faults site headers ≡ [] → All (IsShort site.declared) headers
short_headers site headers e =
    each_passes (IsShort site.declared) (header_parameter_faults site) (λ header. few_parameters site header.parameters) headers
    (second_empty (list_faults DomainFile most_symbols (header_words headers)) _ e)

few_taken : (declared : Declared) (names : List (List ℕ)) (headers : List Header) → header_list_faults (in_domain declared) headers ≡ [] → All TakesFew (paired symbol_named names (map (header_types declared.types) (firsts header_text [] headers)))
few_taken declared names headers e =
    let first = firsts header_text [] headers in
    let short = firsts_all (IsShort declared) header_text [] headers (short_headers (in_domain declared) headers e) in
    paired_all (λ types. length types ≤ 32) TakesFew symbol_named (λ name types h. h) names (map (header_types declared.types) first)
    (All-map (λ types. length types ≤ 32) (header_types declared.types) first short)

-- actions

abbrev IsShortAction : Declared → RawAction → Type 0
IsShortAction declared raw = length (types_in declared raw.parameters) ≤ 32

abbrev HasFew : Action → Type 0
HasFew action = length action.parameters ≤ 32

action_few : (declared : Declared) (raw : RawAction) → IsShortAction declared raw → IfGiven HasFew (action_of declared raw)
unfolding action_of
action_few declared raw few =
    let types = types_in declared raw.parameters in
    then_given (λ _. Unit {0}) HasFew (inside [] raw.parameters) _ (anything (inside [] raw.parameters)) (λ binders _.
    then_given (λ _. Unit {0}) HasFew (cond_of declared raw.condition binders) _ (anything (cond_of declared raw.condition binders)) (λ condition _.
    made_given (λ _. Unit {0}) HasFew (λ effect. record { name = raw.word.text; parameters = types; condition = condition; effect = effect }) (effect_of declared raw.effect binders)
    (anything (effect_of declared raw.effect binders)) (λ _ _. few)))

short_actions : (site : Site) (actions : List RawAction) → action_list_faults site actions ≡ [] → All (IsShortAction site.declared) actions
short_actions site actions e =
    each_passes (IsShortAction site.declared) (action_parameter_faults site) (λ raw. few_parameters site raw.parameters) actions
    (second_empty (list_faults DomainFile most_actions (action_words actions)) _ e)

pub parameters_few : (d : Domain) (p : Problem) (task : TypedTask) → faults_of d p ≡ [] → IsTaskOf d p task → HaveFewParameters task
parameters_few d p task e is =
    let declared = declared_by d p in
    let lists = faultless_lists declared d p (first_empty (declaration_faults_in declared d p) _ e) in
    record {
      predicates = subst (All TakesFew) (sym is.predicates) (few_taken declared declared.predicates d.predicates lists.predicates);
      functions = subst (All TakesFew) (sym is.functions) (few_taken declared declared.functions d.functions lists.functions);
      actions = taken (All HasFew) _ task.actions is.actions (each_written (IsShortAction declared) HasFew (action_of declared) (action_few declared) d.actions (short_actions (in_domain declared) d.actions lists.actions));
    }
