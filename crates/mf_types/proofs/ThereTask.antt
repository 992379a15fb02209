-- Where no fault stands in a domain and a problem, they give a task.
use Rattle.std.proofs.Common.{◌≡◌, ◌+◌, ◌≤◌, Bool, true, false, if◌then◌else◌, nat_le, Option, Some, None, List, [], ◌∷◌, ◌++◌, length, option_to_list, subst, sym, ap, ◌∙◌, arith}
use Rattle.std.specs.List.{flat_map}
use Rattle.mf_fraction.specs.Decimal.{read_of}
use Rattle.mf_model.specs.declared.form.FileKind.TheVariants.{ProblemFile}
use Rattle.mf_model.specs.declared.form.Typed.{Typed}
use Rattle.mf_model.specs.declared.form.RawCond.{RawCond}
use Rattle.mf_model.specs.declared.form.RawCond.TheOpen.{RawCond-F}
use Rattle.mf_model.specs.declared.form.RawCond.TheViews.{out-RawCond, roll-RawCond, roll-out-RawCond}
use Rattle.mf_model.specs.declared.form.RawCond.TheFolds.{fold-roll-RawCond, map-RawCond}
use Rattle.mf_model.specs.declared.form.RawAction.{RawAction}
use Rattle.mf_model.specs.declared.form.RawValue.{RawValue}
use Rattle.mf_model.specs.declared.form.RawMetric.{RawMetric}
use Rattle.mf_model.specs.declared.form.Domain.{Domain}
use Rattle.mf_model.specs.declared.form.Problem.{Problem}
use Rattle.mf_model.specs.Options.{◌>>=◌, each}
use Rattle.mf_model.specs.Resolution.{typed_names}
use Rattle.mf_types.specs.declared.least.Fault.{Fault}
use Rattle.mf_types.specs.AllFaults.{faults_of}
use Rattle.mf_types.specs.Conditions as faults
use Rattle.mf_types.specs.Conditions.{cond_faults}
use Rattle.mf_types.specs.DeclarationFaults.{declaration_faults_in}
use Rattle.mf_types.specs.Expressions.{is_wide, wide_at}
use Rattle.mf_types.specs.Names.{Declared, declared_by, firsts}
use Rattle.mf_types.specs.Declarations.{beyond, item_words}
use Rattle.mf_types.specs.Scopes.{Scope, variables_of}
use Rattle.mf_types.specs.Sites.{Site}
use Rattle.mf_types.specs.StartValues.{differs_at, first_of, with_value, value_faults_behind, value_faults}
use Rattle.mf_types.specs.Tasks.{action_of, objects_of, atom_of, fact_layer, fact_of, facts_of, value_of, values_of, term_key, metric_by, metric_of, are_few, task_for, task_of}
use Rattle.mf_types.specs.Typing.{Binders, inside, function_of, number_in, expr_of, cond_of, effect_of, predicate_of}
use Rattle.mf_types.specs.Uses.{in_domain, in_problem, in_metric, action_use_faults, action_faults, closed_faults, value_term_faults, start_faults, metric_faults, uses_in}
use Rattle.mf_types.proofs.Faultless.{faultless_lists}
use Rattle.mf_types.proofs.There.{IsThere, then_there, made_there, cons_there, first_empty, second_empty, not_met, each_there}
use Rattle.mf_types.proofs.ThereTerms.{objects_there}
use Rattle.mf_types.proofs.ThereExpressions.{expr_there, number_there, function_there}
use Rattle.mf_types.proofs.ThereScopes.{few_words, length_of, names_of, chosen, within_test}
use Rattle.mf_types.proofs.ThereConditions.{cond_there, predicate_there, arguments_empty}
use Rattle.mf_types.proofs.ThereEffects.{effect_there}
use Rattle.mf_types.proofs.FewNames.{few_declared}
use Rattle.std.proofs.lemmas.List.{length-map}

-- actions

action_there : (site : Site) (a : RawAction) → action_use_faults site a ≡ [] → IsThere (action_of site.declared a)
unfolding action_of inside
action_there site a e =
    let scope = variables_of site.declared.types a.parameters in
    let first = beyond site.file 64 (item_words a.parameters) in
    let words_are = length-map a.parameters (λ (item : Typed). item.word) in
    let words = few_words site.file 64 (item_words a.parameters) (first_empty first _ e) in
    let count : 0 + length a.parameters ≤ 64 = omega (arith, words, words_are) in
    let parts = second_empty first _ e in
    let condition_part = cond_faults site a.condition scope in
    let names_are = names_of site.declared.types a.parameters in
    let same : length scope ≡ length a.parameters = length_of site.declared.types a.parameters in
    let room : length scope ≤ 64 = omega (arith, count, same) in
    let condition = subst (λ (names : Binders). IsThere (cond_of site.declared a.condition names)) names_are (cond_there site a.condition scope room (first_empty condition_part _ parts)) in
    let effect = subst (λ (names : Binders). IsThere (effect_of site.declared a.effect names)) names_are (effect_there site a.effect scope room (second_empty condition_part _ parts)) in
    chosen (nat_le (0 + length a.parameters) 64) (typed_names a.parameters) _ (within_test (0 + length a.parameters) count)
    (then_there (cond_of site.declared a.condition (typed_names a.parameters)) _ condition (λ _. made_there _ (effect_of site.declared a.effect (typed_names a.parameters)) effect))

-- the start

abbrev NoFault : Site → RawCond-F RawCond → Type 0
NoFault site y = faults.cond_step site (map-RawCond RawCond (Scope → List Fault) (cond_faults site) y) [] ≡ []

layer_there : (site : Site) (y : RawCond-F RawCond) → NoFault site y → IsThere (fact_layer site.declared y)
layer_there site (RawCond-F.Atom predicate terms span) e =
    made_there Some (atom_of site.declared predicate terms)
    (then_there (predicate_of site.declared predicate.text (length terms)) _ (predicate_there site [] predicate terms e) (λ n.
    made_there _ (objects_of site.declared terms) (objects_there site terms (arguments_empty site [] predicate terms e))))
layer_there site (RawCond-F.Same left right span) e = tt
layer_there site (RawCond-F.Compare relation left right span) e = tt
layer_there site (RawCond-F.Not part span) e = tt
layer_there site (RawCond-F.And parts span) e = tt
layer_there site (RawCond-F.Or parts span) e = tt
layer_there site (RawCond-F.Imply left right span) e = tt
layer_there site (RawCond-F.All variables part span) e = tt
layer_there site (RawCond-F.Any variables part span) e = tt

fact_there : (site : Site) (raw : RawCond) → closed_faults site raw ≡ [] → IsThere (fact_of site.declared raw)
fact_there site raw e =
    let y = out-RawCond raw in
    let rolled : cond_faults site raw [] ≡ cond_faults site (roll-RawCond y) [] = ap (λ (r : RawCond). cond_faults site r []) (sym (roll-out-RawCond raw)) in
    let by_faults = ap (λ (f : Scope → List Fault). f []) (fold-roll-RawCond (Scope → List Fault) (faults.cond_step site) y) in
    layer_there site y (sym by_faults ∙ sym rolled ∙ e)

joined_there : {A : Type 0} (o : Option (Option A)) (p : Option (List A)) → IsThere o → IsThere p → IsThere (o >>= (λ a. p >>= (λ others. Some (option_to_list a ++ others))))
joined_there None p h k = absurd h
joined_there (Some a) None h k = absurd k
joined_there (Some a) (Some others) h k = tt

facts_there : (site : Site) (raws : List RawCond) → flat_map (closed_faults site) raws ≡ [] → IsThere (facts_of site.declared raws)
facts_there site [] e = tt
facts_there site (raw ∷ raws) e =
    joined_there (fact_of site.declared raw) (facts_of site.declared raws)
    (fact_there site raw (first_empty (closed_faults site raw) _ e))
    (facts_there site raws (second_empty (closed_faults site raw) _ e))

value_there : (site : Site) (raw : RawValue) → value_term_faults site raw ≡ [] → wide_at ProblemFile raw.value ≡ [] → IsThere (value_of site.declared raw)
unfolding value_of
value_there site raw e narrow =
    let terms = second_empty _ _ e in
    then_there (function_of site.declared raw.function.text (length raw.objects)) _ (function_there site [] raw.function raw.objects e) (λ n.
    then_there (objects_of site.declared raw.objects) _ (objects_there site raw.objects terms) (λ os.
    made_there _ (number_in raw.value) (number_there raw.value (not_met (is_wide (read_of raw.value.text)) _ narrow))))

each_value : (site : Site) (seen raws : List RawValue) → flat_map (value_term_faults site) raws ≡ [] → value_faults_behind seen raws ≡ [] → IsThere (each (value_of site.declared) raws)
each_value site seen [] e h = tt
each_value site seen (raw ∷ raws) e h =
    let own = differs_at (first_of seen raw) raw ++ wide_at ProblemFile raw.value in
    cons_there (value_of site.declared raw) (each (value_of site.declared) raws)
    (value_there site raw (first_empty (value_term_faults site raw) _ e) (second_empty (differs_at (first_of seen raw) raw) _ (first_empty own _ h)))
    (each_value site (with_value seen raw) raws (second_empty (value_term_faults site raw) _ e) (second_empty own _ h))

values_there : (site : Site) (raws : List RawValue) → flat_map (value_term_faults site) raws ≡ [] → value_faults raws ≡ [] → IsThere (values_of site.declared raws)
values_there site raws e h = made_there (firsts term_key []) (each (value_of site.declared) raws) (each_value site [] raws e h)

metric_there : (declared : Declared) (raw : Option RawMetric) → metric_faults declared raw ≡ [] → IsThere (metric_of declared raw)
metric_there declared None e = tt
metric_there declared (Some raw) e =
    made_there Some (metric_by declared raw) (made_there _ (expr_of declared raw.value []) (expr_there (in_metric declared) raw.value [] e))

-- the task

parts_there : (declared : Declared) (d : Domain) (p : Problem) → uses_in declared d p ≡ [] → value_faults p.values ≡ [] → IsThere (task_for declared d p)
unfolding task_for
parts_there declared d p e h =
    let site = in_problem declared in
    let actions = action_faults declared d.actions in
    let start = start_faults site p.atoms p.values in
    let goal = closed_faults site p.goal in
    let to_goal = first_empty ((actions ++ start) ++ goal) _ e in
    let to_start = first_empty (actions ++ start) _ to_goal in
    let start_empty = second_empty actions _ to_start in
    let facts = flat_map (closed_faults site) p.atoms in
    then_there (each (action_of declared) d.actions) _ (each_there (action_of declared) (action_use_faults (in_domain declared)) (action_there (in_domain declared)) d.actions (first_empty actions _ to_start)) (λ _.
    then_there (facts_of declared p.atoms) _ (facts_there site p.atoms (first_empty facts _ start_empty)) (λ _.
    then_there (values_of declared p.values) _ (values_there site p.values (second_empty facts _ start_empty) h) (λ _.
    then_there (metric_of declared p.metric) _ (metric_there declared p.metric (second_empty ((actions ++ start) ++ goal) _ e)) (λ _.
    made_there _ (cond_of declared p.goal []) (cond_there site p.goal [] (omega arith) (second_empty (actions ++ start) _ to_goal))))))

within_limits : {A : Type 0} (b : Bool) (o : Option A) → b ≡ true → IsThere o → IsThere (if b then o else None)
within_limits true o e h = h
within_limits false o e h = let no : ⊥ = cc in absurd no

pub task_there : (d : Domain) (p : Problem) → faults_of d p ≡ [] → IsThere (task_of (declared_by d p) d p)
unfolding task_of
task_there d p e =
    let declared = declared_by d p in
    let declarations = declaration_faults_in declared d p in
    let declared_empty = first_empty declarations _ e in
    let lists = faultless_lists declared d p declared_empty in
    within_limits (are_few declared d) (task_for declared d p) (few_declared d p declared_empty) (parts_there declared d p (second_empty declarations _ e) lists.values)
