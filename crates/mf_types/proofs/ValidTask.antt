-- The task of two files of the grammar is valid.
use Rattle.std.proofs.Common.{◌≡◌, ℕ, suc, ◌<◌, true, false, if◌then◌else◌, nat_lt, Option, Some, None, IfSome, List, [], ◌∷◌, ◌++◌, map, length, slice_get, option_to_list, refl, subst, sym, ap, ◌∙◌, arith, All}
use Rattle.std.proofs.lemmas.List.{length-map}
use Rattle.std.proofs.lemmas.List.Elements.{All-nil, All-cons, All-head, All-tail}
use Rattle.mf_model.specs.declared.form.Word.{Word}
use Rattle.mf_model.specs.declared.form.RawCond.{RawCond}
use Rattle.mf_model.specs.declared.form.RawCond.TheOpen.{RawCond-F}
use Rattle.mf_model.specs.declared.form.RawCond.TheViews.{out-RawCond}
use Rattle.mf_model.specs.declared.form.RawAction.{RawAction}
use Rattle.mf_model.specs.declared.form.RawValue.{RawValue}
use Rattle.mf_model.specs.declared.form.RawMetric.{RawMetric}
use Rattle.mf_model.specs.declared.form.Domain.{Domain}
use Rattle.mf_model.specs.declared.form.Problem.{Problem}
use Rattle.mf_model.specs.declared.task.Symbol.{Symbol}
use Rattle.mf_model.specs.declared.task.Atom.{Atom}
use Rattle.mf_model.specs.declared.task.Valued.{Valued}
use Rattle.mf_model.specs.declared.task.Metric.{Metric}
use Rattle.mf_model.specs.declared.task.TypedTask.{TypedTask}
use Rattle.mf_model.specs.Options.{each}
use Rattle.mf_model.specs.Resolution.{takes}
use Rattle.mf_types.specs.Names.{Declared, declared_by, is_member, firsts, item_text, header_text, item_types, header_types, type_names, kept_types, parent_in}
use Rattle.mf_types.specs.Tasks.{paired, type_named, object_named, symbol_named, action_of, objects_of, atom_of, fact_layer, fact_of, facts_of, value_of, values_of, term_key, metric_by, metric_of, IsTaskOf}
use Rattle.mf_types.specs.Typing.{inside, types_in, predicate_of, function_of, number_in, expr_of, cond_of, effect_of}
use Rattle.mf_model.specs.ValidTasks.{Counts, counts_of, parameter_count, are_types, are_type_lists, is_valid_expr, is_valid_cond, is_valid_effect, IsValidAction, is_valid_atom, is_valid_value, IsValidTask}
use Rattle.mf_types.specs.Written.{is_written_cond, is_written_effect, is_written_action, is_written_metric, IsWritten}
use Rattle.mf_types.proofs.Given.{IfGiven, Read, anything, taken, then_given, made_given, each_all, first_true, second_true}
use Rattle.mf_types.proofs.Narrow.{every, are_numbers}
use Rattle.mf_types.proofs.ValidTerms.{counted, AreEven, objects_valid, symbol_valid, ground_valid}
use Rattle.mf_types.proofs.ValidExpressions.{expr_valid}
use Rattle.mf_types.proofs.ValidConditions.{HasRoom, inside_valid, item_valid, lists_valid, cond_valid}
use Rattle.mf_types.proofs.ValidEffects.{effect_valid}
use Rattle.mf_types.proofs.TaskReadings.{at_most}

-- lists

pub each_written : {A B : Type 0} (W : A → Type 0) (P : B → Type 0) (f : A → Option B) → ((x : A) → W x → IfGiven P (f x)) → (xs : List A) → All W xs → IfGiven (All P) (each f xs)
each_written W P f h [] all = All-nil P
each_written W P f h (x ∷ xs) all =
    then_given P (All P) (f x) _ (h x (All-head W x xs all)) (λ y here.
    made_given (All P) (All P) (λ ys. y ∷ ys) (each f xs) (each_written W P f h xs (All-tail W x xs all)) (λ ys rest. All-cons P y ys here rest))

pub paired_all : {A B C : Type 0} (Q : B → Type 0) (P : C → Type 0) (f : A → B → C) → ((a : A) (b : B) → Q b → P (f a b)) → (xs : List A) (ys : List B) → All Q ys → All P (paired f xs ys)
paired_all Q P f h [] ys all = All-nil P
paired_all Q P f h (x ∷ xs) [] all = All-nil P
paired_all Q P f h (x ∷ xs) (y ∷ ys) all = All-cons P (f x y) (paired f xs ys) (h x y (All-head Q y ys all)) (paired_all Q P f h xs ys (All-tail Q y ys all))

pub paired_length : {A B C : Type 0} (f : A → B → C) (xs : List A) (ys : List B) → length xs ≡ length ys → length (paired f xs ys) ≡ length xs
paired_length f [] ys e = refl
paired_length f (x ∷ xs) [] e = absurd (omega (arith, e))
paired_length f (x ∷ xs) (y ∷ ys) e = ap suc (paired_length f xs ys (omega (arith, e)))

paired_counts : (names : List (List ℕ)) (types : List (List (List ℕ))) → length names ≡ length types → map length types ≡ map parameter_count (paired symbol_named names types)
paired_counts [] [] e = refl
paired_counts [] (own ∷ types) e = absurd (omega (arith, e))
paired_counts (name ∷ names) [] e = absurd (omega (arith, e))
paired_counts (name ∷ names) (own ∷ types) e = ap (λ (counts : List ℕ). length own ∷ counts) (paired_counts names types (omega (arith, e)))

each_count : {A B : Type 0} (f : A → Option B) (xs : List A) (ys : List B) → each f xs ≡ Some ys → length ys ≡ length xs
each_count f xs ys e = taken (λ zs. length zs ≡ length xs) (each f xs) ys e (counts_given f xs)
  where
    counts_given : {A B : Type 0} (f : A → Option B) (xs : List A) → IfGiven (λ zs. length zs ≡ length xs) (each f xs)
    counts_given f [] = refl
    counts_given f (x ∷ xs) =
        then_given (λ _. Unit {0}) (λ zs. length zs ≡ length (x ∷ xs)) (f x) _ (anything (f x)) (λ y _.
        made_given (λ zs. length zs ≡ length xs) (λ zs. length zs ≡ length (x ∷ xs)) (λ ys. y ∷ ys) (each f xs) (counts_given f xs) (λ ys h. ap suc h))

pub firsts_all : {A : Type 0} (P : A → Type 0) (name : A → List ℕ) (seen : List (List ℕ)) (xs : List A) → All P xs → All P (firsts name seen xs)
firsts_all P name seen [] all = All-nil P
firsts_all P name seen (x ∷ xs) all =
    let rest = All-tail P x xs all in
    elim (is_member seen (name x)) as (λ b. All P (if b then firsts name seen xs else x ∷ firsts name (seen ++ name x ∷ []) xs))
    [ true ↦ firsts_all P name seen xs rest | false ↦ All-cons P x _ (All-head P x xs all) (firsts_all P name (seen ++ name x ∷ []) xs rest) ]

module _ (declared : Declared) (even : AreEven declared) (some : 0 < length declared.types) where
  abbrev counts : Counts
  counts = counted declared

  -- actions

  action_valid : (raw : RawAction) → is_written_action raw ≡ true → IfGiven (IsValidAction counts) (action_of declared raw)
  unfolding action_of
  action_valid raw e =
      let lists = types_in declared raw.parameters in
      then_given (HasRoom [] raw.parameters) (IsValidAction counts) (inside [] raw.parameters) _ (inside_valid [] raw.parameters) (λ binders room.
      then_given (λ a. is_valid_cond counts a (length binders) ≡ true) (IsValidAction counts) (cond_of declared raw.condition binders) _
      (cond_valid declared even some raw.condition binders (first_true (is_written_cond raw.condition) (is_written_effect raw.effect) e)) (λ condition condition_valid.
      made_given (λ a. is_valid_effect counts a (length binders) ≡ true) (IsValidAction counts) (λ effect. record { name = raw.word.text; parameters = lists; condition = condition; effect = effect }) (effect_of declared raw.effect binders)
      (effect_valid declared even some raw.effect binders (second_true (is_written_cond raw.condition) (is_written_effect raw.effect) e)) (λ effect effect_valid.
      let lists_are : length lists ≡ length raw.parameters = length-map raw.parameters (item_types declared.types) in
      let count = room.count in
      let limit = at_most _ _ room.room in
      let same : length binders ≡ length lists = omega (arith, count, lists_are) in
      record {
        types = lists_valid declared some raw.parameters;
        limit = omega (arith, lists_are, limit);
        condition = subst (λ (n : ℕ). is_valid_cond counts condition n ≡ true) same condition_valid;
        effect = subst (λ (n : ℕ). is_valid_effect counts effect n ≡ true) same effect_valid;
      })))

  -- the start

  atom_there : (predicate : Word) (ws : List Word) → IfGiven (λ a. is_valid_atom counts a ≡ true) (atom_of declared predicate ws)
  atom_there predicate ws =
      then_given (λ n. takes (slice_get counts.predicates n) (length ws) ≡ true) (λ a. is_valid_atom counts a ≡ true) (predicate_of declared predicate.text (length ws)) _
      (symbol_valid declared.predicates declared.predicate_types predicate.text (length ws) even.predicates) (λ n count.
      made_given (Read (λ k. nat_lt k (length declared.objects)) ws) (λ a. is_valid_atom counts a ≡ true) (λ os. record { predicate = n; objects = os }) (objects_of declared ws) (objects_valid declared ws) (λ os read.
      ground_valid counts.predicates declared n ws os count read))

  layer_valid : (y : RawCond-F RawCond) → IfGiven (IfGiven (λ a. is_valid_atom counts a ≡ true)) (fact_layer declared y)
  layer_valid (RawCond-F.Atom predicate terms span) = made_given (λ a. is_valid_atom counts a ≡ true) (IfGiven (λ a. is_valid_atom counts a ≡ true)) Some (atom_of declared predicate terms) (atom_there predicate terms) (λ a h. h)
  layer_valid (RawCond-F.Same left right span) = tt
  layer_valid (RawCond-F.Compare relation left right span) = tt
  layer_valid (RawCond-F.Not part span) = tt
  layer_valid (RawCond-F.And parts span) = tt
  layer_valid (RawCond-F.Or parts span) = tt
  layer_valid (RawCond-F.Imply left right span) = tt
  layer_valid (RawCond-F.All variables part span) = tt
  layer_valid (RawCond-F.Any variables part span) = tt

  joined_valid : {A : Type 0} (P : A → Type 0) (o : Option A) (others : List A) → IfGiven P o → All P others → All P (option_to_list o ++ others)
  joined_valid P None others h all = all
  joined_valid P (Some a) others h all = All-cons P a others h all

  facts_valid : (raws : List RawCond) → IfGiven (All (λ a. is_valid_atom counts a ≡ true)) (facts_of declared raws)
  facts_valid [] = All-nil (λ a. is_valid_atom counts a ≡ true)
  facts_valid (raw ∷ raws) =
      let P : Atom → Type 0 = λ a. is_valid_atom counts a ≡ true in
      then_given (IfGiven P) (All P) (fact_of declared raw) _ (layer_valid (out-RawCond raw)) (λ a here.
      made_given (All P) (All P) (λ others. option_to_list a ++ others) (facts_of declared raws) (facts_valid raws) (λ others rest. joined_valid P a others here rest))

  value_valid : (raw : RawValue) → IfGiven (λ v. is_valid_value counts v ≡ true) (value_of declared raw)
  unfolding value_of
  value_valid raw =
      let P : Valued → Type 0 = λ v. is_valid_value counts v ≡ true in
      then_given (λ n. takes (slice_get counts.functions n) (length raw.objects) ≡ true) P (function_of declared raw.function.text (length raw.objects)) _
      (symbol_valid declared.functions declared.function_types raw.function.text (length raw.objects) even.functions) (λ n count.
      then_given (Read (λ k. nat_lt k (length declared.objects)) raw.objects) P (objects_of declared raw.objects) _ (objects_valid declared raw.objects) (λ os read.
      made_given (λ _. Unit {0}) P (λ number. record { cell = record { function = n; objects = os }; value = number }) (number_in raw.value) (anything (number_in raw.value)) (λ number _.
      ground_valid counts.functions declared n raw.objects os count read)))

  values_valid : (raws : List RawValue) → IfGiven (All (λ v. is_valid_value counts v ≡ true)) (values_of declared raws)
  values_valid raws =
      let P : Valued → Type 0 = λ v. is_valid_value counts v ≡ true in
      made_given (All P) (All P) (firsts term_key []) (each (value_of declared) raws) (each_all P (value_of declared) value_valid raws) (λ values all. firsts_all P term_key [] values all)

  metric_valid : (raw : Option RawMetric) → is_written_metric raw ≡ true → IfGiven (λ m. IfSome m (λ it. is_valid_expr counts true 0 it.value ≡ true)) (metric_of declared raw)
  metric_valid None e = tt
  metric_valid (Some raw) e =
      let Q : Metric → Type 0 = λ it. is_valid_expr counts true 0 it.value ≡ true in
      made_given Q (λ m. IfSome m Q) Some (metric_by declared raw)
      (made_given (λ a. is_valid_expr counts true 0 a ≡ true) Q (λ value. record { least = raw.least; value = value }) (expr_of declared raw.value []) (expr_valid declared even true raw.value [] e) (λ a h. h)) (λ m h. h)

-- the task

pub are_even : (d : Domain) (p : Problem) → AreEven (declared_by d p)
are_even d p =
    let names = type_names d.types in
    let predicates = firsts header_text [] d.predicates in
    let functions = firsts header_text [] d.functions in
    record {
      predicates = length-map predicates header_text ∙ sym (length-map predicates (header_types names));
      functions = length-map functions header_text ∙ sym (length-map functions (header_types names));
    }

abbrev make_counts : ℕ → ℕ → List ℕ → List ℕ → Counts
make_counts types objects predicates functions = record { types = types; objects = objects; predicates = predicates; functions = functions }

pub valid_task : (d : Domain) (p : Problem) (task : TypedTask) → IsWritten d p → IsTaskOf d p task → IsValidTask task
valid_task d p task written is =
    let declared = declared_by d p in
    let even = are_even d p in
    let names = type_names d.types in
    let some : 0 < length declared.types = omega arith in
    let items = firsts item_text [] (d.constants ++ p.objects) in
    let types_are : length task.types ≡ length declared.types = ap length is.types ∙ paired_length type_named declared.types declared.parents (sym (length-map names (parent_in names (kept_types d.types)))) in
    let objects_are : length task.objects ≡ length declared.objects = ap length is.objects ∙ paired_length object_named declared.objects declared.object_types (length-map items item_text ∙ sym (length-map items (item_types names))) in
    let predicates_are : map length declared.predicate_types ≡ map parameter_count task.predicates = paired_counts declared.predicates declared.predicate_types even.predicates ∙ ap (λ (ss : List Symbol). map parameter_count ss) (sym is.predicates) in
    let functions_are : map length declared.function_types ≡ map parameter_count task.functions = paired_counts declared.functions declared.function_types even.functions ∙ ap (λ (ss : List Symbol). map parameter_count ss) (sym is.functions) in
    let same : counted declared ≡ counts_of task =
    ap (λ (n : ℕ). make_counts n (length declared.objects) (map length declared.predicate_types) (map length declared.function_types)) (sym types_are)
    ∙ (ap (λ (n : ℕ). make_counts (length task.types) n (map length declared.predicate_types) (map length declared.function_types)) (sym objects_are)
    ∙ (ap (λ (ns : List ℕ). make_counts (length task.types) (length task.objects) ns (map length declared.function_types)) predicates_are
    ∙ ap (λ (ns : List ℕ). make_counts (length task.types) (length task.objects) (map parameter_count task.predicates) ns) functions_are)) in
    let numbers = are_numbers d p in
    let parents : All (λ t. t.parent < length declared.types) task.types =
    subst (λ ts. All (λ t. t.parent < length declared.types) ts) (sym is.types) (paired_all (λ n. n < length declared.types) (λ t. t.parent < length declared.types) type_named (λ a b h. h) declared.types declared.parents numbers.parents) in
    let object_types : All (λ o. are_types (counted declared) o.types ≡ true) task.objects =
    subst (λ os. All (λ o. are_types (counted declared) o.types ≡ true) os) (sym is.objects)
    (paired_all (λ ts. are_types (counted declared) ts ≡ true) (λ o. are_types (counted declared) o.types ≡ true) object_named (λ a b h. h) declared.objects declared.object_types (every (λ ts. are_types (counted declared) ts ≡ true) (item_types names) (item_valid declared some) items)) in
    let predicate_types : All (λ s. are_type_lists (counted declared) s.parameters ≡ true) task.predicates =
    subst (λ ss. All (λ s. are_type_lists (counted declared) s.parameters ≡ true) ss) (sym is.predicates)
    (paired_all (λ ts. are_type_lists (counted declared) ts ≡ true) (λ s. are_type_lists (counted declared) s.parameters ≡ true) symbol_named (λ a b h. h) declared.predicates declared.predicate_types (every (λ ts. are_type_lists (counted declared) ts ≡ true) (header_types names) (λ header. lists_valid declared some header.parameters) (firsts header_text [] d.predicates))) in
    let function_types : All (λ s. are_type_lists (counted declared) s.parameters ≡ true) task.functions =
    subst (λ ss. All (λ s. are_type_lists (counted declared) s.parameters ≡ true) ss) (sym is.functions)
    (paired_all (λ ts. are_type_lists (counted declared) ts ≡ true) (λ s. are_type_lists (counted declared) s.parameters ≡ true) symbol_named (λ a b h. h) declared.functions declared.function_types (every (λ ts. are_type_lists (counted declared) ts ≡ true) (header_types names) (λ header. lists_valid declared some header.parameters) (firsts header_text [] d.functions))) in
    let actions = taken (All (IsValidAction (counted declared))) _ task.actions is.actions (each_written (λ a. is_written_action a ≡ true) (IsValidAction (counted declared)) (action_of declared) (action_valid declared even some) d.actions written.actions) in
    let atoms = taken (All (λ a. is_valid_atom (counted declared) a ≡ true)) _ task.atoms is.atoms (facts_valid declared even some p.atoms) in
    let values = taken (All (λ v. is_valid_value (counted declared) v ≡ true)) _ task.values is.values (values_valid declared even some p.values) in
    let goal = taken (λ g. is_valid_cond (counted declared) g 0 ≡ true) _ task.goal is.goal (cond_valid declared even some p.goal [] written.goal) in
    let metric = taken (λ m. IfSome m (λ it. is_valid_expr (counted declared) true 0 it.value ≡ true)) _ task.metric is.metric (metric_valid declared even some p.metric written.metric) in
    let object_limit = is.few.objects in
    let predicate_limit = is.few.predicates in
    let function_limit = is.few.functions in
    let action_limit = is.few_actions in
    let predicate_count : length task.predicates ≡ length declared.predicates = ap length is.predicates ∙ paired_length symbol_named declared.predicates declared.predicate_types even.predicates in
    let function_count : length task.functions ≡ length declared.functions = ap length is.functions ∙ paired_length symbol_named declared.functions declared.function_types even.functions in
    let action_count = each_count (action_of declared) d.actions task.actions is.actions in
    record {
      some_type = omega (arith, types_are, some);
      parents = subst (λ (n : ℕ). All (λ t. t.parent < n) task.types) (sym types_are) parents;
      object_types = subst (λ (counts : Counts). All (λ o. are_types counts o.types ≡ true) task.objects) same object_types;
      object_limit = omega (arith, objects_are, object_limit);
      predicate_types = subst (λ (counts : Counts). All (λ s. are_type_lists counts s.parameters ≡ true) task.predicates) same predicate_types;
      predicate_limit = omega (arith, predicate_count, predicate_limit);
      function_types = subst (λ (counts : Counts). All (λ s. are_type_lists counts s.parameters ≡ true) task.functions) same function_types;
      function_limit = omega (arith, function_count, function_limit);
      actions = subst (λ (counts : Counts). All (IsValidAction counts) task.actions) same actions;
      action_limit = omega (arith, action_count, action_limit);
      atoms = subst (λ (counts : Counts). All (λ a. is_valid_atom counts a ≡ true) task.atoms) same atoms;
      values = subst (λ (counts : Counts). All (λ v. is_valid_value counts v ≡ true) task.values) same values;
      goal = subst (λ (counts : Counts). is_valid_cond counts task.goal 0 ≡ true) same goal;
      metric = subst (λ (counts : Counts). IfSome task.metric (λ it. is_valid_expr counts true 0 it.value ≡ true)) same metric;
    }
