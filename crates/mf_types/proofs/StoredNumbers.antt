-- The numbers of the task of two files fit, and are in lowest terms.
use Rattle.std.proofs.Common.{◌≡◌, ℕ, ◌<◌, ◌&&◌, Bool, true, Option, Some, None, IfSome, Result, Ok, Err, pos, unsigned_abs, nat_eq, nat_lt, List, [], ◌∷◌, ◌++◌, map, length, slice_index_or, codes, refl, subst, sym, ap, ◌∙◌, arith, All}
use Rattle.std.specs.List.{flat_map, list_all}
use Rattle.std.proofs.lemmas.Bool.Decides.{nat_tests}
use Rattle.std.proofs.lemmas.List.Elements.{All-nil, All-cons, All-head, All-tail}
use Rattle.mf_fraction.specs.Exact.{Number, whole, fits}
use Rattle.mf_fraction.specs.Gcd.{gcd}
use Rattle.mf_fraction.specs.Decimal.{read_of}
use Rattle.mf_fraction.specs.declared.faults.NumberFault.{NumberFault}
use Rattle.mf_fraction.specs.declared.faults.NumberFault.TheVariants.{NotANumber, Wide}
use Rattle.mf_fraction.proofs.Checks.{fits_small}
use Rattle.mf_fraction.proofs.ReadNumbers.{IsRead, IfRead, word_read}
use Rattle.mf_fraction.proofs.Reduced.{whole-proper}
use Rattle.mf_model.proofs.Choices.{and_true}
use Rattle.mf_model.specs.declared.form.Word.{Word}
use Rattle.mf_model.specs.declared.form.RawAction.{RawAction}
use Rattle.mf_model.specs.declared.form.RawExpr.{RawExpr}
use Rattle.mf_model.specs.declared.form.RawExpr.TheOpen.{RawExpr-F}
use Rattle.mf_model.specs.declared.form.RawExpr.TheFolds.{ind-RawExpr, fold-roll-RawExpr, map-RawExpr}
use Rattle.mf_model.specs.declared.form.RawEffect.{RawEffect}
use Rattle.mf_model.specs.declared.form.RawMetric.{RawMetric}
use Rattle.mf_model.specs.declared.form.RawValue.{RawValue}
use Rattle.mf_model.specs.declared.form.Domain.{Domain}
use Rattle.mf_model.specs.declared.form.Problem.{Problem}
use Rattle.mf_model.specs.declared.task.Action.{Action}
use Rattle.mf_model.specs.declared.task.Expr.{Expr}
use Rattle.mf_model.specs.declared.task.Expr.TheVariants as x
use Rattle.mf_model.specs.declared.task.Expr.TheOpen.{Expr-F}
use Rattle.mf_model.specs.declared.task.Expr.TheViews.{roll-Expr}
use Rattle.mf_model.specs.declared.task.Expr.TheFolds.{fold-roll-Expr, map-Expr}
use Rattle.mf_model.specs.declared.task.Cond.{Cond}
use Rattle.mf_model.specs.declared.task.Effect.{Effect}
use Rattle.mf_model.specs.declared.task.Metric.{Metric}
use Rattle.mf_model.specs.declared.task.Valued.{Valued}
use Rattle.mf_model.specs.declared.task.TypedTask.{TypedTask}
use Rattle.mf_model.specs.Expressions.{every_side, every_change}
use Rattle.mf_model.specs.Options.{each, all_some}
use Rattle.mf_model.specs.Resolution.{number_of}
use Rattle.mf_model.specs.ResolvedTask.{is_stored, stored_step, has_stored_numbers, AreNumbersStored}
use Rattle.mf_types.specs.AllFaults.{faults_of}
use Rattle.mf_types.specs.Conditions.{cond_faults}
use Rattle.mf_types.specs.DeclarationFaults.{declaration_faults_in}
use Rattle.mf_types.specs.Declarations.{beyond, item_words}
use Rattle.mf_types.specs.Effects.{effect_faults}
use Rattle.mf_types.specs.Names.{Declared, declared_by, firsts}
use Rattle.mf_types.specs.Quantified.{variable_limit}
use Rattle.mf_types.specs.Scopes.{Scope, variables_of}
use Rattle.mf_types.specs.Sites.{Site}
use Rattle.mf_types.specs.Tasks.{action_of, objects_of, value_of, values_of, term_key, metric_by, metric_of, IsTaskOf}
use Rattle.mf_types.specs.Typing.{Binders, inside, types_in, exact_of, number_in, function_of, terms_of, time_by, without_parameters, expr_step, expr_of, cond_of, effect_of}
use Rattle.mf_types.specs.Uses.{in_domain, in_problem, action_use_faults, action_faults, start_faults, closed_faults}
use Rattle.mf_types.specs.Written.{is_written_cond, is_written_effect, is_written_action, IsWritten}
use Rattle.mf_types.proofs.EveryChange.{CondPasses, changes_pass}
use Rattle.mf_types.proofs.EverySide.{sides_pass}
use Rattle.mf_types.proofs.Given.{IfGiven, anything, taken, then_given, made_given, both_given, each_all, first_true, second_true}
use Rattle.mf_types.proofs.There.{first_empty, second_empty}
use Rattle.mf_types.proofs.ValidTask.{firsts_all}

-- numbers

positive_test : (n : ℕ) → 0 < n → nat_lt 0 n ≡ true
positive_test n h = grind (arith, nat_tests)

one_test : (n : ℕ) → n ≡ 1 → nat_eq n 1 ≡ true
one_test n h = grind (arith, nat_tests)

read_stored : (a : Number) → IsRead a → is_stored a ≡ true
read_stored a h =
    let lowest = h.proper in
    and_true (fits a && nat_lt 0 a.den) (nat_eq (gcd (unsigned_abs a.num) a.den) 1)
    (and_true (fits a) (nat_lt 0 a.den) h.fits (positive_test a.den lowest.positive)) (one_test (gcd (unsigned_abs a.num) a.den) lowest.lowest)

nothing_stored : is_stored (whole (pos 0)) ≡ true
nothing_stored = read_stored (whole (pos 0)) (record { fits = fits_small (whole (pos 0)) (omega arith) (omega arith); proper = whole-proper (pos 0) })

exact_stored : (r : Result Number NumberFault) → IfRead r → IfGiven (λ a. is_stored a ≡ true) (exact_of r)
exact_stored (Ok a) h = read_stored a h
exact_stored (Err NotANumber) h = nothing_stored
exact_stored (Err Wide) h = tt

number_stored : (w : Word) → IfGiven (λ a. is_stored a ≡ true) (number_in w)
number_stored w = exact_stored (read_of w.text) (word_read w.text)

-- expressions

rolled : (whole : Expr) (y : Expr-F Expr) → roll-Expr y ≡ whole → has_stored_numbers whole ≡ stored_step (map-Expr Expr Bool has_stored_numbers y)
rolled whole y is = ap has_stored_numbers (sym is) ∙ fold-roll-Expr Bool stored_step y

abbrev HasStored : Expr → Type 0
HasStored a = has_stored_numbers a ≡ true

time_stored : (types : List (List (List ℕ))) (number : Option ℕ) → IfGiven HasStored (time_by types number)
time_stored types None = rolled x.TotalTime Expr-F.TotalTime x.rolls-TotalTime
time_stored types (Some n) = without (slice_index_or types n []) n
  where
    without : (own : List (List ℕ)) (n : ℕ) → IfGiven HasStored (without_parameters own n)
    without [] n = rolled (x.Function n []) (Expr-F.Function n []) (x.rolls-Function n [])
    without (parameter ∷ parameters) n = tt

module _ (declared : Declared) where
  abbrev Claim : RawExpr → Type 0
  Claim raw = (binders : Binders) → IfGiven HasStored (expr_of declared raw binders)

  abbrev Piece : Type 0
  Piece = (raw : RawExpr) × Claim raw

  abbrev raw_of : Piece → RawExpr
  raw_of p = p.0

  parts_stored : (ps : List Piece) (binders : Binders) → IfGiven (λ found. list_all (λ part. part) (map has_stored_numbers found) ≡ true) (all_some (map (λ part. part binders) (map (expr_of declared) (map raw_of ps))))
  parts_stored [] binders = refl
  parts_stored (p ∷ ps) binders =
      let Each : List Expr → Type 0 = λ found. list_all (λ part. part) (map has_stored_numbers found) ≡ true in
      then_given HasStored Each (expr_of declared p.0 binders) _ (p.1 binders) (λ a here.
      made_given Each Each (λ found. a ∷ found) _ (parts_stored ps binders) (λ found rest.
      and_true (has_stored_numbers a) (list_all (λ part. part) (map has_stored_numbers found)) here rest))

  Layer : RawExpr-F RawExpr → Type 0
  Layer y = (binders : Binders) → IfGiven HasStored (expr_step declared (map-RawExpr RawExpr (Binders → Option Expr) (expr_of declared) y) binders)

  level : (y : RawExpr-F Piece) → Layer (map-RawExpr Piece RawExpr raw_of y)
  unfolding Layer
  level (RawExpr-F.Number word span) binders =
      made_given (λ n. is_stored n ≡ true) HasStored x.Number (number_in word) (number_stored word) (λ n h.
      rolled (x.Number n) (Expr-F.Number n) (x.rolls-Number n) ∙ h)
  level (RawExpr-F.Function function terms span) binders =
      then_given (λ _. Unit {0}) HasStored (function_of declared function.text (length terms)) _ (anything (function_of declared function.text (length terms))) (λ n _.
      made_given (λ _. Unit {0}) HasStored (λ ts. x.Function n ts) (terms_of declared binders terms) (anything (terms_of declared binders terms)) (λ ts _.
      rolled (x.Function n ts) (Expr-F.Function n ts) (x.rolls-Function n ts)))
  level (RawExpr-F.Sum parts span) binders =
      made_given (λ found. list_all (λ part. part) (map has_stored_numbers found) ≡ true) HasStored x.Sum _ (parts_stored parts binders) (λ found h.
      rolled (x.Sum found) (Expr-F.Sum found) (x.rolls-Sum found) ∙ h)
  level (RawExpr-F.Difference left right span) binders =
      both_given HasStored HasStored HasStored x.Difference (expr_of declared left.0 binders) (expr_of declared right.0 binders) (left.1 binders) (right.1 binders) (λ a b h k.
      rolled (x.Difference a b) (Expr-F.Difference a b) (x.rolls-Difference a b) ∙ and_true (has_stored_numbers a) (has_stored_numbers b) h k)
  level (RawExpr-F.Negative part span) binders =
      made_given HasStored HasStored x.Negative (expr_of declared part.0 binders) (part.1 binders) (λ a h.
      rolled (x.Negative a) (Expr-F.Negative a) (x.rolls-Negative a) ∙ h)
  level (RawExpr-F.Product parts span) binders =
      made_given (λ found. list_all (λ part. part) (map has_stored_numbers found) ≡ true) HasStored x.Product _ (parts_stored parts binders) (λ found h.
      rolled (x.Product found) (Expr-F.Product found) (x.rolls-Product found) ∙ h)
  level (RawExpr-F.Quotient left right span) binders =
      both_given HasStored HasStored HasStored x.Quotient (expr_of declared left.0 binders) (expr_of declared right.0 binders) (left.1 binders) (right.1 binders) (λ a b h k.
      rolled (x.Quotient a b) (Expr-F.Quotient a b) (x.rolls-Quotient a b) ∙ and_true (has_stored_numbers a) (has_stored_numbers b) h k)
  level (RawExpr-F.TotalTime span) binders = time_stored declared.function_types (number_of declared.functions (codes "total-time"))

  pub expr_stored : (raw : RawExpr) → Claim raw
  unfolding Layer
  expr_stored = ind-RawExpr Claim (λ y z is binders.
      let at_layer = subst (λ v. Layer v) is (level z) binders in
      let by_reading = ap (λ (f : Binders → Option Expr). f binders) (fold-roll-RawExpr (Binders → Option Expr) (expr_step declared) y) in
      subst (λ o. IfGiven HasStored o) (sym by_reading) at_layer)

  -- start values and the metric

  value_stored : (raw : RawValue) → IfGiven (λ v. is_stored v.value ≡ true) (value_of declared raw)
  unfolding value_of
  value_stored raw =
      let P : Valued → Type 0 = λ v. is_stored v.value ≡ true in
      then_given (λ _. Unit {0}) P (function_of declared raw.function.text (length raw.objects)) _ (anything (function_of declared raw.function.text (length raw.objects))) (λ n _.
      then_given (λ _. Unit {0}) P (objects_of declared raw.objects) _ (anything (objects_of declared raw.objects)) (λ os _.
      made_given (λ a. is_stored a ≡ true) P (λ number. record { cell = record { function = n; objects = os }; value = number }) (number_in raw.value) (number_stored raw.value) (λ number h. h)))

  values_stored : (raws : List RawValue) → IfGiven (All (λ v. is_stored v.value ≡ true)) (values_of declared raws)
  values_stored raws =
      let P : Valued → Type 0 = λ v. is_stored v.value ≡ true in
      made_given (All P) (All P) (firsts term_key []) (each (value_of declared) raws) (each_all P (value_of declared) value_stored raws) (λ values all. firsts_all P term_key [] values all)

  metric_stored : (raw : Option RawMetric) → IfGiven (λ m. IfSome m (λ it. has_stored_numbers it.value ≡ true)) (metric_of declared raw)
  metric_stored None = tt
  metric_stored (Some raw) =
      let Q : Metric → Type 0 = λ it. has_stored_numbers it.value ≡ true in
      made_given Q (λ m. IfSome m Q) Some (metric_by declared raw)
      (made_given HasStored Q (λ value. record { least = raw.least; value = value }) (expr_of declared raw.value []) (expr_stored raw.value []) (λ a h. h)) (λ m h. h)

-- actions

module _ (site : Site) where
  cond_stored : CondPasses site (every_side has_stored_numbers)
  cond_stored = sides_pass site has_stored_numbers (λ raw scope w e binders. expr_stored site.declared raw binders)

  effect_stored : (raw : RawEffect) (scope : Scope) → is_written_effect raw ≡ true → effect_faults site raw scope ≡ [] → (binders : Binders) →
      IfGiven (λ a. every_change (λ op function value. has_stored_numbers value) (every_side has_stored_numbers) a ≡ true) (effect_of site.declared raw binders)
  effect_stored = changes_pass site (λ op function value. has_stored_numbers value) (every_side has_stored_numbers) (λ op function terms raw span scope w e n binders. expr_stored site.declared raw binders) cond_stored

  abbrev IsStoredAction : Action → Type 0
  IsStoredAction action = (every_side has_stored_numbers action.condition ≡ true) × (every_change (λ op function value. has_stored_numbers value) (every_side has_stored_numbers) action.effect ≡ true)

  action_stored : (raw : RawAction) → is_written_action raw ≡ true → action_use_faults site raw ≡ [] → IfGiven IsStoredAction (action_of site.declared raw)
  unfolding action_of
  action_stored raw w e =
      let types = types_in site.declared raw.parameters in
      let scope = variables_of site.declared.types raw.parameters in
      let parts = second_empty (beyond site.file variable_limit (item_words raw.parameters)) _ e in
      let Side : Cond → Type 0 = λ a. every_side has_stored_numbers a ≡ true in
      let Change : Effect → Type 0 = λ a. every_change (λ op function value. has_stored_numbers value) (every_side has_stored_numbers) a ≡ true in
      then_given (λ _. Unit {0}) IsStoredAction (inside [] raw.parameters) _ (anything (inside [] raw.parameters)) (λ binders _.
      then_given Side IsStoredAction (cond_of site.declared raw.condition binders) _
      (cond_stored raw.condition scope (first_true (is_written_cond raw.condition) (is_written_effect raw.effect) w) (first_empty (cond_faults site raw.condition scope) _ parts) binders) (λ condition h.
      made_given Change IsStoredAction (λ effect. record { name = raw.word.text; parameters = types; condition = condition; effect = effect }) (effect_of site.declared raw.effect binders)
      (effect_stored raw.effect scope (second_true (is_written_cond raw.condition) (is_written_effect raw.effect) w) (second_empty (cond_faults site raw.condition scope) _ parts) binders) (λ effect k. (h, k))))

  actions_stored : (raws : List RawAction) → All (λ raw. is_written_action raw ≡ true) raws → flat_map (action_use_faults site) raws ≡ [] → IfGiven (All IsStoredAction) (each (action_of site.declared) raws)
  actions_stored [] w e = All-nil IsStoredAction
  actions_stored (raw ∷ raws) w e =
      then_given IsStoredAction (All IsStoredAction) (action_of site.declared raw) _ (action_stored raw (All-head (λ r. is_written_action r ≡ true) raw raws w) (first_empty (action_use_faults site raw) _ e)) (λ action here.
      made_given (All IsStoredAction) (All IsStoredAction) (λ actions. action ∷ actions) (each (action_of site.declared) raws)
      (actions_stored raws (All-tail (λ r. is_written_action r ≡ true) raw raws w) (second_empty (action_use_faults site raw) _ e)) (λ actions rest. All-cons IsStoredAction action actions here rest))

-- the task

pub task_stored : (d : Domain) (p : Problem) (task : TypedTask) → IsWritten d p → faults_of d p ≡ [] → IsTaskOf d p task → AreNumbersStored task
task_stored d p task written e is =
    let declared = declared_by d p in
    let uses = second_empty (declaration_faults_in declared d p) _ e in
    let actions = action_faults declared d.actions in
    let start = start_faults (in_problem declared) p.atoms p.values in
    let goal = closed_faults (in_problem declared) p.goal in
    let to_goal = first_empty ((actions ++ start) ++ goal) _ uses in
    let actions_empty = first_empty actions _ (first_empty (actions ++ start) _ to_goal) in
    let goal_empty = second_empty (actions ++ start) _ to_goal in
    let stored = taken (All (IsStoredAction (in_domain declared))) _ task.actions is.actions (actions_stored (in_domain declared) d.actions written.actions actions_empty) in
    record {
      conditions = λ k action within. (stored k action within).0;
      effects = λ k action within. (stored k action within).1;
      values = taken (All (λ v. is_stored v.value ≡ true)) _ task.values is.values (values_stored declared p.values);
      goal = taken (λ a. every_side has_stored_numbers a ≡ true) _ task.goal is.goal (cond_stored (in_problem declared) p.goal [] written.goal goal_empty []);
      metric = taken (λ m. IfSome m (λ it. has_stored_numbers it.value ≡ true)) _ task.metric is.metric (metric_stored declared p.metric);
    }
