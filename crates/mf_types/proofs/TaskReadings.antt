-- The reading of a task gives exactly the task that a domain and a problem mean.
use Rattle.std.proofs.Common.{◌≡◌, ℕ, ◌≤◌, Bool, true, false, ◌&&◌, if◌then◌else◌, nat_le, Option, Some, None, List, [], length, refl, sym, ap, ◌∙◌, subst, arith}
use Rattle.std.proofs.lemmas.Bool.Decides.{nat_tests}
use Rattle.std.proofs.lemmas.Option.{same_Some}
use Rattle.mf_model.specs.declared.form.Domain.{Domain}
use Rattle.mf_model.specs.declared.form.Problem.{Problem}
use Rattle.mf_model.specs.declared.task.TypeName.{TypeName}
use Rattle.mf_model.specs.declared.task.Object as object
use Rattle.mf_model.specs.declared.task.Symbol.{Symbol}
use Rattle.mf_model.specs.declared.task.Action.{Action}
use Rattle.mf_model.specs.declared.task.Atom.{Atom}
use Rattle.mf_model.specs.declared.task.Valued.{Valued}
use Rattle.mf_model.specs.declared.task.Metric.{Metric}
use Rattle.mf_model.specs.declared.task.TypedTask.{TypedTask}
use Rattle.mf_model.specs.Options.{◌>>=◌}
use Rattle.mf_types.specs.Names.{Declared}
use Rattle.mf_types.specs.Tasks.{AreFew, IsTaskFor, paired, object_named, symbol_named, actions_of, facts_of, values_of, metric_of, are_few, task_with, task_for, task_of}
use Rattle.mf_types.specs.Typing.{cond_of}

bound : {A B : Type 0} (o : Option A) (f : A → Option B) (y : B) → (o >>= f) ≡ Some y → (x : A) × (o ≡ Some x) × (f x ≡ Some y)
bound None f y e = let h : ⊥ = cc in absurd h
bound (Some x) f y e = (x, refl, e)

bind_is : {A B : Type 0} (o : Option A) (f : A → Option B) (x : A) (y : B) → o ≡ Some x → f x ≡ Some y → (o >>= f) ≡ Some y
bind_is o f x y e h = ap (λ r. r >>= f) e ∙ h

when_true : {A : Type 0} (b : Bool) (o : Option A) (y : A) → (if b then o else None) ≡ Some y → (b ≡ true) × (o ≡ Some y)
when_true true o y e = (refl, e)
when_true false o y e = let h : ⊥ = cc in absurd h

is_when : {A : Type 0} (b : Bool) (o : Option A) → b ≡ true → (if b then o else None) ≡ o
is_when b o e = ap (λ c. if c then o else None) e

-- Limits

all_five : (a b c d e : Bool) → (a && b && c && d && e) ≡ true → (a ≡ true) × (b ≡ true) × (c ≡ true) × (d ≡ true) × (e ≡ true)
all_five true true true true true h = (refl, refl, refl, refl, refl)
all_five true true true true false h = let no : ⊥ = cc in absurd no
all_five true true true false e h = let no : ⊥ = cc in absurd no
all_five true true false d e h = let no : ⊥ = cc in absurd no
all_five true false c d e h = let no : ⊥ = cc in absurd no
all_five false b c d e h = let no : ⊥ = cc in absurd no

tested : (a b c d e : Bool) → a ≡ true → b ≡ true → c ≡ true → d ≡ true → e ≡ true → (a && b && c && d && e) ≡ true
tested a b c d e h k l m n = rw (h, k, l, m, n) refl

pub at_most : (n m : ℕ) → nat_le n m ≡ true → n ≤ m
at_most n m h = grind (arith, nat_tests)

is_at_most : (n m : ℕ) → n ≤ m → nat_le n m ≡ true
is_at_most n m h = grind (arith, nat_tests)

few : (declared : Declared) (d : Domain) → are_few declared d ≡ true → AreFew declared × (length d.actions ≤ 1000)
few declared d h =
    let tests = all_five (nat_le (length declared.types) 10001) (nat_le (length declared.objects) 65535) (nat_le (length declared.predicates) 10000) (nat_le (length declared.functions) 10000) (nat_le (length d.actions) 1000) h in
    (record { types = at_most _ _ tests.0; objects = at_most _ _ tests.1; predicates = at_most _ _ tests.2; functions = at_most _ _ tests.3 }, at_most _ _ tests.4)

pub are_within : (declared : Declared) (d : Domain) → AreFew declared → length d.actions ≤ 1000 → are_few declared d ≡ true
are_within declared d h k =
    tested (nat_le (length declared.types) 10001) (nat_le (length declared.objects) 65535) (nat_le (length declared.predicates) 10000) (nat_le (length declared.functions) 10000) (nat_le (length d.actions) 1000)
    (is_at_most _ _ h.types) (is_at_most _ _ h.objects) (is_at_most _ _ h.predicates) (is_at_most _ _ h.functions) (is_at_most _ _ k)

-- The parts, one behind the other

module _ (declared : Declared) (d : Domain) (p : Problem) where
  goal_step : List Action → List Atom → List Valued → Option Metric → Option TypedTask
  goal_step actions atoms values metric = cond_of declared p.goal [] >>= (λ goal. Some (task_with declared actions atoms values metric goal))

  metric_step : List Action → List Atom → List Valued → Option TypedTask
  metric_step actions atoms values = metric_of declared p.metric >>= (λ metric. cond_of declared p.goal [] >>= (λ goal. Some (task_with declared actions atoms values metric goal)))

  values_step : List Action → List Atom → Option TypedTask
  values_step actions atoms = values_of declared p.values >>= (λ values. metric_of declared p.metric >>= (λ metric. cond_of declared p.goal [] >>= (λ goal. Some (task_with declared actions atoms values metric goal))))

  atoms_step : List Action → Option TypedTask
  atoms_step actions = facts_of declared p.atoms >>= (λ atoms. values_of declared p.values >>= (λ values. metric_of declared p.metric >>= (λ metric. cond_of declared p.goal [] >>= (λ goal. Some (task_with declared actions atoms values metric goal)))))

  pub task_sound : (task : TypedTask) → task_of declared d p ≡ Some task → IsTaskFor declared d p task
  unfolding task_of task_for goal_step metric_step values_step atoms_step
  task_sound task e =
      let limits = when_true (are_few declared d) (task_for declared d p) task e in
      let counts = few declared d limits.0 in
      let one = bound (actions_of declared d.actions) atoms_step task limits.1 in
      let two = bound (facts_of declared p.atoms) (values_step one.0) task one.2 in
      let three = bound (values_of declared p.values) (metric_step one.0 two.0) task two.2 in
      let four = bound (metric_of declared p.metric) (goal_step one.0 two.0 three.0) task three.2 in
      let five = bound (cond_of declared p.goal []) (λ goal. Some (task_with declared one.0 two.0 three.0 four.0 goal)) task four.2 in
      let here : IsTaskFor declared d p (task_with declared one.0 two.0 three.0 four.0 five.0) = record {
        few = counts.0;
        few_actions = counts.1;
        types = refl;
        objects = refl;
        predicates = refl;
        functions = refl;
        actions = one.1;
        atoms = two.1;
        values = three.1;
        goal = five.1;
        metric = four.1;
      } in
      subst (λ (t : TypedTask). IsTaskFor declared d p t) (same_Some (task_with declared one.0 two.0 three.0 four.0 five.0) task five.2) here

  task_is : (task : TypedTask) → IsTaskFor declared d p task → task_with declared task.actions task.atoms task.values task.metric task.goal ≡ task
  task_is task h =
      let make : List TypeName → List object.Object → List Symbol → List Symbol → TypedTask = λ ts os ps fs. record { types = ts; objects = os; predicates = ps; functions = fs; actions = task.actions; atoms = task.atoms; values = task.values; goal = task.goal; metric = task.metric } in
      let objects = paired object_named declared.objects declared.object_types in
      let predicates = paired symbol_named declared.predicates declared.predicate_types in
      let functions = paired symbol_named declared.functions declared.function_types in
      ap (λ (ts : List TypeName). make ts objects predicates functions) (sym h.types)
      ∙ (ap (λ (os : List object.Object). make task.types os predicates functions) (sym h.objects)
      ∙ (ap (λ (ps : List Symbol). make task.types task.objects ps functions) (sym h.predicates)
      ∙ ap (λ (fs : List Symbol). make task.types task.objects task.predicates fs) (sym h.functions)))

  pub task_complete : (task : TypedTask) → IsTaskFor declared d p task → task_of declared d p ≡ Some task
  unfolding task_of task_for goal_step metric_step values_step atoms_step
  task_complete task h =
      is_when (are_few declared d) (task_for declared d p) (are_within declared d h.few h.few_actions)
      ∙ bind_is (actions_of declared d.actions) atoms_step task.actions task h.actions
      (bind_is (facts_of declared p.atoms) (values_step task.actions) task.atoms task h.atoms
      (bind_is (values_of declared p.values) (metric_step task.actions task.atoms) task.values task h.values
      (bind_is (metric_of declared p.metric) (goal_step task.actions task.atoms task.values) task.metric task h.metric
      (bind_is (cond_of declared p.goal []) (λ goal. Some (task_with declared task.actions task.atoms task.values task.metric goal)) task.goal task h.goal
      (ap Some (task_is task h))))))

  pub one_task : (one other : TypedTask) → IsTaskFor declared d p one → IsTaskFor declared d p other → one ≡ other
  one_task one other h k = same_Some one other (sym (task_complete one h) ∙ task_complete other k)
