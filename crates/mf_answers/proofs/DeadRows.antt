-- From a dead row no list of instances is a plan.
use Rattle.std.proofs.Common.{◌≡◌, ◌⊎◌, inl, inr, ℕ, ◌<◌, Bool, true, false, nat_eq, if◌then◌else◌, List, [], ◌∷◌, length, get_or, map, Option, Some, None, refl, sym, ap, subst, ◌∙◌, arith, ⊎_elim, true≢false}
use Rattle.std.specs.Prelude.{Contains}
use Rattle.std.specs.List.{AllByRecursion, fold, list_all}
use Rattle.std.proofs.lemmas.Bool.{and_parts, cases_lt}
use Rattle.std.proofs.lemmas.List.{get_or_past}
use Rattle.mf_fraction.specs.Exact.{Number, quotient_of}
use Rattle.mf_fraction.proofs.Algebra.{difference_of-proper, quotient_of-proper}
use Rattle.mf_store.specs.Rows.{RowLists}
use Rattle.mf_model.specs.declared.state.Instance.{Instance}
use Rattle.mf_model.specs.declared.task.Op.{Op}
use Rattle.mf_model.specs.declared.task.Op.TheVariants.{Assign, Increase, Decrease, ScaleUp, ScaleDown}
use Rattle.mf_model.specs.declared.task.TypedTask.{TypedTask}
use Rattle.mf_model.specs.Application.{new_value}
use Rattle.mf_model.specs.LiveInstances.{live_instances}
use Rattle.mf_model.specs.Meaning.{minus, over}
use Rattle.mf_model.specs.ResolvedTask.{IsResolvedTask}
use Rattle.mf_model.specs.SearchStates.{with_costs}
use Rattle.mf_model.specs.States.{look_of}
use Rattle.mf_meaning.specs.SearchPlans.{IsSearchPlanAmong, next_search_state}
use Rattle.mf_search.proofs.Members.{in_cons, in_first, in_later, not_in_nil}
use Rattle.mf_task.specs.declared.ground.GroundAction.{GroundAction}
use Rattle.mf_task.specs.declared.ground.GroundChange.{GroundChange}
use Rattle.mf_task.specs.declared.ground.GroundChange.TheVariants as change
use Rattle.mf_task.specs.declared.ground.GroundEffect.{GroundEffect}
use Rattle.mf_task.specs.declared.task.Task.{Task}
use Rattle.mf_task.specs.GroundMeaning.{action_firing, form_at, ground_firing, ground_holds, is_ground_applicable, is_ground_goal, next_sight, right_side, value_after}
use Rattle.mf_task.specs.LimitClosure.{is_dead}
use Rattle.mf_task.specs.NumberedTasks.{HasProperForms, IsProperSight, is_numbered_action, is_numbered_change}
use Rattle.mf_task.specs.Rows.{IsRowOf, Sight, sight_of}
use Rattle.mf_task.specs.RowStates.{state_of}
use Rattle.mf_task.specs.Successors.{packed_of}
use Rattle.mf_bridge.specs.StoredRows.{HasLowestValues}
use Rattle.mf_bridge.proofs.ActionsMade.{live_actions}
use Rattle.mf_bridge.proofs.ConditionLaws.{goal_alike}
use Rattle.mf_bridge.proofs.GroundSuccessors.{row_applicable, row_next}
use Rattle.mf_bridge.proofs.LowestForms.{forms_are_proper}
use Rattle.mf_bridge.proofs.Numbers.{IsLowest, plus_lowest, times_lowest}
use Rattle.mf_bridge.proofs.RowSights.{row_shows}
use Rattle.mf_bridge.proofs.Weights.{form_value_lowest}
use Rattle.mf_limit.specs.GroundRuns.{IsGroundRun, end_of_run}
use Rattle.mf_limit.proofs.DeadEnds.{no-goal}
use Rattle.mf_packed.proofs.NumberedEffects.{task_numbered}
use Rattle.mf_answers.proofs.RowsOf.{at-table, next-is-sight, row-has-shape, row-has-sight, row-sight-is, row_of, sight-of-row}

-- Values stay in lowest terms

minus_lowest : (x y : Option Number) → IsLowest x → IsLowest y → IsLowest (minus x y)
minus_lowest (Some a) (Some b) p q = difference_of-proper a b p.positive q.positive
minus_lowest (Some a) None p q = tt
minus_lowest None y p q = tt

over_lowest : (x y : Option Number) → IsLowest x → IsLowest y → IsLowest (over x y)
over_lowest (Some a) (Some b) p q = by (quotient_of a b) refl
  where
    by : (o : Option Number) → quotient_of a b ≡ o → IsLowest o
    by (Some c) e = quotient_of-proper a b c p.positive e
    by None e = tt
over_lowest (Some a) None p q = tt
over_lowest None y p q = tt

new_lowest : (op : Op) (old value : Option Number) → IsLowest old → IsLowest value → IsLowest (new_value op old value)
new_lowest Assign old value p q = q
new_lowest Increase old value p q = plus_lowest old value p q
new_lowest Decrease old value p q = minus_lowest old value p q
new_lowest ScaleUp old value p q = times_lowest old value p q
new_lowest ScaleDown old value p q = over_lowest old value p q

module _ (task : Task) (sight : Sight) (forms : HasProperForms task) (lowest : (term : ℕ) → IsLowest (sight.value term)) where
  right_lowest : (value : Option ℕ) → IsLowest (right_side task sight value)
  right_lowest (Some number) = let form = forms.forms number in form_value_lowest sight.value lowest (form_at task number) (record { constant = form.constant; parts = form.coefficients })
  right_lowest None = tt

  after_lowest : (term : ℕ) (c : GroundChange) (old : Option Number) → IsLowest old → IsLowest (value_after task sight term old c)
  after_lowest term (change.Add atom) old p = p
  after_lowest term (change.Delete atom) old p = p
  after_lowest term (change.Number op changed value) old p = by (nat_eq term changed)
    where
      by : (b : Bool) → IsLowest (if b then new_value op old (right_side task sight value) else old)
      by true = new_lowest op old (right_side task sight value) p (right_lowest value)
      by false = p
  after_lowest term (change.Cost value) old p = p
  after_lowest term change.Nothing old p = p

  pub next_lowest : (term : ℕ) (cs : List GroundChange) (old : Option Number) → IsLowest old → IsLowest (fold (value_after task sight term) old cs)
  next_lowest term [] old p = p
  next_lowest term (c ∷ cs) old p = next_lowest term cs (value_after task sight term old c) (after_lowest term c old p)

row_is_lowest : (row : RowLists) → HasLowestValues row → (term : ℕ) → IsLowest (get_or row.values term None)
row_is_lowest row lowest term = ⊎_elim (λ within. lowest term None within) (λ past. subst IsLowest (sym (get_or_past row.values term None past)) tt) (cases_lt term (length row.values))

proper-sight : (row : RowLists) → HasLowestValues row → IsProperSight (sight_of row)
proper-sight row lowest = record { values = λ term a e. let p : IsLowest (Some a) = subst IsLowest e (row_is_lowest row lowest term) in p }

table-lowest : (task : Task) (sight : Sight) → ((term : ℕ) → IsLowest (sight.value term)) → HasLowestValues (row_of task sight)
table-lowest task sight lowest n d within =
    let count = (row-has-shape task sight).values in
    subst IsLowest (sym (at-table sight.value (length task.terms) n d (subst (λ k. n < k) count within))) (lowest n)

-- What fires is numbered

firing-numbered : (task : Task) (sight : Sight) (effects : List GroundEffect) → list_all (λ (effect : GroundEffect). is_numbered_change task effect.change) effects ≡ true → AllByRecursion (λ c. is_numbered_change task c ≡ true) (ground_firing task sight effects)
firing-numbered task sight [] e = tt
firing-numbered task sight (effect ∷ effects) e = by (ground_holds task sight effect.condition) refl (firing-numbered task sight effects both.1)
  where
    both : (is_numbered_change task effect.change ≡ true) × (list_all (λ (x : GroundEffect). is_numbered_change task x.change) effects ≡ true)
    both = and_parts (is_numbered_change task effect.change) (list_all (λ (x : GroundEffect). is_numbered_change task x.change) effects) e

    by : (b : Bool) → ground_holds task sight effect.condition ≡ b → AllByRecursion (λ c. is_numbered_change task c ≡ true) (ground_firing task sight effects) → AllByRecursion (λ c. is_numbered_change task c ≡ true) (ground_firing task sight (effect ∷ effects))
    by true h rest = rw h (both.0, rest)
    by false h rest = rw h rest

all-at : (p : GroundAction → Bool) (actions : List GroundAction) (action : GroundAction) → list_all p actions ≡ true → Contains actions action → p action ≡ true
all-at p [] action e h = absurd (not_in_nil action h)
all-at p (a ∷ actions) action e h =
    let both = and_parts (p a) (list_all p actions) e in
    ⊎_elim (λ same. subst (λ x. p x ≡ true) same both.0) (all-at p actions action both.1) (in_cons a actions action h)

-- Runs

pub record IsAction (actions : List GroundAction) (instance : Instance) : Type 0 where
  pub action : GroundAction
  pub contained : Contains actions action
  pub instance_is : action.instance ≡ instance

of-instance : (actions : List GroundAction) (instance : Instance) → Contains (map (λ action. action.instance) actions) instance → IsAction actions instance
of-instance [] instance h = absurd (not_in_nil instance h)
of-instance (a ∷ actions) instance h = by (of-instance actions instance) (in_cons a.instance (map (λ action. action.instance) actions) instance h)
  where
    by : (Contains (map (λ action. action.instance) actions) instance → IsAction actions instance) → (a.instance ≡ instance) ⊎ Contains (map (λ action. action.instance) actions) instance → IsAction (a ∷ actions) instance
    by rest (inl e) = record { action = a; contained = in_first a actions; instance_is = e }
    by rest (inr later) = let found = rest later in record { action = found.action; contained = in_later a actions found.action found.contained; instance_is = found.instance_is }

module _ (task : TypedTask) (resolved : IsResolvedTask task) where
  abbrev packed : Task
  packed = packed_of task

  pub record HasRun (row : RowLists) : Type 0 where
    pub actions : List GroundAction
    pub run : IsGroundRun packed (sight_of row) actions
    pub goal : is_ground_goal packed (end_of_run packed (sight_of row) actions) ≡ true

  pub has-run : (steps : List Instance) (row : RowLists) → IsRowOf packed row → HasLowestValues row → IsSearchPlanAmong task (live_instances task) (state_of task packed row) steps → HasRun row
  has-run [] row shape lowest plan = record {
    actions = [];
    run = tt;
    goal = sym (goal_alike task (live_instances task) (look_of (with_costs task (state_of task packed row))) (sight_of row) resolved (row_shows task (live_instances task) row shape resolved lowest) (shape.clear (length packed.atoms) (omega arith))) ∙ plan;
  }
  has-run (step ∷ steps) row shape lowest plan =
      let found = of-instance packed.actions step (subst (λ (is : List Instance). Contains is step) (sym (live_actions task)) plan.0) in
      let action = found.action in
      let sight = sight_of row in
      let firing = action_firing packed sight action in
      let applicable : is_ground_applicable packed sight action ≡ true = sym (row_applicable task row resolved shape lowest action found.contained) ∙ rw found.instance_is plan.1 in
      let there = next_sight packed sight firing in
      let next = row_of packed there in
      let numbered = firing-numbered packed sight action.effects (all-at (is_numbered_action packed) packed.actions action (task_numbered task (live_instances task)) found.contained) in
      let sights : sight_of next ≡ there = row-sight-is packed there (next-is-sight packed sight firing (sight-of-row packed row shape) numbered) in
      let state_is : state_of task packed next ≡ next_search_state task (state_of task packed row) step = row_next task row resolved shape lowest action found.contained applicable next (row-has-sight packed there) ∙ ap (next_search_state task (state_of task packed row)) found.instance_is in
      let values = table-lowest packed there (λ term. next_lowest packed sight (forms_are_proper task (live_instances task) resolved) (row_is_lowest row lowest) term firing (sight.value term) (row_is_lowest row lowest term)) in
      let rest = has-run steps next (row-has-shape packed there) values (subst (λ s. IsSearchPlanAmong task (live_instances task) s steps) (sym state_is) plan.2) in
      record {
        actions = action ∷ rest.actions;
        run = (found.contained, applicable, subst (λ s. IsGroundRun packed s rest.actions) sights rest.run);
        goal = subst (λ s. is_ground_goal packed (end_of_run packed s rest.actions) ≡ true) sights rest.goal;
      }

  pub dead-row : (row : RowLists) → IsRowOf packed row → HasLowestValues row → is_dead packed (sight_of row) ≡ true → (steps : List Instance) → IsSearchPlanAmong task (live_instances task) (state_of task packed row) steps → ⊥
  dead-row row shape lowest dead steps plan =
      let r = has-run steps row shape lowest plan in
      true≢false (sym r.goal ∙ no-goal packed (sight_of row) r.actions (task_numbered task (live_instances task)) (forms_are_proper task (live_instances task) resolved) (proper-sight row lowest) dead r.run)
