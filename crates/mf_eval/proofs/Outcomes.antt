-- What was read while an instance is applied, as its outcome.
use Rattle.std.proofs.Common.{◌≡◌, ℕ, Bool, true, false, ◌||◌, List, [], ◌∷◌, Some, Result, Ok, Err, refl, sym, ap, ◌∙◌}
use Rattle.std.specs.List.{list_all, fold, flat_map}
use Rattle.mf_fraction.specs.declared.faults.Wide.{Wide}
use Rattle.mf_fraction.specs.Checked.{wide}
use Rattle.mf_model.specs.declared.state.PlainState.{PlainState}
use Rattle.mf_model.specs.declared.task.Action.{Action}
use Rattle.mf_model.specs.declared.task.Atom.{Atom}
use Rattle.mf_model.specs.declared.task.TypedTask.{TypedTask}
use Rattle.mf_model.specs.declared.task.Valued.{Valued}
use Rattle.mf_model.specs.Application.{Change, Added, Deleted, Changed, added, deleted, firing_of, is_apart, is_defined, new_value, with_change, with_some_value}
use Rattle.mf_model.specs.Meaning.{holds_in}
use Rattle.mf_model.specs.Objects.{kinds_of}
use Rattle.mf_model.specs.States.{look_of, value_at, with_atom, without_atom}
use Rattle.mf_eval.specs.declared.fault.ApplyFault.{ApplyFault}
use Rattle.mf_eval.specs.declared.fault.ApplyFault.TheVariants as fault
use Rattle.mf_eval.specs.declared.fault.Why.TheVariants as why
use Rattle.mf_eval.specs.Answers.{answered, ◌>>=◌}
use Rattle.mf_eval.specs.Fired.{fired}
use Rattle.mf_eval.specs.Judged.{met}
use Rattle.mf_eval.specs.Outcome.{Fails, Gives, changed_outcome, is_result_wide, outcome_for, some_result_is_wide}
use Rattle.mf_eval.specs.Results.{kept_change, kept_changes}
use Rattle.mf_eval.specs.Width.{is_condition_wide, is_effect_wide}
use Rattle.mf_eval.proofs.ConditionLaw.{met-is}
use Rattle.mf_eval.proofs.EffectLaw.{fired-is}
use Rattle.mf_eval.proofs.Truths.{then_one}

-- what an answer says of its test
wide_from : {A : Type 0} (b : Bool) (x : A) (w : Wide) → answered b x ≡ Err w → b ≡ true
wide_from true x w e = refl
wide_from false x w e = cc

narrow_from : {A : Type 0} (b : Bool) (x y : A) → answered b x ≡ Ok y → b ≡ false
narrow_from true x y e = cc
narrow_from false x y e = refl

value_from : {A : Type 0} (b : Bool) (x y : A) → answered b x ≡ Ok y → x ≡ y
value_from true x y e = cc
value_from false x y e = cc

-- the values
kept_change-is : (values : List Valued) (change : Change) → kept_change values change ≡ answered (is_result_wide values change) (with_change values change)
kept_change-is values (Changed op function objects value) =
    then_one (with_some_value values function objects) _ (new_value op (value_at values function objects) value)
kept_change-is values (Added predicate objects) = refl
kept_change-is values (Deleted predicate objects) = refl

next_where : (b : Bool) (next : List Valued) (changes : List Change) (x : Bool) (end : List Valued) → kept_changes next changes ≡ answered x end → (answered b next >>= λ new. kept_changes new changes) ≡ answered (b || x) end
next_where true next changes x end e = refl
next_where false next changes x end e = e

kept_changes-is : (values : List Valued) (changes : List Change) → kept_changes values changes ≡ answered (some_result_is_wide values changes) (fold with_change values changes)
kept_changes-is values [] = refl
kept_changes-is values (change ∷ changes) =
    ap (λ (r : Result (List Valued) Wide). r >>= λ new. kept_changes new changes) (kept_change-is values change)
    ∙ next_where (is_result_wide values change) (with_change values change) changes (some_result_is_wide (with_change values change) changes) (fold with_change (with_change values change) changes) (kept_changes-is (with_change values change) changes)

module _ (state : PlainState) (changes : List Change) where
  pub changed-fails : list_all (is_defined (look_of state)) changes ≡ true → list_all (is_apart changes) changes ≡ true → (reason : ApplyFault) → Fails (kept_changes state.values changes) reason → Gives (changed_outcome state changes) (Err reason)
  changed-fails d a fault.Wide h =
      let w = wide_from _ _ _ (sym (kept_changes-is state.values changes) ∙ h) in
      rw (d, a, w) refl
  changed-fails d a (fault.NotApplicable reason) h = absurd h
  changed-fails d a fault.Memory h = tt

  pub changed-done : (atoms : List Atom) (values : List Valued) → list_all (is_defined (look_of state)) changes ≡ true → list_all (is_apart changes) changes ≡ true → kept_changes state.values changes ≡ Ok values → atoms ≡ fold with_atom (fold without_atom state.atoms (flat_map deleted changes)) (flat_map added changes) → changed_outcome state changes ≡ Ok (record { atoms = atoms; values = values })
  changed-done atoms values d a h e =
      let k = sym (kept_changes-is state.values changes) ∙ h in
      let n = narrow_from _ _ _ k in
      let v = value_from _ _ _ k in
      rw (d, a, n, v, ← e) refl

module _ (task : TypedTask) (state : PlainState) (objects : List ℕ) (action : Action) (os : List ℕ) (same : os ≡ objects) where
  met_answer : met (kinds_of task) (look_of state) action.condition os ≡ answered (is_condition_wide (kinds_of task) (look_of state) action.condition objects) (holds_in (kinds_of task) (look_of state) action.condition objects)
  met_answer = ap (λ (b : List ℕ). met (kinds_of task) (look_of state) action.condition b) same ∙ met-is (kinds_of task) (look_of state) action.condition objects

  fired_answer : (ps : List ℕ) (front : List Change) → ps ≡ os → front ≡ [] → fired (kinds_of task) (look_of state) action.effect ps front ≡ answered (is_effect_wide (kinds_of task) (look_of state) action.effect objects) (firing_of (kinds_of task) (look_of state) action.effect objects)
  fired_answer ps front p f =
      ap (λ (b : List ℕ). fired (kinds_of task) (look_of state) action.effect b front) (p ∙ same)
      ∙ ap (λ (l : List Change). fired (kinds_of task) (look_of state) action.effect objects l) f
      ∙ fired-is (kinds_of task) (look_of state) action.effect objects []

  pub outcome-wide : (w : Wide) → Err w ≡ met (kinds_of task) (look_of state) action.condition os → outcome_for task state objects (Some action) ≡ Err fault.Wide
  outcome-wide w e =
      let t = wide_from _ _ w (sym (e ∙ met_answer)) in
      rw t refl

  pub outcome-unmet : Ok false ≡ met (kinds_of task) (look_of state) action.condition os → outcome_for task state objects (Some action) ≡ Err (fault.NotApplicable why.Condition)
  outcome-unmet e =
      let k = sym (e ∙ met_answer) in
      rw (narrow_from _ _ _ k, value_from _ _ _ k) refl

  module _ (ps : List ℕ) (front : List Change) (at : ps ≡ os) (none : front ≡ []) where
    pub outcome-fails : Ok true ≡ met (kinds_of task) (look_of state) action.condition os → (reason : ApplyFault) → Fails (fired (kinds_of task) (look_of state) action.effect ps front) reason → Gives (outcome_for task state objects (Some action)) (Err reason)
    outcome-fails e fault.Wide h =
        let k = sym (e ∙ met_answer) in
        let t = wide_from _ _ wide (sym (fired_answer ps front at none) ∙ h) in
        rw (narrow_from _ _ _ k, value_from _ _ _ k, t) refl
    outcome-fails e (fault.NotApplicable reason) h = absurd h
    outcome-fails e fault.Memory h = tt

    pub outcome-changed : Ok true ≡ met (kinds_of task) (look_of state) action.condition os → (changes : List Change) → fired (kinds_of task) (look_of state) action.effect ps front ≡ Ok changes → outcome_for task state objects (Some action) ≡ changed_outcome state changes
    outcome-changed e changes h =
        let k = sym (e ∙ met_answer) in
        let f = sym (fired_answer ps front at none) ∙ h in
        rw (narrow_from _ _ _ k, value_from _ _ _ k, narrow_from _ _ _ f, value_from _ _ _ f) refl
