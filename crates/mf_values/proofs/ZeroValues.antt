-- A state's value is 0 exactly where the goal holds there.
use Rattle.std.proofs.Common.{◌≡◌, ◌≢◌, ◌↔◌, ℕ, zero, suc, Bool, true, false, ◌&&◌, ◌||◌, not, if◌then◌else◌, List, [], ◌∷◌, ◌++◌, Option, Some, None, filter, length, map, refl, sym, ap, ap₂, subst, ◌∙◌, arith, true≢false}
use Rattle.std.specs.List.{list_all, list_any, flat_map}
use Rattle.mf_task.specs.declared.ground.GroundCond.{GroundCond}
use Rattle.mf_task.specs.declared.task.Task.{Task}
use Rattle.mf_task.specs.declared.value.HeuristicKind.{HeuristicKind}
use Rattle.mf_task.specs.declared.value.HeuristicKind.TheVariants.{Goals, Ff}
use Rattle.mf_task.specs.GroundMeaning.{ground_holds, is_ground_goal}
use Rattle.mf_task.specs.HeuristicValues.{length_at, live_value, open_goals, state_value, value_without_level}
use Rattle.mf_task.specs.Layers.{Layer, all_levels, firing_at, first_layer, goal_level, layer_at, layers_to, level_of, next_layer_by}
use Rattle.mf_task.specs.LimitClosure.{is_dead}
use Rattle.mf_task.specs.RelaxedPlan.{Relaxed, plan_length, relaxed_at, relaxed_from, relaxed_plan, required}
use Rattle.mf_task.specs.Rows.{Sight}
use Rattle.mf_task.specs.Width.{is_narrow, is_wide_action, is_wide_cond, is_wide_goal}
use Rattle.mf_task.specs.NumberedTasks.{HasProperForms, IsProperSight, is_numbered}
use Rattle.mf_limit.proofs.DeadEnds.{no-goal}
use Rattle.mf_values.specs.Fitting.{HasFittingConstants, IsStoredSight}
use Rattle.mf_values.proofs.Chosen.{relaxation_to, served-leaves}
use Rattle.mf_values.proofs.Plans.{goal-need, no-steps, plan-has-step}
use Rattle.mf_values.proofs.ZeroLevels.{Same, or-false, zero-goal}

proper-sight : (sight : Sight) → IsStoredSight sight → IsProperSight sight
proper-sight sight s = record { values = λ term a e. (s.values term a e).lowest }

-- Counting goals

none-unmet : (task : Task) (sight : Sight) (goal : List GroundCond) → Same (length (filter (λ part. not (ground_holds task sight part)) goal) ≡ 0) (list_all (ground_holds task sight) goal ≡ true)
none-unmet task sight [] = record { to = λ e. refl; back = λ e. refl }
none-unmet task sight (c ∷ goal) = by (ground_holds task sight c) refl (none-unmet task sight goal)
  where
    by : (b : Bool) → ground_holds task sight c ≡ b → Same (length (filter (λ part. not (ground_holds task sight part)) goal) ≡ 0) (list_all (ground_holds task sight) goal ≡ true) → Same (length (filter (λ part. not (ground_holds task sight part)) (c ∷ goal)) ≡ 0) (list_all (ground_holds task sight) (c ∷ goal) ≡ true)
    by true e rest = rw e rest
    by false e rest = rw e (record { to = λ f. absurd (omega (arith, f)); back = λ f. absurd cc })

-- Relaxed plans

head-layers : (task : Task) (sight : Sight) (n : ℕ) → (rest : List Layer) × (layers_to task sight n ≡ first_layer sight ∷ rest)
head-layers task sight zero = ([], refl)
head-layers task sight (suc n) =
    let h = head-layers task sight n in
    let new = next_layer_by task (layer_at sight (layers_to task sight n) n) (firing_at task (layers_to task sight n)) in
    (h.0 ++ new ∷ [], ap (λ ls. ls ++ new ∷ []) h.1)

module _ (task : Task) (sight : Sight) (n : ℕ) (forms : HasProperForms task) (constants : HasFittingConstants task) (stored : IsStoredSight sight) (narrow : is_wide_goal task sight ≡ false) where
  abbrev level : Option ℕ
  level = all_levels (map (level_of task (layers_to task sight n)) task.goal)

  abbrev relaxed : Relaxed
  relaxed = relaxed_at (relaxation_to task sight n) level

  zero-is-goal : Same (level ≡ Some 0) (is_ground_goal task sight ≡ true)
  zero-is-goal =
      let h = head-layers task sight n in
      subst (λ (ls : List Layer). Same (all_levels (map (level_of task ls) task.goal) ≡ Some 0) (is_ground_goal task sight ≡ true)) (sym h.1) (zero-goal task sight h.0 forms (proper-sight sight stored) task.goal narrow)

  has-step : (k : ℕ) → level ≡ Some (suc k) → plan_length relaxed ≢ 0
  has-step k e none =
      let r = relaxation_to task sight n in
      let need = goal-need r k (served-leaves task sight n forms constants stored k) task.goal e in
      plan-has-step r k (flat_map (required r) task.goal) need (sym (ap (λ (o : Option ℕ). (relaxed_at r o).steps) e) ∙ no-steps relaxed none)

  abbrev length_of : Option ℕ → ℕ
  length_of None = value_without_level
  length_of (Some l) = plan_length relaxed

  pub zero-length : Same (length_of level ≡ 0) (is_ground_goal task sight ≡ true)
  zero-length = record { to = λ e. by level refl e; back = λ e. let z = zero-is-goal.back e in ap length_of z ∙ ap (λ (o : Option ℕ). plan_length (relaxed_at (relaxation_to task sight n) o)) z }
    where
      by : (o : Option ℕ) → level ≡ o → length_of o ≡ 0 → is_ground_goal task sight ≡ true
      by None f e = absurd (omega (arith, e))
      by (Some zero) f e = zero-is-goal.to f
      by (Some (suc k)) f e = absurd (has-step k f e)

-- Both heuristics

wide-goal : (task : Task) (sight : Sight) → is_narrow task sight ≡ true → is_wide_goal task sight ≡ false
wide-goal task sight e = (or-false (is_wide_goal task sight) (list_any (is_wide_action task sight) task.actions) (not-true (is_wide_goal task sight || list_any (is_wide_action task sight) task.actions) e)).0
  where
    not-true : (b : Bool) → not b ≡ true → b ≡ false
    not-true false f = refl
    not-true true f = cc

zero-live : (kind : HeuristicKind) (task : Task) (sight : Sight) → HasProperForms task → HasFittingConstants task → IsStoredSight sight → is_narrow task sight ≡ true → Same (live_value kind task sight ≡ 0) (is_ground_goal task sight ≡ true)
zero-live Goals task sight forms constants stored narrow = none-unmet task sight task.goal
zero-live Ff task sight forms constants stored narrow = zero-length task sight 1000 forms constants stored (wide-goal task sight narrow)

not-dead : (task : Task) (sight : Sight) → is_numbered task ≡ true → HasProperForms task → IsStoredSight sight → is_ground_goal task sight ≡ true → is_dead task sight ≡ false
not-dead task sight numbered forms stored goal = by (is_dead task sight) refl
  where
    by : (b : Bool) → is_dead task sight ≡ b → b ≡ false
    by false e = refl
    by true e = absurd (true≢false (sym goal ∙ no-goal task sight [] numbered forms (proper-sight sight stored) e tt))

pub zero-value : (kind : HeuristicKind) (task : Task) (sight : Sight) → is_numbered task ≡ true → HasProperForms task → HasFittingConstants task → IsStoredSight sight → is_narrow task sight ≡ true → (state_value kind task sight ≡ Some 0) ↔ (is_ground_goal task sight ≡ true)
zero-value kind task sight numbered forms constants stored narrow = (λ e. by (is_dead task sight) e, λ goal. rw (not-dead task sight numbered forms stored goal) (ap (λ n. Some n) ((zero-live kind task sight forms constants stored narrow).back goal)))
  where
    by : (b : Bool) → (if b then None else Some (live_value kind task sight)) ≡ Some 0 → is_ground_goal task sight ≡ true
    by true e = absurd cc
    by false e = (zero-live kind task sight forms constants stored narrow).to cc
