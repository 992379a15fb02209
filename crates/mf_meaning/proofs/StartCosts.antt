-- Applicable instances leave the terms of cost functions defined exactly where they are at the start.
use Rattle.std.proofs.Common.{◌≡◌, ℕ, Bool, true, false, not, ◌&&◌, ◌||◌, cond, nat_eq, List, [], ◌∷◌, Option, Some, None, slice_get, refl, sym, ap, ◌∙◌}
use Rattle.std.specs.List.{fold, list_all}
use Rattle.std.specs.Option.{is_some}
use Rattle.std.proofs.lemmas.Bool.{and_parts, eq-eqb, eqb-true, false≢true}
use Rattle.mf_fraction.specs.Exact.{Number}
use Rattle.mf_model.specs.declared.task.Op.{Op}
use Rattle.mf_model.specs.declared.task.Op.TheVariants.{Assign, Increase, Decrease, ScaleUp, ScaleDown}
use Rattle.mf_model.specs.declared.task.Valued.{Valued}
use Rattle.mf_model.specs.declared.task.TypedTask.{TypedTask}
use Rattle.mf_model.specs.declared.state.Instance.{Instance}
use Rattle.mf_model.specs.declared.state.PlainState.{PlainState}
use Rattle.mf_model.specs.Application.{Change, Added, Deleted, Changed, changes_of, divides_by_zero, is_applicable, is_apart, is_defined, is_sum, new_value, next_state, precondition_holds, reads_old, with_change, with_some_value}
use Rattle.mf_model.specs.SearchStates.{HasStartCosts}
use Rattle.mf_model.specs.States.{look_of, value_at}
use Rattle.mf_model.specs.Views.{Look}
use Rattle.mf_meaning.proofs.ActionsOf.{instance_sums}
use Rattle.mf_meaning.proofs.FiredChanges.{sums}
use Rattle.mf_meaning.proofs.Lookups.{value_at-with_value}
use Rattle.mf_meaning.proofs.NumberOrder.{same_key, same_key-number, same_key-objects}

-- an operation that is a sum reads the old value
sum_reads : (op : Op) → is_sum op ≡ true → (b : Bool) → (not (reads_old op) || b) ≡ true → b ≡ true
sum_reads Increase sum b e = e
sum_reads Decrease sum b e = e
sum_reads Assign sum b e = absurd (false≢true sum)
sum_reads ScaleUp sum b e = absurd (false≢true sum)
sum_reads ScaleDown sum b e = absurd (false≢true sum)

-- a value that is put in place of an older one leaves the same terms defined
put_defined : (values : List Valued) (g : ℕ) (os : List ℕ) (value : Option Number) (f : ℕ) (objects : List ℕ) →
    (nat_eq f g ≡ true → is_some (value_at values g os) ≡ true) → is_some (value_at (with_some_value values g os value) f objects) ≡ is_some (value_at values f objects)
put_defined values g os None f objects defined = refl
put_defined values g os (Some number) f objects defined =
    let v : Valued = record { cell = record { function = g; objects = os }; value = number } in
    ap (λ (x : Option Number). is_some x) (value_at-with_value values v f objects) ∙ by (same_key f objects g os) refl
  where
    by : (here : Bool) → same_key f objects g os ≡ here → is_some (cond (same_key f objects g os) (Some number) (value_at values f objects)) ≡ is_some (value_at values f objects)
    by true e =
        let n = same_key-number f objects g os e in
        let there = ap (λ (k : ℕ). is_some (value_at values k objects)) n ∙ ap (λ (ks : List ℕ). is_some (value_at values g ks)) (same_key-objects f objects g os e) ∙ defined (eq-eqb f g n) in
        rw e (sym there)
    by false e = rw e refl

module _ (f : ℕ) (look : Look) where
  -- the function's terms are defined in the values exactly where they are in the state
  abbrev AreDefinedAlike : List Valued → Type 0
  AreDefinedAlike values = (objects : List ℕ) → is_some (value_at values f objects) ≡ is_some (look.value f objects)

  change_keeps : (values : List Valued) (change : Change) → sums f change ≡ true → is_defined look change ≡ true → AreDefinedAlike values → AreDefinedAlike (with_change values change)
  change_keeps values (Added predicate os) summed defined alike objects = alike objects
  change_keeps values (Deleted predicate os) summed defined alike objects = alike objects
  change_keeps values (Changed op g os value) summed defined alike objects =
      put_defined values g os (new_value op (value_at values g os) value) f objects old ∙ alike objects
    where
      old : nat_eq f g ≡ true → is_some (value_at values g os) ≡ true
      old same =
          let sum : is_sum op ≡ true = ap (λ (b : Bool). not b || is_sum op) (sym same) ∙ summed in
          let before = sum_reads op sum (is_some (look.value g os)) (and_parts (is_some value && not (divides_by_zero op value)) (not (reads_old op) || is_some (look.value g os)) defined).1 in
          let n = eqb-true f g same in
          ap (λ (k : ℕ). is_some (value_at values k os)) (sym n) ∙ alike os ∙ ap (λ (k : ℕ). is_some (look.value k os)) n ∙ before

  changes_keep : (values : List Valued) (changes : List Change) → list_all (sums f) changes ≡ true → list_all (is_defined look) changes ≡ true → AreDefinedAlike values → AreDefinedAlike (fold with_change values changes)
  changes_keep values [] summed defined alike = alike
  changes_keep values (change ∷ changes) summed defined alike =
      let sum = and_parts (sums f change) (list_all (sums f) changes) summed in
      let def = and_parts (is_defined look change) (list_all (is_defined look) changes) defined in
      changes_keep (with_change values change) changes sum.1 def.1 (change_keeps values change sum.0 def.0 alike)

pub costs_kept : (task : TypedTask) (state : PlainState) (instance : Instance) → HasStartCosts task state → is_applicable task state instance ≡ true → HasStartCosts task (next_state task state instance)
costs_kept task state instance costs applicable function objects cost =
    let changes = changes_of task state instance in
    let defined = (and_parts (precondition_holds task state instance.objects (slice_get task.actions instance.action)) (list_all (is_defined (look_of state)) changes)
    (and_parts (precondition_holds task state instance.objects (slice_get task.actions instance.action) && list_all (is_defined (look_of state)) changes) (list_all (is_apart changes) changes) applicable).0).1 in
    changes_keep function (look_of state) state.values changes (instance_sums task state instance function cost) defined (λ os. refl) objects ∙ costs function objects cost
