-- When a ground condition holds, fails or does neither; which effects fire; when a ground action is applicable.
use Rattle.std.specs.Prelude.{ℕ, pos, Bool, true, false, ◌&&◌, ◌||◌, not, if◌then◌else◌, nat_eq, List, map, filter, length, get_or, Option, Some, None, is_some}
use Rattle.std.specs.List.{fold, list_all, list_any}
use Rattle.std.specs.declared.cmp.Ordering.{Ordering}
use Rattle.std.specs.declared.cmp.Ordering.TheVariants.{Less, Equal, Greater}
use Rattle.mf_fraction.specs.Exact.{Number, whole, order_of}
use Rattle.mf_model.specs.declared.task.Relation.{Relation}
use Rattle.mf_model.specs.declared.task.Relation.TheVariants as relation
use Rattle.mf_model.specs.declared.truth.Truth.{Truth}
use Rattle.mf_model.specs.declared.truth.Truth.TheVariants.{Neither}
use Rattle.mf_model.specs.Application.{divides_by_zero, is_sum, new_value, reads_old}
use Rattle.mf_model.specs.Meaning.{truth_of, not_of, all_of, any_of, is_yes}
use Rattle.mf_task.specs.declared.form.Form.{Form}
use Rattle.mf_task.specs.declared.ground.GroundCond.{GroundCond, fold-GroundCond}
use Rattle.mf_task.specs.declared.ground.GroundCond.TheOpen.{GroundCond-F}
use Rattle.mf_task.specs.declared.ground.GroundChange.{GroundChange}
use Rattle.mf_task.specs.declared.ground.GroundChange.TheVariants as change
use Rattle.mf_task.specs.declared.ground.GroundEffect.{GroundEffect}
use Rattle.mf_task.specs.declared.ground.GroundAction.{GroundAction}
use Rattle.mf_task.specs.declared.task.Task.{Task}
use Rattle.mf_task.specs.LinearForms.{constant_form, form_value, optional_form_value}
use Rattle.mf_task.specs.Rows.{Sight}

-- Conditions

-- a number of this sign stands in the relation to 0
abbrev pub relates : Relation → Ordering → Bool
relates relation.Less Less = true
relates relation.Less Equal = false
relates relation.Less Greater = false
relates relation.AtMost Less = true
relates relation.AtMost Equal = true
relates relation.AtMost Greater = false
relates relation.Equal Less = false
relates relation.Equal Equal = true
relates relation.Equal Greater = false
relates relation.AtLeast Less = false
relates relation.AtLeast Equal = true
relates relation.AtLeast Greater = true
relates relation.More Less = false
relates relation.More Equal = false
relates relation.More Greater = true

abbrev pub sign : Number → Ordering
sign a = order_of a (whole (pos 0))

abbrev pub truth_at : Relation → Option Number → Truth
truth_at r (Some a) = truth_of (relates r (sign a))
truth_at r None = Neither

abbrev pub form_at : Task → ℕ → Form
form_at task number = get_or task.forms number (constant_form (whole (pos 0)))

abbrev pub ground_truth_step : Task → Sight → GroundCond-F Truth → Truth
ground_truth_step task sight (GroundCond-F.Fact holds) = truth_of holds
ground_truth_step task sight GroundCond-F.Neither = Neither
ground_truth_step task sight (GroundCond-F.Atom atom) = truth_of (sight.bit atom)
ground_truth_step task sight (GroundCond-F.Compare r form) = truth_at r (form_value sight.value (form_at task form))
ground_truth_step task sight (GroundCond-F.Not part) = not_of part
ground_truth_step task sight (GroundCond-F.And parts) = all_of parts
ground_truth_step task sight (GroundCond-F.Or parts) = any_of parts

abbrev pub ground_truth : Task → Sight → GroundCond → Truth
ground_truth task sight = fold-GroundCond Truth (ground_truth_step task sight)

abbrev pub ground_holds : Task → Sight → GroundCond → Bool
ground_holds task sight condition = is_yes (ground_truth task sight condition)

-- every top-level conjunct of the goal holds
abbrev pub is_ground_goal : Task → Sight → Bool
is_ground_goal task sight = list_all (ground_holds task sight) task.goal

-- Effects

abbrev pub optional_form_at : Task → Option ℕ → Option Form
optional_form_at task (Some number) = Some (form_at task number)
optional_form_at task None = None

-- the value of a right side
abbrev pub right_side : Task → Sight → Option ℕ → Option Number
right_side task sight value = optional_form_value sight.value (optional_form_at task value)

-- the changes of the effects that fire, in the order of the text
abbrev pub ground_firing : Task → Sight → List GroundEffect → List GroundChange
ground_firing task sight effects = map (λ effect. effect.change) (filter (λ effect. ground_holds task sight effect.condition) effects)

-- it reads only defined values; a division by 0 counts as reading an undefined one
abbrev pub is_ground_defined : Task → Sight → GroundChange → Bool
is_ground_defined task sight (change.Add atom) = true
is_ground_defined task sight (change.Delete atom) = true
is_ground_defined task sight (change.Number op term value) =
    is_some (right_side task sight value) && not (divides_by_zero op (right_side task sight value)) && (not (reads_old op) || is_some (sight.value term))
is_ground_defined task sight (change.Cost value) = is_some (right_side task sight value)
is_ground_defined task sight change.Nothing = true

abbrev pub changes_term : ℕ → GroundChange → Bool
changes_term term (change.Add atom) = false
changes_term term (change.Delete atom) = false
changes_term term (change.Number op changed value) = nat_eq term changed
changes_term term (change.Cost value) = false
changes_term term change.Nothing = false

abbrev pub is_ground_sum : GroundChange → Bool
is_ground_sum (change.Add atom) = true
is_ground_sum (change.Delete atom) = true
is_ground_sum (change.Number op term value) = is_sum op
is_ground_sum (change.Cost value) = true
is_ground_sum change.Nothing = true

-- the changes of one term are increases and decreases alone, or there is exactly one
abbrev pub ground_agree : List GroundChange → Bool
ground_agree changes = list_all is_ground_sum changes || nat_eq (length changes) 1

abbrev pub is_ground_apart : List GroundChange → GroundChange → Bool
is_ground_apart changes (change.Add atom) = true
is_ground_apart changes (change.Delete atom) = true
is_ground_apart changes (change.Number op term value) = ground_agree (filter (changes_term term) changes)
is_ground_apart changes (change.Cost value) = true
is_ground_apart changes change.Nothing = true

-- Actions

abbrev pub action_firing : Task → Sight → GroundAction → List GroundChange
action_firing task sight action = ground_firing task sight action.effects

-- the precondition holds, the firing effects read only defined values, and they agree on each term
abbrev pub is_ground_applicable : Task → Sight → GroundAction → Bool
is_ground_applicable task sight action =
    ground_holds task sight action.condition
    && list_all (is_ground_defined task sight) (action_firing task sight action)
    && list_all (is_ground_apart (action_firing task sight action)) (action_firing task sight action)

-- The next row

abbrev pub adds_atom : ℕ → GroundChange → Bool
adds_atom atom (change.Add added) = nat_eq atom added
adds_atom atom (change.Delete deleted) = false
adds_atom atom (change.Number op term value) = false
adds_atom atom (change.Cost value) = false
adds_atom atom change.Nothing = false

abbrev pub deletes_atom : ℕ → GroundChange → Bool
deletes_atom atom (change.Add added) = false
deletes_atom atom (change.Delete deleted) = nat_eq atom deleted
deletes_atom atom (change.Number op term value) = false
deletes_atom atom (change.Cost value) = false
deletes_atom atom change.Nothing = false

-- the value of a term after one change, with right sides read in the old state
abbrev pub value_after : Task → Sight → ℕ → Option Number → GroundChange → Option Number
value_after task sight term old (change.Add atom) = old
value_after task sight term old (change.Delete atom) = old
value_after task sight term old (change.Number op changed value) =
    if nat_eq term changed then new_value op old (right_side task sight value) else old
value_after task sight term old (change.Cost value) = old
value_after task sight term old change.Nothing = old

-- what the next state shows: atoms that are deleted and added are true
abbrev pub next_sight : Task → Sight → List GroundChange → Sight
next_sight task sight changes = record {
  bit = λ atom. list_any (adds_atom atom) changes || (sight.bit atom && not (list_any (deletes_atom atom) changes));
  value = λ term. fold (value_after task sight term) (sight.value term) changes;
}
