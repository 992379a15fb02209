-- The row to which an action leads, from what its deletes, its adds and its numeric changes leave.
use Rattle.std.proofs.Common.{◌≡◌, ℕ, Bool, true, false, not, ◌&&◌, ◌||◌, List, Option, refl, sym, ap, ◌∙◌}
use Rattle.std.proofs.Math.Path.{fun_ext}
use Rattle.std.specs.List.{list_any}
use Rattle.mf_fraction.specs.Exact.{Number}
use Rattle.mf_store.specs.Rows.{RowLists, bit_in}
use Rattle.mf_task.specs.declared.ground.GroundAction.{GroundAction}
use Rattle.mf_task.specs.declared.ground.GroundChange.{GroundChange}
use Rattle.mf_task.specs.declared.task.Task.{Task}
use Rattle.mf_task.specs.GroundMeaning.{action_firing, adds_atom, deletes_atom, next_sight}
use Rattle.mf_task.specs.Rows.{IsRowOf, Sight, sight_of}
use Rattle.mf_task.specs.Width.{is_narrow, leads_out}
use Rattle.mf_state.specs.Changing.{changed_value, is_change_wide, values_in}
use Rattle.mf_state.specs.NextRows.{IsNextRow}

sight_by : (a b : Sight) → ((atom : ℕ) → a.bit atom ≡ b.bit atom) → ((term : ℕ) → a.value term ≡ b.value term) → a ≡ b
sight_by a b bits values = λ i. record { bit = fun_ext bits i; value = fun_ext values i }

neither : (w c : Bool) → w ≡ false → c ≡ true → (w || not c) ≡ false
neither true c e f = cc
neither false c e f = ap not f

or_not : (w c : Bool) → c ≡ false → (w || not c) ≡ true
or_not true c f = refl
or_not false c f = ap not f

-- what the three steps leave: the rows after the deletes, after the adds, and after the numeric changes
pub record IsMadeBy (task : Task) (sight : Sight) (firing : List GroundChange) (old deleted added next : RowLists) : Type 0 where
  pub old_is : sight ≡ sight_of old
  pub deleted_bits : (atom : ℕ) → bit_in deleted.bits atom ≡ (bit_in old.bits atom && not (list_any (deletes_atom atom) firing))
  pub deleted_values : deleted.values ≡ old.values
  pub added_bits : (atom : ℕ) → bit_in added.bits atom ≡ (list_any (adds_atom atom) firing || bit_in deleted.bits atom)
  pub added_values : added.values ≡ deleted.values
  pub next_bits : next.bits ≡ added.bits
  pub next_values : (term : ℕ) → values_in next.values term ≡ changed_value task sight firing term (values_in added.values term)

module _ (task : Task) (sight : Sight) (action : GroundAction) (old deleted added next : RowLists) (made : IsMadeBy task sight (action_firing task sight action) old deleted added next) where
  bits_are : (atom : ℕ) → bit_in next.bits atom ≡ (next_sight task sight (action_firing task sight action)).bit atom
  bits_are atom =
      ap (λ (words : List ℕ). bit_in words atom) made.next_bits
      ∙ made.added_bits atom
      ∙ ap (λ (b : Bool). list_any (adds_atom atom) (action_firing task sight action) || b) (made.deleted_bits atom ∙ ap (λ (s : Sight). s.bit atom && not (list_any (deletes_atom atom) (action_firing task sight action))) (sym made.old_is))

  values_are : (term : ℕ) → values_in next.values term ≡ (next_sight task sight (action_firing task sight action)).value term
  values_are term =
      made.next_values term
      ∙ ap (λ (values : List (Option Number)). changed_value task sight (action_firing task sight action) term (values_in values term)) (made.added_values ∙ made.deleted_values)
      ∙ ap (λ (s : Sight). changed_value task sight (action_firing task sight action) term (s.value term)) (sym made.old_is)

  shows_next : sight_of next ≡ next_sight task sight (action_firing task sight action)
  shows_next = sight_by (sight_of next) (next_sight task sight (action_firing task sight action)) bits_are values_are

  -- whether the next row is narrow
  module _ (stays : Bool) (stays_is : stays ≡ is_narrow task (sight_of next)) where
    narrow_there : is_narrow task (next_sight task sight (action_firing task sight action)) ≡ stays
    narrow_there = ap (is_narrow task) (sym shows_next) ∙ sym stays_is

    pub leads_out_by : stays ≡ false → leads_out task sight action ≡ true
    leads_out_by e =
        or_not (is_change_wide task sight sight.value (action_firing task sight action)) (is_narrow task (next_sight task sight (action_firing task sight action))) (narrow_there ∙ e)

    -- the changes are not wide, from the old values
    module _ (shape : IsRowOf task next) (within : false ≡ is_change_wide task sight (values_in added.values) (action_firing task sight action)) where
      from_old : is_change_wide task sight sight.value (action_firing task sight action) ≡ false
      from_old =
          ap (λ (s : Sight). is_change_wide task sight s.value (action_firing task sight action)) made.old_is
          ∙ sym (ap (λ (values : List (Option Number)). is_change_wide task sight (values_in values) (action_firing task sight action)) (made.added_values ∙ made.deleted_values))
          ∙ sym within

      pub next_row_by : stays ≡ true → (leads_out task sight action ≡ false) × IsNextRow task sight action next
      next_row_by e = (
        neither (is_change_wide task sight sight.value (action_firing task sight action)) (is_narrow task (next_sight task sight (action_firing task sight action))) from_old (narrow_there ∙ e),
        record { shape = shape; shows = shows_next; narrow = sym stays_is ∙ e },
      )
