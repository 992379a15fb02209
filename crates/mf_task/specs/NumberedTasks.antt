-- Packed tasks whose effects change atoms and terms of the task, and whose numbers are in lowest terms.
use Rattle.std.specs.Prelude.{◌≡◌, ℕ, Bool, true, nat_lt, length, Some}
use Rattle.std.specs.List.{AllByRecursion, list_all}
use Rattle.mf_fraction.specs.Exact.{Number, Proper}
use Rattle.mf_task.specs.declared.form.Form.{Form}
use Rattle.mf_task.specs.declared.ground.GroundChange.{GroundChange}
use Rattle.mf_task.specs.declared.ground.GroundChange.TheVariants as change
use Rattle.mf_task.specs.declared.ground.GroundAction.{GroundAction}
use Rattle.mf_task.specs.declared.task.Task.{Task}
use Rattle.mf_task.specs.GroundMeaning.{form_at}
use Rattle.mf_task.specs.Rows.{Sight}

abbrev pub is_numbered_change : Task → GroundChange → Bool
is_numbered_change task (change.Add atom) = nat_lt atom (length task.atoms)
is_numbered_change task (change.Delete atom) = nat_lt atom (length task.atoms)
is_numbered_change task (change.Number op term value) = nat_lt term (length task.terms)
is_numbered_change task (change.Cost value) = true
is_numbered_change task change.Nothing = true

abbrev pub is_numbered_action : Task → GroundAction → Bool
is_numbered_action task action = list_all (λ effect. is_numbered_change task effect.change) action.effects

-- each effect changes an atom or a term of the task
abbrev pub is_numbered : Task → Bool
is_numbered task = list_all (is_numbered_action task) task.actions

-- its constant and its coefficients are in lowest terms
pub record IsProperForm (a : Form) : Type 0 where
  pub constant : Proper a.constant
  pub coefficients : AllByRecursion (λ p. Proper p.coefficient) a.parts

-- its forms are in lowest terms
pub record HasProperForms (task : Task) : Type 0 where
  pub forms : (number : ℕ) → IsProperForm (form_at task number)

-- its values are in lowest terms
pub record IsProperSight (sight : Sight) : Type 0 where
  pub values : (term : ℕ) (a : Number) → sight.value term ≡ Some a → Proper a
