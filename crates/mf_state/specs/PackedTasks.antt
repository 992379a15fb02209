-- What holds of the packed task of a resolved task and its live instances, as far as a step needs it.
use Rattle.std.specs.Prelude.{◌≡◌, ◌≤◌, ℕ, Bool, true, false, nat_lt, ◌&&◌, List, [], ◌∷◌, length, Option, Some, None}
use Rattle.std.specs.List.{list_all}
use Rattle.mf_model.specs.declared.task.Op.{Op}
use Rattle.mf_model.specs.declared.task.Op.TheVariants.{Assign, Increase, Decrease, ScaleUp, ScaleDown}
use Rattle.mf_task.specs.declared.form.Part.{Part}
use Rattle.mf_task.specs.declared.ground.GroundAction.{GroundAction}
use Rattle.mf_task.specs.declared.ground.GroundChange.{GroundChange}
use Rattle.mf_task.specs.declared.ground.GroundChange.TheVariants as change
use Rattle.mf_task.specs.declared.ground.GroundEffect.{GroundEffect}
use Rattle.mf_task.specs.declared.task.Task.{Task}
use Rattle.mf_task.specs.GroundMeaning.{form_at}

abbrev pub has_no_parts : List Part → Bool
has_no_parts [] = true
has_no_parts (p ∷ ps) = false

abbrev pub is_constant_value : Task → Option ℕ → Bool
is_constant_value task (Some form) = has_no_parts (form_at task form).parts
is_constant_value task None = true

-- a divisor reads no changing term
abbrev pub has_constant_divisor : Task → Op → Option ℕ → Bool
has_constant_divisor task ScaleDown value = is_constant_value task value
has_constant_divisor task Assign value = true
has_constant_divisor task Increase value = true
has_constant_divisor task Decrease value = true
has_constant_divisor task ScaleUp value = true

-- it changes an atom or a term of the task
abbrev pub is_sound_change : Task → GroundChange → Bool
is_sound_change task (change.Add atom) = nat_lt atom (length task.atoms)
is_sound_change task (change.Delete atom) = nat_lt atom (length task.atoms)
is_sound_change task (change.Number op term value) = nat_lt term (length task.terms) && has_constant_divisor task op value
is_sound_change task (change.Cost value) = true
is_sound_change task change.Nothing = true

abbrev pub are_sound_effects : Task → List GroundEffect → Bool
are_sound_effects task effects = list_all (λ effect. is_sound_change task effect.change) effects

abbrev pub is_sound_action : Task → GroundAction → Bool
is_sound_action task action = are_sound_effects task action.effects

pub record IsPackedTask (task : Task) : Type 0 where
  pub few : length task.actions ≤ 1000000
  pub sound : list_all (is_sound_action task) task.actions ≡ true
