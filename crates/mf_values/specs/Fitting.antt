-- Tasks and rows whose numbers fit.
use Rattle.std.specs.Prelude.{◌≡◌, ℕ, true, Some}
use Rattle.mf_fraction.specs.Exact.{Number, Proper, fits}
use Rattle.mf_task.specs.declared.task.Task.{Task}
use Rattle.mf_task.specs.GroundMeaning.{form_at}
use Rattle.mf_task.specs.Rows.{Sight}

-- in lowest terms, and each part fits
pub record IsStored (a : Number) : Type 0 where
  pub lowest : Proper a
  pub fitting : fits a ≡ true

-- the constants of its forms fit
pub record HasFittingConstants (task : Task) : Type 0 where
  pub constants : (number : ℕ) → fits (form_at task number).constant ≡ true

-- its values are in lowest terms and fit
pub record IsStoredSight (sight : Sight) : Type 0 where
  pub values : (term : ℕ) (a : Number) → sight.value term ≡ Some a → IsStored a
