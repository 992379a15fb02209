-- What a call answers that refuses what is too wide.
use Rattle.std.specs.Prelude.{Bool, if◌then◌else◌, Result, Ok, Err}
use Rattle.mf_fraction.specs.declared.faults.Wide.{Wide}
use Rattle.mf_fraction.specs.Checked.{wide}

-- the answer, or `Wide` exactly where the test is true
abbrev pub answered : {A : Type 0} → Bool → A → Result A Wide
answered is_wide answer = if is_wide then Err wide else Ok answer

infixl 10 ◌>>=◌
abbrev pub ◌>>=◌ : {A B : Type 0} → Result A Wide → (A → Result B Wide) → Result B Wide
Ok a >>= f = f a
Err fault >>= f = Err fault
