-- Forms that are as wide at one state as at another.
use Rattle.std.specs.Prelude.{ℕ, Bool, ◌&&◌, ◌||◌, not, Option}
use Rattle.std.specs.List.{list_all}
use Rattle.mf_fraction.specs.Exact.{Number}
use Rattle.mf_store.specs.SameRows.{same_value}
use Rattle.mf_task.specs.declared.form.Form.{Form}
use Rattle.mf_task.specs.Width.{is_wide_at}

-- it reads the same values, or is wide at neither
abbrev pub is_as_wide : (ℕ → Option Number) → (ℕ → Option Number) → Form → Bool
is_as_wide old new form =
    list_all (λ p. same_value (old p.term) (new p.term)) form.parts || (not (is_wide_at new form) && not (is_wide_at old form))
