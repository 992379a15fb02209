-- Forms that are among the forms of a task.
use Rattle.std.specs.Prelude.{◌≡◌, true, List}
use Rattle.std.specs.List.{AllByRecursion, list_any}
use Rattle.mf_task.specs.declared.form.Form.{Form}
use Rattle.mf_task.specs.Grounding.{same_form}

abbrev pub IsListed : List Form → Form → Type 0
IsListed forms a = list_any (same_form a) forms ≡ true

abbrev pub AreListed : List Form → List Form → Type 0
AreListed forms = AllByRecursion (IsListed forms)
