-- Values as calls answer them: those that do not fit are refused.
use Rattle.std.specs.Prelude.{Option, Some, None, Result, Ok, Err, if◌then◌else◌}
use Rattle.mf_fraction.specs.declared.faults.Wide.{Wide}
use Rattle.mf_fraction.specs.Checked.{checked, wide}
use Rattle.mf_fraction.specs.Exact.{Number, product_of, sum_of}
use Rattle.mf_task.specs.Width as width

abbrev pub answer_of : width.FormValue → Result (Option Number) Wide
answer_of width.Undefined = Ok None
answer_of width.Wide = Err wide
answer_of (width.Exact a) = Ok (Some a)

-- what follows a number that fits
abbrev pub onward : Result Number Wide → (Number → Result Number Wide) → Result Number Wide
onward (Ok a) rest = rest a
onward (Err fault) rest = Err fault

-- the sum with a product, where both fit
abbrev pub checked_added : Number → Number → Number → Result Number Wide
checked_added sum coefficient value = onward (checked (product_of coefficient value)) (λ product. checked (sum_of sum product))

abbrev pub as_defined : Result Number Wide → Result (Option Number) Wide
as_defined (Ok a) = Ok (Some a)
as_defined (Err fault) = Err fault

-- the value, where it fits
abbrev pub kept : Option Number → Result (Option Number) Wide
kept value = if width.fits_optional value then Ok value else Err wide
