-- The bytes of a text.
use Rattle.std.specs.Prelude.{ℕ, List}
use Rattle.mf_model.specs.declared.text.Bytes.{Bytes}
use Rattle.mf_model.specs.declared.text.Bytes.TheVariants.{Short, Long}

abbrev pub bytes_of : Bytes → List ℕ
bytes_of (Short bytes) = bytes
bytes_of (Long bytes) = bytes.value.items
