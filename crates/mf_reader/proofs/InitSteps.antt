-- An item behind those that are read leads on to the rest.
use Rattle.std.proofs.Common.{◌≡◌, append_assoc}
use Rattle.mf_reader.specs.declared.inits.InitItem.{InitItem}
use Rattle.mf_reader.specs.declared.inits.InitItem.TheVariants.{Fact, Value}
use Rattle.mf_reader.specs.declared.inits.Starts.{Starts}
use Rattle.mf_reader.specs.InitItems.{joined, with_last}
use Rattle.mf_reader.specs.Inits.{with_item}

pub joined_item : (front rest : Starts) (item : InitItem) → joined (with_last front item) rest ≡ joined front (with_item item rest)
joined_item front rest (Fact cond) = simp append_assoc
joined_item front rest (Value value) = simp append_assoc
