-- Lists whose items are all written over.
use Rattle.std.proofs.Common.{◌≡◌, List, length, take, ap, ◌∙◌, arith}
use Rattle.std.proofs.lemmas.List.{drop_all, take_all, append-nil}
use Rattle.mf_model.specs.Lists.{with_items}

-- as many items as before are what the list holds then
pub with_items-same : {A : Type 0} (old items : List A) → length items ≡ length old → with_items old items ≡ items
with_items-same old items e = rw (drop_all (length items) old (omega arith)) (ap (take (length old)) (append-nil items) ∙ take_all (length old) items (omega arith))
