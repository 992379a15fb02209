use Rattle.std.proofs.Common.{◌≡◌, take, not, filter}
use Rattle.mf_plain.specs.Changes.{deletes_of, is_deleted}
use Rattle.mf_plain.proofs.applying.kept.Given as goal

abbrev pub invariant-loop-atom : goal.invariant-loop-atom
invariant-loop-atom l = l.list ≡ filter (λ atom. not (is_deleted (deletes_of l.effect l.binding) atom)) (take l.atom-index l.atoms)
