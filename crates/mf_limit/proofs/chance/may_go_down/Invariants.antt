use Rattle.std.proofs.Common.{◌≡◌, drop}
use Rattle.std.specs.List.{list_any}
use Rattle.mf_task.specs.GroundMeaning.{sign}
use Rattle.mf_task.specs.LimitClosure.{lowers}
use Rattle.mf_limit.specs.Sets.{family_of}
use Rattle.mf_limit.proofs.chance.may_go_down.Given as goal

abbrev pub invariant-loop-part : goal.invariant-loop-part
invariant-loop-part l =
    list_any (λ part. lowers (family_of l.sets) (sign part.coefficient) part.term) (drop l.part-index l.parts) ≡ list_any (λ part. lowers (family_of l.sets) (sign part.coefficient) part.term) l.parts
