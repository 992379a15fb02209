use Rattle.std.proofs.Common.{◌≡◌, drop}
use Rattle.std.specs.List.{list_all}
use Rattle.mf_limit.specs.Sets.{family_of}
use Rattle.mf_limit.proofs.chance.may_be_defined.Given as goal

abbrev pub invariant-loop-part : goal.invariant-loop-part
invariant-loop-part l =
    list_all (λ part. (family_of l.sets).defined part.term) (drop l.part-index l.parts) ≡ list_all (λ part. (family_of l.sets).defined part.term) l.parts
