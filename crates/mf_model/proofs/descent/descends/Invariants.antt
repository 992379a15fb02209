use Rattle.std.proofs.Common.{◌≡◌, ◌-◌, length, map}
use Rattle.mf_model.specs.Objects.{ancestors, member}
use Rattle.mf_model.proofs.descent.descends.Given as goal

abbrev pub invariant-loop-step : goal.invariant-loop-step
invariant-loop-step g l =
    let parents = map g.Row.HasParent.parent_number l.types in
    member l.wanted (ancestors parents (length l.types - l._step) l.current) ≡ member l.wanted (ancestors parents (length l.types) l.from)
