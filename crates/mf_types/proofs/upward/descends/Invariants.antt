use Rattle.std.proofs.Common.{◌≡◌, ◌-◌, length}
use Rattle.mf_model.specs.Objects.{member}
use Rattle.mf_types.specs.Related.{upward}
use Rattle.mf_types.proofs.upward.descends.Given as goal

abbrev pub invariant-loop-step : goal.invariant-loop-step
invariant-loop-step l =
    member l.wanted (upward l.parents (length l.parents - l._step) l.current) ≡ member l.wanted (upward l.parents (length l.parents) l.from)
