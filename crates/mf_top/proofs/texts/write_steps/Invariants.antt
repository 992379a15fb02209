use Rattle.std.proofs.Common.{◌≡◌, ◌++◌, drop}
use Rattle.std.specs.List.{flat_map}
use Rattle.mf_top.specs.Texts.{step_text}
use Rattle.mf_top.proofs.texts.write_steps.Given as goal

abbrev pub invariant-loop-step : goal.invariant-loop-step
invariant-loop-step l =
    l.text ++ flat_map (step_text l.task) (drop l.step-index l.steps) ≡ l.fn.text ++ flat_map (step_text l.task) l.steps
