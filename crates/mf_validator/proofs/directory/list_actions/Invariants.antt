use Rattle.std.proofs.Common.{map, take}
use Rattle.mf_validator.specs.Lexicons.{Lists}
use Rattle.mf_validator.proofs.directory.list_actions.Given as goal

abbrev pub invariant-loop-number : goal.invariant-loop-number
invariant-loop-number l = Lists l.directory (map (λ action. action.name) (take l.number l.actions))
