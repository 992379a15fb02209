use Rattle.std.proofs.Common.{◌≡◌, take}
use Rattle.mf_types.specs.Declarations.{action_words}
use Rattle.mf_types.specs.Tables.{pointed}
use Rattle.mf_types.proofs.words.action_words.Given as goal

abbrev pub invariant-loop-action : goal.invariant-loop-action
invariant-loop-action l = pointed l.words.items ≡ action_words (take l.action-index l.actions)
