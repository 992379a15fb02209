use Rattle.std.proofs.Common.{◌≡◌, length, map, drop}
use Rattle.mf_validator.specs.PlanText.{arguments_of}
use Rattle.mf_validator.proofs.ArgumentLemmas.{behind_front}
use Rattle.mf_validator.proofs.step.read_arguments.Given as goal

abbrev pub invariant-loop-at : goal.invariant-loop-at
invariant-loop-at l = record {
  even : length l.parameters ≡ length l.names;
  read : behind_front l.objects (arguments_of l.lexicon.task.now (drop l.at l.parameters) (drop l.at (map (λ name. name.now) l.names)))
      ≡ arguments_of l.lexicon.task.now l.parameters (map (λ name. name.now) l.names);
}
