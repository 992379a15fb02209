use Rattle.std.proofs.Common.{◌≡◌, drop}
use Rattle.std.specs.List.{list_all}
use Rattle.mf_model.specs.Application.{is_defined}
use Rattle.mf_model.specs.States.{look_of}
use Rattle.mf_eval.specs.Fired.{changes_in}
use Rattle.mf_eval.proofs.changes.are_defined.Given as goal

abbrev pub invariant-loop-deed : goal.invariant-loop-deed
invariant-loop-deed l =
    list_all (is_defined (look_of l.state)) (changes_in (drop l.deed-index l.deeds)) ≡ list_all (is_defined (look_of l.state)) (changes_in l.deeds)
