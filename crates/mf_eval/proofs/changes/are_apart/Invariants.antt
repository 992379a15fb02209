use Rattle.std.proofs.Common.{◌≡◌, drop}
use Rattle.std.specs.List.{list_all}
use Rattle.mf_model.specs.Application.{is_apart}
use Rattle.mf_eval.specs.Fired.{changes_in}
use Rattle.mf_eval.proofs.changes.are_apart.Given as goal

abbrev pub invariant-loop-deed : goal.invariant-loop-deed
invariant-loop-deed l =
    list_all (is_apart (changes_in l.deeds)) (changes_in (drop l.deed-index l.deeds)) ≡ list_all (is_apart (changes_in l.deeds)) (changes_in l.deeds)
