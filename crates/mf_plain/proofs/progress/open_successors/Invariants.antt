use Rattle.std.proofs.Common.{◌≡◌, ℕ, List, map}
use Rattle.mf_model.specs.declared.state.PlainState.{PlainState}
use Rattle.mf_search.specs.World.{Opened, open_all}
use Rattle.mf_plain.specs.PlainSpace.{space_of}
use Rattle.mf_plain.specs.Successors.{child_of}
use Rattle.mf_plain.specs.UnderWay.{Tracks, TakenBelow}
use Rattle.mf_plain.proofs.progress.open_successors.Given as goal

abbrev pub invariant-loop-successor : goal.invariant-loop-successor
invariant-loop-successor l = record {
  entries : l.progress.history.entries ≡ l.fn.progress.history.entries;
  opened : (os : List (Opened PlainState)) (taken : List ℕ) → TakenBelow taken os → Tracks os taken l.fn.progress → Tracks (open_all (space_of l.task) l.parent (map child_of l.yielded) os) taken l.progress;
}
