use Rattle.std.proofs.Common.{◌≡◌, ◌∙◌, List, map, sym, subst, rules}
use Rattle.std.proofs.lemmas.List.{map-id}
use Rattle.std.proofs.lemmas.Iterator.Consumers.{YieldsList-end}
use Rattle.std.proofs.lemmas.Iterator.Adapters.{YieldsList-from_vec}
use Rattle.mf_search.specs.World.{open_all}
use Rattle.mf_plain.specs.declared.successors.Successor.{Successor}
use Rattle.mf_plain.specs.PlainSpace.{space_of}
use Rattle.mf_plain.specs.Successors.{child_of}
use Rattle.mf_plain.specs.UnderWay.{Tracks}
use Rattle.mf_plain.proofs.OpeningChildren.{below_more, children_more}
use Rattle.mf_plain.proofs.progress.open_successors.Goals as goal

pub loop-successor-preserved : goal.loop-successor-preserved
loop-successor-preserved c = record {
  entries = c.in_ok-open_successor.ensures.entries ∙ c.loop-successor.invariant.entries;
  opened = λ os taken below t.
      children_more c.args.task.now os taken c.args.parent c.loop-successor.yielded c.in-Some.successor c.open_successor.new.progress
      (c.in_ok-open_successor.ensures.opened (open_all (space_of c.args.task.now) c.args.parent (map child_of c.loop-successor.yielded) os) taken
      (below_more c.args.task.now os taken c.args.parent (map child_of c.loop-successor.yielded) below)
      (c.loop-successor.invariant.opened os taken below t));
}

pub returns-clause-opened : goal.returns-clause-opened
returns-clause-opened c os taken below t =
    let whole = YieldsList-end (YieldsList-from_vec c.args.successors (search rules) (search rules)) c.loop-successor.yielded _ c.loop-successor.yielded_by _ c.next.new.self c.in-None.is c.next.ensures.steps in
    let all : c.loop-successor.yielded ≡ c.args.successors = sym (map-id c.loop-successor.yielded) ∙ whole.0 in
    subst (λ (found : List Successor). Tracks (open_all (space_of c.args.task.now) c.args.parent (map child_of found) os) taken c.loop-successor.progress) all (c.loop-successor.invariant.opened os taken below t)
