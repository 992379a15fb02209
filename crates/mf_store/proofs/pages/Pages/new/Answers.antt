use Rattle.std.proofs.Common.{ap, ◌∙◌, ◌*◌, ◌-◌, [], map, length}
use Rattle.mf_store.specs.Strips.{strips_of}
use Rattle.mf_store.proofs.Paging.{strips-none}
use Rattle.mf_store.proofs.pages.Pages.new.Goals as goal

pub returns : goal.returns
returns c = λ i. record {
  width = c.args.width;
  strips = (ap (λ ps. strips_of c.args.width 0 (map (λ page. page.items) ps)) c.new.ensures.items ∙ strips-none c.args.width []) i;
  room = ap (λ ps. 1024 * length ps - 0) c.new.ensures.items i;
}
