use Rattle.std.proofs.Common.{sym, ◌∙◌}
use Rattle.std.proofs.lemmas.Bool.{OnTrue_from}
use Rattle.mf_types.specs.Marks.{LeadsToMark}
use Rattle.mf_types.proofs.OffCycles.{leads_past_root, leads_to_root}
use Rattle.mf_types.proofs.ancestry.Ancestry.leads_to_mark.Goals as goal

pub returns-then-is_marked : goal.returns-then-is_marked
returns-then-is_marked c = leads_to_root c.args.self.now c.args.marks.now c.args.own c.in-Some.place c.in-Some.ensures (sym c.is_marked.ensures ∙ c.if-is_marked.true)

pub returns : goal.returns
returns c =
    OnTrue_from c.is_marked-2.result (LeadsToMark c.args.self.now c.args.marks.now c.args.own)
    (λ yes. leads_past_root c.args.self.now c.args.marks.now c.args.own c.parent.result c.in-Some.place c.in-Some-place.above c.in-Some.ensures c.parent.ensures c.in-Some-place.ensures (sym c.is_marked-2.ensures ∙ yes))
