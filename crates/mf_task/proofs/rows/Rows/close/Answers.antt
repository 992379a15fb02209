use Rattle.std.proofs.Common.{length, sym, ap, ◌∙◌, subst}
use Rattle.mf_task.specs.CaseRows.{AreValuesOfList, IsGrownOf, grown_with}
use Rattle.mf_task.proofs.Closing.{closed_is_grown, value_count_of}
use Rattle.mf_task.proofs.rows.Rows.close.Goals as goal

pub valued-grown-requires-clause-values : goal.valued-grown-requires-clause-values
valued-grown-requires-clause-values g c =
    let same = ap (λ rows. rows.listed) c.self.view_is in
    let are = subst (λ listed. AreValuesOfList g.N.Naming.case listed c.args.values) (sym same) c.requires in
    ap length c.as_slice.ensures ∙ value_count_of g.N.Naming.case c.self.inside.listed c.args.values are

pub from_snapshot-requires : goal.from_snapshot-requires
from_snapshot-requires g c =
    let same = ap (λ rows. rows.listed) c.self.view_is in
    let are = subst (λ listed. AreValuesOfList g.N.Naming.case listed c.args.values) (sym same) c.requires in
    let grown = c.valued-grown.ensures ∙ ap (grown_with c.self.inside.listed) c.as_slice.ensures in
    subst (IsGrownOf g.N.Naming.case c.self.inside.from.value) (sym grown) (closed_is_grown g.N.Naming.case c.self.inside.from.value c.self.inside.listed c.args.values c.self.invariant are)
