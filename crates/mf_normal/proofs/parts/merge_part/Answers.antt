use Rattle.std.proofs.Common.{List, get_or, ap, ◌∙◌}
use Rattle.mf_task.specs.declared.form.Part.{Part}
use Rattle.std.proofs.lemmas.Result.{err_from_is_err_and}
use Rattle.mf_normal.proofs.PartLists.{merged_in, merged_wide}
use Rattle.mf_normal.proofs.parts.merge_part.Goals as goal

pub returns-in_err-coefficient : goal.returns-in_err-coefficient
returns-in_err-coefficient c =
    let p = err_from_is_err_and c.from_residual.result c.from_residual.ensures.1 in
    rw (p.1, p.2) (merged_wide c.args.parts.now c.args.at c.index-as_slice-at.result c.args.part.now _ c.add.result c.requires.0 (c.index-as_slice-at.is ∙ ap (λ (l : List Part). get_or l c.args.at c.index-as_slice-at.result) c.as_slice.ensures) c.requires.1 c.requires.2 c.add.ensures c.in_err-coefficient.was)

pub returns : goal.returns
returns c = merged_in c.args.parts.now c.set.new.self c.args.at c.index-as_slice-at.result c.args.part.now c.in_ok-coefficient.coefficient c.add.result c.requires.0 (c.index-as_slice-at.is ∙ ap (λ (l : List Part). get_or l c.args.at c.index-as_slice-at.result) c.as_slice.ensures) c.requires.2 c.add.ensures c.in_ok-coefficient.was c.set.ensures
