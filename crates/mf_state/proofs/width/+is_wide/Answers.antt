use Rattle.std.proofs.Common.{ap, sym, ◌∙◌, List}
use Rattle.std.specs.List.{list_any}
use Rattle.mf_task.specs.declared.ground.GroundCond.{GroundCond}
use Rattle.mf_task.specs.Rows.{sight_of}
use Rattle.mf_task.specs.Width.{is_wide_cond}
use Rattle.mf_state.proofs.WideConditions.{wide_and, wide_or}
use Rattle.mf_state.proofs.width.+is_wide.Goals as goal

pub is_wide-returns-in-And : goal.is_wide-returns-in-And
is_wide-returns-in-And t c =
    let task = c.args.task.now in
    let sight = sight_of c.args.row.now in
    c.is_some_wide.ensures
    ∙ ap (λ (l : List GroundCond). list_any (is_wide_cond task sight) l) c.as_slice.ensures
    ∙ sym (ap (λ (x : GroundCond). is_wide_cond task sight x) c.in-And.is ∙ wide_and task sight c.in-And.parts)

pub is_wide-returns-in-Or : goal.is_wide-returns-in-Or
is_wide-returns-in-Or t c =
    let task = c.args.task.now in
    let sight = sight_of c.args.row.now in
    c.is_some_wide-in-Or.ensures
    ∙ ap (λ (l : List GroundCond). list_any (is_wide_cond task sight) l) c.as_slice-in-Or.ensures
    ∙ sym (ap (λ (x : GroundCond). is_wide_cond task sight x) c.in-Or.is ∙ wide_or task sight c.in-Or.parts)
