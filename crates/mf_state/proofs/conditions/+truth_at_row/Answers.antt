use Rattle.std.proofs.Common.{rules, ap, sym, ◌∙◌, List}
use Rattle.std.specs.List.{list_any}
use Rattle.mf_task.specs.declared.ground.GroundCond.{GroundCond, the_lemmas}
use Rattle.mf_task.specs.Rows.{sight_of}
use Rattle.mf_task.specs.Width.{is_wide_cond}
use Rattle.mf_state.proofs.WideConditions.{wide_and, wide_or}
use Rattle.mf_state.proofs.conditions.+truth_at_row.Goals as goal

pub truth_at_row-all-requires : goal.truth_at_row-all-requires
truth_at_row-all-requires t c =
    let sight = sight_of c.args.row.now in (
      search (rules, the_lemmas),
      ap (λ (l : List GroundCond). list_any (is_wide_cond c.args.task.now sight) l) c.as_slice.ensures
          ∙ sym (wide_and c.args.task.now sight c.in-And.parts)
          ∙ sym (ap (λ (x : GroundCond). is_wide_cond c.args.task.now sight x) c.in-And.is)
          ∙ c.requires,
    )

pub truth_at_row-any-requires : goal.truth_at_row-any-requires
truth_at_row-any-requires t c =
    let sight = sight_of c.args.row.now in (
      search (rules, the_lemmas),
      ap (λ (l : List GroundCond). list_any (is_wide_cond c.args.task.now sight) l) c.as_slice-in-Or.ensures
          ∙ sym (wide_or c.args.task.now sight c.in-Or.parts)
          ∙ sym (ap (λ (x : GroundCond). is_wide_cond c.args.task.now sight x) c.in-Or.is)
          ∙ c.requires,
    )
