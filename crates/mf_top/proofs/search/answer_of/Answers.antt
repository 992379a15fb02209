use Rattle.std.proofs.Common.{inl, inr, refl}
use Rattle.mf_plain.proofs.Lawful.{no_plan_found}
use Rattle.mf_top.proofs.SearchLemmas.{no_other_answer}
use Rattle.mf_top.proofs.search.answer_of.Goals as goal

pub unreachable-requires : goal.unreachable-requires
unreachable-requires c = no_other_answer c.args.task.now c.args.budget c.args.searched.now c.requires.searched c.in-Running.is

pub returns-in-Ok-from_slice : goal.returns-in-Ok-from_slice
returns-in-Ok-from_slice c =
    inr (inl (
      refl,
      record { answered = c.in-NoPlan.is; none = no_plan_found c.args.task.now c.args.budget c.args.searched.now c.requires.searchable c.requires.searched c.in-NoPlan.is },
      c.in-Ok-from_slice.ensures,
    ))
