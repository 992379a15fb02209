use Rattle.std.proofs.Common.{rules, arith, ap, length}
use Rattle.mf_model.specs.declared.task.Cond.{the_lemmas}
use Rattle.mf_model.specs.Objects.{kinds_of}
use Rattle.mf_model.specs.States.{look_of}
use Rattle.mf_model.specs.VariableScopes.{scope_of}
use Rattle.mf_eval.proofs.Judging.{judged-atom_arm, within_greatest}
use Rattle.mf_eval.proofs.condition.+judge.Goals as goal

pub judge_parts-judge-requires : goal.judge_parts-judge-requires
judge_parts-judge-requires t c =
    let within = within_greatest scope_of c.args.parts.now c.loop-part.part-index c.part-item.result c.loop-part-test.true in
    let item = ap scope_of c.part-item.is in (
      search (rules, the_lemmas),
      (
        c.requires.sorted,
        (
          c.requires.objects,
          (
            omega (arith, within, item, ap (λ b. length b.items) c.loop-part.invariant.1, ap (λ b. b.capacity) c.loop-part.invariant.1, c.requires.room),
            omega (arith, within, item, c.requires.few),
          ),
        ),
      ),
    )

pub judge-returns-in-Atom-clause-value : goal.judge-returns-in-Atom-clause-value
judge-returns-in-Atom-clause-value t c =
    judged-atom_arm (kinds_of c.args.scene.now.task.now) (look_of c.args.scene.now.state.now) _ _ _ _ _ _ c.in-Atom.is c.as_slice.ensures c.judge_atom.ensures
