use Rattle.std.proofs.Common.{rules, arith, ap, ◌∙◌, length}
use Rattle.std.proofs.lemmas.Result.{err_from_is_err_and}
use Rattle.mf_model.specs.declared.task.Effect.{the_lemmas}
use Rattle.mf_model.specs.Objects.{kinds_of}
use Rattle.mf_model.specs.States.{look_of}
use Rattle.mf_eval.specs.Fired.{changes_in}
use Rattle.mf_model.specs.VariableScopes.{effect_scope_of}
use Rattle.mf_eval.proofs.Judging.{within_greatest}
use Rattle.mf_eval.proofs.Threading.{threaded_fails, threaded_more}
use Rattle.mf_eval.proofs.firing.+fire.Goals as goal

pub fire_parts-fire-requires : goal.fire_parts-fire-requires
fire_parts-fire-requires t c =
    let within = within_greatest effect_scope_of c.args.parts.now c.loop-part.part-index c.part-item.result c.loop-part-test.true in
    let item = ap effect_scope_of c.part-item.is in (
      search (rules, the_lemmas),
      (
        c.requires.sorted,
        (
          c.requires.objects,
          (
            omega (arith, within, item, ap (λ b. length b.items) c.loop-part.invariant.1, ap (λ b. b.capacity) c.loop-part.invariant.1, c.requires.room),
            omega (arith, within, item, c.requires.few),
          ),
        ),
      ),
    )

pub fire_parts-returns-in_err-fire-clause-value : goal.fire_parts-returns-in_err-fire-clause-value
fire_parts-returns-in_err-fire-clause-value t c =
    let p = err_from_is_err_and c.from_residual.result c.from_residual.ensures.1 in
    rw (p.1, p.2) (threaded_fails (kinds_of c.args.scene.now.task.now) (look_of c.args.scene.now.state.now) c.args.parts.now c.loop-part.part-index c.part-item.result c.args.binding.now.items c.loop-part.binding.items (changes_in c.loop-part.deeds.items) _ c.loop-part-test.true c.part-item.is (ap (λ b. b.items) c.loop-part.invariant.1) c.loop-part.invariant.0 _ c.in_err-fire.ensures.value)

pub fire_parts-loop-part-preserved : goal.fire_parts-loop-part-preserved
fire_parts-loop-part-preserved t c = (
  threaded_more (kinds_of c.args.scene.now.task.now) (look_of c.args.scene.now.state.now) c.args.parts.now c.loop-part.part-index c.part-item.result c.args.binding.now.items c.loop-part.binding.items (changes_in c.loop-part.deeds.items) _ c.loop-part-test.true c.part-item.is (ap (λ b. b.items) c.loop-part.invariant.1) c.loop-part.invariant.0 (changes_in c.fire.new.deeds.items) c.in_ok-fire.ensures.value,
  c.in_ok-fire.ensures.same ∙ c.loop-part.invariant.1,
)
