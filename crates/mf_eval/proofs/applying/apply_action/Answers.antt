use Rattle.std.proofs.Common.{Ok, List, sym, subst, ◌∙◌, ap}
use Rattle.std.proofs.lemmas.Result.{err_from_is_err_and}
use Rattle.mf_eval.specs.declared.deed.Deed.{Deed}
use Rattle.mf_eval.specs.Fired.{changes_in}
use Rattle.mf_eval.specs.Outcome.{Gives, changed_outcome}
use Rattle.mf_eval.proofs.Outcomes.{outcome-wide, outcome-unmet, outcome-fails, outcome-changed}
use Rattle.mf_eval.proofs.applying.apply_action.Goals as goal

pub returns-in_err-is_met-clause-outcome : goal.returns-in_err-is_met-clause-outcome
returns-in_err-is_met-clause-outcome c =
    let p = err_from_is_err_and c.from_residual.result c.from_residual.ensures.1 in
    rw (p.1, p.2) (outcome-wide c.args.scene.now.task.now c.args.scene.now.state.now c.args.objects.now c.args.action.now c.places-binding.result.items c.places-binding.ensures.items _ c.in_err-is_met.ensures.value)

pub returns-then-not-branch-clause-outcome : goal.returns-then-not-branch-clause-outcome
returns-then-not-branch-clause-outcome c =
    outcome-unmet c.args.scene.now.task.now c.args.scene.now.state.now c.args.objects.now c.args.action.now c.places-binding.result.items c.places-binding.ensures.items
    (ap Ok (sym c.if-not-branch.true) ∙ c.in_ok-is_met.ensures.value)

pub returns-in_err-fire-clause-outcome : goal.returns-in_err-fire-clause-outcome
returns-in_err-fire-clause-outcome c =
    let p = err_from_is_err_and c.from_residual-in_err-fire.result c.from_residual-in_err-fire.ensures.1 in
    rw (p.1, p.2) (outcome-fails c.args.scene.now.task.now c.args.scene.now.state.now c.args.objects.now c.args.action.now c.places-binding.result.items c.places-binding.ensures.items
    c.is_met.new.binding.items (changes_in c.new-deeds.result.items) (ap (λ b. b.items) c.in_ok-is_met.ensures.same) (ap changes_in c.new-deeds.ensures.items)
    (ap Ok (sym c.if-not-branch.false) ∙ c.in_ok-is_met.ensures.value) _ c.in_err-fire.ensures.value)

pub returns-clause-outcome : goal.returns-clause-outcome
returns-clause-outcome c =
    let state = c.args.scene.now.state.now in
    let changed = outcome-changed c.args.scene.now.task.now state c.args.objects.now c.args.action.now c.places-binding.result.items c.places-binding.ensures.items
    c.is_met.new.binding.items (changes_in c.new-deeds.result.items) (ap (λ b. b.items) c.in_ok-is_met.ensures.same) (ap changes_in c.new-deeds.ensures.items)
    (ap Ok (sym c.if-not-branch.false) ∙ c.in_ok-is_met.ensures.value) (changes_in c.fire.new.deeds.items) c.in_ok-fire.ensures.value in
    subst (λ outcome. Gives outcome c.change.result) (ap (λ (deeds : List Deed). changed_outcome state (changes_in deeds)) c.as_slice.ensures.value ∙ sym changed) c.change.ensures.outcome
