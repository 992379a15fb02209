use Rattle.std.proofs.Common.{List, Ok, sym, subst, ◌∙◌, ap}
use Rattle.std.proofs.lemmas.Result.{err_from_is_err_and}
use Rattle.std.specs.List.{flat_map, fold}
use Rattle.mf_model.specs.declared.task.Atom.{Atom}
use Rattle.mf_model.specs.declared.task.Valued.{Valued}
use Rattle.mf_model.specs.Application.{added, deleted}
use Rattle.mf_model.specs.States.{with_atom, without_atom}
use Rattle.mf_eval.specs.Fired.{changes_in}
use Rattle.mf_eval.specs.Outcome.{Fails}
use Rattle.mf_eval.specs.Results.{kept_changes}
use Rattle.mf_eval.proofs.Outcomes.{changed-done, changed-fails}
use Rattle.mf_eval.proofs.applying.change.Goals as goal

pub returns-in_err-values-clause-outcome : goal.returns-in_err-values-clause-outcome
returns-in_err-values-clause-outcome c =
    let p = err_from_is_err_and c.from_residual.result c.from_residual.ensures.1 in
    let changes = changes_in c.args.deeds.now in
    rw (p.1, p.2) (changed-fails c.args.state.now changes (sym c.are_defined.ensures ∙ c.if-not-are_defined.false) (sym c.are_apart.ensures ∙ c.if-not-are_apart.false) _
    (subst (λ (values : List Valued). Fails (kept_changes values changes) c.in_err-values.field-0.0) c.as_slice.ensures c.in_err-values.ensures.values))

pub returns-clause-outcome : goal.returns-clause-outcome
returns-clause-outcome c =
    let changes = changes_in c.args.deeds.now in
    changed-done c.args.state.now changes c.from_vec.result c.from_vec-2.result (sym c.are_defined.ensures ∙ c.if-not-are_defined.false) (sym c.are_apart.ensures ∙ c.if-not-are_apart.false)
    (ap (λ (values : List Valued). kept_changes values changes) (sym c.as_slice.ensures) ∙ c.in_ok-values.ensures.values ∙ ap Ok (sym c.from_vec-2.ensures))
    (c.from_vec.ensures ∙ c.in_ok-atoms.ensures.atoms ∙ ap (λ (atoms : List Atom). fold with_atom (fold without_atom atoms (flat_map deleted changes)) (flat_map added changes)) c.as_slice-2.ensures)
