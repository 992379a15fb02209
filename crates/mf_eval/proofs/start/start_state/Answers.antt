use Rattle.std.proofs.Common.{◌≡◌, rules, subst, sym}
use Rattle.mf_model.specs.declared.state.PlainState.{PlainState}
use Rattle.mf_model.specs.States.{start_of}
use Rattle.mf_meaning.specs.SortedStates.{IsSortedState}
use Rattle.mf_meaning.proofs.SortedStates.{start_is_sorted}
use Rattle.mf_eval.proofs.start.start_state.Goals as goal

pub returns-clause-sorted : goal.returns-clause-sorted
returns-clause-sorted c =
    let state : PlainState = record { atoms = c.from_vec.result; values = c.from_vec-2.result } in
    let start : state ≡ start_of c.args.task.now = search rules in
    subst (λ (s : PlainState). IsSortedState s) (sym start) (start_is_sorted c.args.task.now)
