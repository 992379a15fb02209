use Rattle.std.proofs.Common.{Contains, sym, subst}
use Rattle.mf_search.proofs.OneStep.{taken_is}
use Rattle.mf_search.proofs.Taking.{greedy_run_to_take}
use Rattle.mf_search.proofs.laws.taken_by_a_greedy_run.Goals as goal

pub returns : goal.returns
returns g c sp budget workers entries i legal taken = greedy_run_to_take sp budget workers entries legal i (subst (λ ts. Contains ts i) (sym (taken_is sp entries)) taken)
