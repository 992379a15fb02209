use Rattle.std.proofs.Common.{◌≢◌, sym, subst, List}
use Rattle.std.specs.List.{All}
use Rattle.mf_open.specs.declared.key.Key.{Key}
use Rattle.mf_open.proofs.Keys.{all_with}
use Rattle.mf_open.proofs.tests.enter.Goals as goal

pub returns-clause-others : goal.returns-clause-others
returns-clause-others c = λ s apart all.
    subst (λ (ks : List Key). All (λ (k : Key). k.state ≢ s) ks) (sym c.insert.ensures.keys)
    (all_with (λ (k : Key). k.state ≢ s) _ c.args.keys.now.keys (λ e. apart (sym e)) all)
