use Rattle.std.proofs.Common.{◌≡◌, drop, map}
use Rattle.mf_types.specs.Faults.{after}
use Rattle.mf_types.specs.StartValues.{term_names, value_faults, value_faults_behind}
use Rattle.mf_types.specs.Tables.{pointed}
use Rattle.mf_types.proofs.start_values.start_values.Given as goal

abbrev pub invariant-loop-value : goal.invariant-loop-value
invariant-loop-value l = record {
  terms : l.terms.keys ≡ map term_names (pointed l.firsts);
  faults : after l.best (value_faults_behind (pointed l.firsts) (drop l.value-index l.values)) ≡ after l.fn.best (value_faults l.values);
}
