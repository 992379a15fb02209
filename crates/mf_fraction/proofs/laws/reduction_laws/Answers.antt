use Rattle.mf_fraction.proofs.Reduced.{reduce-scale, reduce_self, reduce-proper}
use Rattle.mf_fraction.proofs.laws.reduction_laws.Goals as goal

pub returns : goal.returns
returns c = record {
  factor = reduce-scale;
  kept = reduce_self;
  proper = reduce-proper;
}
