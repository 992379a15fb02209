use Rattle.mf_fraction.proofs.Algebra.{quotient_of-none, quotient_of-product, quotient_of-proper}
use Rattle.mf_fraction.proofs.laws.quotient_laws.Goals as goal

pub returns : goal.returns
returns c = record {
  none = quotient_of-none;
  product = λ a b q p r e. quotient_of-product a b q p r.positive e;
  proper = λ a b q p e. quotient_of-proper a b q p.positive e;
}
