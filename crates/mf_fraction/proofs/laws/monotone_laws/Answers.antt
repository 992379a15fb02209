use Rattle.mf_fraction.proofs.Monotone.{order_of-sum, order_of-product, order_of-negative}
use Rattle.mf_fraction.proofs.laws.monotone_laws.Goals as goal

pub returns : goal.returns
returns c = record {
  sum = λ a b d p q r. order_of-sum a b d p.positive q.positive r.positive;
  product = λ a b d p q r s. order_of-product a b d p.positive q.positive r.positive s;
  negation = order_of-negative;
}
