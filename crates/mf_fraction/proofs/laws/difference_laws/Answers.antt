use Rattle.mf_fraction.proofs.Algebra.{difference_of-negative, difference_of-product, difference_of-proper, negative_of-proper}
use Rattle.mf_fraction.proofs.OrderLaws.{sign_of-difference, below-difference}
use Rattle.mf_fraction.proofs.laws.difference_laws.Goals as goal

pub returns : goal.returns
returns c = record {
  negation = difference_of-negative;
  product = difference_of-product;
  sign = λ a b p q. sign_of-difference a b p.positive q.positive;
  below = λ a b p q. below-difference a b p.positive q.positive;
  proper = λ a b p q. difference_of-proper a b p.positive q.positive;
  proper_negation = negative_of-proper;
}
