use Rattle.mf_fraction.proofs.Algebra.{product_of-comm, product_of-assoc, product_of-sum, product_of-one, product_of-zero, product_of-proper}
use Rattle.mf_fraction.proofs.laws.product_laws.Goals as goal

pub returns : goal.returns
returns c = record {
  commutative = product_of-comm;
  associative = product_of-assoc;
  distributive = λ a b c p. product_of-sum a b c p.positive;
  one = product_of-one;
  zero = λ a p. product_of-zero a p.positive;
  proper = λ a b p q. product_of-proper a b p.positive q.positive;
}
