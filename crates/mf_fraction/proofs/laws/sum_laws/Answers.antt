use Rattle.mf_fraction.proofs.Algebra.{sum_of-comm, sum_of-assoc, sum_of-zero, sum_of-negative, sum_of-proper}
use Rattle.mf_fraction.proofs.laws.sum_laws.Goals as goal

pub returns : goal.returns
returns c = record {
  commutative = sum_of-comm;
  associative = sum_of-assoc;
  zero = sum_of-zero;
  negation = λ a p. sum_of-negative a p.positive;
  proper = λ a b p q. sum_of-proper a b p.positive q.positive;
}
