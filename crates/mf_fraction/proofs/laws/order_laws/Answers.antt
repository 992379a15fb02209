use Rattle.mf_fraction.proofs.OrderLaws.{order_of-is, is_at_most-is, is_same-is, equal_from_same, is_same-self, is_below-self, is_below-trans}
use Rattle.mf_fraction.proofs.laws.order_laws.Goals as goal

pub returns : goal.returns
returns c = record {
  three = order_of-is;
  total = is_at_most-is;
  same = is_same-is;
  equal = equal_from_same;
  reflexive = is_same-self;
  irreflexive = is_below-self;
  transitive = λ a b c p e f. is_below-trans a b c p.positive e f;
}
