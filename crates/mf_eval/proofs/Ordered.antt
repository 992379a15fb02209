-- What the order of two numbers tells of each relation.
use Rattle.std.proofs.Common.{◌≡◌, ℕ, Bool, true, false, cond, ltb, leb, ℤ, pos, negsuc, ◌*ℤ◌, int_le, refl, ap, ◌∙◌, arith}
use Rattle.std.proofs.lemmas.Bool.Decides.{nat_tests}
use Rattle.std.specs.Ordering.{int_cmp, is_lt, is_le, is_eq}
use Rattle.std.specs.declared.cmp.Ordering.{Ordering}
use Rattle.std.specs.declared.cmp.Ordering.TheVariants.{Less, Equal, Greater}
use Rattle.mf_fraction.specs.Exact.{Number, order_of, is_below, is_at_most, is_same}
use Rattle.mf_model.specs.declared.task.Relation.{Relation}
use Rattle.mf_model.specs.declared.task.Relation.TheVariants as relation
use Rattle.mf_model.specs.Meaning.{ordered}

lt_where : (a b : Bool) → is_lt (cond a Less (cond b Greater Equal)) ≡ a
lt_where true b = refl
lt_where false true = refl
lt_where false false = refl

le_naturals : (a b : ℕ) → is_le (cond (ltb a b) Less (cond (ltb b a) Greater Equal)) ≡ leb a b
le_naturals a b = grind (arith, nat_tests)

le_integers : (x y : ℤ) → is_le (int_cmp x y) ≡ int_le x y
le_integers (pos a) (pos b) = le_naturals a b
le_integers (pos a) (negsuc b) = refl
le_integers (negsuc a) (pos b) = refl
le_integers (negsuc a) (negsuc b) = le_naturals b a

is_below-order : (a b : Number) → is_lt (order_of a b) ≡ is_below a b
unfolding order_of is_below
is_below-order a b = lt_where _ _

is_at_most-order : (a b : Number) → is_le (order_of a b) ≡ is_at_most a b
unfolding order_of is_at_most
is_at_most-order a b = le_integers (a.num *ℤ pos b.den) (b.num *ℤ pos a.den)

is_same-order : (a b : Number) → is_eq (order_of a b) ≡ is_same a b
unfolding order_of is_same
is_same-order a b = refl

module _ (r : Relation) (a b : Number) (o : Ordering) (x : Bool) where
  pub ordered-less : r ≡ relation.Less → o ≡ order_of a b → x ≡ is_lt o → x ≡ ordered r a b
  ordered-less e f g = rw e (g ∙ ap is_lt f ∙ is_below-order a b)

  pub ordered-at_most : r ≡ relation.AtMost → o ≡ order_of a b → x ≡ is_le o → x ≡ ordered r a b
  ordered-at_most e f g = rw e (g ∙ ap is_le f ∙ is_at_most-order a b)

  pub ordered-equal : r ≡ relation.Equal → o ≡ order_of a b → x ≡ is_eq o → x ≡ ordered r a b
  ordered-equal e f g = rw e (g ∙ ap is_eq f ∙ is_same-order a b)

  pub ordered-at_least : r ≡ relation.AtLeast → o ≡ order_of b a → x ≡ is_le o → x ≡ ordered r a b
  ordered-at_least e f g = rw e (g ∙ ap is_le f ∙ is_at_most-order b a)

  pub ordered-more : r ≡ relation.More → o ≡ order_of b a → x ≡ is_lt o → x ≡ ordered r a b
  ordered-more e f g = rw e (g ∙ ap is_lt f ∙ is_below-order b a)
