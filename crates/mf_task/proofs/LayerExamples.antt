-- Layers, computed: `count` has one term, number 0, which starts at 0, and one instance that adds 1 to it. The goal is that
-- it is at least 2.
use Rattle.std.proofs.Common.{◌≡◌, ℕ, ◌^◌, pos, negsuc, true, false, List, [], ◌∷◌, ◌++◌, Option, Some, refl, ap, ◌∙◌, rules}
use Rattle.mf_fraction.specs.Gcd.{gcd}
use Rattle.mf_fraction.specs.Exact.{whole, reduce, sum_of, difference_of, product_of, negative_of, order_of, is_below, fits}
use Rattle.mf_model.specs.declared.task.Op.TheVariants.{Increase, ScaleUp}
use Rattle.mf_model.specs.declared.task.Relation.TheVariants.{AtLeast}
use Rattle.mf_task.specs.declared.ground.GroundCond.{the_lemmas}
use Rattle.mf_task.specs.declared.ground.GroundCond.TheVariants as node
use Rattle.mf_task.specs.declared.ground.GroundChange.TheVariants as change
use Rattle.mf_task.specs.declared.ground.GroundAction.{GroundAction}
use Rattle.mf_task.specs.declared.task.Task.{Task}
use Rattle.mf_task.specs.Layers.{Bound, Finite, Endless, Range, Layer, FiringEffect, first_layer, firing_at, form_range, layer_at, layers_to, level_of, next_layer_by, next_range, scaled_bound, scaled_high}
use Rattle.mf_task.specs.Rows.{Sight}

abbrev number : ℕ → Bound
number n = Finite (whole (pos n))

abbrev range : ℕ → ℕ → Range
range low high = record { low = number low; high = number high }

abbrev pub inc : GroundAction
inc = record {
  instance = record { action = 0; objects = [] };
  condition = node.And [];
  effects = record { condition = node.Fact true; change = change.Number Increase 0 (Some 1) } ∷ [];
}

-- forms: n - 2, and 1
abbrev pub count : Task
count = record {
  atoms = [];
  terms = record { function = 0; objects = [] } ∷ [];
  forms = record { constant = whole (negsuc 1); parts = record { coefficient = whole (pos 1); term = 0 } ∷ [] } ∷ record { constant = whole (pos 1); parts = [] } ∷ [];
  actions = inc ∷ [];
  goal = node.Compare AtLeast 0 ∷ [];
  start = record { bits = []; values = Some (whole (pos 0)) ∷ [] };
}

abbrev pub sight : Sight
sight = record { bit = λ atom. false; value = λ term. Some (whole (pos 0)) }

abbrev pub rising : List FiringEffect
rising = record { action = 0; condition = node.Fact true; change = change.Number Increase 0 (Some 1) } ∷ []

-- its condition has the level 0 among any layers
pub fires : (layers : List Layer) → firing_at count layers ≡ rising
fires layers = search (rules, the_lemmas)

abbrev pub layer_0 : Layer
layer_0 = first_layer sight

abbrev pub layer_1 : Layer
layer_1 = next_layer_by count layer_0 rising

abbrev pub layer_2 : Layer
layer_2 = next_layer_by count layer_1 rising

bounds_0 : layer_0.range 0 ≡ Some (range 0 0)
bounds_0 = refl

bounds_1 : layer_1.range 0 ≡ Some (range 0 1)
unfolding fits sum_of difference_of product_of negative_of reduce gcd order_of is_below
bounds_1 = refl

bounds_2 : layer_2.range 0 ≡ Some (range 0 2)
unfolding fits sum_of difference_of product_of negative_of reduce gcd order_of is_below
bounds_2 = refl

one_layer_more : layers_to count sight 1 ≡ layer_0 ∷ layer_1 ∷ []
one_layer_more = ap (λ firing. layer_0 ∷ next_layer_by count layer_0 firing ∷ []) (fires (layer_0 ∷ []))

two_layers_more : layers_to count sight 2 ≡ layer_0 ∷ layer_1 ∷ layer_2 ∷ []
two_layers_more =
    ap (λ layers. layers_after layers (firing_at count layers)) one_layer_more ∙ ap (λ firing. layer_0 ∷ layer_1 ∷ next_layer_by count layer_1 firing ∷ []) (fires (layer_0 ∷ layer_1 ∷ []))
  where
    layers_after : List Layer → List FiringEffect → List Layer
    layers_after layers firing = layers ++ next_layer_by count (layer_at sight layers 1) firing ∷ []

-- n - 2 is at least 0 at layer 2 for the first time
level : level_of count (layer_0 ∷ layer_1 ∷ layer_2 ∷ []) (node.Compare AtLeast 0) ≡ Some 2
unfolding fits sum_of difference_of product_of negative_of reduce gcd order_of is_below
level = search (rules, the_lemmas)

-- A scaling by -2 of a term between 1 and 3 gives -6 to -2

abbrev scaling : Option Range
scaling = Some (range 1 3)

scaled : next_range scaling (record { op = ScaleUp; range = record { low = Finite (whole (negsuc 1)); high = Finite (whole (negsuc 1)) }; factor = Some (whole (negsuc 1)) } ∷ []) ≡ Some (record { low = Finite (whole (negsuc 5)); high = number 3 })
unfolding fits sum_of difference_of product_of negative_of reduce gcd order_of is_below
scaled = refl

-- Endless bounds: 0 times one is 0; a negative number times the end below is the end above; a term of coefficient 0 adds nothing

nothing : scaled_bound (whole (pos 0)) Endless ≡ number 0
unfolding order_of
nothing = refl

turned : scaled_high (whole (negsuc 0)) (record { low = Endless; high = number 3 }) ≡ Endless
unfolding fits product_of reduce gcd order_of is_below
turned = refl

abbrev boundless : Layer
boundless = record { possible = λ atom. false; possibly_false = λ atom. false; range = λ term. Some (record { low = Endless; high = Endless }) }

left_out : form_range boundless (record { constant = whole (pos 7); parts = record { coefficient = whole (pos 0); term = 0 } ∷ [] }) ≡ Some (range 7 7)
unfolding order_of
left_out = refl

-- a sum that does not fit is beyond every number
abbrev greatest : Layer
greatest = record { possible = λ atom. false; possibly_false = λ atom. false; range = λ term. Some (range 0 (2 ^ 62)) }

too_great : form_range greatest (record { constant = whole (pos 1); parts = record { coefficient = whole (pos 1); term = 0 } ∷ [] }) ≡ Some (record { low = number 1; high = Endless })
unfolding fits sum_of product_of reduce gcd order_of
too_great = refl
