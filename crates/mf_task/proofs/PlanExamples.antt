-- The relaxed plan, computed piece by piece, most of it on `count`: one instance adds 1 to the term of number 0, which starts
-- at 0.
use Rattle.std.proofs.Common.{◌≡◌, ℕ, pos, negsuc, true, false, not, List, [], ◌∷◌, ◌++◌, map, filter, Some, refl, ap, ◌∙◌, rules}
use Rattle.std.specs.List.{fold, flat_map}
use Rattle.mf_fraction.specs.Gcd.{gcd}
use Rattle.mf_fraction.specs.Exact.{Number, whole, reduce, sum_of, difference_of, product_of, negative_of, order_of, is_below, fits}
use Rattle.mf_model.specs.declared.task.Op.TheVariants.{Decrease, Increase, ScaleUp}
use Rattle.mf_task.specs.declared.form.Form.{Form}
use Rattle.mf_task.specs.declared.ground.GroundCond.{the_lemmas}
use Rattle.mf_task.specs.declared.ground.GroundCond.TheVariants as node
use Rattle.mf_task.specs.declared.ground.GroundCond.TheOpen.{GroundCond-F}
use Rattle.mf_task.specs.declared.ground.GroundChange.TheVariants as change
use Rattle.mf_task.specs.Layers.{Finite, FiringEffect, Layer, Zero, AtLeast, has_range}
use Rattle.mf_task.specs.RelaxedPlan.{AtomNeed, FormNeed, LayerNeed, Relaxation, Relaxed, Requirement, Service, Serving, Step, at_layer, at_this_layer, effect_fits, form_need, form_service, helpful_from, is_counted_part, needs_of_effect, plan_length, relaxed_from, require_step, required, rest_needs, served, take_term, with_assign}
use Rattle.mf_task.proofs.LayerExamples.{count, fires, layer_0, layer_1, layer_2, rising, sight}

abbrev form : Number → Number → Form
form constant coefficient = record { constant = constant; parts = record { coefficient = coefficient; term = 0 } ∷ [] }

-- n - 2 and n - 1
abbrev two_less : Form
two_less = form (whole (negsuc 1)) (whole (pos 1))

abbrev one_less : Form
one_less = form (whole (negsuc 0)) (whole (pos 1))

abbrev relaxation : Relaxation
relaxation = record { task = count; sight = sight; layers = layer_0 ∷ layer_1 ∷ layer_2 ∷ [] }

abbrev unserved : Form → Serving
unserved a = record { form = a; selected = []; ended = false }

-- n - 2 >= 0 at layer 2 takes the increase by 1 once
one_taken : take_term relaxation layer_1 AtLeast rising (unserved two_less) (record { coefficient = whole (pos 1); term = 0 }) ≡ record { form = one_less; selected = rising; ended = false }
unfolding fits sum_of difference_of product_of negative_of reduce gcd order_of is_below
one_taken = refl

-- the rest n - 1 >= 0 is a need of layer 1, which is before the layer that serves
rest : rest_needs relaxation 1 false (record { form = one_less; selected = rising; ended = false }) ≡ record { layer = 1; need = FormNeed false one_less } ∷ []
unfolding fits sum_of difference_of product_of negative_of reduce gcd order_of is_below
rest = refl

-- The plan from the need of layer 2: the instance at the layers 1 and 0

-- the service of a need by these effects
abbrev service_by : ℕ → Form → List FiringEffect → Service
service_by k a firing =
    form_service relaxation k false
    (fold (take_term relaxation (at_layer relaxation k) AtLeast firing)
    (fold (with_assign relaxation (at_layer relaxation k) firing) (unserved a) (filter (λ p. not (has_range (at_layer relaxation k) p.term)) a.parts))
    (filter (is_counted_part (at_layer relaxation k)) a.parts))

abbrev needed : ℕ → Form → LayerNeed
needed layer a = record { layer = layer; need = FormNeed false a }

served_by_layer_1 : served relaxation 1 (FormNeed false two_less) ≡ record { selected = rising; rests = needed 1 one_less ∷ [] }
unfolding fits sum_of difference_of product_of negative_of reduce gcd order_of is_below
served_by_layer_1 = ap (service_by 1 two_less) (fires (layer_0 ∷ layer_1 ∷ []))

served_by_layer_0 : served relaxation 0 (FormNeed false one_less) ≡ record { selected = rising; rests = [] }
unfolding fits sum_of difference_of product_of negative_of reduce gcd order_of is_below
served_by_layer_0 = ap (service_by 0 one_less) (fires (layer_0 ∷ []))

asks_nothing : flat_map (needs_of_effect relaxation) rising ≡ []
asks_nothing = search (rules, the_lemmas)

-- the plan below layer k, once the one need of that layer was served, and its effects were asked for what they require
abbrev onward : ℕ → List LayerNeed → List Step → Service → List LayerNeed → Relaxed
onward k needs steps service asked =
    relaxed_from relaxation k (needs ++ (asked ++ (service.rests ++ []))) (steps ++ map (λ effect. record { layer = k; action = effect.action }) (service.selected ++ []))

abbrev step : ℕ → Step
step layer = record { layer = layer; action = 0 }

from_layer_1 : relaxed_from relaxation 1 (needed 2 two_less ∷ needed 1 one_less ∷ []) (step 1 ∷ []) ≡ record { steps = step 1 ∷ step 0 ∷ []; needs = needed 2 two_less ∷ needed 1 one_less ∷ [] }
from_layer_1 =
    ap (λ (s : Service). onward 0 (needed 2 two_less ∷ needed 1 one_less ∷ []) (step 1 ∷ []) s (flat_map (needs_of_effect relaxation) (s.selected ++ []))) served_by_layer_0
    ∙ ap (onward 0 (needed 2 two_less ∷ needed 1 one_less ∷ []) (step 1 ∷ []) (record { selected = rising; rests = [] })) asks_nothing

from_layer_2 : relaxed_from relaxation 2 (needed 2 two_less ∷ []) [] ≡ record { steps = step 1 ∷ step 0 ∷ []; needs = needed 2 two_less ∷ needed 1 one_less ∷ [] }
from_layer_2 =
    ap (λ (s : Service). onward 1 (needed 2 two_less ∷ []) [] s (flat_map (needs_of_effect relaxation) (s.selected ++ []))) served_by_layer_1
    ∙ ap (onward 1 (needed 2 two_less ∷ []) [] (record { selected = rising; rests = needed 1 one_less ∷ [] })) asks_nothing
    ∙ from_layer_1

-- the goal needs n - 2 >= 0 at its level, which is 2
goal_needs : flat_map (required relaxation) count.goal ≡ needed 2 two_less ∷ []
unfolding fits sum_of difference_of product_of negative_of reduce gcd order_of is_below
goal_needs = search (rules, the_lemmas)

length_two : plan_length (relaxed_from relaxation 2 (needed 2 two_less ∷ []) []) ≡ 2
length_two = ap plan_length from_layer_2

-- A need `e = 0` is served from the side on which e is

abbrev between : ℕ → ℕ → Layer
between low high = record { possible = λ atom. false; possibly_false = λ atom. false; range = λ term. Some (record { low = Finite (whole (pos low)); high = Finite (whole (pos high)) }) }

-- n - 2 is below 0 while n is at most 1
from_below : form_need layer_2 layer_1 Zero two_less ≡ FormNeed false two_less
unfolding fits sum_of difference_of product_of negative_of reduce gcd order_of is_below
from_below = refl

-- n is between 3 and 4, so n - 2 is to fall
from_above : form_need (between 2 4) (between 3 4) Zero two_less ≡ FormNeed false (form (whole (pos 2)) (whole (negsuc 0)))
unfolding fits sum_of difference_of product_of negative_of reduce gcd order_of is_below
from_above = refl

-- A scaling by a negative factor: -n - 4 >= 0, where n is between 1 and 3, is served by scaling n by -2: -6 is the best value

abbrev turning : List FiringEffect
turning = record { action = 0; condition = node.Fact true; change = change.Number ScaleUp 0 (Some 0) } ∷ []

-- the one form is the factor -2
abbrev turned : Relaxation
turned = record { task = record count { forms = record { constant = whole (negsuc 1); parts = [] } ∷ [] }; sight = sight; layers = between 1 3 ∷ [] }

by_negative_factor : take_term turned (between 1 3) AtLeast turning (unserved (form (whole (negsuc 3)) (whole (negsuc 0)))) (record { coefficient = whole (negsuc 0); term = 0 }) ≡ record { form = record { constant = whole (pos 2); parts = [] }; selected = turning; ended = false }
unfolding fits sum_of difference_of product_of negative_of reduce gcd order_of is_below
by_negative_factor = refl

-- An `or` requires its first part of least level, here the second

abbrev asking : ℕ → ℕ → Requirement
asking level atom = record { level = λ asked. Some level; needs = λ asked. record { layer = level; need = AtomNeed asked atom } ∷ [] }

second_part : (require_step relaxation (GroundCond-F.Or (asking 2 0 ∷ asking 1 1 ∷ asking 1 2 ∷ []))).needs true ≡ record { layer = 1; need = AtomNeed true 1 } ∷ []
second_part = refl

-- Helpful effects: where n - 2 is to be at least 0, an increase fits and a decrease does not

abbrev stepping : (instance : ℕ) → FiringEffect
stepping instance = record { action = instance; condition = node.Fact true; change = change.Number Increase 0 (Some 1) }

abbrev falling : FiringEffect
falling = record { action = 1; condition = node.Fact true; change = change.Number Decrease 0 (Some 1) }

increase_fits : effect_fits relaxation (stepping 0) (FormNeed false two_less) ≡ true
unfolding fits sum_of difference_of product_of negative_of reduce gcd order_of is_below
increase_fits = refl

decrease_does_not : effect_fits relaxation falling (FormNeed false two_less) ≡ false
unfolding fits sum_of difference_of product_of negative_of reduce gcd order_of is_below
decrease_does_not = refl

-- of the needs n - 2 >= 0 of layer 2 and n - 1 >= 0 of layer 1 the second one counts
counted_needs : at_this_layer 1 (needed 2 two_less ∷ needed 1 one_less ∷ []) ≡ needed 1 one_less ∷ []
counted_needs = refl

-- the instance that adds 1 is helpful
helpful_is_inc : helpful_from relaxation (needed 1 one_less ∷ []) 0 count.actions ≡ 0 ∷ []
unfolding fits sum_of difference_of product_of negative_of reduce gcd order_of is_below
helpful_is_inc = search (rules, the_lemmas)

-- where nothing is needed none is
none_is_helpful : helpful_from relaxation [] 0 count.actions ≡ []
unfolding fits sum_of difference_of product_of negative_of reduce gcd order_of is_below
none_is_helpful = search (rules, the_lemmas)
