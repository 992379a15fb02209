-- The limit closure, computed: `burn` takes 1/3 of the fuel (term 0) while there is more than 1/3, or at least 1/3. The goal
-- is that the fuel is at most 0.
use Rattle.std.proofs.Common.{◌≡◌, ℕ, zero, suc, pos, negsuc, Bool, true, false, ◌&&◌, ◌||◌, not, [], ◌∷◌, ◌++◌, Some, refl, ap, ◌∙◌, if◌then◌else◌, rules}
use Rattle.std.specs.List.{flat_map, list_any}
use Rattle.mf_fraction.specs.Gcd.{gcd}
use Rattle.mf_fraction.specs.Exact.{Number, whole, reduce, sum_of, product_of, fits, order_of}
use Rattle.mf_model.specs.declared.task.Op.TheVariants.{Decrease}
use Rattle.mf_model.specs.declared.task.Relation.{Relation}
use Rattle.mf_model.specs.declared.task.Relation.TheVariants.{AtLeast, AtMost, More}
use Rattle.mf_task.specs.declared.form.Form.{Form}
use Rattle.mf_task.specs.declared.ground.GroundCond.{the_lemmas}
use Rattle.mf_task.specs.declared.ground.GroundCond.TheVariants as node
use Rattle.mf_task.specs.declared.ground.GroundChange.TheVariants as change
use Rattle.mf_task.specs.declared.ground.GroundAction.{GroundAction}
use Rattle.mf_task.specs.declared.ground.GroundEffect.{GroundEffect}
use Rattle.mf_task.specs.declared.task.Task.{Task}
use Rattle.mf_task.specs.LimitClosure.{Family, action_gains, effect_gains, family_after, gives_fall, gives_rise, is_dead, limit_closure, may_compare, may_hold, next_family}
use Rattle.mf_task.specs.Rows.{Sight}

abbrev third : Number
third = record { num = pos 1; den = 3 }

abbrev fuel : Number → Form
fuel constant = record { constant = constant; parts = record { coefficient = whole (pos 1); term = 0 } ∷ [] }

abbrev taking : GroundEffect
taking = record { condition = node.Fact true; change = change.Number Decrease 0 (Some 1) }

abbrev burning : Relation → GroundAction
burning relation = record { instance = record { action = 0; objects = [] }; condition = node.Compare relation 0; effects = taking ∷ [] }

-- forms: fuel - 1/3, 1/3 and fuel
abbrev burn : Relation → Task
burn relation = record {
  atoms = [];
  terms = record { function = 0; objects = [] } ∷ [];
  forms = fuel (record { num = negsuc 0; den = 3 }) ∷ record { constant = third; parts = [] } ∷ fuel (whole (pos 0)) ∷ [];
  actions = burning relation ∷ [];
  goal = node.Compare AtMost 2 ∷ [];
  start = record { bits = []; values = Some third ∷ [] };
}

abbrev sight : Sight
sight = record { bit = λ atom. false; value = λ term. Some third }

not_dead : is_dead (burn AtLeast) sight ≡ false
unfolding fits sum_of product_of reduce gcd order_of
not_dead = search (rules, the_lemmas)

-- At 1/3 there is not more than 1/3, and there will not be: nothing makes the fuel rise.

quiet : Bool → Bool → Bool → Family
quiet defined up down = record { yes = λ n. false; no = λ n. false; up = λ n. up; down = λ n. down; defined = λ n. defined }

more_than_third : (defined up down : Bool) → up ≡ false → may_compare sight (quiet defined up down) More (fuel (record { num = negsuc 0; den = 3 })) true ≡ false
unfolding quiet fits sum_of product_of reduce gcd order_of
more_than_third true true down e = e
more_than_third true false down e = refl
more_than_third false up down e = refl

holds_by : (f : Family) → may_hold (burn More) sight f (node.Compare More 0) ≡ may_compare sight f More (fuel (record { num = negsuc 0; den = 3 })) true
holds_by f = search (rules, the_lemmas)

no_gains : (f : Family) → f.up 0 ≡ false → action_gains (burn More) sight f (burning More) ≡ []
unfolding quiet fits sum_of product_of reduce gcd order_of
no_gains f up =
    ap (λ b. if b then flat_map (effect_gains (burn More) sight f) (taking ∷ []) else []) (holds_by f ∙ more_than_third (f.defined 0) (f.up 0) (f.down 0) up)

-- it rises and falls in no round
steady : (n : ℕ) → ((family_after (burn More) sight n).up 0 ≡ false) × ((family_after (burn More) sight n).down 0 ≡ false)
steady zero = (refl, refl)
steady (suc n) = onward (family_after (burn More) sight n) (steady n).0 (steady n).1
  where
    onward : (f : Family) → f.up 0 ≡ false → f.down 0 ≡ false → ((next_family (burn More) sight f).up 0 ≡ false) × ((next_family (burn More) sight f).down 0 ≡ false)
    onward f up down = (
      ap (λ gains. f.up 0 || list_any (gives_rise 0) (gains ++ [])) (no_gains f up) ∙ ap (λ u. u || false) up,
      ap (λ gains. f.down 0 || list_any (gives_fall 0) (gains ++ [])) (no_gains f up) ∙ ap (λ d. d || false) down,
    )

at_most_nothing : (defined up down : Bool) → down ≡ false → may_compare sight (quiet defined up down) AtMost (fuel (whole (pos 0))) true ≡ false
unfolding quiet fits sum_of product_of reduce gcd order_of
at_most_nothing true up true e = e
at_most_nothing true up false e = refl
at_most_nothing false up down e = refl

goal_by : (f : Family) → may_hold (burn More) sight f (node.Compare AtMost 2) ≡ may_compare sight f AtMost (fuel (whole (pos 0))) true
goal_by f = search (rules, the_lemmas)

dead : is_dead (burn More) sight ≡ true
unfolding quiet fits sum_of product_of reduce gcd order_of
dead =
    let f = limit_closure (burn More) sight in
    ap (λ b. not (b && true)) (goal_by f ∙ at_most_nothing (f.defined 0) (f.up 0) (f.down 0) (steady 4).1)
