-- When actions are applicable, the next states and the ways out of the width, computed on small tasks.
use Rattle.std.proofs.Common.{◌≡◌, ℕ, ◌^◌, pos, negsuc, true, false, nat_eq, List, [], ◌∷◌, Some, None, rules}
use Rattle.mf_fraction.specs.Gcd.{gcd}
use Rattle.mf_fraction.specs.Exact.{whole, reduce, sum_of, product_of, order_of, fits}
use Rattle.mf_model.specs.declared.task.Op.{Op}
use Rattle.mf_model.specs.declared.task.Op.TheVariants.{Assign, Increase, ScaleUp}
use Rattle.mf_model.specs.declared.task.Relation.TheVariants.{Equal, Less}
use Rattle.mf_task.specs.declared.form.Form.{Form}
use Rattle.mf_task.specs.declared.ground.GroundCond.{GroundCond, the_lemmas}
use Rattle.mf_task.specs.declared.ground.GroundCond.TheVariants as node
use Rattle.mf_task.specs.declared.ground.GroundChange.{GroundChange}
use Rattle.mf_task.specs.declared.ground.GroundChange.TheVariants as change
use Rattle.mf_task.specs.declared.ground.GroundEffect.{GroundEffect}
use Rattle.mf_task.specs.declared.ground.GroundAction.{GroundAction}
use Rattle.mf_task.specs.declared.task.Task.{Task}
use Rattle.mf_task.specs.GroundMeaning.{action_firing, is_ground_applicable, is_ground_goal, next_sight}
use Rattle.mf_task.specs.Rows.{Sight}
use Rattle.mf_task.specs.Width.{way_out}
use Rattle.mf_task.proofs.AtomTasks.{always}

abbrev acting : GroundCond → List GroundEffect → GroundAction
acting condition effects = record { instance = record { action = 0; objects = [] }; condition = condition; effects = effects }

abbrev constant : ℕ → Form
constant n = record { constant = whole (pos n); parts = [] }

-- `twice`: an atom that is deleted and added at once is true. Atom 0 is q, atom 1 is done

abbrev act : GroundAction
act = acting (node.Fact true) (always (change.Delete 0) ∷ always (change.Add 0) ∷ always (change.Add 1) ∷ [])

abbrev twice : Task
twice = record {
  atoms = record { predicate = 1; objects = [] } ∷ record { predicate = 2; objects = [] } ∷ [];
  terms = [];
  forms = [];
  actions = act ∷ [];
  goal = node.Atom 0 ∷ node.Atom 1 ∷ [];
  start = record { bits = 1 ∷ []; values = [] };
}

abbrev first_atom : Sight
first_atom = record { bit = λ atom. nat_eq atom 0; value = λ term. None }

all_fire : action_firing twice first_atom act ≡ change.Delete 0 ∷ change.Add 0 ∷ change.Add 1 ∷ []
all_fire = search (rules, the_lemmas)

abbrev after_act : Sight
after_act = next_sight twice first_atom (change.Delete 0 ∷ change.Add 0 ∷ change.Add 1 ∷ [])

goal_is_met : is_ground_goal twice after_act ≡ true
goal_is_met = search (rules, the_lemmas)

-- `sums`: two increases of one term agree, an assign beside an increase does not, even by 0

abbrev sums : List GroundEffect → Task
sums effects = record {
  atoms = [];
  terms = record { function = 0; objects = [] } ∷ [];
  forms = record { constant = whole (negsuc 4); parts = record { coefficient = whole (pos 1); term = 0 } ∷ [] } ∷ constant 2 ∷ constant 3 ∷ constant 5 ∷ constant 0 ∷ [];
  actions = acting (node.Fact true) effects ∷ [];
  goal = node.Compare Equal 0 ∷ [];
  start = record { bits = []; values = Some (whole (pos 0)) ∷ [] };
}

abbrev with_number : ℕ → Sight
with_number n = record { bit = λ atom. false; value = λ term. Some (whole (pos n)) }

abbrev changed : Op → ℕ → GroundChange
changed op form = change.Number op 0 (Some form)

abbrev two : List GroundEffect
two = always (changed Increase 1) ∷ always (changed Increase 2) ∷ []

abbrev mix : List GroundEffect
mix = always (changed Assign 3) ∷ always (changed Increase 4) ∷ []

two_is_applicable : is_ground_applicable (sums two) (with_number 0) (acting (node.Fact true) two) ≡ true
two_is_applicable = search (rules, the_lemmas)

two_adds_five : (next_sight (sums two) (with_number 0) (changed Increase 1 ∷ changed Increase 2 ∷ [])).value 0 ≡ Some (whole (pos 5))
unfolding sum_of product_of reduce gcd
two_adds_five = search (rules, the_lemmas)

five_is_the_goal : is_ground_goal (sums two) (with_number 5) ≡ true
unfolding sum_of product_of reduce gcd order_of
five_is_the_goal = search (rules, the_lemmas)

mix_is_not_applicable : is_ground_applicable (sums mix) (with_number 0) (acting (node.Fact true) mix) ≡ false
mix_is_not_applicable = search (rules, the_lemmas)

-- `grow`: 2^61 doubles to 2^62, which fits; 2^62 leads out

abbrev double : List GroundEffect
double = always (changed ScaleUp 1) ∷ []

abbrev grow : Task
grow = record {
  atoms = [];
  terms = record { function = 0; objects = [] } ∷ [];
  forms = record { constant = whole (pos 0); parts = record { coefficient = whole (pos 1); term = 0 } ∷ [] } ∷ constant 2 ∷ [];
  actions = acting (node.Fact true) double ∷ [];
  goal = node.Compare Less 0 ∷ [];
  start = record { bits = []; values = Some (whole (pos 1)) ∷ [] };
}

doubled : (next_sight grow (with_number (2 ^ 61)) (changed ScaleUp 1 ∷ [])).value 0 ≡ Some (whole (pos (2 ^ 62)))
unfolding sum_of product_of reduce gcd
doubled = search (rules, the_lemmas)

no_way_out : way_out grow (with_number (2 ^ 61)) ≡ None
unfolding sum_of product_of reduce gcd fits
no_way_out = search (rules, the_lemmas)

way_out_by_double : way_out grow (with_number (2 ^ 62)) ≡ Some 0
unfolding sum_of product_of reduce gcd fits
way_out_by_double = search (rules, the_lemmas)

-- `dist`: a comparison with an undefined side neither holds nor fails, and its negation does neither

abbrev undefined_side : GroundAction
undefined_side = acting (node.And (node.Atom 0 ∷ node.Neither ∷ [])) (always (change.Add 1) ∷ [])

undefined_denied : GroundAction
undefined_denied = acting (node.And (node.Atom 0 ∷ node.Not node.Neither ∷ [])) (always (change.Add 1) ∷ [])

not_applicable : is_ground_applicable twice first_atom undefined_side ≡ false
not_applicable = search (rules, the_lemmas)

not_applicable_denied : is_ground_applicable twice first_atom undefined_denied ≡ false
unfolding undefined_denied
not_applicable_denied = search (rules, the_lemmas)
