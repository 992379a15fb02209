-- The limit closure of a narrow state: which atoms may ever be true or false, and which terms may ever rise, fall or be
-- defined, when what was gained is never lost. A state is dead where the goal may not hold in it.
use Rattle.std.specs.Prelude.{◌≡◌, ℕ, zero, suc, ◌+◌, ◌*◌, Bool, true, false, ◌&&◌, ◌||◌, not, if◌then◌else◌, nat_eq, List, [], ◌∷◌, ◌++◌, length, Option, Some, None, is_some}
use Rattle.std.specs.List.{flat_map, list_all, list_any}
use Rattle.std.specs.declared.cmp.Ordering.{Ordering}
use Rattle.std.specs.declared.cmp.Ordering.TheVariants.{Less, Equal, Greater}
use Rattle.mf_fraction.specs.Exact.{Number, fits, product_of, sum_of}
use Rattle.mf_model.specs.declared.task.Op.{Op}
use Rattle.mf_model.specs.declared.task.Op.TheVariants.{Assign, Increase, Decrease, ScaleUp, ScaleDown}
use Rattle.mf_model.specs.declared.task.Relation.{Relation}
use Rattle.mf_model.specs.declared.task.Relation.TheVariants as relation
use Rattle.mf_task.specs.declared.form.Form.{Form}
use Rattle.mf_task.specs.declared.form.Part.{Part}
use Rattle.mf_task.specs.declared.ground.GroundCond.{GroundCond, fold-GroundCond}
use Rattle.mf_task.specs.declared.ground.GroundCond.TheOpen.{GroundCond-F}
use Rattle.mf_task.specs.declared.ground.GroundChange.{GroundChange}
use Rattle.mf_task.specs.declared.ground.GroundChange.TheVariants as change
use Rattle.mf_task.specs.declared.ground.GroundEffect.{GroundEffect}
use Rattle.mf_task.specs.declared.ground.GroundAction.{GroundAction}
use Rattle.mf_task.specs.declared.task.Task.{Task}
use Rattle.mf_task.specs.GroundMeaning.{form_at, optional_form_at, relates, sign}
use Rattle.mf_task.specs.Rows.{Sight}

-- atoms that may be true, atoms that may be false, terms that may rise, that may fall, and that may be defined
pub record Family : Type 0 where
  pub yes : ℕ → Bool
  pub no : ℕ → Bool
  pub up : ℕ → Bool
  pub down : ℕ → Bool
  pub defined : ℕ → Bool

-- what is so in the state
abbrev pub first_family : Sight → Family
first_family sight = record {
  yes = sight.bit;
  no = λ atom. not (sight.bit atom);
  up = λ term. false;
  down = λ term. false;
  defined = λ term. is_some (sight.value term);
}

-- Forms

abbrev pub is_zero : Number → Bool
is_zero a = relates relation.Equal (sign a)

abbrev pub if_fits : Number → (Number → Option Number) → Option Number
if_fits a rest = if fits a then rest a else None

abbrev pub then_some : Option Number → (Number → Option Number) → Option Number
then_some (Some a) rest = rest a
then_some None rest = None

-- the value at the state with terms of coefficient 0 dropped: unknown where another term is undefined, or where it is wide
abbrev pub known_value : Sight → Number → List Part → Option Number
known_value sight a [] = Some a
known_value sight a (p ∷ ps) =
    if is_zero p.coefficient then known_value sight a ps
    else then_some (sight.value p.term) (λ v. if_fits (product_of p.coefficient v) (λ product. if_fits (sum_of a product) (λ sum. known_value sight sum ps)))

-- a term with a coefficient of this sign lifts the form
abbrev pub lifts : Family → Ordering → ℕ → Bool
lifts family Less term = family.down term
lifts family Equal term = false
lifts family Greater term = family.up term

abbrev pub lowers : Family → Ordering → ℕ → Bool
lowers family Less term = family.up term
lowers family Equal term = false
lowers family Greater term = family.down term

abbrev pub may_go_up : Family → Form → Bool
may_go_up family a = list_any (λ p. lifts family (sign p.coefficient) p.term) a.parts

abbrev pub may_go_down : Family → Form → Bool
may_go_down family a = list_any (λ p. lowers family (sign p.coefficient) p.term) a.parts

-- its terms may be defined, those of coefficient 0 too
abbrev pub form_may_be_defined : Family → Form → Bool
form_may_be_defined family a = list_all (λ p. family.defined p.term) a.parts

-- whether a form may have a sign, where its value has this sign at the state and it may go up or down so
abbrev pub may_get : Option Ordering → (up down : Bool) → Ordering → Bool
may_get None up down asked = true
may_get (Some Less) up down Less = true
may_get (Some Less) up down Equal = up
may_get (Some Less) up down Greater = up
may_get (Some Equal) up down Less = down
may_get (Some Equal) up down Equal = true
may_get (Some Equal) up down Greater = up
may_get (Some Greater) up down Less = down
may_get (Some Greater) up down Equal = down
may_get (Some Greater) up down Greater = true

abbrev pub sign_of_known : Option Number → Option Ordering
sign_of_known (Some a) = Some (sign a)
sign_of_known None = None

-- the form may be defined and of this sign
abbrev pub may_have_sign : Sight → Family → Form → Ordering → Bool
may_have_sign sight family a asked =
    form_may_be_defined family a && may_get (sign_of_known (known_value sight a.constant a.parts)) (may_go_up family a) (may_go_down family a) asked

-- Conditions

abbrev pub agrees_with : Bool → Bool → Bool
agrees_with true b = b
agrees_with false b = not b

-- the relation holds (fails) of some sign that the form may have
abbrev pub may_compare : Sight → Family → Relation → Form → Bool → Bool
may_compare sight family r a asked =
    list_any (λ o. agrees_with asked (relates r o) && may_have_sign sight family a o) (Less ∷ Equal ∷ Greater ∷ [])

abbrev pub atom_may : Family → ℕ → Bool → Bool
atom_may family atom true = family.yes atom
atom_may family atom false = family.no atom

abbrev pub all_may : List (Bool → Bool) → Bool → Bool
all_may parts true = list_all (λ part. part true) parts
all_may parts false = list_any (λ part. part false) parts

abbrev pub any_may : List (Bool → Bool) → Bool → Bool
any_may parts true = list_any (λ part. part true) parts
any_may parts false = list_all (λ part. part false) parts

abbrev pub may_step : Task → Sight → Family → GroundCond-F (Bool → Bool) → Bool → Bool
may_step task sight family (GroundCond-F.Fact holds) asked = agrees_with asked holds
may_step task sight family GroundCond-F.Neither asked = false
may_step task sight family (GroundCond-F.Atom atom) asked = atom_may family atom asked
may_step task sight family (GroundCond-F.Compare r form) asked = may_compare sight family r (form_at task form) asked
may_step task sight family (GroundCond-F.Not part) asked = part (not asked)
may_step task sight family (GroundCond-F.And parts) asked = all_may parts asked
may_step task sight family (GroundCond-F.Or parts) asked = any_may parts asked

-- whether a condition may hold, and whether it may fail
abbrev pub may_be : Task → Sight → Family → GroundCond → Bool → Bool
may_be task sight family = fold-GroundCond (Bool → Bool) (may_step task sight family)

abbrev pub may_hold : Task → Sight → Family → GroundCond → Bool
may_hold task sight family condition = may_be task sight family condition true

-- What effects give

pub data Gain : Type 0 where
  MayBeTrue : ℕ → Gain
  MayBeFalse : ℕ → Gain
  MayRise : ℕ → Gain
  MayFall : ℕ → Gain
  MayBeDefined : ℕ → Gain

abbrev pub optional_may_be_defined : Family → Option Form → Bool
optional_may_be_defined family (Some a) = form_may_be_defined family a
optional_may_be_defined family None = false

abbrev pub optional_may_have_sign : Sight → Family → Option Form → Ordering → Bool
optional_may_have_sign sight family (Some a) o = may_have_sign sight family a o
optional_may_have_sign sight family None o = false

abbrev pub gain_if : Bool → Gain → List Gain
gain_if b gain = if b then gain ∷ [] else []

abbrev pub number_gains : Sight → Family → Op → ℕ → Option Form → List Gain
number_gains sight family Assign term value = if optional_may_be_defined family value then MayBeDefined term ∷ MayRise term ∷ MayFall term ∷ [] else []
number_gains sight family ScaleUp term value = MayRise term ∷ MayFall term ∷ []
number_gains sight family ScaleDown term value = MayRise term ∷ MayFall term ∷ []
number_gains sight family Increase term value =
    gain_if (optional_may_have_sign sight family value Greater) (MayRise term) ++ gain_if (optional_may_have_sign sight family value Less) (MayFall term)
number_gains sight family Decrease term value =
    gain_if (optional_may_have_sign sight family value Less) (MayRise term) ++ gain_if (optional_may_have_sign sight family value Greater) (MayFall term)

abbrev pub change_gains : Task → Sight → Family → GroundChange → List Gain
change_gains task sight family (change.Add atom) = MayBeTrue atom ∷ []
change_gains task sight family (change.Delete atom) = MayBeFalse atom ∷ []
change_gains task sight family (change.Number op term value) = number_gains sight family op term (optional_form_at task value)
change_gains task sight family (change.Cost value) = []
change_gains task sight family change.Nothing = []

abbrev pub effect_gains : Task → Sight → Family → GroundEffect → List Gain
effect_gains task sight family effect = if may_hold task sight family effect.condition then change_gains task sight family effect.change else []

abbrev pub action_gains : Task → Sight → Family → GroundAction → List Gain
action_gains task sight family action =
    if may_hold task sight family action.condition then flat_map (effect_gains task sight family) action.effects else []

abbrev pub gives_true : ℕ → Gain → Bool
gives_true n (MayBeTrue atom) = nat_eq n atom
gives_true n (MayBeFalse atom) = false
gives_true n (MayRise term) = false
gives_true n (MayFall term) = false
gives_true n (MayBeDefined term) = false

abbrev pub gives_false : ℕ → Gain → Bool
gives_false n (MayBeTrue atom) = false
gives_false n (MayBeFalse atom) = nat_eq n atom
gives_false n (MayRise term) = false
gives_false n (MayFall term) = false
gives_false n (MayBeDefined term) = false

abbrev pub gives_rise : ℕ → Gain → Bool
gives_rise n (MayBeTrue atom) = false
gives_rise n (MayBeFalse atom) = false
gives_rise n (MayRise term) = nat_eq n term
gives_rise n (MayFall term) = false
gives_rise n (MayBeDefined term) = false

abbrev pub gives_fall : ℕ → Gain → Bool
gives_fall n (MayBeTrue atom) = false
gives_fall n (MayBeFalse atom) = false
gives_fall n (MayRise term) = false
gives_fall n (MayFall term) = nat_eq n term
gives_fall n (MayBeDefined term) = false

abbrev pub gives_defined : ℕ → Gain → Bool
gives_defined n (MayBeTrue atom) = false
gives_defined n (MayBeFalse atom) = false
gives_defined n (MayRise term) = false
gives_defined n (MayFall term) = false
gives_defined n (MayBeDefined term) = nat_eq n term

-- the family with what the gains give
abbrev pub with_gains : Family → List Gain → Family
with_gains family gains = record {
  yes = λ n. family.yes n || list_any (gives_true n) gains;
  no = λ n. family.no n || list_any (gives_false n) gains;
  up = λ n. family.up n || list_any (gives_rise n) gains;
  down = λ n. family.down n || list_any (gives_fall n) gains;
  defined = λ n. family.defined n || list_any (gives_defined n) gains;
}

-- one round: each live instance whose precondition may hold gives what its effects give
abbrev pub next_family : Task → Sight → Family → Family
next_family task sight family = with_gains family (flat_map (action_gains task sight family) task.actions)

abbrev pub family_after : Task → Sight → ℕ → Family
family_after task sight zero = first_family sight
family_after task sight (suc n) = next_family task sight (family_after task sight n)

-- after so many rounds nothing is added any more
abbrev pub round_count : Task → ℕ
round_count task = 2 * length task.atoms + 3 * length task.terms + 1

abbrev pub limit_closure : Task → Sight → Family
limit_closure task sight = family_after task sight (round_count task)

-- the goal may not hold
abbrev pub is_dead : Task → Sight → Bool
is_dead task sight = not (list_all (may_hold task sight (limit_closure task sight)) task.goal)

-- Closed families, for proofs: the closure is one, and is contained in each

pub record IsWithin (f g : Family) : Type 0 where
  pub yes : (n : ℕ) → f.yes n ≡ true → g.yes n ≡ true
  pub no : (n : ℕ) → f.no n ≡ true → g.no n ≡ true
  pub up : (n : ℕ) → f.up n ≡ true → g.up n ≡ true
  pub down : (n : ℕ) → f.down n ≡ true → g.down n ≡ true
  pub defined : (n : ℕ) → f.defined n ≡ true → g.defined n ≡ true

-- it has what is so in the state, and one more round adds nothing
pub record IsClosed (task : Task) (sight : Sight) (f : Family) : Type 0 where
  pub first : IsWithin (first_family sight) f
  pub next : IsWithin (next_family task sight f) f
