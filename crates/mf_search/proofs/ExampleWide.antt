-- A space with a dead state out of which an instance leads from the width: the answer is no plan, and no steps lead to
-- a goal, though steps pass states without a successor list, and so are no walks.
--     near -> dead (of infinite value) -> far -> far ..       goal (reached by nothing)
use Rattle.std.proofs.Common.{◌≡◌, ℕ, Bool, true, false, cond, eqb, List, [], ◌∷◌, Option, Some, None, Contains, get_or, refl, sym, ap, ◌∙◌, subst, arith}
use Rattle.std.proofs.lemmas.Bool.{eqb-true, eq-eqb}
use Rattle.mf_search.specs.declared.entry.Entry.{Entry}
use Rattle.mf_search.specs.declared.entry.Entry.TheVariants.{Take, Done}
use Rattle.mf_search.specs.declared.status.Status.TheVariants.{NoPlan}
use Rattle.mf_search.specs.Space.{Grown, Listed, LeadsOut, Space, Leads}
use Rattle.mf_search.specs.World.{Legal, world}
use Rattle.mf_search.specs.Answers.{Answers}
use Rattle.mf_search.specs.Reaching.{GoesOn, IsReachedBy, Along, LeadsToGoalBy, Covers}
use Rattle.mf_search.proofs.Members.{in_first}
use Rattle.mf_search.proofs.Checking.{legal_from}
use Rattle.mf_search.proofs.Answering.{no_plan_by_steps}

data Spot : Type 0 where
  Near Dead Far Goal : Spot

abbrev number : Spot → ℕ
number Near = 0
number Dead = 1
number Far = 2
number Goal = 3

abbrev spot : ℕ → Spot
spot n = get_or (Near ∷ Dead ∷ Far ∷ Goal ∷ []) n Near

spot_number : (x : Spot) → spot (number x) ≡ x
spot_number Near = refl
spot_number Dead = refl
spot_number Far = refl
spot_number Goal = refl

abbrev value : Spot → Option ℕ
value Near = Some 1
value Dead = None
value Far = Some 1
value Goal = Some 0

abbrev grow : Spot → Grown Spot
grow Near = Listed (record { instance = 0; state = Dead; helpful = false } ∷ [])
grow Dead = LeadsOut 1
grow Far = LeadsOut 2
grow Goal = Listed []

abbrev line : Space Spot
line = record { start = Near; value = value; grow = grow; same = λ x y. eqb (number x) (number y); same_is = λ x y. (λ e. sym (spot_number x) ∙ ap spot (eqb-true (number x) (number y) e) ∙ spot_number y, λ e. eq-eqb (number x) (number y) (ap number e)) }

abbrev Steps : Spot → ℕ → Spot → Type 0
Steps Near n y = (n ≡ 0) × (y ≡ Dead)
Steps Dead n y = (n ≡ 1) × (y ≡ Far)
Steps Far n y = (n ≡ 2) × (y ≡ Far)
Steps Goal n y = ⊥

abbrev IsGoal : Spot → Type 0
IsGoal x = x ≡ Goal

abbrev nothing : Option ℕ
nothing = None

abbrev two : List Entry
two = Take 1 0 ∷ Done 1 0 ∷ []

two_are_legal : Legal line 10 1 two
two_are_legal = legal_from line 10 1 two refl

-- The one opened state was taken, and no worker has it.
answer : Answers 10 (world line two) NoPlan
answer = (refl, (λ v. idle (eqb v 1)), λ i low. let first : 0 ≡ i = omega arith in subst (λ k. Contains (0 ∷ []) k) first (in_first 0 []))
  where
    idle : (own : Bool) → cond own nothing (cond own (Some 0) nothing) ≡ nothing
    idle true = refl
    idle false = refl

-- From the dead state steps lead to one that is no goal.
from_far : (instances : List ℕ) (y : Spot) → Along Steps Far instances y → y ≡ Goal → ⊥
from_far [] y a e = cc
from_far (n ∷ instances) y a e = from_far instances y (subst (λ z. Along Steps z instances y) a.1.1 a.2) e

from_dead : (instances : List ℕ) (y : Spot) → Along Steps Dead instances y → y ≡ Goal → ⊥
from_dead [] y a e = cc
from_dead (n ∷ instances) y a e = from_far instances y (subst (λ z. Along Steps z instances y) a.1.1 a.2) e

covers : Covers line Steps IsGoal
covers = record { listed = listed; goals = λ x v r e goal. goals x v e goal; dead = λ x r e plan. dead x e plan }
  where
    listed : (x : Spot) (n : ℕ) (y : Spot) → IsReachedBy line Steps x → GoesOn line x → Steps x n y → Leads line x y
    listed Near n y r on s = (record { instance = 0; state = Dead; helpful = false }, in_first (record { instance = 0; state = Dead; helpful = false }) [], sym s.1)
    listed Dead n y r on s = absurd on.expanded.listed
    listed Far n y r on s = absurd on.expanded.listed
    listed Goal n y r on s = absurd s

    goals : (x : Spot) (v : ℕ) → value x ≡ Some v → x ≡ Goal → v ≡ 0
    goals x v e goal = cc

    dead : (x : Spot) → value x ≡ None → LeadsToGoalBy Steps IsGoal x → ⊥
    dead Near e plan = cc
    dead Dead e plan = from_dead plan.0 plan.1.0 plan.1.1 plan.1.2
    dead Far e plan = cc
    dead Goal e plan = cc

no_goal : LeadsToGoalBy Steps IsGoal Near → ⊥
no_goal plan = no_plan_by_steps line 10 1 two Steps IsGoal two_are_legal answer covers plan
