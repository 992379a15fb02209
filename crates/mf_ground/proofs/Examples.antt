-- Node counts of small conditions and effects, and of a task with 30 objects: an action `pack` with one parameter, the
-- condition `()` and one effect, an action `finish` without parameters whose condition is a quantified implication of
-- two atoms and which has one effect, and a goal of one atom.
use Rattle.std.proofs.Common.{◌≡◌, refl, ℕ, ◌+◌, ◌*◌, List, [], ◌∷◌, replicate}
use Rattle.mf_model.specs.declared.task.Cond.TheOpen.{Cond-F}
use Rattle.mf_model.specs.declared.task.Effect.TheOpen.{Effect-F}
use Rattle.mf_ground.specs.Nodes.{effect_nodes_step, nodes_step, ways}

-- each has type 1 and, from it, type 0
abbrev objects : List (List ℕ)
objects = replicate 30 (1 ∷ 0 ∷ [])

abbrev item : List ℕ
item = 1 ∷ []

one_variable : ways objects (item ∷ []) ≡ 30
one_variable = refl

two_variables : ways objects (item ∷ item ∷ []) ≡ 900
two_variables = refl

no_variables : ways objects [] ≡ 1
no_variables = refl

nothing : nodes_step objects (Cond-F.And []) ≡ 1
nothing = refl

-- `(forall (?x - item) (imply (p ?x) (q ?x)))`
abbrev quantified : ℕ
quantified = nodes_step objects (Cond-F.All (item ∷ []) (nodes_step objects (Cond-F.Imply (nodes_step objects (Cond-F.Atom 0 [])) (nodes_step objects (Cond-F.Atom 1 [])))))

quantified_is : quantified ≡ 91
quantified_is = refl

-- `(forall (?x - item) (q ?x))` as an effect
each_is : effect_nodes_step objects (Effect-F.Each (item ∷ []) (effect_nodes_step objects (Effect-F.Add 1 []))) ≡ 30
each_is = refl

-- 30 instances of `pack`, 1 of `finish`, the goal
whole_task : 30 * (nodes_step objects (Cond-F.And []) + effect_nodes_step objects (Effect-F.Add 1 [])) + 1 * (quantified + effect_nodes_step objects (Effect-F.Add 2 [])) + nodes_step objects (Cond-F.Atom 2 []) ≡ 153
whole_task = refl
