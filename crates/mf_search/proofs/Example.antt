-- A small fork, computed: two ways to a goal, of which a run of one thread goes the other one first.
--     s -> q -> r -> goal by r        s -> p -> t -> u -> goal by u
-- A state's value is how many goal atoms it lacks: 3 at s, q and p, 2 at t, 1 at r and u.
use Rattle.std.proofs.Common.{◌≡◌, ◌↔◌, ℕ, zero, suc, get_or, ◌<◌, ◌≤◌, ◌⊎◌, Bool, true, false, eqb, List, [], ◌∷◌, Option, Some, None, Contains, inl, inr, subst, refl, sym, ap, ◌∙◌, arith}
use Rattle.std.proofs.lemmas.Bool.{eqb-true, eq-eqb}
use Rattle.mf_search.specs.declared.entry.Entry.{Entry}
use Rattle.mf_search.specs.declared.entry.Entry.TheVariants.{Take, Done}
use Rattle.mf_search.specs.declared.maker.Maker.TheVariants.{Start, Step}
use Rattle.mf_search.specs.Space.{Child, Grown, Listed, Space}
use Rattle.mf_search.specs.World.{Going, AtGoal, May, Legal, at, world}
use Rattle.mf_search.specs.Rebuilt.{rebuilt, rebuilt_run}
use Rattle.mf_search.specs.Answers.{plan_to}
use Rattle.mf_search.specs.Reaching.{GoesOn, OnwardWalk}
use Rattle.mf_search.specs.Keys.{KeyFields, key_of, FieldsAtMost, OpenIn, HoldsOpen}
use Rattle.mf_search.specs.Columns.{held_by}
use Rattle.mf_search.proofs.Members.{not_in_nil, in_cons, in_first, in_later}
use Rattle.mf_search.proofs.Checking.{legal_from}

data Place : Type 0 where
  S Q P T R U GoalR GoalU : Place

abbrev number : Place → ℕ
number S = 0
number Q = 1
number P = 2
number T = 3
number R = 4
number U = 5
number GoalR = 6
number GoalU = 7

abbrev place : ℕ → Place
place n = get_or (S ∷ Q ∷ P ∷ T ∷ R ∷ U ∷ GoalR ∷ GoalU ∷ []) n S

place_number : (x : Place) → place (number x) ≡ x
place_number S = refl
place_number Q = refl
place_number P = refl
place_number T = refl
place_number R = refl
place_number U = refl
place_number GoalR = refl
place_number GoalU = refl

abbrev same_place : Place → Place → Bool
same_place x y = eqb (number x) (number y)

same_place_is : (x y : Place) → (same_place x y ≡ true) ↔ (x ≡ y)
same_place_is x y = (λ e. sym (place_number x) ∙ ap place (eqb-true (number x) (number y) e) ∙ place_number y, λ e. eq-eqb (number x) (number y) (ap number e))

abbrev value : Place → Option ℕ
value S = Some 3
value Q = Some 3
value P = Some 3
value T = Some 2
value R = Some 1
value U = Some 1
value GoalR = Some 0
value GoalU = Some 0

abbrev to : ℕ → Place → Child Place
to n x = record { instance = n; state = x; helpful = false }

-- The instances in order: go-q, go-p, q-r, p-t, t-u, end-r, end-u.
abbrev grow : Place → Grown Place
grow S = Listed (to 0 Q ∷ to 1 P ∷ [])
grow Q = Listed (to 2 R ∷ [])
grow P = Listed (to 3 T ∷ [])
grow T = Listed (to 4 U ∷ [])
grow R = Listed (to 5 GoalR ∷ [])
grow U = Listed (to 6 GoalU ∷ [])
grow GoalR = Listed (to 5 GoalR ∷ [])
grow GoalU = Listed (to 6 GoalU ∷ [])

abbrev fork : Space Place
fork = record { start = S; value = value; grow = grow; same = same_place; same_is = same_place_is }

abbrev seven : List Entry
seven = Take 1 0 ∷ Done 1 0 ∷ Take 1 1 ∷ Take 2 2 ∷ Done 2 2 ∷ Take 2 3 ∷ Done 1 1 ∷ []

abbrev ten : List Entry
ten = Take 1 0 ∷ Done 1 0 ∷ Take 1 1 ∷ Take 2 2 ∷ Done 2 2 ∷ Take 2 3 ∷ Done 1 1 ∷ Take 1 4 ∷ Done 2 3 ∷ Take 2 5 ∷ []

-- The ten entries are a legal history of two workers.
ten_are_legal : Legal fork 100 2 ten
ten_are_legal = legal_from fork 100 2 ten refl

-- The world after seven entries.
opened_then : (world fork seven).opened ≡ record { state = S; value = 3; maker = Start } ∷ record { state = Q; value = 3; maker = Step 0 0 false } ∷ record { state = P; value = 3; maker = Step 0 1 false } ∷ record { state = T; value = 2; maker = Step 2 3 false } ∷ record { state = R; value = 1; maker = Step 1 2 false } ∷ []
opened_then = refl

taken_then : (world fork seven).taken ≡ 0 ∷ 1 ∷ 2 ∷ 3 ∷ []
taken_then = refl

first_worker_then : (world fork seven).busy 1 ≡ None
first_worker_then = refl

second_worker_then : (world fork seven).busy 2 ≡ Some 3
second_worker_then = refl

ending_then : (world fork seven).ending ≡ Going
ending_then = refl

-- The rebuilt run of the last take, as numbers and as states, and the trace to it.
run_of_last : rebuilt fork (world fork ten).opened 5 ≡ 0 ∷ 2 ∷ 3 ∷ 5 ∷ []
run_of_last = refl

states_of_last : rebuilt_run fork ten 5 ≡ S ∷ P ∷ T ∷ U ∷ []
states_of_last = refl

trace_of_last : plan_to fork (world fork ten).opened 5 ≡ 1 ∷ 3 ∷ 4 ∷ []
trace_of_last = refl

abbrev other_seven : List Entry
other_seven = Take 1 0 ∷ Done 1 0 ∷ Take 1 1 ∷ Take 2 2 ∷ Done 1 1 ∷ Take 1 3 ∷ Done 2 2 ∷ []

other_seven_are_legal : Legal fork 100 2 other_seven
other_seven_are_legal = legal_from fork 100 2 other_seven refl

-- A state of value 2 may not be taken while one of value 1 is in expansion, though it is the only open one.
not_yet : May fork 100 2 (world fork other_seven) (Take 2 4) → ⊥
not_yet may = let above : 2 ≤ 1 = may.permit 1 3 refl in omega arith

-- One worker goes by r, and ends at the goal there.
abbrev alone : List Entry
alone = Take 1 0 ∷ Done 1 0 ∷ Take 1 1 ∷ Done 1 1 ∷ Take 1 3 ∷ Done 1 3 ∷ Take 1 4 ∷ []

alone_is_legal : Legal fork 100 1 alone
alone_is_legal = legal_from fork 100 1 alone refl

alone_ends : (world fork alone).ending ≡ AtGoal 4
alone_ends = refl

plan_of_alone : plan_to fork (world fork alone).opened 4 ≡ 0 ∷ 2 ∷ 5 ∷ []
plan_of_alone = refl

-- The trace to u leads through states from which the search goes on: s, p and t.
goes_on_from : (x : Place) (v : ℕ) → value x ≡ Some (suc v) → GoesOn fork x
goes_on_from S v e = record { finite = (3, refl); expanded = record { no_goal = λ h. cc; listed = tt } }
goes_on_from Q v e = record { finite = (3, refl); expanded = record { no_goal = λ h. cc; listed = tt } }
goes_on_from P v e = record { finite = (3, refl); expanded = record { no_goal = λ h. cc; listed = tt } }
goes_on_from T v e = record { finite = (2, refl); expanded = record { no_goal = λ h. cc; listed = tt } }
goes_on_from R v e = record { finite = (1, refl); expanded = record { no_goal = λ h. cc; listed = tt } }
goes_on_from U v e = record { finite = (1, refl); expanded = record { no_goal = λ h. cc; listed = tt } }
goes_on_from GoalR v e = absurd (cc)
goes_on_from GoalU v e = absurd (cc)

way_to_last : OnwardWalk fork S (1 ∷ 3 ∷ 4 ∷ []) U
way_to_last = (goes_on_from S 2 refl, (to 1 P, in_later (to 0 Q) (to 1 P ∷ []) (to 1 P) (in_first (to 1 P) []), refl, (goes_on_from P 2 refl, (to 3 T, in_first (to 3 T) [], refl, (goes_on_from T 1 refl, (to 4 U, in_first (to 4 U) [], refl, refl))))))

abbrev first_four : List ℕ
first_four = 0 ∷ 1 ∷ 2 ∷ 3 ∷ []

abbrev four : ℕ
four = 4

-- After seven entries r alone is open, with the key of value 1, plain, number 4.
open_then : HoldsOpen fork (world fork seven).opened (world fork seven).taken (λ (k : KeyFields). k) (record { value = 1; plain = true; state = 4 } ∷ [])
open_then = record { only = λ key h. one key (in_cons (record { value = 1; plain = true; state = 4 }) [] key h); every = λ i o. place i o.0 o.1 }
  where
    IsKey : KeyFields → Type 0
    IsKey key = OpenIn (world fork seven).opened (world fork seven).taken key.state × (key ≡ key_of (at fork (world fork seven).opened key.state) key.state)

    out : Contains (world fork seven).taken 4 → ⊥
    out h = go h.0 h.1 h.2
      where
        go : (k : ℕ) → k < 4 → get_or first_four k 4 ≡ four → ⊥
        go zero low e = cc
        go (suc zero) low e = cc
        go (suc (suc zero)) low e = cc
        go (suc (suc (suc zero))) low e = cc
        go (suc (suc (suc (suc k)))) low e = absurd (omega arith)

    one : (key : KeyFields) → (record { value = 1; plain = true; state = 4 } ≡ key) ⊎ Contains [] key → IsKey key
    one key (inl e) = subst IsKey e ((omega arith, out), refl)
    one key (inr h) = absurd (not_in_nil key h)

    place : (i : ℕ) → i < 5 → (Contains (world fork seven).taken i → ⊥) → (key : KeyFields) × Contains (record { value = 1; plain = true; state = 4 } ∷ []) key × (key ≡ key_of (at fork (world fork seven).opened i) i)
    place zero low left = absurd (left (0, omega arith, refl))
    place (suc zero) low left = absurd (left (1, omega arith, refl))
    place (suc (suc zero)) low left = absurd (left (2, omega arith, refl))
    place (suc (suc (suc zero))) low left = absurd (left (3, omega arith, refl))
    place (suc (suc (suc (suc zero)))) low left = (record { value = 1; plain = true; state = 4 }, in_first (record { value = 1; plain = true; state = 4 }) [], refl)
    place (suc (suc (suc (suc (suc i))))) low left = absurd (omega arith)

-- A marked state comes before a plain one of its value, and after one of less value.
marked_first : FieldsAtMost (record { value = 2; plain = false; state = 9 }) (record { value = 2; plain = true; state = 5 })
marked_first = inr (inl (refl, refl, refl))

lesser_first : FieldsAtMost (record { value = 1; plain = true; state = 7 }) (record { value = 2; plain = false; state = 9 })
lesser_first = inl (omega arith)

-- What two workers have in expansion then, as a list.
held_then : (held_by (None ∷ Some 3 ∷ []) 0 ≡ (world fork seven).busy 0) × (held_by (None ∷ Some 3 ∷ []) 1 ≡ (world fork seven).busy 1) × (held_by (None ∷ Some 3 ∷ []) 2 ≡ (world fork seven).busy 2) × (held_by (None ∷ Some 3 ∷ []) 3 ≡ (world fork seven).busy 3)
held_then = (refl, refl, refl, refl)
