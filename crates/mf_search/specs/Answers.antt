-- What a history answers, and what its answer says about the space.
use Rattle.std.specs.Prelude.{◌≡◌, ℕ, suc, zero, ◌<◌, ◌++◌, Bool, true, false, List, [], ◌∷◌, Some, None, Contains, length}
use Rattle.mf_search.specs.declared.maker.Maker.{Maker}
use Rattle.mf_search.specs.declared.maker.Maker.TheVariants.{Start, Step}
use Rattle.mf_search.specs.declared.status.Status.{Status}
use Rattle.mf_search.specs.declared.status.Status.TheVariants.{Running, Plan, NoPlan, Budget, Width, Halted}
use Rattle.mf_search.specs.Space.{Child, Space, children_of, Leads}
use Rattle.mf_search.specs.World.{Opened, World, Going, AtGoal, AtWide, WasOpened, IsOpen, at}
use Rattle.mf_search.specs.Greedy.{Expanded}
use Rattle.mf_search.specs.Reaching.{IsReached}

-- Nothing is in expansion.
abbrev pub AllIdle : {S : Type 0} → World S → Type 0
AllIdle w = (v : ℕ) → w.busy v ≡ None

-- The world of a history answers so: with the plan to a goal that was taken; with an instance that leads out of the
-- width; or, where nothing is in expansion, with no plan where every opened state was taken, and with the budget
-- where as many states as it allows were taken and a state is open. Running and halted are no answers.
abbrev pub Answers : {S : Type 0} → ℕ → World S → Status → Type 0
Answers budget w (Plan i) = w.ending ≡ AtGoal i
Answers budget w (Width i n) = w.ending ≡ AtWide i n
Answers budget w NoPlan = (w.ending ≡ Going) × AllIdle w × ((i : ℕ) → i < length w.opened → Contains w.taken i)
Answers budget w Budget = (w.ending ≡ Going) × AllIdle w × (length w.taken ≡ budget) × ((i : ℕ) × IsOpen w i)
Answers budget w Running = ⊥
Answers budget w Halted = ⊥

-- A history with an answer is ended.
abbrev pub Ended : {S : Type 0} → ℕ → World S → Type 0
Ended budget w = (status : Status) × Answers budget w status

-- The status of a search with this world, that may have been halted: its answer, or else whether it was halted.
abbrev pub IsStatus : {S : Type 0} → ℕ → World S → Bool → Status → Type 0
IsStatus budget w halted Running = (halted ≡ false) × (Ended budget w → ⊥)
IsStatus budget w halted Halted = (halted ≡ true) × (Ended budget w → ⊥)
IsStatus budget w halted (Plan i) = Answers budget w (Plan i)
IsStatus budget w halted NoPlan = Answers budget w NoPlan
IsStatus budget w halted Budget = Answers budget w Budget
IsStatus budget w halted (Width i n) = Answers budget w (Width i n)

-- The instances lead, one after the other, from x to y.
abbrev pub Walk : {S : Type 0} → Space S → S → List ℕ → S → Type 0
Walk sp x [] y = x ≡ y
Walk {S} sp x (n ∷ instances) y = (c : Child S) × Contains (children_of (sp.grow x)) c × (c.instance ≡ n) × Walk sp c.state instances y

-- The instances lead from x to a goal.
abbrev pub IsPlanFrom : {S : Type 0} → Space S → S → List ℕ → Type 0
IsPlanFrom {S} sp x instances = (y : S) × Walk sp x instances y × (sp.value y ≡ Some 0)

-- Some instances lead from x to a goal.
abbrev pub LeadsToGoal : {S : Type 0} → Space S → S → Type 0
LeadsToGoal sp x = (instances : List ℕ) × IsPlanFrom sp x instances

-- From a state of infinite value, where the search reaches one, nothing leads to a goal.
abbrev pub InfiniteIsDead : {S : Type 0} → Space S → Type 0
InfiniteIsDead {S} sp = (x : S) → IsReached sp x → sp.value x ≡ None → LeadsToGoal sp x → ⊥

-- The opened states are closed: the start is one where its value is finite, each of them was expanded and is no goal,
-- and each state of finite value in one of their successor lists is one.
pub record IsClosed {S : Type 0} (sp : Space S) (os : List (Opened S)) : Type 0 where
  pub start : (v : ℕ) → sp.value sp.start ≡ Some v → WasOpened sp os sp.start
  pub expanded : (x : S) → WasOpened sp os x → Expanded sp x
  pub onward : (x y : S) (v : ℕ) → WasOpened sp os x → Leads sp x y → sp.value y ≡ Some v → WasOpened sp os y

-- The trace to a state by its maker: that of the parent and then the instance; nothing for the start.
abbrev pub with_step : (ℕ → List ℕ) → Maker → List ℕ
with_step trace_of Start = []
with_step trace_of (Step parent instance helpful) = trace_of parent ++ instance ∷ []

abbrev pub trace : {S : Type 0} → Space S → List (Opened S) → ℕ → ℕ → List ℕ
trace sp os zero i = []
trace sp os (suc fuel) i = with_step (trace sp os fuel) (at sp os i).maker

-- The kept instances from the start to the state of number i, by parents.
abbrev pub plan_to : {S : Type 0} → Space S → List (Opened S) → ℕ → List ℕ
plan_to sp os i = trace sp os (length os) i
