-- The rebuilt run of a taken state: a list of numbers, computed from the opened states and the successor lists.
use Rattle.std.specs.Prelude.{ℕ, suc, zero, ◌++◌, ◌&&◌, ◌||◌, Bool, false, cond, not, eqb, ltb, List, [], ◌∷◌, Option, Some, None, length, map}
use Rattle.mf_search.specs.declared.maker.Maker.{Maker}
use Rattle.mf_search.specs.declared.maker.Maker.TheVariants.{Start, Step}
use Rattle.mf_search.specs.Space.{Child, Space, children_of}
use Rattle.mf_search.specs.declared.entry.Entry.{Entry}
use Rattle.mf_search.specs.World.{Opened, at, world}

-- The number stands in the run.
abbrev pub member : ℕ → List ℕ → Bool
member c [] = false
member c (r ∷ run) = eqb r c || member c run

-- The state y stands in the successor list.
abbrev pub listed_in : {S : Type 0} → Space S → S → List (Child S) → Bool
listed_in sp y [] = false
listed_in sp y (c ∷ cs) = sp.same c.state y || listed_in sp y cs

-- The state y stands in the successor list of a member of the run.
abbrev pub reached : {S : Type 0} → Space S → List (Opened S) → S → List ℕ → Bool
reached sp os y [] = false
reached sp os y (r ∷ run) = listed_in sp y (children_of (sp.grow (at sp os r).state)) || reached sp os y run

-- A candidate below the value v: an opened state of less value, not in the run, in the successor list of a member.
abbrev pub candidate : {S : Type 0} → Space S → List (Opened S) → List ℕ → ℕ → ℕ → Bool
candidate sp os run v c = ltb (at sp os c).value v && (not (member c run) && reached sp os (at sp os c).state run)

-- The better of a candidate and the best of those with lower numbers, which goes first where their values are equal.
abbrev pub better : {S : Type 0} → Space S → List (Opened S) → ℕ → Option ℕ → ℕ
better sp os c None = c
better sp os c (Some b) = cond (ltb (at sp os c).value (at sp os b).value) c b

-- The candidate of least value among the first n numbers, of several the one with the lowest number.
abbrev pub best_below : {S : Type 0} → Space S → List (Opened S) → List ℕ → ℕ → ℕ → Option ℕ
best_below sp os run v zero = None
best_below sp os run v (suc n) = let best = best_below sp os run v n in cond (candidate sp os run v n) (Some (better sp os n best)) best

abbrev pub appended : List ℕ → Option ℕ → List ℕ
appended run None = run
appended run (Some c) = run ++ c ∷ []

-- While there is a candidate below v the best one is appended, at most `fuel` times.
abbrev pub completed : {S : Type 0} → Space S → List (Opened S) → ℕ → ℕ → List ℕ → List ℕ
completed sp os v zero run = run
completed sp os v (suc fuel) run = completed sp os v fuel (appended run (best_below sp os run v (length os)))

abbrev pub parent_of : Maker → Option ℕ
parent_of Start = None
parent_of (Step parent instance helpful) = Some parent

-- The run of a parent, with the parent; the empty run where there is none.
abbrev pub with_parent : (ℕ → List ℕ) → Option ℕ → List ℕ
with_parent run_of None = []
with_parent run_of (Some p) = run_of p ++ p ∷ []

-- The rebuilt run of the state of number i without i itself: its parent's rebuilt run, and then candidates below its
-- value while there are any. The fuel bounds the parents; the number of opened states is enough.
abbrev pub run_before : {S : Type 0} → Space S → List (Opened S) → ℕ → ℕ → List ℕ
run_before sp os zero i = []
run_before sp os (suc fuel) i = completed sp os (at sp os i).value (length os) (with_parent (run_before sp os fuel) (parent_of (at sp os i).maker))

-- The rebuilt run of the state of number i.
abbrev pub rebuilt : {S : Type 0} → Space S → List (Opened S) → ℕ → List ℕ
rebuilt sp os i = run_before sp os (length os) i ++ i ∷ []

-- The states of the numbers.
abbrev pub states_of : {S : Type 0} → Space S → List (Opened S) → List ℕ → List S
states_of sp os run = map (λ i. (at sp os i).state) run

-- The rebuilt run of the state of number i in a history, as states.
abbrev pub rebuilt_run : {S : Type 0} → Space S → List Entry → ℕ → List S
rebuilt_run sp entries i = states_of sp (world sp entries).opened (rebuilt sp (world sp entries).opened i)
