-- A legal history, and the world that it makes: what is opened, taken and in expansion after its entries.
use Rattle.std.specs.Prelude.{◌≡◌, ◌≢◌, ℕ, ◌<◌, ◌≤◌, ◌⊎◌, ◌++◌, ◌||◌, Bool, true, false, cond, eqb, List, [], ◌∷◌, Option, Some, None, Contains, AllPairs, length, get_or, map, filter_map}
use Rattle.mf_search.specs.declared.entry.Entry.{Entry}
use Rattle.mf_search.specs.declared.entry.Entry.TheVariants.{Take, Done, Wide}
use Rattle.mf_search.specs.declared.maker.Maker.{Maker}
use Rattle.mf_search.specs.declared.maker.Maker.TheVariants.{Start, Step}
use Rattle.mf_search.specs.Space.{Child, LeadsOut, Space, children_of, IsListed}

-- A state that was opened: its value, which is finite, and what opened it first.
pub record Opened (S : Type 0) : Type 0 where
  pub state : S
  pub value : ℕ
  pub maker : Maker

-- Whether the search goes on, or ended at a goal or at an instance that leads out of the width.
pub data Ending : Type 0 where
  Going : Ending
  AtGoal : ℕ → Ending
  AtWide : ℕ → ℕ → Ending

-- The opened states in the order of their numbers, the numbers of the taken ones in their order, what each
-- worker has in expansion, and whether the search has ended.
pub record World (S : Type 0) : Type 0 where
  pub opened : List (Opened S)
  pub taken : List ℕ
  pub busy : ℕ → Option ℕ
  pub ending : Ending

-- The states that were opened, in the order of their numbers.
abbrev pub opened_states : {S : Type 0} → World S → List S
opened_states w = map (λ o. o.state) w.opened

-- The opened state of number i. (Past the end: the start, as a goal. No legal entry names it.)
abbrev pub at : {S : Type 0} → Space S → List (Opened S) → ℕ → Opened S
at sp os i = get_or os i (record { state = sp.start; value = 0; maker = Start })

-- Whether the state was opened.
abbrev pub known : {S : Type 0} → Space S → List (Opened S) → S → Bool
known sp [] x = false
known sp (o ∷ os) x = sp.same o.state x || known sp os x

-- No element stands in the list twice.
abbrev pub AllDifferent : {X : Type 0} → List X → Type 0
AllDifferent xs = AllPairs (λ x y. x ≢ y) xs

-- The state has a number.
abbrev pub WasOpened : {S : Type 0} → Space S → List (Opened S) → S → Type 0
WasOpened sp os x = (k : ℕ) × (k < length os) × ((at sp os k).state ≡ x)

-- The start is opened first, where its value is finite.
abbrev pub opened_first : {S : Type 0} → Space S → Option ℕ → List (Opened S)
opened_first sp None = []
opened_first sp (Some v) = record { state = sp.start; value = v; maker = Start } ∷ []

abbrev pub begin : {S : Type 0} → Space S → World S
begin sp = record { opened = opened_first sp (sp.value sp.start); taken = []; busy = λ v. None; ending = Going }

-- A child of the state of number p is opened where it was not opened before and its value is finite.
abbrev pub pushed : {S : Type 0} → Bool → Option ℕ → ℕ → Child S → List (Opened S) → List (Opened S)
pushed true value p c os = os
pushed false None p c os = os
pushed false (Some v) p c os = os ++ record { state = c.state; value = v; maker = Step p c.instance c.helpful } ∷ []

abbrev pub open_child : {S : Type 0} → Space S → ℕ → Child S → List (Opened S) → List (Opened S)
open_child sp p c os = pushed (known sp os c.state) (sp.value c.state) p c os

-- The children of the state of number p are opened in the order of the list.
abbrev pub open_all : {S : Type 0} → Space S → ℕ → List (Child S) → List (Opened S) → List (Opened S)
open_all sp p [] os = os
open_all sp p (c ∷ cs) os = open_all sp p cs (open_child sp p c os)

-- What each worker has in expansion, where the worker's entry is now `held`.
abbrev pub put : (ℕ → Option ℕ) → ℕ → Option ℕ → ℕ → Option ℕ
put busy worker held v = cond (eqb v worker) held (busy v)

-- A take of a goal ends the search; another state is in expansion by the worker from then on.
abbrev pub took : {S : Type 0} → Bool → World S → ℕ → ℕ → World S
took true w worker i = record w { taken = w.taken ++ i ∷ []; ending = AtGoal i }
took false w worker i = record w { taken = w.taken ++ i ∷ []; busy = put w.busy worker (Some i) }

-- The state of number i is done: its children are opened, and the worker has nothing in expansion.
abbrev pub finished : {S : Type 0} → Space S → World S → ℕ → ℕ → World S
finished sp w worker i = record w { opened = open_all sp i (children_of (sp.grow (at sp w.opened i).state)) w.opened; busy = put w.busy worker None }

-- The world after one more entry.
abbrev pub next : {S : Type 0} → Space S → World S → Entry → World S
next sp w (Take worker i) = took (eqb (at sp w.opened i).value 0) w worker i
next sp w (Done worker i) = finished sp w worker i
next sp w (Wide worker i n) = record w { ending = AtWide i n }

-- The world after the entries.
abbrev pub after : {S : Type 0} → Space S → World S → List Entry → World S
after sp w [] = w
after sp w (e ∷ entries) = after sp (next sp w e) entries

-- A state is open from when it is opened until it is taken.
abbrev pub IsOpen : {S : Type 0} → World S → ℕ → Type 0
IsOpen w i = (i < length w.opened) × (Contains w.taken i → ⊥)

-- A state that was made by a helpful instance is marked, and comes first of those with its value.
abbrev pub mark_rank : Maker → ℕ
mark_rank Start = 1
mark_rank (Step parent instance helpful) = cond helpful 0 1

-- The key of the state of number i is at most that of number j: by value, then mark, then number.
abbrev pub KeyAtMost : {S : Type 0} → Opened S → ℕ → Opened S → ℕ → Type 0
KeyAtMost a i b j = (a.value < b.value) ⊎ (a.value ≡ b.value) × (mark_rank a.maker < mark_rank b.maker) ⊎ (a.value ≡ b.value) × (mark_rank a.maker ≡ mark_rank b.maker) × (i ≤ j)

-- The worker may take the state of number i.
pub record MayTake {S : Type 0} (sp : Space S) (budget : ℕ) (workers : ℕ) (w : World S) (worker : ℕ) (i : ℕ) : Type 0 where
  pub going : w.ending ≡ Going
  pub low : 1 ≤ worker
  pub high : worker ≤ workers
  pub idle : w.busy worker ≡ None
  pub in_budget : length w.taken < budget
  pub is_open : IsOpen w i
  pub least : (j : ℕ) → IsOpen w j → KeyAtMost (at sp w.opened i) i (at sp w.opened j) j
  pub permit : (v j : ℕ) → w.busy v ≡ Some j → (at sp w.opened i).value ≤ (at sp w.opened j).value

-- The worker may be done with the state of number i.
pub record MayDone {S : Type 0} (sp : Space S) (w : World S) (worker : ℕ) (i : ℕ) : Type 0 where
  pub going : w.ending ≡ Going
  pub holds : w.busy worker ≡ Some i
  pub listed : IsListed (sp.grow (at sp w.opened i).state)

-- The worker may say that instance n leads from the state of number i out of the width.
pub record MayWide {S : Type 0} (sp : Space S) (w : World S) (worker : ℕ) (i : ℕ) (n : ℕ) : Type 0 where
  pub going : w.ending ≡ Going
  pub holds : w.busy worker ≡ Some i
  pub leads_out : sp.grow (at sp w.opened i).state ≡ LeadsOut n

-- The entry may come in this world.
abbrev pub May : {S : Type 0} → Space S → ℕ → ℕ → World S → Entry → Type 0
May sp budget workers w (Take worker i) = MayTake sp budget workers w worker i
May sp budget workers w (Done worker i) = MayDone sp w worker i
May sp budget workers w (Wide worker i n) = MayWide sp w worker i n

-- Each of the entries may come in its turn, from this world on.
abbrev pub LegalFrom : {S : Type 0} → Space S → ℕ → ℕ → World S → List Entry → Type 0
LegalFrom sp budget workers w [] = Unit {0}
LegalFrom sp budget workers w (e ∷ entries) = May sp budget workers w e × LegalFrom sp budget workers (next sp w e) entries

-- The entries are a legal history for this budget and number of workers.
abbrev pub Legal : {S : Type 0} → Space S → ℕ → ℕ → List Entry → Type 0
Legal sp budget workers entries = LegalFrom sp budget workers (begin sp) entries

-- The world of a history.
abbrev pub world : {S : Type 0} → Space S → List Entry → World S
world sp entries = after sp (begin sp) entries

-- The number of the state that the entry takes.
abbrev pub taken_by : Entry → Option ℕ
taken_by (Take worker i) = Some i
taken_by (Done worker i) = None
taken_by (Wide worker i n) = None

-- The numbers of the states that the entries take, in order.
abbrev pub takes : List Entry → List ℕ
takes entries = filter_map taken_by entries
