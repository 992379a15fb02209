-- What the rows of a case stand for, and what a root, an expansion and a list of rows say of the row that they are made from.
use Rattle.std.specs.Prelude.{◌≡◌, ℕ, true, List, [], ◌∷◌, length, map, Option, Some, None}
use Rattle.std.specs.List.{All}
use Rattle.mf_store.specs.Rows.{RowLists}
use Rattle.mf_model.specs.declared.state.PlainState.{PlainState}
use Rattle.mf_search.specs.Space.{Child as SpaceChild, Listed, LeadsOut}
use Rattle.mf_task.specs.declared.grown.Child.{Child}
use Rattle.mf_task.specs.declared.grown.Grown.{Grown}
use Rattle.mf_task.specs.declared.grown.Grown.TheVariants as grown
use Rattle.mf_task.specs.declared.grown.Offspring.{Offspring}
use Rattle.mf_task.specs.declared.grown.Listed.{Listed as ListedRows}
use Rattle.mf_task.specs.declared.grown.Listed.TheVariants as listed
use Rattle.mf_task.specs.declared.value.Value.{Value}
use Rattle.mf_task.specs.declared.value.Value.TheVariants.{Finite, Infinite}
use Rattle.mf_task.specs.Rows.{IsRowOf, sight_of}
use Rattle.mf_task.specs.RowStates.{state_of}
use Rattle.mf_task.specs.Successors.{Case, packed_of, space_of}
use Rattle.mf_task.specs.Width.{is_narrow}

-- the search state that a row stands for
unfoldable pub meaning_of : Case → RowLists → PlainState
meaning_of case row = state_of case.task (packed_of case.task) row

-- a row of the task's shape at which no comparison is wide
pub record IsNarrowRow (case : Case) (row : RowLists) : Type 0 where
  pub shape : IsRowOf (packed_of case.task) row
  pub narrow : is_narrow (packed_of case.task) (sight_of row) ≡ true

abbrev pub number_of : Value → Option ℕ
number_of (Finite n) = Some n
number_of Infinite = None

-- the value of the state that the row stands for
pub record IsValueOf (case : Case) (row : RowLists) (value : Value) : Type 0 where
  pub value_is : (space_of case).value (meaning_of case row) ≡ number_of value

-- A root: the start's row and its value

pub record RootParts : Type 0 where
  pub row : RowLists
  pub value : Value

pub record IsRoot (case : Case) (root : RootParts) : Type 0 where
  pub row_is : IsNarrowRow case root.row
  pub start_is : meaning_of case root.row ≡ (space_of case).start
  pub value_is : IsValueOf case root.row root.value

-- An expansion: a successor list with values, or the way out of the width

pub record ExpansionParts : Type 0 where
  pub state : ℕ
  pub from : RowLists
  pub grown : Grown

abbrev pub child_of : Case → Child → SpaceChild PlainState
child_of case child = record { instance = child.instance; state = meaning_of case child.row; helpful = child.helpful }

pub record IsChildOf (case : Case) (child : Child) : Type 0 where
  pub row_is : IsNarrowRow case child.row
  pub value_is : IsValueOf case child.row child.value

pub record IsMadeOf (case : Case) (row : RowLists) (children : List Child) : Type 0 where
  pub list_is : (space_of case).grow (meaning_of case row) ≡ Listed (map (child_of case) children)
  pub children_are : All (IsChildOf case) children

pub record IsWayOut (case : Case) (row : RowLists) (instance : ℕ) : Type 0 where
  pub way_out_is : (space_of case).grow (meaning_of case row) ≡ LeadsOut instance

-- what the search rules give at the row
abbrev pub IsGrownOf : Case → RowLists → Grown → Type 0
IsGrownOf case row (grown.Made children) = IsMadeOf case row children
IsGrownOf case row (grown.Wide instance) = IsWayOut case row instance

-- Rows: a successor list without values, or the way out of the width

pub record RowsParts : Type 0 where
  pub state : ℕ
  pub from : RowLists
  pub listed : ListedRows

abbrev pub offspring_of : Case → Offspring → SpaceChild PlainState
offspring_of case offspring = record { instance = offspring.instance; state = meaning_of case offspring.row; helpful = offspring.helpful }

abbrev pub HasNarrowRow : Case → Offspring → Type 0
HasNarrowRow case offspring = IsNarrowRow case offspring.row

pub record IsMadeRows (case : Case) (row : RowLists) (list : List Offspring) : Type 0 where
  pub list_is : (space_of case).grow (meaning_of case row) ≡ Listed (map (offspring_of case) list)
  pub rows_are : All (HasNarrowRow case) list

abbrev pub IsListedOf : Case → RowLists → ListedRows → Type 0
IsListedOf case row (listed.List list) = IsMadeRows case row list
IsListedOf case row (listed.Wide instance) = IsWayOut case row instance

-- how many rows there are: none for a way out
abbrev pub row_count : ListedRows → ℕ
row_count (listed.List list) = length list
row_count (listed.Wide instance) = 0

-- the values are those of the rows, in order
abbrev pub AreValuesOf : Case → List Offspring → List Value → Type 0
AreValuesOf case [] [] = Unit {0}
AreValuesOf case [] (v ∷ vs) = ⊥
AreValuesOf case (o ∷ os) [] = ⊥
AreValuesOf case (o ∷ os) (v ∷ vs) = IsValueOf case o.row v × AreValuesOf case os vs

-- of a way out there are none
abbrev pub AreValuesOfList : Case → ListedRows → List Value → Type 0
AreValuesOfList case (listed.List list) values = AreValuesOf case list values
AreValuesOfList case (listed.Wide instance) values = values ≡ []

abbrev pub child_with : Offspring → Value → Child
child_with offspring value = record { instance = offspring.instance; row = offspring.row; value = value; helpful = offspring.helpful }

abbrev pub children_with : List Offspring → List Value → List Child
children_with [] values = []
children_with (o ∷ os) [] = []
children_with (o ∷ os) (v ∷ vs) = child_with o v ∷ children_with os vs

abbrev pub grown_with : ListedRows → List Value → Grown
grown_with (listed.List list) values = grown.Made (children_with list values)
grown_with (listed.Wide instance) values = grown.Wide instance
