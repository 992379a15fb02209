-- Rows that get their values one by one.
use Rattle.std.proofs.Common.{◌≡◌, suc, ◌<◌, List, [], ◌∷◌, ◌++◌, length, slice_index_or, map, refl, ap, ◌∙◌, arith}
use Rattle.std.specs.List.{All}
use Rattle.std.proofs.lemmas.List.Elements.{All-nil, All-cons, All-head, All-tail}
use Rattle.mf_store.specs.Rows.{RowLists}
use Rattle.mf_search.specs.Space.{Listed}
use Rattle.mf_task.specs.declared.grown.Offspring.{Offspring}
use Rattle.mf_task.specs.declared.grown.Listed.{Listed as ListedRows}
use Rattle.mf_task.specs.declared.grown.Listed.TheVariants as listed
use Rattle.mf_task.specs.declared.value.Value.{Value}
use Rattle.mf_task.specs.CaseRows.{AreValuesOf, AreValuesOfList, HasNarrowRow, IsChildOf, IsGrownOf, IsListedOf, child_of, child_with, children_with, grown_with, offspring_of, row_count}
use Rattle.mf_task.specs.Successors.{Case}

pub one_row_more : (os : List Offspring) (vs : List Value) (o : Offspring) (d : Value) → length os < length vs → children_with (os ++ o ∷ []) vs ≡ children_with os vs ++ child_with o (slice_index_or vs (length os) d) ∷ []
one_row_more [] [] o d low = absurd (omega (arith, low))
one_row_more [] (v ∷ vs) o d low = refl
one_row_more (p ∷ os) [] o d low = absurd (omega (arith, low))
one_row_more (p ∷ os) (v ∷ vs) o d low = ap (λ cs. child_with p v ∷ cs) (one_row_more os vs o d (omega (arith, low)))

-- there are as many values as rows
pub value_count : (case : Case) (os : List Offspring) (vs : List Value) → AreValuesOf case os vs → length vs ≡ length os
value_count case [] [] are = refl
value_count case [] (v ∷ vs) are = absurd are
value_count case (o ∷ os) [] are = absurd are
value_count case (o ∷ os) (v ∷ vs) are = ap suc (value_count case os vs are.1)

pub value_count_of : (case : Case) (rows : ListedRows) (vs : List Value) → AreValuesOfList case rows vs → length vs ≡ row_count rows
value_count_of case (listed.List list) vs are = value_count case list vs are
value_count_of case (listed.Wide instance) vs are = ap length are

same_list : (case : Case) (os : List Offspring) (vs : List Value) → AreValuesOf case os vs → map (offspring_of case) os ≡ map (child_of case) (children_with os vs)
same_list case [] [] are = refl
same_list case [] (v ∷ vs) are = absurd are
same_list case (o ∷ os) [] are = absurd are
same_list case (o ∷ os) (v ∷ vs) are = ap (λ cs. offspring_of case o ∷ cs) (same_list case os vs are.1)

children_are : (case : Case) (os : List Offspring) (vs : List Value) → All (HasNarrowRow case) os → AreValuesOf case os vs → All (IsChildOf case) (children_with os vs)
children_are case [] [] narrow are = All-nil (IsChildOf case)
children_are case [] (v ∷ vs) narrow are = absurd are
children_are case (o ∷ os) [] narrow are = absurd are
children_are case (o ∷ os) (v ∷ vs) narrow are =
    All-cons (IsChildOf case) (child_with o v) (children_with os vs)
    (record { row_is = All-head (HasNarrowRow case) o os narrow; value_is = are.0 })
    (children_are case os vs (All-tail (HasNarrowRow case) o os narrow) are.1)

-- rows with their values are what the search rules give
pub closed_is_grown : (case : Case) (row : RowLists) (rows : ListedRows) (vs : List Value) → IsListedOf case row rows → AreValuesOfList case rows vs → IsGrownOf case row (grown_with rows vs)
closed_is_grown case row (listed.List list) vs is are =
    record { list_is = is.list_is ∙ ap Listed (same_list case list vs are); children_are = children_are case list vs is.rows_are are }
closed_is_grown case row (listed.Wide instance) vs is are = is
