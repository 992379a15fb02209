-- Two rows of the task's shape that stand for one state are one row.
use Rattle.std.proofs.Common.{◌≡◌, ℕ, ◌<◌, Bool, true, false, List, map, length, None, refl, sym, subst, ap, ◌∙◌}
use Rattle.std.specs.Prelude.{◌↔◌, get_or, Contains}
use Rattle.std.specs.List.{All}
use Rattle.std.proofs.lemmas.Bool.{false≢true}
use Rattle.std.proofs.lemmas.List.{ext_get_or, get_or-map, length-map}
use Rattle.mf_store.specs.Rows.{RowLists}
use Rattle.mf_store.specs.SameRows.{same_rows, same_rows-Decides}
use Rattle.mf_model.specs.declared.task.TypedTask.{TypedTask}
use Rattle.mf_model.specs.declared.state.PlainState.{PlainState}
use Rattle.mf_task.specs.declared.task.Task.{Task}
use Rattle.mf_task.specs.Rows.{IsRowOf, Sight, sight_of}
use Rattle.mf_task.specs.RowStates.{state_of}
use Rattle.mf_task.specs.SameStates.{same_state, same_state_is}
use Rattle.mf_task.specs.Successors.{sight_in}
use Rattle.mf_bridge.specs.StoredRows.{HasWords}
use Rattle.mf_bridge.proofs.RowBits.{same_words}
use Rattle.mf_bridge.proofs.RowSights.{sights_are_same}
use Rattle.mf_bridge.proofs.StateLookups.{IsListed}

-- rows that show the same
pub same_from_sight : (packed : Task) (one other : RowLists) → IsRowOf packed one → IsRowOf packed other → HasWords one → HasWords other → sight_of one ≡ sight_of other → one ≡ other
same_from_sight packed one other first second words more same =
    let bits = same_words one.bits other.bits (first.words ∙ sym second.words) words more (λ n. ap (λ (s : Sight). s.bit n) same) in
    let values = ext_get_or None one.values other.values (first.values ∙ sym second.values) (λ n within. ap (λ (s : Sight). s.value n) same) in
    λ i. record { bits = bits i; values = values i }

pub rows_apart : (task : TypedTask) (packed : Task) → IsListed task packed → (one other : RowLists) → IsRowOf packed one → IsRowOf packed other → HasWords one → HasWords other → state_of task packed one ≡ state_of task packed other → one ≡ other
rows_apart task packed listed one other first second words more same =
    same_from_sight packed one other first second words more
    (sym (sights_are_same task packed listed one first) ∙ ap (λ (s : PlainState). sight_in packed s) same ∙ sights_are_same task packed listed other second)

-- tests and lists

pub same_tests : (task : TypedTask) (packed : Task) → IsListed task packed → (one other : RowLists) → IsRowOf packed one → IsRowOf packed other → HasWords one → HasWords other → same_state (state_of task packed one) (state_of task packed other) ≡ same_rows one other
same_tests task packed listed one other first second words more = by (same_state (state_of task packed one) (state_of task packed other)) (same_rows one other) refl refl
  where
    by : (states rows : Bool) → same_state (state_of task packed one) (state_of task packed other) ≡ states → same_rows one other ≡ rows → states ≡ rows
    by true true s r = refl
    by false false s r = refl
    by true false s r =
        absurd (false≢true (sym r ∙ (same_rows-Decides one other).1 (rows_apart task packed listed one other first second words more ((same_state_is (state_of task packed one) (state_of task packed other)).0 s))))
    by false true s r =
        absurd (false≢true (sym s ∙ (same_state_is (state_of task packed one) (state_of task packed other)).1 (ap (state_of task packed) ((same_rows-Decides one other).0 r))))

pub contained_alike : (task : TypedTask) (packed : Task) → IsListed task packed → (rows : List RowLists) (row : RowLists) → All (IsRowOf packed) rows → IsRowOf packed row → All HasWords rows → HasWords row →
    (Contains (map (state_of task packed) rows) (state_of task packed row) ↔ Contains rows row)
contained_alike task packed listed rows row all shape words more = (forth, back)
  where
    forth : Contains (map (state_of task packed) rows) (state_of task packed row) → Contains rows row
    forth found =
        let within : found.0 < length rows = subst (λ (n : ℕ). found.0 < n) (length-map rows (state_of task packed)) found.1 in
        let same = sym (get_or-map (state_of task packed) rows found.0 row (state_of task packed row) within) ∙ found.2 in
        (found.0, within, rows_apart task packed listed (get_or rows found.0 row) row (all found.0 row within) shape (words found.0 row within) more same)

    back : Contains rows row → Contains (map (state_of task packed) rows) (state_of task packed row)
    back found =
        let within : found.0 < length (map (state_of task packed) rows) = subst (λ (n : ℕ). found.0 < n) (sym (length-map rows (state_of task packed))) found.1 in
        (found.0, within, get_or-map (state_of task packed) rows found.0 row (state_of task packed row) found.1 ∙ ap (state_of task packed) found.2)
