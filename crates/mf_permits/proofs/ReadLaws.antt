-- The rows of the opened states, one by one and in a history.
use Rattle.std.proofs.Common.{◌≡◌, ℕ, ◌<◌, List, length, get_or, map, Some, sym, ap, subst, ◌∙◌}
use Rattle.std.specs.Prelude.{slice_get}
use Rattle.std.specs.List.{All}
use Rattle.std.proofs.lemmas.List.{get_or-map}
use Rattle.std.proofs.lemmas.Option.{get_or_from_slice_get, slice_get_within}
use Rattle.mf_store.specs.Rows.{RowLists}
use Rattle.mf_model.specs.declared.state.PlainState.{PlainState}
use Rattle.mf_search.specs.declared.entry.Entry.{Entry}
use Rattle.mf_search.specs.declared.entry.Entry.TheVariants.{Take}
use Rattle.mf_search.specs.World.{Opened, World, at}
use Rattle.mf_search.proofs.Listing.{state_of_at}
use Rattle.mf_search.proofs.OneStep.{take_opens_nothing, world_push}
use Rattle.mf_task.specs.declared.history.History.{History}
use Rattle.mf_task.specs.CaseRows.{IsNarrowRow, meaning_of}
use Rattle.mf_task.specs.Histories.{IsHistoryOf}
use Rattle.mf_task.specs.Successors.{Case, space_of}
use Rattle.mf_permits.specs.declared.ledger.Ledger.{Ledger}
use Rattle.mf_permits.specs.Core.{IsRowAt, Seen, with_entry, world_of}
use Rattle.mf_permits.specs.Ledger.{Keeps, seen_of}
use Rattle.mf_permits.specs.Tables.{IsKeptRow}
use Rattle.mf_permits.proofs.TableLaws.{as_many}

-- The row of number i stands for the opened state of that number.
pub row_is_at : (case : Case) (l : Ledger) (i : ℕ) (row : RowLists) → Keeps case l → slice_get l.tables.store.rows i ≡ Some row → IsRowAt case (world_of case (seen_of l)) i row
row_is_at case l i row keeps found =
    let low = slice_get_within l.tables.store.rows i row found in
    let here = get_or_from_slice_get l.tables.store.rows i row row found in
    let kept : IsKeptRow case row = subst (IsKeptRow case) here (keeps.whole.rows i row low) in
    let states : get_or (map (meaning_of case) l.tables.store.rows) i (space_of case).start ≡ (at (space_of case) (world_of case (seen_of l)).opened i).state = ap (λ (xs : List PlainState). get_or xs i (space_of case).start) keeps.shows.tables.states ∙ state_of_at (space_of case) (world_of case (seen_of l)).opened i in
    let same : get_or (map (meaning_of case) l.tables.store.rows) i (space_of case).start ≡ meaning_of case (get_or l.tables.store.rows i row) = get_or-map (meaning_of case) l.tables.store.rows i row (space_of case).start low in
    record {
      narrow = kept.narrow;
      state_is = ap (meaning_of case) (sym here) ∙ sym same ∙ states;
    }

pub row_within : (case : Case) (l : Ledger) (i : ℕ) → Keeps case l → i < length (world_of case (seen_of l)).opened → i < length l.tables.store.rows
row_within case l i keeps low = subst (λ (n : ℕ). i < n) (sym (as_many case (world_of case (seen_of l)).opened (world_of case (seen_of l)).taken l.tables keeps.shows.tables)) low

-- A take opens nothing.
pub same_opened : (case : Case) (old new : Seen) (worker i : ℕ) → new ≡ with_entry old (Take worker i) → (world_of case new).opened ≡ (world_of case old).opened
same_opened case old new worker i after =
    ap (λ (s : Seen). (world_of case s).opened) after ∙ ap (λ (w : World PlainState). w.opened) (world_push (space_of case) old.entries (Take worker i)) ∙ take_opens_nothing (space_of case) (world_of case old) worker i

pub row_before : (case : Case) (old new : Seen) (worker i : ℕ) (row : RowLists) → new ≡ with_entry old (Take worker i) → IsRowAt case (world_of case new) i row → IsRowAt case (world_of case old) i row
row_before case old new worker i row after is = record {
  narrow = is.narrow;
  state_is = is.state_is ∙ ap (λ (os : List (Opened PlainState)). (at (space_of case) os i).state) (same_opened case old new worker i after);
}

-- The history of a ledger.
pub history_is : (case : Case) (l : Ledger) (history : History) → Keeps case l → history.rows ≡ l.tables.store.rows → history.values ≡ l.tables.values.items → history.makers ≡ l.tables.makers.items → history.entries ≡ l.entries.items →
    IsHistoryOf case (length l.busy.items) history
history_is case l history keeps rows values makers entries =
    subst (λ (es : List Entry). IsHistoryOf case (length l.busy.items) (record { rows = history.rows; values = history.values; makers = history.makers; entries = es })) (sym entries) (record {
      legal = keeps.legal;
      states = ap (map (meaning_of case)) rows ∙ keeps.shows.tables.states;
      values = values ∙ keeps.shows.tables.values;
      makers = makers ∙ keeps.shows.tables.makers;
      narrow = subst (λ (rs : List RowLists). All (IsNarrowRow case) rs) (sym rows) (λ k d low. (keeps.whole.rows k d low).narrow);
    })
