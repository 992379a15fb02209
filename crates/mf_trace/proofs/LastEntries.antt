-- What the last entry of a history says of the goal.
use Rattle.std.proofs.Common.{◌≡◌, ◌≢◌, ℕ, ◌-◌, ◌<◌, ◌++◌, List, [], ◌∷◌, IsTrue, false, Some, length, get_or, slice_get, sym, ap, ◌∙◌, subst}
use Rattle.mf_model.specs.declared.state.PlainState.{PlainState}
use Rattle.mf_search.specs.declared.entry.Entry.{Entry}
use Rattle.mf_search.specs.declared.entry.Entry.TheVariants.{Take}
use Rattle.mf_search.specs.World.{AtGoal, at}
use Rattle.mf_task.specs.declared.history.History.{History}
use Rattle.mf_task.specs.Histories.{IsHistoryOf, world_of}
use Rattle.mf_task.specs.Successors.{Case, space_of}
use Rattle.mf_trace.proofs.TakenGoals.{goal_taken, last_split, no_goal_taken, taken_within}
use Rattle.mf_trace.proofs.TraceLaws.{value_at, values_len}

split_at : (history : History) (entries : List Entry) (last : Entry) → entries ≡ history.entries → Some last ≡ slice_get entries (length entries - 1) → (front : List Entry) × (history.entries ≡ front ++ last ∷ [])
split_at history entries last same found = last_split history.entries last (ap (λ (es : List Entry). slice_get es (length es - 1)) (sym same) ∙ sym found)

taken_split : (history : History) (entries : List Entry) (last : Entry) (worker i : ℕ) → entries ≡ history.entries → Some last ≡ slice_get entries (length entries - 1) → last ≡ Take worker i → (front : List Entry) × (history.entries ≡ front ++ Take worker i ∷ [])
taken_split history entries last worker i same found is = let s = split_at history entries last same found in (s.0, s.1 ∙ ap (λ e. s.0 ++ e ∷ []) is)

pub no_goal_by_last : (case : Case) (history : History) (entries : List Entry) (last : Entry) → IsHistoryOf case 64 history → entries ≡ history.entries → Some last ≡ slice_get entries (length entries - 1) → ((worker i : ℕ) → last ≡ Take worker i → (at (space_of case) (world_of case history).opened i).value ≢ 0) → (goal : ℕ) → (world_of case history).ending ≡ AtGoal goal → ⊥
no_goal_by_last case history entries last h same found other =
    let s = split_at history entries last same found in
    no_goal_taken (space_of case) case.budget 64 history.entries s.0 last h.legal s.1 other

pub last_within : (case : Case) (history : History) (entries : List Entry) (values : List ℕ) (last : Entry) (worker i : ℕ) → IsHistoryOf case 64 history → entries ≡ history.entries → values ≡ history.values → Some last ≡ slice_get entries (length entries - 1) → last ≡ Take worker i → i < length values
last_within case history entries values last worker i h same kept found is =
    let s = taken_split history entries last worker i same found is in
    rw (kept, values_len case history h) (taken_within (space_of case) case.budget 64 history.entries s.0 worker i h.legal s.1)

value_of_last : (case : Case) (history : History) (entries : List Entry) (values : List ℕ) (last : Entry) (worker i : ℕ) → IsHistoryOf case 64 history → entries ≡ history.entries → values ≡ history.values → Some last ≡ slice_get entries (length entries - 1) → last ≡ Take worker i → get_or values i 0 ≡ (at (space_of case) (world_of case history).opened i).value
value_of_last case history entries values last worker i h same kept found is =
    let within = last_within case history entries values last worker i h same kept found is in
    ap (λ (vs : List ℕ). get_or vs i 0) kept ∙ value_at case history i 0 h (subst (λ n. i < n) (ap length kept ∙ values_len case history h) within)

pub goal_by_last : (case : Case) (history : History) (entries : List Entry) (values : List ℕ) (last : Entry) (worker i : ℕ) → IsHistoryOf case 64 history → entries ≡ history.entries → values ≡ history.values → Some last ≡ slice_get entries (length entries - 1) → last ≡ Take worker i → get_or values i 0 ≡ 0 → (world_of case history).ending ≡ AtGoal i
goal_by_last case history entries values last worker i h same kept found is zero_value =
    let s = taken_split history entries last worker i same found is in
    goal_taken (space_of case) history.entries s.0 worker i s.1 (sym (value_of_last case history entries values last worker i h same kept found is) ∙ zero_value)

pub other_by_last : (case : Case) (history : History) (entries : List Entry) (values : List ℕ) (last : Entry) (worker i : ℕ) → IsHistoryOf case 64 history → entries ≡ history.entries → values ≡ history.values → Some last ≡ slice_get entries (length entries - 1) → last ≡ Take worker i → (get_or values i 0 ≡ 0 → ⊥) → (goal : ℕ) → (world_of case history).ending ≡ AtGoal goal → ⊥
other_by_last case history entries values last worker i h same kept found is other =
    let s = taken_split history entries last worker i same found is in
    let value_is = value_of_last case history entries values last worker i h same kept found is in
    no_goal_taken (space_of case) case.budget 64 history.entries s.0 (Take worker i) h.legal s.1 (λ v j e z. other (value_is ∙ ap (λ k. (at (space_of case) (world_of case history).opened k).value) (taken_number worker i v j e) ∙ z))
  where
    taken_number : (worker i v j : ℕ) → Take worker i ≡ Take v j → i ≡ j
    taken_number worker i v j e = cc

pub not_true : IsTrue false → ⊥
not_true e = cc
