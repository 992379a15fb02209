-- What the answers of a search of a plain task are.
use Rattle.std.proofs.Common.{◌≡◌, ℕ, ◌⊎◌, Bool, true, false, eqb, inl, inr, subst, List, [], ◌∷◌}
use Rattle.mf_model.specs.declared.task.TypedTask.{TypedTask}
use Rattle.mf_model.specs.declared.state.PlainState.{PlainState}
use Rattle.mf_search.specs.declared.entry.Entry.{Entry}
use Rattle.mf_search.specs.declared.entry.Entry.TheVariants.{Take, Done, Wide}
use Rattle.mf_search.specs.declared.status.Status.TheVariants as status
use Rattle.mf_search.specs.World.{World, AtWide, LegalFrom, after, begin, at, next, took}
use Rattle.mf_search.specs.Answers.{Answers}
use Rattle.mf_plain.specs.declared.history.Searched.{Searched}
use Rattle.mf_plain.specs.PlainSpace.{space_of}
use Rattle.mf_plain.specs.Searches.{IsSearched, world_of}

-- the search didn't end at an instance that leads out of the width
abbrev pub NeverWide : World PlainState → Type 0
NeverWide w = (i n : ℕ) → w.ending ≡ AtWide i n → ⊥

took-never_wide : (goal : Bool) (w : World PlainState) (worker i : ℕ) → NeverWide w → NeverWide (took goal w worker i)
took-never_wide true w worker i never j n ends = cc
took-never_wide false w worker i never j n ends = never j n ends

-- every state of a plain task has a successor list, so no entry says that an instance leads out of the width
after-never_wide : (task : TypedTask) (budget : ℕ) (w : World PlainState) (entries : List Entry) →
    NeverWide w → LegalFrom (space_of task) budget 1 w entries → NeverWide (after (space_of task) w entries)
after-never_wide task budget w [] never legal = never
after-never_wide task budget w (Take worker i ∷ entries) never legal =
    after-never_wide task budget (next (space_of task) w (Take worker i)) entries
    (took-never_wide (eqb (at (space_of task) w.opened i).value 0) w worker i never) legal.1
after-never_wide task budget w (Done worker i ∷ entries) never legal =
    after-never_wide task budget (next (space_of task) w (Done worker i)) entries never legal.1
after-never_wide task budget w (Wide worker i n ∷ entries) never legal = let out = legal.0.leads_out in cc

-- the answer of a search is a plan, no plan or the budget
pub no_other_answer : (task : TypedTask) (budget : ℕ) (searched : Searched) → IsSearched task budget searched →
    (searched.status ≡ status.Running) ⊎ (searched.status ≡ status.Halted) ⊎ ((i : ℕ) × (n : ℕ) × (searched.status ≡ status.Width i n)) → ⊥
no_other_answer task budget searched is (inl running) = subst (Answers budget (world_of task searched.history)) running is.answers
no_other_answer task budget searched is (inr (inl halted)) = subst (Answers budget (world_of task searched.history)) halted is.answers
no_other_answer task budget searched is (inr (inr (i, n, wide))) =
    after-never_wide task budget (begin (space_of task)) searched.history.entries (λ i n ends. cc) is.legal i n
    (subst (Answers budget (world_of task searched.history)) wide is.answers)
