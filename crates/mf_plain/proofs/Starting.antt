-- A search that has opened the start is under way.
use Rattle.std.proofs.Common.{◌≡◌, ℕ, ◌++◌, Bool, false, List, [], ◌∷◌, refl, ap, ◌∙◌}
use Rattle.std.specs.List.{fold}
use Rattle.mf_model.specs.declared.task.Atom.{Atom}
use Rattle.mf_model.specs.declared.task.Valued.{Valued}
use Rattle.mf_model.specs.declared.task.TypedTask.{TypedTask}
use Rattle.mf_model.specs.declared.state.PlainState.{PlainState}
use Rattle.mf_plain.specs.SearchTask.{IsSearchTask}
use Rattle.mf_model.specs.States.{start_of, with_atom}
use Rattle.mf_search.specs.declared.entry.Entry.{Entry}
use Rattle.mf_search.specs.declared.maker.Maker.{Maker}
use Rattle.mf_search.specs.declared.maker.Maker.TheVariants.{Start}
use Rattle.mf_search.proofs.Keeping.{columns_first, columns_push}
use Rattle.mf_search.proofs.Members.{not_in_nil}
use Rattle.mf_plain.specs.declared.history.History.{History}
use Rattle.mf_plain.specs.declared.progress.Progress.{Progress}
use Rattle.mf_plain.specs.GoalCount.{goal_count}
use Rattle.mf_plain.specs.UnderWay.{IsUnderWay}

pub start_is : (task : TypedTask) (state : PlainState) (given atoms : List Atom) (values : List Valued) → IsSearchTask task → given ≡ task.atoms → atoms ≡ fold with_atom [] given → values ≡ [] → state ≡ record { atoms = atoms; values = values } → state ≡ start_of task
start_is task state given atoms values plain g a v e = rw (e, a, g, v, plain.values) refl

pub started : (task : TypedTask) (budget value : ℕ) (state : PlainState) (rows : List PlainState) (values : List ℕ) (makers : List Maker) (entries : List Entry) (flags : List Bool) (progress : Progress) → rows ≡ [] → values ≡ [] → makers ≡ [] → entries ≡ [] → flags ≡ [] → state ≡ start_of task → value ≡ goal_count task state →
    progress.history ≡ record { rows = rows ++ state ∷ []; values = values ++ value ∷ []; makers = makers ++ Start ∷ []; entries = entries } → progress.taken.items ≡ flags ++ false ∷ [] → IsUnderWay task budget 0 progress
started task budget value state rows values makers entries flags progress r v m e f s n h t = record {
  legal = rw none tt;
  going = rw none refl;
  idle = rw none (λ w. refl);
  columns = rw (none, ap (λ (x : History). x.rows) h, ap (λ (x : History). x.values) h, ap (λ (x : History). x.makers) h, t, r, v, m, f, n, s)
      (columns_push [] [] [] [] [] [] (record { state = start_of task; value = goal_count task (start_of task); maker = Start }) (not_in_nil 0) columns_first);
  count = rw none refl;
}
  where
    none : progress.history.entries ≡ []
    none = ap (λ (x : History). x.entries) h ∙ e
