-- The value of a state of a plain task: how many atoms of the goal aren't true.
use Rattle.std.proofs.Common.{◌≡◌, not, true, List, [], sym, ap, ◌∙◌, ◌↔◌, length}
use Rattle.std.specs.List.{count_by}
use Rattle.mf_model.specs.declared.task.Atom.{Atom}
use Rattle.mf_model.specs.declared.task.TypedTask.{TypedTask}
use Rattle.mf_model.specs.declared.state.PlainState.{PlainState}
use Rattle.mf_model.specs.Meaning.{is_yes}
use Rattle.mf_model.specs.Objects.{kinds_of}
use Rattle.mf_plain.specs.SearchTask.{IsSearchTask}
use Rattle.mf_model.specs.Plans.{is_goal}
use Rattle.mf_model.specs.States.{look_of}
use Rattle.mf_plain.specs.Conjunctions.{is_conjunction, is_true, needs_of}
use Rattle.mf_plain.specs.GoalCount.{conjuncts_in, goal_count}
use Rattle.mf_plain.proofs.ConjunctionLaws.{reads, plain_is_conjunction, count_of_tests, none_unmet}

pub goal_is_conjunction : (task : TypedTask) → IsSearchTask task → is_conjunction task.goal ≡ true
goal_is_conjunction task plain = plain_is_conjunction task.predicates 0 (length task.objects) task.goal plain.goal

pub goal_value : (task : TypedTask) (state : PlainState) (goal atoms : List Atom) → IsSearchTask task → goal ≡ needs_of task.goal [] → atoms ≡ state.atoms → count_by (λ need. not (is_true atoms need)) goal ≡ goal_count task state
goal_value task state goal atoms plain e a =
    let r = reads (kinds_of task) (look_of state) task.goal (goal_is_conjunction task plain) [] in
    rw (e, a) (sym (ap (count_by (λ t. not (is_yes t))) r.conjuncts ∙ count_of_tests (is_true state.atoms) (needs_of task.goal [])))

-- A state has the value 0 exactly where the goal holds.
pub zero_is_goal : (task : TypedTask) (state : PlainState) → IsSearchTask task → (goal_count task state ≡ 0) ↔ (is_goal task state ≡ true)
zero_is_goal task state plain =
    let r = reads (kinds_of task) (look_of state) task.goal (goal_is_conjunction task plain) [] in
    let both = none_unmet (conjuncts_in (kinds_of task) (look_of state) task.goal []) in
    (λ e. ap is_yes r.truth ∙ both.0 e, λ e. both.1 (sym (ap is_yes r.truth) ∙ e))
