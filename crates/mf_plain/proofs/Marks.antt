-- No state of a plain search is marked: no instance counts as helpful.
use Rattle.std.proofs.Common.{◌≡◌, ℕ, ◌+◌, ◌<◌, ◌≤◌, Bool, true, false, cond, eqb, List, [], ◌∷◌, Some, All, length, refl, ap, ⊎_elim}
use Rattle.std.proofs.lemmas.Bool.{cases_lt}
use Rattle.std.proofs.lemmas.List.{get_or_past}
use Rattle.std.proofs.lemmas.List.Elements.{All-nil, All-cons, All-head, All-tail, All-push, All-get_or}
use Rattle.mf_model.specs.declared.task.TypedTask.{TypedTask}
use Rattle.mf_model.specs.declared.state.Instance.{Instance}
use Rattle.mf_model.specs.declared.state.PlainState.{PlainState}
use Rattle.mf_model.specs.Application.{instances_of, is_applicable}
use Rattle.mf_search.specs.declared.entry.Entry.{Entry}
use Rattle.mf_search.specs.declared.entry.Entry.TheVariants.{Take, Done, Wide}
use Rattle.mf_search.specs.Space.{Child}
use Rattle.mf_search.specs.World.{Opened, World, at, known, mark_rank, next, after, begin, took, pushed, open_all, open_child, world}
use Rattle.mf_plain.specs.GoalCount.{goal_count}
use Rattle.mf_plain.specs.PlainSpace.{child, children_from, children_in, space_of}

abbrev IsPlainChild : Child PlainState → Type 0
IsPlainChild c = c.helpful ≡ false

abbrev pub IsUnmarked : Opened PlainState → Type 0
IsUnmarked o = mark_rank o.maker ≡ 1

children_plain : (task : TypedTask) (state : PlainState) (n : ℕ) (instances : List Instance) → All IsPlainChild (children_from task state n instances)
children_plain task state n [] = All-nil IsPlainChild
children_plain task state n (instance ∷ others) = go (is_applicable task state instance) (children_plain task state (n + 1) others)
  where
    go : (b : Bool) → All IsPlainChild (children_from task state (n + 1) others) → All IsPlainChild (cond b (child task state n instance ∷ children_from task state (n + 1) others) (children_from task state (n + 1) others))
    go true a = All-cons IsPlainChild (child task state n instance) (children_from task state (n + 1) others) refl a
    go false a = a

pushed_unmarked : (b : Bool) (v p : ℕ) (c : Child PlainState) (os : List (Opened PlainState)) → IsPlainChild c → All IsUnmarked os → All IsUnmarked (pushed b (Some v) p c os)
pushed_unmarked true v p c os e a = a
pushed_unmarked false v p c os e a = All-push IsUnmarked os _ a (rw e refl)

opened_unmarked : (task : TypedTask) (p : ℕ) (cs : List (Child PlainState)) (os : List (Opened PlainState)) → All IsPlainChild cs → All IsUnmarked os → All IsUnmarked (open_all (space_of task) p cs os)
opened_unmarked task p [] os plain a = a
opened_unmarked task p (c ∷ cs) os plain a =
    opened_unmarked task p cs (open_child (space_of task) p c os) (All-tail IsPlainChild c cs plain)
    (pushed_unmarked (known (space_of task) os c.state) (goal_count task c.state) p c os (All-head IsPlainChild c cs plain) a)

took_unmarked : (b : Bool) (w : World PlainState) (worker i : ℕ) → All IsUnmarked w.opened → All IsUnmarked (took b w worker i).opened
took_unmarked true w worker i a = a
took_unmarked false w worker i a = a

after_unmarked : (task : TypedTask) (w : World PlainState) (entries : List Entry) → All IsUnmarked w.opened → All IsUnmarked (after (space_of task) w entries).opened
after_unmarked task w [] a = a
after_unmarked task w (Take worker i ∷ entries) a = after_unmarked task (next (space_of task) w (Take worker i)) entries (took_unmarked (eqb (at (space_of task) w.opened i).value 0) w worker i a)
after_unmarked task w (Done worker i ∷ entries) a =
    let x = (at (space_of task) w.opened i).state in
    after_unmarked task (next (space_of task) w (Done worker i)) entries (opened_unmarked task i (children_in task x) w.opened (children_plain task x 0 (instances_of task)) a)
after_unmarked task w (Wide worker i n ∷ entries) a = after_unmarked task (next (space_of task) w (Wide worker i n)) entries a

all_unmarked : (task : TypedTask) (entries : List Entry) → All IsUnmarked (world (space_of task) entries).opened
all_unmarked task entries = after_unmarked task (begin (space_of task)) entries (All-cons IsUnmarked _ [] refl (All-nil IsUnmarked))

pub unmarked : (task : TypedTask) (entries : List Entry) (i : ℕ) → mark_rank (at (space_of task) (world (space_of task) entries).opened i).maker ≡ 1
unmarked task entries i = ⊎_elim inside past (cases_lt i (length (world (space_of task) entries).opened))
  where
    os : List (Opened PlainState)
    os = (world (space_of task) entries).opened

    inside : i < length os → mark_rank (at (space_of task) os i).maker ≡ 1
    inside h = All-get_or IsUnmarked os i _ h (all_unmarked task entries)

    past : length os ≤ i → mark_rank (at (space_of task) os i).maker ≡ 1
    past h = ap (λ (o : Opened PlainState). mark_rank o.maker) (get_or_past os i _ h)
