-- The columns while children are opened.
use Rattle.std.proofs.Common.{◌≡◌, ℕ, ◌<◌, ◌++◌, ◌||◌, Bool, true, false, List, [], ◌∷◌, Contains, length, get_or, map, refl, sym, ap, ◌∙◌, arith}
use Rattle.std.specs.List.{list_any}
use Rattle.std.proofs.lemmas.List.{length-map, map_push}
use Rattle.mf_model.specs.declared.task.TypedTask.{TypedTask}
use Rattle.mf_model.specs.declared.state.PlainState.{PlainState}
use Rattle.mf_search.specs.declared.maker.Maker.TheVariants.{Step}
use Rattle.mf_search.specs.Space.{Child}
use Rattle.mf_search.specs.World.{Opened, known, open_child, open_all, at}
use Rattle.mf_search.proofs.Keeping.{columns_push, state_at}
use Rattle.mf_search.proofs.OneStep.{open_more}
use Rattle.mf_search.proofs.Opening.{opens_all}
use Rattle.mf_plain.specs.declared.history.History.{History}
use Rattle.mf_plain.specs.declared.progress.Progress.{Progress}
use Rattle.mf_plain.specs.declared.successors.Successor.{Successor}
use Rattle.mf_plain.specs.GoalCount.{goal_count}
use Rattle.mf_plain.specs.PlainSpace.{space_of, children_from, children_in}
use Rattle.mf_model.specs.declared.state.Instance.{Instance}
use Rattle.mf_model.specs.Application.{instances_of}
use Rattle.mf_plain.specs.SameState.{same_state}
use Rattle.mf_plain.specs.Successors.{child_of}
use Rattle.mf_plain.specs.UnderWay.{Tracks, TakenBelow}

known_is : (task : TypedTask) (os : List (Opened PlainState)) (x : PlainState) → known (space_of task) os x ≡ list_any (λ row. same_state row x) (map (λ o. o.state) os)
known_is task [] x = refl
known_is task (o ∷ os) x = ap (λ b. same_state o.state x || b) (known_is task os x)

known_in : (task : TypedTask) (os : List (Opened PlainState)) (taken : List ℕ) (rows : List PlainState) (x : PlainState) (progress : Progress) (b : Bool) → Tracks os taken progress → rows ≡ progress.history.rows → b ≡ list_any (λ row. same_state row x) rows → known (space_of task) os x ≡ b
known_in task os taken rows x progress b t r e = known_is task os x ∙ sym (e ∙ ap (λ xs. list_any (λ row. same_state row x) xs) (r ∙ t.states_are))

pub child_is_known : (task : TypedTask) (os : List (Opened PlainState)) (taken : List ℕ) (p : ℕ) (s : Successor) (rows : List PlainState) (progress : Progress) → rows ≡ progress.history.rows → true ≡ list_any (λ row. same_state row s.state) rows → Tracks os taken progress → Tracks (open_child (space_of task) p (child_of s) os) taken progress
child_is_known task os taken p s rows progress r e t = rw (known_in task os taken rows s.state progress true t r e) t

pub child_is_new : (task : TypedTask) (os : List (Opened PlainState)) (taken : List ℕ) (p : ℕ) (s : Successor) (value : ℕ) (rows : List PlainState) (before after : Progress) → rows ≡ before.history.rows → false ≡ list_any (λ row. same_state row s.state) rows → value ≡ goal_count task s.state →
    after.history ≡ record {
      rows = before.history.rows ++ s.state ∷ [];
      values = before.history.values ++ value ∷ [];
      makers = before.history.makers ++ Step p s.instance false ∷ [];
      entries = before.history.entries;
    } → after.taken.items ≡ before.taken.items ++ false ∷ [] → TakenBelow taken os → Tracks os taken before → Tracks (open_child (space_of task) p (child_of s) os) taken after
child_is_new task os taken p s value rows before after r e v h f below t =
    let fresh : Contains taken (length os) → ⊥ = λ c. let l = below (length os) c in omega arith in
    rw (known_in task os taken rows s.state before false t r e, sym v, f, ap (λ (x : History). x.rows) h, ap (λ (x : History). x.values) h, ap (λ (x : History). x.makers) h)
    (columns_push os taken before.history.rows before.history.values before.history.makers before.taken.items (record { state = s.state; value = value; maker = Step p s.instance false }) fresh t)

pub below_more : (task : TypedTask) (os : List (Opened PlainState)) (taken : List ℕ) (p : ℕ) (cs : List (Child PlainState)) → TakenBelow taken os → TakenBelow taken (open_all (space_of task) p cs os)
below_more task os taken p cs below k c = let l = below k c in let m = (opens_all (space_of task) p cs os).extends.longer in omega arith

pub children_more : (task : TypedTask) (os : List (Opened PlainState)) (taken : List ℕ) (p : ℕ) (done : List Successor) (s : Successor) (progress : Progress) → Tracks (open_child (space_of task) p (child_of s) (open_all (space_of task) p (map child_of done) os)) taken progress → Tracks (open_all (space_of task) p (map child_of (done ++ s ∷ [])) os) taken progress
children_more task os taken p done s progress t = rw (map_push child_of done s, open_more (space_of task) p (map child_of done) (child_of s) os) t

-- The state of number i is expanded.
pub state_expanded : (task : TypedTask) (os : List (Opened PlainState)) (taken : List ℕ) (i : ℕ) (instances : List Instance) (rows : List PlainState) (parent : PlainState) (children : List Successor) (before after : Progress) → instances ≡ instances_of task → rows ≡ before.history.rows → i < length before.history.rows → parent ≡ get_or rows i parent → map child_of children ≡ children_from task parent 0 instances → Tracks os taken before → Tracks (open_all (space_of task) i (map child_of children) os) taken after → Tracks (open_all (space_of task) i (children_in task (at (space_of task) os i).state) os) taken after
state_expanded task os taken i instances rows parent children before after listed same h e found t opened =
    let within : i < length os = rw (← length-map os (λ (o : Opened PlainState). o.state), ← t.states_are) h in
    let here : (at (space_of task) os i).state ≡ parent = state_at (space_of task) os taken before.history.rows before.history.values before.history.makers before.taken.items i parent t within ∙ ap (λ (xs : List PlainState). get_or xs i parent) (sym same) ∙ sym e in
    rw (here, ← listed, ← found) opened
