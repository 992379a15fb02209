-- A walk by the numbers of instances is a run of the instances, and the other way round.
use Rattle.std.proofs.Common.{◌≡◌, ℕ, zero, suc, ◌+◌, ◌<◌, Bool, true, false, cond, List, [], ◌∷◌, Some, All, Contains, length, map, slice_get, refl, sym, ap, ◌∙◌, subst, ⊎_elim, arith, add-zero}
use Rattle.std.proofs.lemmas.Option.{none-some, same_Some, slice_get_within, get_or_from_slice_get, slice_get-get_or}
use Rattle.std.proofs.lemmas.List.Elements.{All-nil, All-cons}
use Rattle.mf_model.specs.declared.task.TypedTask.{TypedTask}
use Rattle.mf_model.specs.declared.state.Instance.{Instance}
use Rattle.mf_model.specs.declared.state.PlainState.{PlainState}
use Rattle.mf_model.specs.Application.{instances_of, is_applicable, next_state}
use Rattle.mf_plain.specs.SearchTask.{IsSearchTask}
use Rattle.mf_model.specs.Plans.{is_goal, IsValidFrom}
use Rattle.mf_search.specs.Space.{Child}
use Rattle.mf_search.specs.Answers.{Walk, LeadsToGoal}
use Rattle.mf_search.proofs.Members.{not_in_nil, in_cons, in_first, in_later}
use Rattle.mf_plain.specs.PlainSpace.{child, children_from, space_of}
use Rattle.mf_plain.proofs.Values.{zero_is_goal}

-- The child is that of an applicable one of the instances, which are numbered from n on.
record IsChildOf (task : TypedTask) (x : PlainState) (n : ℕ) (instances : List Instance) (c : Child PlainState) : Type 0 where
  number : ℕ
  instance : Instance
  listed : slice_get instances number ≡ Some instance
  named : c.instance ≡ n + number
  applicable : is_applicable task x instance ≡ true
  leads : c.state ≡ next_state task x instance

child_of_first : (task : TypedTask) (x : PlainState) (n : ℕ) (instance : Instance) (others : List Instance) (c : Child PlainState) → is_applicable task x instance ≡ true → child task x n instance ≡ c → IsChildOf task x n (instance ∷ others) c
child_of_first task x n instance others c a e = record { number = 0; instance = instance; listed = refl; named = sym (ap (λ (k : Child PlainState). k.instance) e) ∙ sym (add-zero n); applicable = a; leads = sym (ap (λ (k : Child PlainState). k.state) e) }

child_of_later : (task : TypedTask) (x : PlainState) (n : ℕ) (instance : Instance) (others : List Instance) (c : Child PlainState) → IsChildOf task x (n + 1) others c → IsChildOf task x n (instance ∷ others) c
child_of_later task x n instance others c k = record { number = suc k.number; instance = k.instance; listed = k.listed; named = (let e = k.named in omega arith); applicable = k.applicable; leads = k.leads }

child_is_of : (task : TypedTask) (x : PlainState) (n : ℕ) (instances : List Instance) (c : Child PlainState) → Contains (children_from task x n instances) c → IsChildOf task x n instances c
child_is_of task x n [] c h = absurd (not_in_nil c h)
child_is_of task x n (instance ∷ others) c h = go (is_applicable task x instance) refl h (child_is_of task x (n + 1) others c)
  where
    go : (b : Bool) → is_applicable task x instance ≡ b → Contains (cond b (child task x n instance ∷ children_from task x (n + 1) others) (children_from task x (n + 1) others)) c → (Contains (children_from task x (n + 1) others) c → IsChildOf task x (n + 1) others c) → IsChildOf task x n (instance ∷ others) c
    go true a h ih = ⊎_elim (child_of_first task x n instance others c a) (λ k. child_of_later task x n instance others c (ih k)) (in_cons (child task x n instance) (children_from task x (n + 1) others) c h)
    go false a h ih = child_of_later task x n instance others c (ih h)

child_in_later : (task : TypedTask) (x : PlainState) (n : ℕ) (instance : Instance) (others : List Instance) (c : Child PlainState) → Contains (children_from task x (n + 1) others) c → Contains (children_from task x n (instance ∷ others)) c
child_in_later task x n instance others c h = go (is_applicable task x instance)
  where
    go : (b : Bool) → Contains (cond b (child task x n instance ∷ children_from task x (n + 1) others) (children_from task x (n + 1) others)) c
    go true = in_later (child task x n instance) (children_from task x (n + 1) others) c h
    go false = h

child_is_in : (task : TypedTask) (x : PlainState) (n : ℕ) (instances : List Instance) (k : ℕ) (instance : Instance) → slice_get instances k ≡ Some instance → is_applicable task x instance ≡ true → Contains (children_from task x n instances) (child task x (n + k) instance)
child_is_in task x n [] k instance e a = absurd (none-some instance e)
child_is_in task x n (first ∷ others) zero instance e a =
    let same : first ≡ instance = same_Some first instance e in
    rw (add-zero n, same, a) (in_first (child task x n instance) (children_from task x (n + 1) others))
child_is_in task x n (first ∷ others) (suc k) instance e a =
    let shift : n + 1 + k ≡ n + suc k = omega arith in
    child_in_later task x n first others (child task x (n + suc k) instance) (subst (λ m. Contains (children_from task x (n + 1) others) (child task x m instance)) shift (child_is_in task x (n + 1) others k instance e a))

listed_contains : (instances : List Instance) (k : ℕ) (instance : Instance) → slice_get instances k ≡ Some instance → Contains instances instance
listed_contains instances k instance e = (k, slice_get_within instances k instance e, get_or_from_slice_get instances k instance instance e)

-- The instances of a walk's numbers are applicable in turn.
pub walk_is_valid : (task : TypedTask) (x : PlainState) (numbers : List ℕ) (y : PlainState) (steps : List Instance) → map Some steps ≡ map (slice_get (instances_of task)) numbers → Walk (space_of task) x numbers y → is_goal task y ≡ true → IsValidFrom task x steps
walk_is_valid task x [] y [] e walk goal = subst (λ z. is_goal task z ≡ true) (sym walk) goal
walk_is_valid task x [] y (s ∷ steps) e walk goal = absurd (cc)
walk_is_valid task x (n ∷ numbers) y [] e walk goal = absurd (cc)
walk_is_valid task x (n ∷ numbers) y (s ∷ steps) e walk goal =
    let k = child_is_of task x 0 (instances_of task) walk.0 walk.1 in
    let head : Some s ≡ slice_get (instances_of task) n = cc in
    let tail : map Some steps ≡ map (slice_get (instances_of task)) numbers = cc in
    let number : n ≡ k.number = (let a = walk.2 in let b = k.named in omega arith) in
    let same : s ≡ k.instance = same_Some s k.instance (head ∙ ap (slice_get (instances_of task)) number ∙ k.listed) in
    let rest : IsValidFrom task walk.0.state steps = walk_is_valid task walk.0.state numbers y steps tail walk.3 goal in (
      rw same (listed_contains (instances_of task) k.number k.instance k.listed),
      rw same k.applicable,
      rw same (subst (λ z. IsValidFrom task z steps) k.leads rest),
    )

-- The numbers of a walk are those of instances.
pub walk_is_numbered : (task : TypedTask) (x : PlainState) (numbers : List ℕ) (y : PlainState) → Walk (space_of task) x numbers y → All (λ n. n < length (instances_of task)) numbers
walk_is_numbered task x [] y walk = All-nil (λ n. n < length (instances_of task))
walk_is_numbered task x (n ∷ numbers) y walk =
    let k = child_is_of task x 0 (instances_of task) walk.0 walk.1 in
    let within = slice_get_within (instances_of task) k.number k.instance k.listed in
    All-cons (λ m. m < length (instances_of task)) n numbers (let a = walk.2 in let b = k.named in omega arith) (walk_is_numbered task walk.0.state numbers y walk.3)

-- Instances that are applicable in turn and reach the goal are a walk.
pub valid_is_walk : (task : TypedTask) (x : PlainState) (steps : List Instance) → IsSearchTask task → IsValidFrom task x steps → LeadsToGoal (space_of task) x
valid_is_walk task x [] plain valid = ([], (x, refl, ap (λ n. Some n) ((zero_is_goal task x plain).1 valid)))
valid_is_walk task x (s ∷ steps) plain valid =
    let k = valid.0 in
    let listed : slice_get (instances_of task) k.0 ≡ Some s = slice_get-get_or (instances_of task) k.0 s k.1 ∙ ap (λ i. Some i) k.2 in
    let rest : LeadsToGoal (space_of task) (next_state task x s) = valid_is_walk task (next_state task x s) steps plain valid.2 in
    ((0 + k.0) ∷ rest.0, (rest.1.0, (child task x (0 + k.0) s, child_is_in task x 0 (instances_of task) k.0 s listed valid.1, refl, rest.1.1), rest.1.2))
