-- A walk in the space of a case by the numbers of live instances is a run of those instances.
use Rattle.std.proofs.Common.{◌≡◌, ℕ, zero, suc, ◌+◌, ◌<◌, Bool, true, false, List, [], ◌∷◌, Option, Some, None, All, Contains, if◌then◌else◌, length, map, slice_get, refl, sym, ap, ◌∙◌, subst, ⊎_elim, arith, add-zero}
use Rattle.std.proofs.lemmas.Option.{none-some, same_Some, slice_get_within, get_or_from_slice_get}
use Rattle.std.proofs.lemmas.List.Elements.{All-nil, All-cons}
use Rattle.mf_model.specs.declared.state.Instance.{Instance}
use Rattle.mf_model.specs.declared.state.PlainState.{PlainState}
use Rattle.mf_model.specs.declared.task.TypedTask.{TypedTask}
use Rattle.mf_model.specs.Application.{is_applicable, next_state}
use Rattle.mf_model.specs.LiveInstances.{live_instances}
use Rattle.mf_model.specs.Plans.{is_goal}
use Rattle.mf_model.specs.SearchStates.{search_state, with_costs}
use Rattle.mf_meaning.specs.SearchPlans.{IsSearchPlanAmong, next_search_state}
use Rattle.mf_search.specs.Space.{Child, Grown, Listed, LeadsOut, children_of}
use Rattle.mf_search.specs.Answers.{Walk}
use Rattle.mf_search.proofs.Members.{not_in_nil, in_cons}
use Rattle.mf_task.specs.Successors.{Case, child_by, children_from, grown_by, grown_of, packed_of, sight_in, space_of, start_in, successor_list}
use Rattle.mf_task.specs.HeuristicValues.{helpful_of}
use Rattle.mf_task.specs.Width.{way_out}

-- The child is that of an applicable one of the instances, which are numbered from n on.
pub record IsChildFrom (task : TypedTask) (x : PlainState) (n : ℕ) (instances : List Instance) (c : Child PlainState) : Type 0 where
  pub number : ℕ
  pub instance : Instance
  pub at_number : slice_get instances number ≡ Some instance
  pub number_is : c.instance ≡ n + number
  pub applicable : is_applicable task (with_costs task x) instance ≡ true
  pub leads : c.state ≡ next_search_state task x instance

child_of_first : (task : TypedTask) (x : PlainState) (helpful : List ℕ) (n : ℕ) (instance : Instance) (others : List Instance) (c : Child PlainState) → is_applicable task (with_costs task x) instance ≡ true → child_by task x helpful n instance ≡ c → IsChildFrom task x n (instance ∷ others) c
child_of_first task x helpful n instance others c a e = record { number = 0; instance = instance; at_number = refl; number_is = sym (ap (λ (k : Child PlainState). k.instance) e) ∙ sym (add-zero n); applicable = a; leads = sym (ap (λ (k : Child PlainState). k.state) e) }

child_of_later : (task : TypedTask) (x : PlainState) (n : ℕ) (instance : Instance) (others : List Instance) (c : Child PlainState) → IsChildFrom task x (n + 1) others c → IsChildFrom task x n (instance ∷ others) c
child_of_later task x n instance others c k = record { number = suc k.number; instance = k.instance; at_number = k.at_number; number_is = (let e = k.number_is in omega arith); applicable = k.applicable; leads = k.leads }

child_is_from : (task : TypedTask) (x : PlainState) (helpful : List ℕ) (n : ℕ) (instances : List Instance) (c : Child PlainState) → Contains (children_from task x helpful n instances) c → IsChildFrom task x n instances c
child_is_from task x helpful n [] c h = absurd (not_in_nil c h)
child_is_from task x helpful n (instance ∷ others) c h = go (is_applicable task (with_costs task x) instance) refl h (child_is_from task x helpful (n + 1) others c)
  where
    go : (b : Bool) → is_applicable task (with_costs task x) instance ≡ b → Contains (if b then child_by task x helpful n instance ∷ children_from task x helpful (n + 1) others else children_from task x helpful (n + 1) others) c → (Contains (children_from task x helpful (n + 1) others) c → IsChildFrom task x (n + 1) others c) → IsChildFrom task x n (instance ∷ others) c
    go true a h ih = ⊎_elim (child_of_first task x helpful n instance others c a) (λ k. child_of_later task x n instance others c (ih k)) (in_cons (child_by task x helpful n instance) (children_from task x helpful (n + 1) others) c h)
    go false a h ih = child_of_later task x n instance others c (ih h)

among_listed : (case : Case) (x : PlainState) (way : Option ℕ) (c : Child PlainState) → Contains (children_of (grown_by case x way)) c → Contains (successor_list case x) c
among_listed case x None c h = h
among_listed case x (Some n) c h = absurd (not_in_nil c h)

pub child_of_case : (case : Case) (x : PlainState) (c : Child PlainState) → Contains (children_of ((space_of case).grow x)) c → IsChildFrom case.task x 0 (live_instances case.task) c
unfolding space_of
child_of_case case x c h =
    let packed = packed_of case.task in
    child_is_from case.task x (helpful_of case.heuristic packed (sight_in packed x)) 0 (live_instances case.task) c (among_listed case x (way_out packed (sight_in packed x)) c h)

in_list : (instances : List Instance) (k : ℕ) (instance : Instance) → slice_get instances k ≡ Some instance → Contains instances instance
in_list instances k instance e = (k, slice_get_within instances k instance e, get_or_from_slice_get instances k instance instance e)

-- The instances of a walk's numbers are applicable in turn.
pub walk_is_plan : (case : Case) (x : PlainState) (numbers : List ℕ) (y : PlainState) (steps : List Instance) → map Some steps ≡ map (slice_get (live_instances case.task)) numbers → Walk (space_of case) x numbers y → is_goal case.task (with_costs case.task y) ≡ true → IsSearchPlanAmong case.task (live_instances case.task) x steps
walk_is_plan case x [] y [] e walk goal = subst (λ z. is_goal case.task (with_costs case.task z) ≡ true) (sym walk) goal
walk_is_plan case x [] y (s ∷ steps) e walk goal = absurd (cc)
walk_is_plan case x (n ∷ numbers) y [] e walk goal = absurd (cc)
walk_is_plan case x (n ∷ numbers) y (s ∷ steps) e walk goal =
    let k = child_of_case case x walk.0 walk.1 in
    let instances = live_instances case.task in
    let head : Some s ≡ slice_get instances n = cc in
    let tail : map Some steps ≡ map (slice_get instances) numbers = cc in
    let number : n ≡ k.number = (let a = walk.2 in let b = k.number_is in omega arith) in
    let same : s ≡ k.instance = same_Some s k.instance (head ∙ ap (slice_get instances) number ∙ k.at_number) in
    let rest : IsSearchPlanAmong case.task instances walk.0.state steps = walk_is_plan case walk.0.state numbers y steps tail walk.3 goal in (
      rw same (in_list instances k.number k.instance k.at_number),
      rw same k.applicable,
      rw same (subst (λ z. IsSearchPlanAmong case.task instances z steps) k.leads rest),
    )

-- The numbers of a walk are those of live instances.
pub walk_is_numbered : (case : Case) (x : PlainState) (numbers : List ℕ) (y : PlainState) → Walk (space_of case) x numbers y → All (λ n. n < length (live_instances case.task)) numbers
walk_is_numbered case x [] y walk = All-nil (λ n. n < length (live_instances case.task))
walk_is_numbered case x (n ∷ numbers) y walk =
    let k = child_of_case case x walk.0 walk.1 in
    let within = slice_get_within (live_instances case.task) k.number k.instance k.at_number in
    All-cons (λ m. m < length (live_instances case.task)) n numbers (let a = walk.2 in let b = k.number_is in omega arith) (walk_is_numbered case walk.0.state numbers y walk.3)
