-- The plan that is traced back from a goal.
use Rattle.std.proofs.Common.{◌≡◌, Bool, ℕ, ◌-◌, ◌<◌, ◌++◌, List, [], ◌∷◌, Some, All, length, get_or, map, reverse, slice_get, refl, sym, ap, ◌∙◌, subst, arith}
use Rattle.std.proofs.lemmas.List.{length-map, get_or-map, reverse-append, reverse-reverse, length-reverse, get_or-reverse, append_assoc, map-append}
use Rattle.std.proofs.lemmas.Option.{same_Some, slice_get-get_or}
use Rattle.std.proofs.lemmas.List.Elements.{All-pop, All-from_get_or, All-get_or}
use Rattle.mf_model.specs.declared.task.TypedTask.{TypedTask}
use Rattle.mf_model.specs.declared.state.Instance.{Instance}
use Rattle.mf_model.specs.declared.state.PlainState.{PlainState}
use Rattle.mf_model.specs.Application.{instances_of}
use Rattle.mf_plain.specs.SearchTask.{IsSearchTask}
use Rattle.mf_model.specs.Plans.{IsPlan}
use Rattle.mf_model.specs.States.{start_of}
use Rattle.mf_search.specs.declared.maker.Maker.{Maker}
use Rattle.mf_search.specs.declared.maker.Maker.TheVariants.{Start, Step}
use Rattle.mf_search.specs.declared.status.Status.TheVariants.{Plan}
use Rattle.mf_search.specs.World.{Opened, at}
use Rattle.mf_search.specs.Rebuilt.{parent_of}
use Rattle.mf_search.specs.Answers.{Answers, IsPlanFrom, plan_to}
use Rattle.mf_search.proofs.Answering.{plan_is_right}
use Rattle.mf_search.proofs.Fuel.{legal_parents, plan_step, plan_start}
use Rattle.mf_search.proofs.Sound.{legal_sound}
use Rattle.mf_plain.specs.declared.history.Searched.{Searched}
use Rattle.mf_plain.specs.GoalCount.{goal_count}
use Rattle.mf_plain.specs.PlainSpace.{space_of}
use Rattle.mf_plain.specs.Searches.{IsSearched, IsTrace, world_of}
use Rattle.mf_plain.proofs.Bridge.{walk_is_valid, walk_is_numbered}
use Rattle.mf_plain.proofs.Values.{zero_is_goal}

abbrev opened_of : TypedTask → Searched → List (Opened PlainState)
opened_of task searched = (world_of task searched.history).opened

makers_len : (task : TypedTask) (budget : ℕ) (searched : Searched) (makers : List Maker) → IsSearched task budget searched → makers ≡ searched.history.makers → length makers ≡ length (opened_of task searched)
makers_len task budget searched makers s e = ap length (e ∙ s.kept.makers) ∙ length-map (opened_of task searched) (λ o. o.maker)

maker_at : (task : TypedTask) (budget : ℕ) (searched : Searched) (makers : List Maker) (i : ℕ) (d : Maker) → IsSearched task budget searched → makers ≡ searched.history.makers → i < length makers → get_or makers i d ≡ (at (space_of task) (opened_of task searched) i).maker
maker_at task budget searched makers i d s e h =
    ap (λ (ms : List Maker). get_or ms i d) (e ∙ s.kept.makers)
    ∙ get_or-map (λ (o : Opened PlainState). o.maker) (opened_of task searched) i (record { state = start_of task; value = 0; maker = Start }) d (rw (← makers_len task budget searched makers s e) h)

-- The goal has a maker.
pub goal_within : (task : TypedTask) (budget : ℕ) (searched : Searched) (makers : List Maker) (goal : ℕ) → IsSearched task budget searched → makers ≡ searched.history.makers → searched.status ≡ Plan goal → goal < length makers
goal_within task budget searched makers goal s e found =
    let answer = subst (Answers budget (world_of task searched.history)) found s.answers in
    let sound = legal_sound (space_of task) budget 1 searched.history.entries s.legal in
    rw (makers_len task budget searched makers s e) (sound.in_range goal (sound.goal goal answer).0)

-- A parent has a lower number.
pub parent_lower : (task : TypedTask) (budget : ℕ) (searched : Searched) (makers : List Maker) (i p n : ℕ) (helpful : Bool) (d : Maker) → IsSearched task budget searched → makers ≡ searched.history.makers → i < length makers → get_or makers i d ≡ Step p n helpful → p < i
parent_lower task budget searched makers i p n helpful d s e h m =
    legal_parents (space_of task) budget 1 searched.history.entries s.legal i p (rw (← makers_len task budget searched makers s e) h) (ap parent_of (sym (maker_at task budget searched makers i d s e h) ∙ m))

-- One step back.
pub trace_back : (task : TypedTask) (budget : ℕ) (searched : Searched) (makers : List Maker) (i p n : ℕ) (helpful : Bool) (d : Maker) (numbers next : List ℕ) → IsSearched task budget searched → makers ≡ searched.history.makers → i < length makers → get_or makers i d ≡ Step p n helpful → next ≡ numbers ++ n ∷ [] →
    plan_to (space_of task) (opened_of task searched) p ++ reverse next ≡ plan_to (space_of task) (opened_of task searched) i ++ reverse numbers
trace_back task budget searched makers i p n helpful d numbers next s e h m made =
    let sp = space_of task in
    let os = opened_of task searched in
    let step = plan_step sp os i p n helpful (legal_parents sp budget 1 searched.history.entries s.legal) (rw (← makers_len task budget searched makers s e) h) (sym (maker_at task budget searched makers i d s e h) ∙ m) in
    rw (made, step, reverse-append numbers (n ∷ [])) (sym (append_assoc (plan_to sp os p) (n ∷ []) (reverse numbers)))

-- At the start.
pub trace_whole : (task : TypedTask) (budget : ℕ) (searched : Searched) (makers : List Maker) (i : ℕ) (d : Maker) (numbers : List ℕ) → IsSearched task budget searched → makers ≡ searched.history.makers → i < length makers → get_or makers i d ≡ Start → reverse numbers ≡ plan_to (space_of task) (opened_of task searched) i ++ reverse numbers
trace_whole task budget searched makers i d numbers s e h m =
    rw (plan_start (space_of task) (opened_of task searched) i (legal_parents (space_of task) budget 1 searched.history.entries s.legal) (rw (← makers_len task budget searched makers s e) h) (sym (maker_at task budget searched makers i d s e h) ∙ m)) refl

-- The steps of the numbers.
pub steps_more : (instances : List Instance) (instance copied : Instance) (steps next : List Instance) (rest numbers : List ℕ) (n : ℕ) → slice_get instances n ≡ Some instance → copied ≡ instance → next ≡ steps ++ copied ∷ [] → numbers ≡ rest ++ n ∷ [] → map Some next ++ map (slice_get instances) (reverse rest) ≡ map Some steps ++ map (slice_get instances) (reverse numbers)
steps_more instances instance copied steps next rest numbers n e c made popped =
    rw (made, popped, reverse-append rest (n ∷ []), map-append Some steps (copied ∷ []), e, c)
    (append_assoc (map Some steps) (Some instance ∷ []) (map (slice_get instances) (reverse rest)))

-- The plan.
pub plan_walk : (task : TypedTask) (budget : ℕ) (searched : Searched) (goal : ℕ) → IsSearched task budget searched → searched.status ≡ Plan goal → IsPlanFrom (space_of task) (start_of task) (plan_to (space_of task) (opened_of task searched) goal)
plan_walk task budget searched goal s found = plan_is_right (space_of task) budget 1 searched.history.entries goal s.legal (subst (Answers budget (world_of task searched.history)) found s.answers)

pub plan_numbered : (task : TypedTask) (budget : ℕ) (searched : Searched) (goal : ℕ) → IsSearched task budget searched → searched.status ≡ Plan goal → All (λ n. n < length (instances_of task)) (plan_to (space_of task) (opened_of task searched) goal)
plan_numbered task budget searched goal s found = let p = plan_walk task budget searched goal s found in walk_is_numbered task (start_of task) (plan_to (space_of task) (opened_of task searched) goal) p.0 p.1

pub plan_traced : (task : TypedTask) (budget : ℕ) (searched : Searched) (goal : ℕ) (steps : List Instance) → IsSearchTask task → IsSearched task budget searched → searched.status ≡ Plan goal → map Some steps ≡ map (slice_get (instances_of task)) (plan_to (space_of task) (opened_of task searched) goal) → IsPlan task steps × IsTrace task searched steps
plan_traced task budget searched goal steps plain s found traced =
    let p = plan_walk task budget searched goal s found in
    let zero_value : goal_count task p.0 ≡ 0 = same_Some (goal_count task p.0) 0 p.2 in (
      walk_is_valid task (start_of task) (plan_to (space_of task) (opened_of task searched) goal) p.0 steps traced p.1 ((zero_is_goal task p.0 plain).0 zero_value),
      record { goal = goal; found = found; trace = traced },
    )

only_start : (m : Maker) → ((p n : ℕ) (helpful : Bool) → m ≡ Step p n helpful → ⊥) → m ≡ Start
only_start Start never = refl
only_start (Step p n helpful) never = absurd (never p n helpful refl)

pub trace_end : (task : TypedTask) (budget : ℕ) (searched : Searched) (makers : List Maker) (i : ℕ) (d : Maker) (numbers whole : List ℕ) → IsSearched task budget searched → makers ≡ searched.history.makers → i < length makers → ((p n : ℕ) (helpful : Bool) → get_or makers i d ≡ Step p n helpful → ⊥) → plan_to (space_of task) (opened_of task searched) i ++ reverse numbers ≡ whole → reverse numbers ≡ whole
trace_end task budget searched makers i d numbers whole s e h never traced = trace_whole task budget searched makers i d numbers s e h (only_start (get_or makers i d) never) ∙ traced

-- The last number is one of an instance, and so are the others.
pub numbered_last : (instances : List Instance) (rest numbers : List ℕ) (n : ℕ) → All (λ m. m < length instances) numbers → numbers ≡ rest ++ n ∷ [] → All (λ m. m < length instances) rest × (n < length instances)
numbered_last instances rest numbers n all e = All-pop (λ m. m < length instances) numbers rest (Some n) e all

pub instance_at : (instances : List Instance) (n : ℕ) (instance : Instance) → n < length instances → instance ≡ get_or instances n instance → slice_get instances n ≡ Some instance
instance_at instances n instance h e = slice_get-get_or instances n instance h ∙ ap (λ i. Some i) (sym e)

all_reverse : (P : ℕ → Type 0) (xs : List ℕ) → All P xs → All P (reverse xs)
all_reverse P xs all = All-from_get_or P (reverse xs) 0 (λ i h.
    let within : i < length xs = subst (λ n. i < n) (length-reverse xs) h in
    let back : length xs - 1 - i < length xs = omega arith in
    rw (get_or-reverse xs i 0 within) (All-get_or P xs (length xs - 1 - i) 0 back all))

pub reversed_numbered : (instances given : List Instance) (numbers back : List ℕ) → given ≡ instances → All (λ m. m < length instances) numbers → reverse back ≡ numbers → All (λ m. m < length given) back
reversed_numbered instances given numbers back same all e =
    let whole : reverse numbers ≡ back = ap (λ (xs : List ℕ). reverse xs) (sym e) ∙ reverse-reverse back in
    rw (same, ← whole) (all_reverse (λ m. m < length instances) numbers all)

pub steps_traced : (instances given : List Instance) (steps : List Instance) (numbers back : List ℕ) → given ≡ instances → reverse back ≡ numbers → map Some steps ≡ map (slice_get given) (reverse back) → map Some steps ≡ map (slice_get instances) numbers
steps_traced instances given steps numbers back same e s = s ∙ rw (same, e) refl
