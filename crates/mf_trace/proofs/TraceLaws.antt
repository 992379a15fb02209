-- The plan that is traced back from a goal.
use Rattle.std.proofs.Common.{◌≡◌, Bool, ℕ, ◌-◌, ◌<◌, ◌++◌, List, [], ◌∷◌, Some, All, length, get_or, map, reverse, slice_get, refl, sym, ap, ◌∙◌, subst, arith}
use Rattle.std.proofs.lemmas.List.{length-map, get_or-map, reverse-append, reverse-reverse, length-reverse, get_or-reverse, append_assoc, map-append}
use Rattle.std.proofs.lemmas.Option.{slice_get-get_or, slice_get-map}
use Rattle.std.proofs.lemmas.List.Elements.{All-pop, All-from_get_or, All-get_or}
use Rattle.mf_model.specs.declared.state.Instance.{Instance}
use Rattle.mf_model.specs.declared.state.PlainState.{PlainState}
use Rattle.mf_search.specs.declared.maker.Maker.{Maker}
use Rattle.mf_search.specs.declared.maker.Maker.TheVariants.{Start, Step}
use Rattle.mf_search.specs.World.{AtGoal, Opened, at}
use Rattle.mf_search.specs.Rebuilt.{parent_of}
use Rattle.mf_search.specs.Answers.{IsPlanFrom, plan_to}
use Rattle.mf_search.proofs.Answering.{plan_is_right}
use Rattle.mf_search.proofs.Fuel.{legal_parents, plan_step, plan_start}
use Rattle.mf_search.proofs.Sound.{legal_sound}
use Rattle.mf_task.specs.declared.ground.GroundAction.{GroundAction}
use Rattle.mf_task.specs.declared.history.History.{History}
use Rattle.mf_task.specs.Histories.{IsHistoryOf, world_of}
use Rattle.mf_task.specs.Successors.{Case, packed_of, space_of, start_in}
use Rattle.mf_model.specs.LiveInstances.{live_instances}
use Rattle.mf_bridge.proofs.ActionsMade.{live_actions}
use Rattle.mf_trace.specs.Traces.{numbers_to}
use Rattle.mf_trace.proofs.Walks.{walk_is_numbered}

abbrev opened_of : Case → History → List (Opened PlainState)
opened_of case history = (world_of case history).opened

pub values_len : (case : Case) (history : History) → IsHistoryOf case 64 history → length history.values ≡ length (opened_of case history)
values_len case history h = ap length h.values ∙ length-map (opened_of case history) (λ o. o.value)

makers_len : (case : Case) (history : History) (makers : List Maker) → IsHistoryOf case 64 history → makers ≡ history.makers → length makers ≡ length (opened_of case history)
makers_len case history makers h e = ap length (e ∙ h.makers) ∙ length-map (opened_of case history) (λ o. o.maker)

pub value_at : (case : Case) (history : History) (i d : ℕ) → IsHistoryOf case 64 history → i < length (opened_of case history) → get_or history.values i d ≡ (at (space_of case) (opened_of case history) i).value
value_at case history i d h within =
    ap (λ (vs : List ℕ). get_or vs i d) h.values
    ∙ get_or-map (λ (o : Opened PlainState). o.value) (opened_of case history) i (record { state = (space_of case).start; value = 0; maker = Start }) d within

maker_at : (case : Case) (history : History) (makers : List Maker) (i : ℕ) (d : Maker) → IsHistoryOf case 64 history → makers ≡ history.makers → i < length makers → get_or makers i d ≡ (at (space_of case) (opened_of case history) i).maker
maker_at case history makers i d h e within =
    ap (λ (ms : List Maker). get_or ms i d) (e ∙ h.makers)
    ∙ get_or-map (λ (o : Opened PlainState). o.maker) (opened_of case history) i (record { state = (space_of case).start; value = 0; maker = Start }) d (rw (← makers_len case history makers h e) within)

-- The goal has a maker.
pub goal_within : (case : Case) (history : History) (makers : List Maker) (goal : ℕ) → IsHistoryOf case 64 history → makers ≡ history.makers → (world_of case history).ending ≡ AtGoal goal → goal < length makers
goal_within case history makers goal h e taken =
    let sound = legal_sound (space_of case) case.budget 64 history.entries h.legal in
    rw (makers_len case history makers h e) (sound.in_range goal (sound.goal goal taken).0)

-- A parent has a lower number.
pub parent_lower : (case : Case) (history : History) (makers : List Maker) (i p n : ℕ) (helpful : Bool) (d : Maker) → IsHistoryOf case 64 history → makers ≡ history.makers → i < length makers → get_or makers i d ≡ Step p n helpful → p < i
parent_lower case history makers i p n helpful d h e within m =
    legal_parents (space_of case) case.budget 64 history.entries h.legal i p (rw (← makers_len case history makers h e) within) (ap parent_of (sym (maker_at case history makers i d h e within) ∙ m))

-- One step back.
pub trace_back : (case : Case) (history : History) (makers : List Maker) (i p n : ℕ) (helpful : Bool) (d : Maker) (numbers next : List ℕ) → IsHistoryOf case 64 history → makers ≡ history.makers → i < length makers → get_or makers i d ≡ Step p n helpful → next ≡ numbers ++ n ∷ [] →
    plan_to (space_of case) (opened_of case history) p ++ reverse next ≡ plan_to (space_of case) (opened_of case history) i ++ reverse numbers
trace_back case history makers i p n helpful d numbers next h e within m made =
    let sp = space_of case in
    let os = opened_of case history in
    let step = plan_step sp os i p n helpful (legal_parents sp case.budget 64 history.entries h.legal) (rw (← makers_len case history makers h e) within) (sym (maker_at case history makers i d h e within) ∙ m) in
    rw (made, step, reverse-append numbers (n ∷ [])) (sym (append_assoc (plan_to sp os p) (n ∷ []) (reverse numbers)))

-- At the start.
trace_whole : (case : Case) (history : History) (makers : List Maker) (i : ℕ) (d : Maker) (numbers : List ℕ) → IsHistoryOf case 64 history → makers ≡ history.makers → i < length makers → get_or makers i d ≡ Start → reverse numbers ≡ plan_to (space_of case) (opened_of case history) i ++ reverse numbers
trace_whole case history makers i d numbers h e within m =
    rw (plan_start (space_of case) (opened_of case history) i (legal_parents (space_of case) case.budget 64 history.entries h.legal) (rw (← makers_len case history makers h e) within) (sym (maker_at case history makers i d h e within) ∙ m)) refl

only_start : (m : Maker) → ((p n : ℕ) (helpful : Bool) → m ≡ Step p n helpful → ⊥) → m ≡ Start
only_start Start never = refl
only_start (Step p n helpful) never = absurd (never p n helpful refl)

pub trace_end : (case : Case) (history : History) (makers : List Maker) (i : ℕ) (d : Maker) (numbers whole : List ℕ) → IsHistoryOf case 64 history → makers ≡ history.makers → i < length makers → ((p n : ℕ) (helpful : Bool) → get_or makers i d ≡ Step p n helpful → ⊥) → plan_to (space_of case) (opened_of case history) i ++ reverse numbers ≡ whole → reverse numbers ≡ whole
trace_end case history makers i d numbers whole h e within never traced = trace_whole case history makers i d numbers h e within (only_start (get_or makers i d) never) ∙ traced

-- The steps of the numbers.
pub steps_more : (instances : List Instance) (instance copied : Instance) (steps next : List Instance) (rest numbers : List ℕ) (n : ℕ) → slice_get instances n ≡ Some instance → copied ≡ instance → next ≡ steps ++ copied ∷ [] → numbers ≡ rest ++ n ∷ [] → map Some next ++ map (slice_get instances) (reverse rest) ≡ map Some steps ++ map (slice_get instances) (reverse numbers)
steps_more instances instance copied steps next rest numbers n e c made popped =
    rw (made, popped, reverse-append rest (n ∷ []), map-append Some steps (copied ∷ []), e, c)
    (append_assoc (map Some steps) (Some instance ∷ []) (map (slice_get instances) (reverse rest)))

-- The last number is one of an instance, and so are the others.
pub numbered_last : (count : ℕ) (rest numbers : List ℕ) (n : ℕ) → All (λ m. m < count) numbers → numbers ≡ rest ++ n ∷ [] → All (λ m. m < count) rest × (n < count)
numbered_last count rest numbers n all e = All-pop (λ m. m < count) numbers rest (Some n) e all

all_reverse : (P : ℕ → Type 0) (xs : List ℕ) → All P xs → All P (reverse xs)
all_reverse P xs all = All-from_get_or P (reverse xs) 0 (λ i h.
    let within : i < length xs = subst (λ n. i < n) (length-reverse xs) h in
    let back : length xs - 1 - i < length xs = omega arith in
    rw (get_or-reverse xs i 0 within) (All-get_or P xs (length xs - 1 - i) 0 back all))

pub reversed_numbered : (count : ℕ) (numbers back : List ℕ) → All (λ m. m < count) numbers → reverse back ≡ numbers → All (λ m. m < count) back
reversed_numbered count numbers back all e =
    let whole : reverse numbers ≡ back = ap (λ (xs : List ℕ). reverse xs) (sym e) ∙ reverse-reverse back in
    rw (← whole) (all_reverse (λ m. m < count) numbers all)

pub instance_of : (actions : List GroundAction) (n : ℕ) (action : GroundAction) → n < length actions → action ≡ get_or actions n action → slice_get (map (λ a. a.instance) actions) n ≡ Some action.instance
instance_of actions n action within e =
    let at_n : slice_get actions n ≡ Some action = slice_get-get_or actions n action within ∙ ap (λ a. Some a) (sym e) in
    slice_get-map (λ (a : GroundAction). a.instance) actions n ∙ rw at_n refl

-- The numbers lead from the start to a goal.
pub goal_leads : (case : Case) (history : History) (goal : ℕ) → IsHistoryOf case 64 history → (world_of case history).ending ≡ AtGoal goal → IsPlanFrom (space_of case) (start_in case) (numbers_to case history goal)
unfolding space_of
goal_leads case history goal h taken = plan_is_right (space_of case) case.budget 64 history.entries goal h.legal taken

-- They are those of live instances.
pub goal_numbers : (case : Case) (history : History) (goal : ℕ) (actions : List GroundAction) (back : List ℕ) → IsHistoryOf case 64 history → (world_of case history).ending ≡ AtGoal goal → actions ≡ (packed_of case.task).actions → reverse back ≡ numbers_to case history goal → All (λ n. n < length actions) back
goal_numbers case history goal actions back h taken same e =
    let leads = goal_leads case history goal h taken in
    let live = walk_is_numbered case (start_in case) (numbers_to case history goal) leads.0 leads.1 in
    let count : length (live_instances case.task) ≡ length actions = ap length (sym (live_actions case.task)) ∙ length-map (packed_of case.task).actions (λ (a : GroundAction). a.instance) ∙ ap length (sym same) in
    reversed_numbered (length actions) (numbers_to case history goal) back (subst (λ count. All (λ n. n < count) (numbers_to case history goal)) count live) e

-- The steps of the numbers are live instances.
pub traced_steps : (case : Case) (history : History) (goal : ℕ) (actions : List GroundAction) (back : List ℕ) (steps : List Instance) → actions ≡ (packed_of case.task).actions → reverse back ≡ numbers_to case history goal → map Some steps ≡ map (slice_get (map (λ action. action.instance) actions)) (reverse back) → map Some steps ≡ map (slice_get (live_instances case.task)) (numbers_to case history goal)
traced_steps case history goal actions back steps same e traced =
    let listed : map (λ (action : GroundAction). action.instance) actions ≡ live_instances case.task = ap (map (λ (action : GroundAction). action.instance)) same ∙ live_actions case.task in
    traced ∙ rw (listed, e) refl
