-- Each take of a legal history has a rebuilt run that is greedy and ends with the taken state: by the entries in order.
use Rattle.std.proofs.Common.{◌≡◌, ℕ, zero, suc, ◌<◌, ◌⊎◌, ◌++◌, eqb, List, [], ◌∷◌, Contains, length, refl, sym, ap, ◌∙◌, inl, inr, ⊎_elim, subst, arith}
use Rattle.std.proofs.lemmas.List.{map_push}
use Rattle.std.proofs.lemmas.List.Elements.{Contains-push, Contains-push_cases}
use Rattle.mf_search.specs.declared.entry.Entry.{Entry}
use Rattle.mf_search.specs.declared.entry.Entry.TheVariants.{Take, Done, Wide}
use Rattle.mf_search.specs.declared.maker.Maker.TheVariants.{Start, Step}
use Rattle.mf_search.specs.Space.{Space, Leads}
use Rattle.mf_search.specs.World.{Opened, World, at, begin, next, after, May, LegalFrom, Legal, world}
use Rattle.mf_search.specs.Greedy.{Follows, IsGreedyRunTo}
use Rattle.mf_search.specs.Rebuilt.{completed, parent_of, with_parent, run_before, rebuilt, states_of}
use Rattle.mf_search.proofs.Members.{not_in_nil}
use Rattle.mf_search.proofs.Sound.{IsStart, MadeByDone, Sound, Grows, next_grows, next_sound, begin_sound, after_grows, legal_sound}
use Rattle.mf_search.proofs.Candidates.{free_le}
use Rattle.mf_search.proofs.Runs.{greedy_nil, greedy_push}
use Rattle.mf_search.proofs.OneStep.{took_taken}
use Rattle.mf_search.proofs.Rebuilding.{Within, within_itself, within_grows, all_expanded}
use Rattle.mf_search.proofs.Completing.{IsRun, IsChildIn, Moment, push_run, completing, taken_follows}

-- The run is a greedy run of done states, and the state of number i may follow it.
pub record LeadsUpTo {S : Type 0} (sp : Space S) (w : World S) (os : List (Opened S)) (run : List ℕ) (i : ℕ) : Type 0 where
  pub is_run : IsRun sp w os run
  pub follows : Follows sp (states_of sp os run) (at sp os i).state (at sp os i).value

-- The rebuilt run before i does so, with any fuel that is enough.
abbrev pub HasRun : {S : Type 0} → Space S → World S → List (Opened S) → ℕ → Type 0
HasRun sp w os i = (fuel : ℕ) → i < fuel → LeadsUpTo sp w os (run_before sp os fuel i) i

abbrev pub AllHaveRuns : {S : Type 0} → Space S → World S → List (Opened S) → Type 0
AllHaveRuns sp w os = (i : ℕ) → Contains w.taken i → HasRun sp w os i

run_stays : {S : Type 0} (sp : Space S) (w z : World S) (os : List (Opened S)) (i : ℕ) → Grows sp w z → HasRun sp w os i → HasRun sp z os i
run_stays sp w z os i g h fuel low = let r = h fuel low in record { is_run = record { done = λ k in_run. g.done k (r.is_run.done k in_run); greedy = r.is_run.greedy }; follows = r.follows }

completes : {S : Type 0} (sp : Space S) (budget workers : ℕ) (w : World S) (worker i : ℕ) (os : List (Opened S)) → Moment sp budget workers w worker i os → (run : List ℕ) → IsRun sp w os run → IsStart sp os i ⊎ IsChildIn sp os run i → LeadsUpTo sp w os (completed sp os (at sp os i).value (length os) run) i
completes sp budget workers w worker i os now run r from =
    let full = completing sp budget workers w worker i os now (length os) run r (free_le run (length os)) in
    record { is_run = full.is_run; follows = taken_follows sp budget workers w worker i os now run (completed sp os (at sp os i).value (length os) run) full from }

take_has_run : {S : Type 0} (sp : Space S) (budget workers : ℕ) (w : World S) (worker i : ℕ) (os : List (Opened S)) → Moment sp budget workers w worker i os → AllHaveRuns sp w os → HasRun sp w os i
take_has_run sp budget workers w worker i os now all zero low = absurd (omega arith)
take_has_run {S} sp budget workers w worker i os now all (suc fuel) low = go (now.sound.made i now.may.is_open.0)
  where
    same : at sp os i ≡ at sp w.opened i
    same = now.within.extends.same i now.may.is_open.0

    go : IsStart sp w.opened i ⊎ MadeByDone sp w i → LeadsUpTo sp w os (completed sp os (at sp os i).value (length os) (with_parent (run_before sp os fuel) (parent_of (at sp os i).maker))) i
    go (inl start) =
        let maker : (at sp os i).maker ≡ Start = ap (λ (o : Opened S). o.maker) same ∙ start.maker_is in
        let state : (at sp os i).state ≡ sp.start = ap (λ (o : Opened S). o.state) same ∙ start.state_is in
        subst (λ m. LeadsUpTo sp w os (completed sp os (at sp os i).value (length os) (with_parent (run_before sp os fuel) (parent_of m))) i) (sym maker)
        (completes sp budget workers w worker i os now [] (record { done = λ k h. absurd (not_in_nil k h); greedy = greedy_nil sp }) (inl (record { maker_is = maker; state_is = state })))
    go (inr made) =
        let maker : (at sp os i).maker ≡ Step made.parent made.entry.child.instance made.entry.child.helpful = ap (λ (o : Opened S). o.maker) same ∙ made.entry.maker_is in
        let before = all made.parent made.done.taken fuel (let a = made.lower in omega arith) in
        let same_parent = now.within.extends.same made.parent (now.sound.in_range made.parent made.done.taken) in
        let leads : Leads sp (at sp os made.parent).state (at sp os i).state = rw (same_parent, same) (made.entry.child, made.entry.stands, made.entry.state_is) in
        subst (λ m. LeadsUpTo sp w os (completed sp os (at sp os i).value (length os) (with_parent (run_before sp os fuel) (parent_of m))) i) (sym maker)
        (completes sp budget workers w worker i os now (run_before sp os fuel made.parent ++ made.parent ∷ [])
        (push_run sp w os (run_before sp os fuel made.parent) made.parent now.sound now.within before.is_run made.done before.follows)
        (inr (record { parent = made.parent; in_run = Contains-push (run_before sp os fuel made.parent) made.parent; leads = leads })))

next_have_runs : {S : Type 0} (sp : Space S) (budget workers : ℕ) (w : World S) (e : Entry) (os : List (Opened S)) → Sound sp w → May sp budget workers w e → Within sp w os → AllHaveRuns sp w os → AllHaveRuns sp (next sp w e) os
next_have_runs {S} sp budget workers w (Take worker i) os s may within all k h =
    run_stays sp w (next sp w (Take worker i)) os k (next_grows sp budget workers w (Take worker i) s may)
    (⊎_elim (all k) (λ (e : i ≡ k). subst (HasRun sp w os) e (take_has_run sp budget workers w worker i os (record { sound = s; within = within; may = may }) all))
    (Contains-push_cases w.taken i k (subst (λ ts. Contains ts k) (took_taken (eqb (at sp w.opened i).value 0) w worker i) h)))
next_have_runs sp budget workers w (Done worker i) os s may within all k h = run_stays sp w (next sp w (Done worker i)) os k (next_grows sp budget workers w (Done worker i) s may) (all k h)
next_have_runs sp budget workers w (Wide worker i n) os s may within all k h = run_stays sp w (next sp w (Wide worker i n)) os k (next_grows sp budget workers w (Wide worker i n) s may) (all k h)

pub after_have_runs : {S : Type 0} (sp : Space S) (budget workers : ℕ) (w : World S) (entries : List Entry) (os : List (Opened S)) → Sound sp w → LegalFrom sp budget workers w entries → Within sp (after sp w entries) os → AllHaveRuns sp w os → AllHaveRuns sp (after sp w entries) os
after_have_runs sp budget workers w [] os s legal within all = all
after_have_runs sp budget workers w (e ∷ entries) os s legal within all =
    let z = next_sound sp budget workers w e s legal.0 in
    let rest = within_grows sp (next sp w e) (after sp (next sp w e) entries) os (after_grows sp budget workers (next sp w e) entries z legal.1) within in
    after_have_runs sp budget workers (next sp w e) entries os z legal.1 within
    (next_have_runs sp budget workers w e os s legal.0 (within_grows sp w (next sp w e) os (next_grows sp budget workers w e s legal.0) rest) all)

-- The law of the rebuilt run.
pub greedy_run_to_take : {S : Type 0} (sp : Space S) (budget workers : ℕ) (entries : List Entry) → Legal sp budget workers entries → (i : ℕ) → Contains (world sp entries).taken i → IsGreedyRunTo sp (states_of sp (world sp entries).opened (rebuilt sp (world sp entries).opened i)) (at sp (world sp entries).opened i).state
greedy_run_to_take {S} sp budget workers entries legal i taken = run_to (all i taken (length os) (s.in_range i taken))
  where
    w : World S
    w = world sp entries

    os : List (Opened S)
    os = w.opened

    s : Sound sp w
    s = legal_sound sp budget workers entries legal

    all : AllHaveRuns sp w os
    all = after_have_runs sp budget workers (begin sp) entries os (begin_sound sp) legal (within_itself sp w s) (λ k h. absurd (not_in_nil k h))

    run_to : LeadsUpTo sp w os (run_before sp os (length os) i) i → IsGreedyRunTo sp (states_of sp os (rebuilt sp os i)) (at sp os i).state
    run_to r = rw (map_push (λ k. (at sp os k).state) (run_before sp os (length os) i) i) (record {
      greedy = greedy_push sp (states_of sp os (run_before sp os (length os) i)) (at sp os i).state (at sp os i).value r.is_run.greedy (all_expanded sp w os (run_before sp os (length os) i) s (within_itself sp w s) r.is_run.done) r.follows;
      ends_with = (states_of sp os (run_before sp os (length os) i), refl);
    })
