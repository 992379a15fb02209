-- One worker: the taken states are themselves a greedy run, and the ended history is the only one.
use Rattle.std.proofs.Common.{◌≡◌, ℕ, ◌<◌, ◌≤◌, ◌⊎◌, Bool, true, false, eqb, List, [], ◌∷◌, Option, Some, None, Contains, length, refl, sym, ap, ap₂, ◌∙◌, inl, inr, subst, arith}
use Rattle.std.proofs.lemmas.Option.{same_Some}
use Rattle.std.proofs.lemmas.List.{map_push}
use Rattle.std.proofs.lemmas.Option.{none-some}
use Rattle.mf_search.specs.declared.entry.Entry.{Entry}
use Rattle.mf_search.specs.declared.entry.Entry.TheVariants.{Take, Done, Wide}
use Rattle.mf_search.specs.Space.{Grown, LeadsOut, Space, IsListed, Leads}
use Rattle.mf_search.specs.World.{Opened, World, at, begin, took, next, after, MayTake, May, LegalFrom, Legal, world, takes}
use Rattle.mf_search.specs.Greedy.{Follows, Greedy}
use Rattle.mf_search.specs.Rebuilt.{states_of}
use Rattle.mf_search.specs.Answers.{AllIdle, Ended}
use Rattle.mf_search.proofs.Sound.{IsStart, MadeByDone, Sound, put_some, put_none, next_grows, next_sound, begin_sound, after_grows, legal_sound}
use Rattle.mf_search.proofs.Runs.{greedy_nil, greedy_push}
use Rattle.mf_search.proofs.Rebuilding.{Within, within_itself, within_grows, AllDone, all_expanded, state_in, number_in, IsFound, found}
use Rattle.mf_search.proofs.KeyOrder.{key_value, key_antisym}
use Rattle.mf_search.proofs.Completing.{Moment}
use Rattle.mf_search.proofs.OneStep.{took_taken, taken_is}
use Rattle.mf_search.proofs.Answering.{ended_stops}

-- Only the workers from 1 to this number have a state in expansion.
abbrev pub InNumber : {S : Type 0} → ℕ → World S → Type 0
InNumber workers w = (v i : ℕ) → w.busy v ≡ Some i → (1 ≤ v) × (v ≤ workers)

pub next_in_number : {S : Type 0} (sp : Space S) (budget workers : ℕ) (w : World S) (e : Entry) → May sp budget workers w e → InNumber workers w → InNumber workers (next sp w e)
next_in_number {S} sp budget workers w (Take worker i) may all = go (eqb (at sp w.opened i).value 0)
  where
    held : (v k : ℕ) → ((v ≡ worker) × (k ≡ i)) ⊎ ((v ≡ worker → ⊥) × (w.busy v ≡ Some k)) → (1 ≤ v) × (v ≤ workers)
    held v k (inl e) = let a = may.low in let b = may.high in let c = e.0 in (omega arith, omega arith)
    held v k (inr e) = all v k e.1

    go : (b : Bool) → InNumber workers (took b w worker i)
    go true = all
    go false = λ v k h. held v k (put_some w.busy worker i v k h)
next_in_number sp budget workers w (Done worker i) may all = λ v k h. all v k (put_none w.busy worker v k h).1
next_in_number sp budget workers w (Wide worker i n) may all = all

pub after_in_number : {S : Type 0} (sp : Space S) (budget workers : ℕ) (w : World S) (entries : List Entry) → LegalFrom sp budget workers w entries → InNumber workers w → InNumber workers (after sp w entries)
after_in_number sp budget workers w [] legal all = all
after_in_number sp budget workers w (e ∷ entries) legal all = after_in_number sp budget workers (next sp w e) entries legal.1 (next_in_number sp budget workers w e legal.0 all)

pub begin_in_number : {S : Type 0} (sp : Space S) (workers : ℕ) → InNumber workers (begin sp)
begin_in_number sp workers v i h = absurd (none-some i h)

-- In each legal history only the workers from 1 to its number have a state in expansion.
pub legal_in_number : {S : Type 0} (sp : Space S) (budget workers : ℕ) (entries : List Entry) → Legal sp budget workers entries → InNumber workers (world sp entries)
legal_in_number sp budget workers entries legal = after_in_number sp budget workers (begin sp) entries legal (begin_in_number sp workers)

-- Where none of these workers has a state in expansion, nothing is.
pub all_idle : {S : Type 0} (workers : ℕ) (w : World S) → InNumber workers w → ((v : ℕ) → 1 ≤ v → v ≤ workers → w.busy v ≡ None) → AllIdle w
all_idle {S} workers w all idle v = go (w.busy v) refl
  where
    go : (held : Option ℕ) → w.busy v ≡ held → held ≡ None
    go None e = refl
    go (Some i) e = let r = all v i e in absurd (none-some i (sym (idle v r.0 r.1) ∙ e))

-- A lone worker that may take has nothing in expansion, and nobody else has.
lone_idle : {S : Type 0} (sp : Space S) (budget : ℕ) (w : World S) (worker i : ℕ) → InNumber 1 w → MayTake sp budget 1 w worker i → (v k : ℕ) → w.busy v ≡ Some k → ⊥
lone_idle {S} sp budget w worker i all may v k h =
    let r = all v k h in let a = may.low in let b = may.high in
    let same : worker ≡ v = omega arith in
    none-some k (sym may.idle ∙ ap w.busy same ∙ h)

not_both : {S : Type 0} (g : Grown S) (n : ℕ) → IsListed g → g ≡ LeadsOut n → ⊥
not_both {S} g n h e = subst (IsListed {S = S}) e h

same_out : {S : Type 0} (g : Grown S) (n m : ℕ) → g ≡ LeadsOut n → g ≡ LeadsOut m → n ≡ m
same_out g n m e f = cc

same_wide : (u i n v j m : ℕ) → u ≡ v → i ≡ j → n ≡ m → Wide u i n ≡ Wide v j m
same_wide u i n v j m a b c = cc

-- The lone worker has one state in expansion.
same_busy : {S : Type 0} (w : World S) (u i v j : ℕ) → InNumber 1 w → w.busy u ≡ Some i → w.busy v ≡ Some j → (u ≡ v) × (i ≡ j)
same_busy w u i v j all a b =
    let p = all u i a in let q = all v j b in
    let same : v ≡ u = omega arith in
    (sym same, same_Some i j (sym a ∙ ap w.busy (sym same) ∙ b))

-- With one worker one entry at most may come.
same_entry : {S : Type 0} (sp : Space S) (budget : ℕ) (w : World S) (e f : Entry) → InNumber 1 w → May sp budget 1 w e → May sp budget 1 w f → e ≡ f
same_entry {S} sp budget w (Take u i) (Take v j) all a b =
    let p = a.low in let q = a.high in let r = b.low in let s = b.high in
    ap₂ Take (omega arith) (key_antisym (at sp w.opened i) i (at sp w.opened j) j (a.least j b.is_open) (b.least i a.is_open))
same_entry sp budget w (Take u i) (Done v j) all a b = absurd (lone_idle sp budget w u i all a v j b.holds)
same_entry sp budget w (Take u i) (Wide v j n) all a b = absurd (lone_idle sp budget w u i all a v j b.holds)
same_entry sp budget w (Done u i) (Take v j) all a b = absurd (lone_idle sp budget w v j all b u i a.holds)
same_entry sp budget w (Wide u i n) (Take v j) all a b = absurd (lone_idle sp budget w v j all b u i a.holds)
same_entry sp budget w (Done u i) (Done v j) all a b = let s = same_busy w u i v j all a.holds b.holds in ap₂ Done s.0 s.1
same_entry {S} sp budget w (Done u i) (Wide v j n) all a b = let s = same_busy w u i v j all a.holds b.holds in absurd (not_both (sp.grow (at sp w.opened j).state) n (subst (λ k. IsListed (sp.grow (at sp w.opened k).state)) s.1 a.listed) b.leads_out)
same_entry {S} sp budget w (Wide u i n) (Done v j) all a b = let s = same_busy w v j u i all b.holds a.holds in absurd (not_both (sp.grow (at sp w.opened i).state) n (subst (λ k. IsListed (sp.grow (at sp w.opened k).state)) s.1 b.listed) a.leads_out)
same_entry {S} sp budget w (Wide u i n) (Wide v j m) all a b =
    let s = same_busy w u i v j all a.holds b.holds in
    same_wide u i n v j m s.0 s.1 (same_out (sp.grow (at sp w.opened j).state) n m (subst (λ k. sp.grow (at sp w.opened k).state ≡ LeadsOut n) s.1 a.leads_out) b.leads_out)

-- Two legal histories of one worker from one world, both ended, are equal.
same_from : {S : Type 0} (sp : Space S) (budget : ℕ) (w : World S) (a b : List Entry) → InNumber 1 w → LegalFrom sp budget 1 w a → LegalFrom sp budget 1 w b → Ended budget (after sp w a) → Ended budget (after sp w b) → a ≡ b
same_from sp budget w [] [] all la lb ea eb = refl
same_from sp budget w [] (f ∷ b) all la lb ea eb = absurd (ended_stops sp budget 1 w f ea lb.0)
same_from sp budget w (e ∷ a) [] all la lb ea eb = absurd (ended_stops sp budget 1 w e eb la.0)
same_from {S} sp budget w (e ∷ a) (f ∷ b) all la lb ea eb =
    let same : f ≡ e = same_entry sp budget w f e all lb.0 la.0 in
    let legal : LegalFrom sp budget 1 (next sp w e) b = subst (λ g. LegalFrom sp budget 1 (next sp w g) b) same lb.1 in
    let ended : Ended budget (after sp (next sp w e) b) = subst (λ g. Ended budget (after sp (next sp w g) b)) same eb in
    ap₂ ◌∷◌ (sym same) (same_from sp budget (next sp w e) a b (next_in_number sp budget 1 w e la.0 all) la.1 legal ea ended)

pub only_history : {S : Type 0} (sp : Space S) (budget : ℕ) (a b : List Entry) → Legal sp budget 1 a → Legal sp budget 1 b → Ended budget (world sp a) → Ended budget (world sp b) → a ≡ b
only_history sp budget a b la lb ea eb = same_from sp budget (begin sp) a b (begin_in_number sp 1) la lb ea eb

-- The state that a lone worker may take follows the ones that it took.
lone_follows : {S : Type 0} (sp : Space S) (budget : ℕ) (w : World S) (worker i : ℕ) (os : List (Opened S)) → Moment sp budget 1 w worker i os → AllDone sp w w.taken → Follows sp (states_of sp os w.taken) (at sp os i).state (at sp os i).value
lone_follows {S} sp budget w worker i os now done = record {
  is_open = record { reached = reached (now.sound.made i now.may.is_open.0); valued = now.within.valued i low; fresh = λ h. now.may.is_open.1 (number_in sp w os w.taken i now.sound now.within done low h) };
  least = λ y u o. least u (found sp w os w.taken y u now.sound now.within done o);
}
  where
    same : at sp os i ≡ at sp w.opened i
    same = now.within.extends.same i now.may.is_open.0

    low : i < length os
    low = let a = now.may.is_open.0 in let b = now.within.extends.longer in omega arith

    reached : IsStart sp w.opened i ⊎ MadeByDone sp w i → ((at sp os i).state ≡ sp.start) ⊎ ((x : S) × Contains (states_of sp os w.taken) x × Leads sp x (at sp os i).state)
    reached (inl start) = inl (ap (λ (o : Opened S). o.state) same ∙ start.state_is)
    reached (inr made) =
        let same_parent = now.within.extends.same made.parent (now.sound.in_range made.parent made.done.taken) in
        let leads : Leads sp (at sp os made.parent).state (at sp os i).state = rw (same_parent, same) (made.entry.child, made.entry.stands, made.entry.state_is) in
        inr ((at sp os made.parent).state, state_in sp os w.taken made.parent made.done.taken, leads)

    least : {y : S} (u : ℕ) → IsFound sp w os w.taken y u → (at sp os i).value ≤ u
    least u f =
        let key = key_value (at sp w.opened i) i (at sp w.opened f.number) f.number (now.may.least f.number (f.opened, f.outside)) in
        let here : (at sp os i).value ≤ (at sp os f.number).value = rw (same, now.within.extends.same f.number f.opened) key in
        let e = f.value_is in omega arith

lone_greedy : {S : Type 0} (sp : Space S) (budget : ℕ) (w : World S) (e : Entry) (os : List (Opened S)) → Sound sp w → InNumber 1 w → May sp budget 1 w e → Within sp w os → Greedy sp (states_of sp os w.taken) → Greedy sp (states_of sp os (next sp w e).taken)
lone_greedy {S} sp budget w (Take worker i) os s all may within greedy =
    rw (took_taken (eqb (at sp w.opened i).value 0) w worker i, map_push (λ k. (at sp os k).state) w.taken i)
    (greedy_push sp (states_of sp os w.taken) (at sp os i).state (at sp os i).value greedy (all_expanded sp w os w.taken s within done) (lone_follows sp budget w worker i os (record { sound = s; within = within; may = may }) done))
  where
    done : AllDone sp w w.taken
    done k h = record { taken = h; at_rest = λ v b. lone_idle sp budget w worker i all may v k b; no_goal = s.no_goal may.going k h }
lone_greedy sp budget w (Done worker i) os s all may within greedy = greedy
lone_greedy sp budget w (Wide worker i n) os s all may within greedy = greedy

lone_after : {S : Type 0} (sp : Space S) (budget : ℕ) (w : World S) (entries : List Entry) (os : List (Opened S)) → Sound sp w → InNumber 1 w → LegalFrom sp budget 1 w entries → Within sp (after sp w entries) os → Greedy sp (states_of sp os w.taken) → Greedy sp (states_of sp os (after sp w entries).taken)
lone_after sp budget w [] os s all legal within greedy = greedy
lone_after sp budget w (e ∷ entries) os s all legal within greedy =
    let z = next_sound sp budget 1 w e s legal.0 in
    let rest = within_grows sp (next sp w e) (after sp (next sp w e) entries) os (after_grows sp budget 1 (next sp w e) entries z legal.1) within in
    lone_after sp budget (next sp w e) entries os z (next_in_number sp budget 1 w e legal.0 all) legal.1 within
    (lone_greedy sp budget w e os s all legal.0 (within_grows sp w (next sp w e) os (next_grows sp budget 1 w e s legal.0) rest) greedy)

pub takes_are_greedy : {S : Type 0} (sp : Space S) (budget : ℕ) (entries : List Entry) → Legal sp budget 1 entries → Greedy sp (states_of sp (world sp entries).opened (takes entries))
takes_are_greedy {S} sp budget entries legal =
    let s = legal_sound sp budget 1 entries legal in
    subst (λ ts. Greedy sp (states_of sp (world sp entries).opened ts)) (taken_is sp entries)
    (lone_after sp budget (begin sp) entries (world sp entries).opened (begin_sound sp) (begin_in_number sp 1) legal (within_itself sp (world sp entries) s) (greedy_nil sp))
