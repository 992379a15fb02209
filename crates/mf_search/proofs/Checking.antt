-- A test that tells that entries are a legal history, for histories that are written out.
use Rattle.std.proofs.Common.{◌≡◌, ℕ, zero, suc, ◌<◌, ◌≤◌, ◌⊎◌, ◌&&◌, ◌||◌, Bool, true, false, not, eqb, ltb, leb, List, [], ◌∷◌, Option, Some, None, Contains, length, refl, sym, ap, ◌∙◌, inl, inr, ⊎_elim, subst, arith}
use Rattle.std.proofs.lemmas.Bool.{false≢true, and_parts, or_cases, not-true, both_ways, eqb-true, ltb-true, leb-true, cases_lt}
use Rattle.std.proofs.lemmas.Bool.Decides.{nat_tests}
use Rattle.std.proofs.lemmas.Option.{none-some}
use Rattle.mf_search.specs.declared.entry.Entry.{Entry}
use Rattle.mf_search.specs.declared.entry.Entry.TheVariants.{Take, Done, Wide}
use Rattle.mf_search.specs.Space.{Grown, Listed, LeadsOut, Space, IsListed}
use Rattle.mf_search.specs.World.{Opened, Ending, Going, AtGoal, AtWide, World, at, begin, next, mark_rank, KeyAtMost, May, LegalFrom, Legal}
use Rattle.mf_search.specs.Rebuilt.{member}
use Rattle.mf_search.proofs.Candidates.{member_in, in_member}
use Rattle.mf_search.proofs.OneWorker.{InNumber, begin_in_number, next_in_number}

abbrev pub goes_on : Ending → Bool
goes_on Going = true
goes_on (AtGoal i) = false
goes_on (AtWide i n) = false

abbrev pub is_idle : Option ℕ → Bool
is_idle None = true
is_idle (Some i) = false

abbrev pub is_held : Option ℕ → ℕ → Bool
is_held None i = false
is_held (Some j) i = eqb j i

abbrev pub is_listed : {S : Type 0} → Grown S → Bool
is_listed (Listed cs) = true
is_listed (LeadsOut n) = false

abbrev pub is_out : {S : Type 0} → Grown S → ℕ → Bool
is_out (Listed cs) n = false
is_out (LeadsOut m) n = eqb m n

abbrev pub key_test : {S : Type 0} → Opened S → ℕ → Opened S → ℕ → Bool
key_test a i b j = ltb a.value b.value || (eqb a.value b.value && (ltb (mark_rank a.maker) (mark_rank b.maker) || (eqb (mark_rank a.maker) (mark_rank b.maker) && leb i j)))

-- Of the first n states each one that is open has no lesser key.
abbrev pub least_test : {S : Type 0} → Space S → World S → ℕ → ℕ → Bool
least_test sp w i zero = true
least_test sp w i (suc n) = (member n w.taken || key_test (at sp w.opened i) i (at sp w.opened n) n) && least_test sp w i n

abbrev pub permits : {S : Type 0} → Space S → World S → ℕ → Option ℕ → Bool
permits sp w i None = true
permits sp w i (Some j) = leb (at sp w.opened i).value (at sp w.opened j).value

-- What the first n workers have in expansion has no less value.
abbrev pub permit_test : {S : Type 0} → Space S → World S → ℕ → ℕ → Bool
permit_test sp w i zero = true
permit_test sp w i (suc n) = permits sp w i (w.busy n) && permit_test sp w i n

abbrev pub may_test : {S : Type 0} → Space S → ℕ → ℕ → World S → Entry → Bool
may_test sp budget workers w (Take worker i) = goes_on w.ending && (leb 1 worker && (leb worker workers && (is_idle (w.busy worker) && (ltb (length w.taken) budget && (ltb i (length w.opened) && (not (member i w.taken) && (least_test sp w i (length w.opened) && permit_test sp w i (suc workers))))))))
may_test sp budget workers w (Done worker i) = goes_on w.ending && (is_held (w.busy worker) i && is_listed (sp.grow (at sp w.opened i).state))
may_test sp budget workers w (Wide worker i n) = goes_on w.ending && (is_held (w.busy worker) i && is_out (sp.grow (at sp w.opened i).state) n)

abbrev pub legal_test : {S : Type 0} → Space S → ℕ → ℕ → World S → List Entry → Bool
legal_test sp budget workers w [] = true
legal_test sp budget workers w (e ∷ entries) = may_test sp budget workers w e && legal_test sp budget workers (next sp w e) entries

going_from : (e : Ending) → goes_on e ≡ true → e ≡ Going
going_from Going h = refl
going_from (AtGoal i) h = absurd (false≢true h)
going_from (AtWide i n) h = absurd (false≢true h)

idle_from : (o : Option ℕ) → is_idle o ≡ true → o ≡ None
idle_from None h = refl
idle_from (Some i) h = absurd (false≢true h)

held_from : (o : Option ℕ) (i : ℕ) → is_held o i ≡ true → o ≡ Some i
held_from None i h = absurd (false≢true h)
held_from (Some j) i h = ap (λ k. Some k) (eqb-true j i h)

listed_from : {S : Type 0} (g : Grown S) → is_listed g ≡ true → IsListed g
listed_from (Listed cs) h = tt
listed_from (LeadsOut n) h = absurd (false≢true h)

out_from : {S : Type 0} (g : Grown S) (n : ℕ) → is_out g n ≡ true → g ≡ LeadsOut n
out_from (Listed cs) n h = absurd (false≢true h)
out_from (LeadsOut m) n h = ap (λ k. LeadsOut k) (eqb-true m n h)

key_from : {S : Type 0} (a : Opened S) (i : ℕ) (b : Opened S) (j : ℕ) → key_test a i b j ≡ true → KeyAtMost a i b j
key_from a i b j h = grind (arith, nat_tests)

least_from : {S : Type 0} (sp : Space S) (w : World S) (i n : ℕ) → least_test sp w i n ≡ true → (j : ℕ) → j < n → (Contains w.taken j → ⊥) → KeyAtMost (at sp w.opened i) i (at sp w.opened j) j
least_from sp w i zero h j low out = absurd (omega arith)
least_from {S} sp w i (suc n) h j low out = go (cases_lt j n) (least_from sp w i n (and_parts (member n w.taken || key_test (at sp w.opened i) i (at sp w.opened n) n) (least_test sp w i n) h).1 j)
  where
    here : KeyAtMost (at sp w.opened i) i (at sp w.opened n) n ⊎ Contains w.taken n
    here = ⊎_elim (λ e. inr (member_in n w.taken e)) (λ e. inl (key_from (at sp w.opened i) i (at sp w.opened n) n e)) (or_cases (member n w.taken) (key_test (at sp w.opened i) i (at sp w.opened n) n) (and_parts (member n w.taken || key_test (at sp w.opened i) i (at sp w.opened n) n) (least_test sp w i n) h).0)

    go : (j < n) ⊎ (n ≤ j) → (j < n → (Contains w.taken j → ⊥) → KeyAtMost (at sp w.opened i) i (at sp w.opened j) j) → KeyAtMost (at sp w.opened i) i (at sp w.opened j) j
    go (inl l) ih = ih l out
    go (inr l) ih = let same : n ≡ j = omega arith in
        ⊎_elim (λ k. subst (λ t. KeyAtMost (at sp w.opened i) i (at sp w.opened t) t) same k) (λ k. absurd (out (subst (λ t. Contains w.taken t) same k))) here

permits_from : {S : Type 0} (sp : Space S) (w : World S) (i : ℕ) (o : Option ℕ) (j : ℕ) → permits sp w i o ≡ true → o ≡ Some j → (at sp w.opened i).value ≤ (at sp w.opened j).value
permits_from sp w i None j h e = absurd (none-some j e)
permits_from sp w i (Some k) j h e = let l = leb-true (at sp w.opened i).value (at sp w.opened k).value h in let same : k ≡ j = cc in subst (λ t. (at sp w.opened i).value ≤ (at sp w.opened t).value) same l

permit_from : {S : Type 0} (sp : Space S) (w : World S) (i n : ℕ) → permit_test sp w i n ≡ true → (v j : ℕ) → v < n → w.busy v ≡ Some j → (at sp w.opened i).value ≤ (at sp w.opened j).value
permit_from sp w i zero h v j low e = absurd (omega arith)
permit_from {S} sp w i (suc n) h v j low e = ⊎_elim
    (λ l. permit_from sp w i n both.1 v j l e)
    (λ l. let same : v ≡ n = omega arith in permits_from sp w i (w.busy n) j both.0 (sym (ap w.busy same) ∙ e))
    (cases_lt v n)
  where
    both : (permits sp w i (w.busy n) ≡ true) × (permit_test sp w i n ≡ true)
    both = and_parts (permits sp w i (w.busy n)) (permit_test sp w i n) h

may_from : {S : Type 0} (sp : Space S) (budget workers : ℕ) (w : World S) (e : Entry) → InNumber workers w → may_test sp budget workers w e ≡ true → May sp budget workers w e
may_from {S} sp budget workers w (Take worker i) all h =
    let a = and_parts (goes_on w.ending) _ h in
    let b = and_parts (leb 1 worker) _ a.1 in
    let c = and_parts (leb worker workers) _ b.1 in
    let d = and_parts (is_idle (w.busy worker)) _ c.1 in
    let e = and_parts (ltb (length w.taken) budget) _ d.1 in
    let f = and_parts (ltb i (length w.opened)) _ e.1 in
    let g = and_parts (not (member i w.taken)) _ f.1 in
    let k = and_parts (least_test sp w i (length w.opened)) (permit_test sp w i (suc workers)) g.1 in
    record {
      going = going_from w.ending a.0;
      low = leb-true 1 worker b.0;
      high = leb-true worker workers c.0;
      idle = idle_from (w.busy worker) d.0;
      in_budget = ltb-true (length w.taken) budget e.0;
      is_open = (ltb-true i (length w.opened) f.0, λ t. both_ways (member i w.taken) (not-true (member i w.taken) g.0) (in_member i w.taken t));
      least = λ j o. least_from sp w i (length w.opened) k.0 j o.0 o.1;
      permit = λ v j t. let r = all v j t in permit_from sp w i (suc workers) k.1 v j (omega arith) t;
    }
may_from {S} sp budget workers w (Done worker i) all h =
    let a = and_parts (goes_on w.ending) (is_held (w.busy worker) i && is_listed (sp.grow (at sp w.opened i).state)) h in
    let b = and_parts (is_held (w.busy worker) i) (is_listed (sp.grow (at sp w.opened i).state)) a.1 in
    record { going = going_from w.ending a.0; holds = held_from (w.busy worker) i b.0; listed = listed_from (sp.grow (at sp w.opened i).state) b.1 }
may_from {S} sp budget workers w (Wide worker i n) all h =
    let a = and_parts (goes_on w.ending) (is_held (w.busy worker) i && is_out (sp.grow (at sp w.opened i).state) n) h in
    let b = and_parts (is_held (w.busy worker) i) (is_out (sp.grow (at sp w.opened i).state) n) a.1 in
    record { going = going_from w.ending a.0; holds = held_from (w.busy worker) i b.0; leads_out = out_from (sp.grow (at sp w.opened i).state) n b.1 }

legal_from_test : {S : Type 0} (sp : Space S) (budget workers : ℕ) (w : World S) (entries : List Entry) → InNumber workers w → legal_test sp budget workers w entries ≡ true → LegalFrom sp budget workers w entries
legal_from_test sp budget workers w [] all h = tt
legal_from_test sp budget workers w (e ∷ entries) all h =
    let a = and_parts (may_test sp budget workers w e) (legal_test sp budget workers (next sp w e) entries) h in
    let may = may_from sp budget workers w e all a.0 in
    (may, legal_from_test sp budget workers (next sp w e) entries (next_in_number sp budget workers w e may all) a.1)

pub legal_from : {S : Type 0} (sp : Space S) (budget workers : ℕ) (entries : List Entry) → legal_test sp budget workers (begin sp) entries ≡ true → Legal sp budget workers entries
legal_from sp budget workers entries h = legal_from_test sp budget workers (begin sp) entries (begin_in_number sp workers) h
