-- Histories and worlds one entry at a time, and opened states one child at a time.
use Rattle.std.proofs.Common.{◌≡◌, ◌≢◌, ℕ, ◌≤◌, ◌++◌, Bool, true, false, eqb, List, [], ◌∷◌, Some, None, length, refl, sym, ap, ◌∙◌, subst, arith, append_assoc, append-nil}
use Rattle.std.proofs.lemmas.List.{length_push}
use Rattle.std.proofs.lemmas.Bool.{eq-eqb, ne_eqb, false_from_ne_true}
use Rattle.mf_search.specs.declared.entry.Entry.{Entry}
use Rattle.mf_search.specs.declared.entry.Entry.TheVariants.{Take, Done, Wide}
use Rattle.mf_search.specs.declared.maker.Maker.TheVariants.{Step}
use Rattle.mf_search.specs.Space.{Child, Space, children_of}
use Rattle.mf_search.specs.World.{Opened, AtGoal, World, WasOpened, at, known, pushed, open_child, open_all, put, took, next, after, May, LegalFrom, Legal, begin, world, takes}
use Rattle.mf_search.proofs.Opening.{Extends, extends_refl, extends_trans, opens_all, known_opened, opened_known}

-- The world after one list of entries and then another.
pub after_append : {S : Type 0} (sp : Space S) (w : World S) (front rest : List Entry) → after sp w (front ++ rest) ≡ after sp (after sp w front) rest
after_append sp w [] rest = refl
after_append sp w (e ∷ front) rest = after_append sp (next sp w e) front rest

pub legal_append : {S : Type 0} (sp : Space S) (budget workers : ℕ) (w : World S) (front rest : List Entry) → LegalFrom sp budget workers w front → LegalFrom sp budget workers (after sp w front) rest → LegalFrom sp budget workers w (front ++ rest)
legal_append sp budget workers w [] rest a b = b
legal_append sp budget workers w (e ∷ front) rest a b = (a.0, legal_append sp budget workers (next sp w e) front rest a.1 b)

pub legal_parts : {S : Type 0} (sp : Space S) (budget workers : ℕ) (w : World S) (front rest : List Entry) → LegalFrom sp budget workers w (front ++ rest) → LegalFrom sp budget workers w front × LegalFrom sp budget workers (after sp w front) rest
legal_parts sp budget workers w [] rest h = (tt, h)
legal_parts sp budget workers w (e ∷ front) rest h = let r = legal_parts sp budget workers (next sp w e) front rest h.1 in ((h.0, r.0), r.1)

-- A history one entry longer is legal exactly where the entry may come after it.
pub legal_push : {S : Type 0} (sp : Space S) (budget workers : ℕ) (entries : List Entry) (e : Entry) → Legal sp budget workers entries → May sp budget workers (world sp entries) e → Legal sp budget workers (entries ++ e ∷ [])
legal_push sp budget workers entries e legal may = legal_append sp budget workers (begin sp) entries (e ∷ []) legal (may, tt)

pub legal_last : {S : Type 0} (sp : Space S) (budget workers : ℕ) (entries : List Entry) (e : Entry) → Legal sp budget workers (entries ++ e ∷ []) → Legal sp budget workers entries × May sp budget workers (world sp entries) e
legal_last sp budget workers entries e legal = let r = legal_parts sp budget workers (begin sp) entries (e ∷ []) legal in (r.0, r.1.0)

pub world_push : {S : Type 0} (sp : Space S) (entries : List Entry) (e : Entry) → world sp (entries ++ e ∷ []) ≡ next sp (world sp entries) e
world_push sp entries e = after_append sp (begin sp) entries (e ∷ [])

-- A front of a legal history is legal.
pub legal_front : {S : Type 0} (sp : Space S) (budget workers : ℕ) (front rest : List Entry) → Legal sp budget workers (front ++ rest) → Legal sp budget workers front
legal_front sp budget workers front rest legal = (legal_parts sp budget workers (begin sp) front rest legal).0

-- The world after each kind of entry.
pub next_goal : {S : Type 0} (sp : Space S) (w : World S) (worker i : ℕ) → (at sp w.opened i).value ≡ 0 → next sp w (Take worker i) ≡ record w { taken = w.taken ++ i ∷ []; ending = AtGoal i }
next_goal {S} sp w worker i e = ap (λ b. took b w worker i) (eq-eqb (at sp w.opened i).value 0 e)

pub next_take : {S : Type 0} (sp : Space S) (w : World S) (worker i : ℕ) → (at sp w.opened i).value ≢ 0 → next sp w (Take worker i) ≡ record w { taken = w.taken ++ i ∷ []; busy = put w.busy worker (Some i) }
next_take {S} sp w worker i e = ap (λ b. took b w worker i) (ne_eqb (at sp w.opened i).value 0 e)

-- The taken numbers are those of the entries `Take`, in order.
pub took_taken : {S : Type 0} (b : Bool) (w : World S) (worker i : ℕ) → (took b w worker i).taken ≡ w.taken ++ i ∷ []
took_taken true w worker i = refl
took_taken false w worker i = refl

-- A take opens nothing.
took_opened : {S : Type 0} (b : Bool) (w : World S) (worker i : ℕ) → (took b w worker i).opened ≡ w.opened
took_opened true w worker i = refl
took_opened false w worker i = refl

pub take_opens_nothing : {S : Type 0} (sp : Space S) (w : World S) (worker i : ℕ) → (next sp w (Take worker i)).opened ≡ w.opened
take_opens_nothing sp w worker i = took_opened (eqb (at sp w.opened i).value 0) w worker i

pub take_taken : {S : Type 0} (sp : Space S) (w : World S) (worker i : ℕ) → (next sp w (Take worker i)).taken ≡ w.taken ++ i ∷ []
take_taken sp w worker i = took_taken (eqb (at sp w.opened i).value 0) w worker i

-- What was opened keeps its number.
pub next_extends : {S : Type 0} (sp : Space S) (w : World S) (e : Entry) → Extends sp w.opened (next sp w e).opened
next_extends {S} sp w (Take worker i) = subst (Extends sp w.opened) (sym (take_opens_nothing sp w worker i)) (extends_refl sp w.opened)
next_extends sp w (Done worker i) = (opens_all sp i (children_of (sp.grow (at sp w.opened i).state)) w.opened).extends
next_extends sp w (Wide worker i n) = extends_refl sp w.opened

pub after_extends : {S : Type 0} (sp : Space S) (w : World S) (entries : List Entry) → Extends sp w.opened (after sp w entries).opened
after_extends sp w [] = extends_refl sp w.opened
after_extends sp w (e ∷ entries) = extends_trans sp w.opened (next sp w e).opened (after sp (next sp w e) entries).opened (next_extends sp w e) (after_extends sp (next sp w e) entries)

pub world_extends : {S : Type 0} (sp : Space S) (front rest : List Entry) → Extends sp (world sp front).opened (world sp (front ++ rest)).opened
world_extends {S} sp front rest = subst (λ (w : World S). Extends sp (world sp front).opened w.opened) (sym (after_append sp (begin sp) front rest)) (after_extends sp (world sp front) rest)

pub after_taken : {S : Type 0} (sp : Space S) (w : World S) (entries : List Entry) → (after sp w entries).taken ≡ w.taken ++ takes entries
after_taken sp w [] = sym (append-nil w.taken)
after_taken {S} sp w (Take worker i ∷ entries) = after_taken sp (next sp w (Take worker i)) entries ∙ ap (λ ts. ts ++ takes entries) (took_taken (eqb (at sp w.opened i).value 0) w worker i) ∙ append_assoc w.taken (i ∷ []) (takes entries)
after_taken sp w (Done worker i ∷ entries) = after_taken sp (next sp w (Done worker i)) entries
after_taken sp w (Wide worker i n ∷ entries) = after_taken sp (next sp w (Wide worker i n)) entries

pub taken_is : {S : Type 0} (sp : Space S) (entries : List Entry) → (world sp entries).taken ≡ takes entries
taken_is sp entries = after_taken sp (begin sp) entries

-- One more child of a successor list: skipped where it was opened before or its value is infinite, else pushed.
pub open_more : {S : Type 0} (sp : Space S) (p : ℕ) (cs : List (Child S)) (c : Child S) (os : List (Opened S)) → open_all sp p (cs ++ c ∷ []) os ≡ open_child sp p c (open_all sp p cs os)
open_more sp p [] c os = refl
open_more sp p (d ∷ cs) c os = open_more sp p cs c (open_child sp p d os)

pub child_known : {S : Type 0} (sp : Space S) (p : ℕ) (c : Child S) (os : List (Opened S)) → WasOpened sp os c.state → open_child sp p c os ≡ os
child_known sp p c os w = ap (λ b. pushed b (sp.value c.state) p c os) (opened_known sp os c.state w)

pub child_infinite : {S : Type 0} (sp : Space S) (p : ℕ) (c : Child S) (os : List (Opened S)) → sp.value c.state ≡ None → open_child sp p c os ≡ os
child_infinite {S} sp p c os e = ap (λ v. pushed (known sp os c.state) v p c os) e ∙ go (known sp os c.state)
  where
    go : (b : Bool) → pushed b None p c os ≡ os
    go true = refl
    go false = refl

pub child_new : {S : Type 0} (sp : Space S) (p : ℕ) (c : Child S) (os : List (Opened S)) (v : ℕ) → (WasOpened sp os c.state → ⊥) → sp.value c.state ≡ Some v → open_child sp p c os ≡ os ++ record { state = c.state; value = v; maker = Step p c.instance c.helpful } ∷ []
child_new sp p c os v new e = ap (λ u. pushed (known sp os c.state) u p c os) e ∙ ap (λ b. pushed b (Some v) p c os) (false_from_ne_true (known sp os c.state) (λ k. new (known_opened sp os c.state k)))

-- What is legal for few workers is legal for more.
pub may_more : {S : Type 0} (sp : Space S) (budget few more : ℕ) (w : World S) (e : Entry) → few ≤ more → May sp budget few w e → May sp budget more w e
may_more sp budget few more w (Take worker i) h may = record { going = may.going; low = may.low; high = (let a = may.high in omega arith); idle = may.idle; in_budget = may.in_budget; is_open = may.is_open; least = may.least; permit = may.permit }
may_more sp budget few more w (Done worker i) h may = may
may_more sp budget few more w (Wide worker i n) h may = may

pub legal_more : {S : Type 0} (sp : Space S) (budget few more : ℕ) (w : World S) (entries : List Entry) → few ≤ more → LegalFrom sp budget few w entries → LegalFrom sp budget more w entries
legal_more sp budget few more w [] h legal = tt
legal_more sp budget few more w (e ∷ entries) h legal = (may_more sp budget few more w e h legal.0, legal_more sp budget few more (next sp w e) entries h legal.1)

-- As many states are taken as the budget allows, at most.
took_fits : {S : Type 0} (sp : Space S) (budget workers : ℕ) (w : World S) (e : Entry) → May sp budget workers w e → length w.taken ≤ budget → length (next sp w e).taken ≤ budget
took_fits {S} sp budget workers w (Take worker i) may h = rw (took_taken (eqb (at sp w.opened i).value 0) w worker i) (let a = may.in_budget in let b = length_push w.taken i in omega arith)
took_fits sp budget workers w (Done worker i) may h = h
took_fits sp budget workers w (Wide worker i n) may h = h

after_fits : {S : Type 0} (sp : Space S) (budget workers : ℕ) (w : World S) (entries : List Entry) → LegalFrom sp budget workers w entries → length w.taken ≤ budget → length (after sp w entries).taken ≤ budget
after_fits sp budget workers w [] legal h = h
after_fits sp budget workers w (e ∷ entries) legal h = after_fits sp budget workers (next sp w e) entries legal.1 (took_fits sp budget workers w e legal.0 h)

pub legal_in_budget : {S : Type 0} (sp : Space S) (budget workers : ℕ) (entries : List Entry) → Legal sp budget workers entries → length (world sp entries).taken ≤ budget
legal_in_budget sp budget workers entries legal = after_fits sp budget workers (begin sp) entries legal (omega arith)
