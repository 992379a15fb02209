-- Chains of nodes, and what a change of one node leaves of them.
use Rattle.std.proofs.Common.{◌≡◌, ◌≢◌, refl, sym, ◌∙◌, ap, ℕ, zero, suc, ◌+◌, ◌-◌, ◌<◌, ◌≤◌, inl, inr, ⊎_elim, List, [], ◌∷◌, ◌++◌, length, set, arith}
use Rattle.std.proofs.lemmas.Bool.{eq-eqb, ne_eqb, lt-ltb, le-ltb, cases_lt, cases_order}
use Rattle.std.proofs.lemmas.List.{length-set, length_push, get_or-set_same, get_or-set_other, get_or_push, get_or_append_left, get_or_past}
use Rattle.mf_open.specs.declared.nodes.Node.{Node}
use Rattle.mf_open.specs.Chains.{node_at, run, states, later, once, times, past}

pub once_self : (p : ℕ) → once p p ≡ 1
unfolding once
once_self p = rw (eq-eqb p p refl)

pub once_other : (p q : ℕ) → p ≢ q → once p q ≡ 0
unfolding once
once_other p q h = rw (ne_eqb p q h)

pub once_same : (p q : ℕ) → p ≡ q → once p q ≡ 1
unfolding once
once_same p q h = rw (eq-eqb p q h)

pub once_apart : (p q : ℕ) → once p q ≡ 0 → p ≢ q
once_apart p q h e = let k = once_same p q e in absurd (omega arith)

pub past_within : (len p : ℕ) → p < len → past len p ≡ 0
unfolding past
past_within len p h = rw (lt-ltb p len h)

pub past_end : (len p : ℕ) → len ≤ p → past len p ≡ 1
unfolding past
past_end len p h = rw (le-ltb p len h)

pub past_most : (len p : ℕ) → past len p ≤ 1
past_most len p = ⊎_elim (λ h. let e = past_within len p h in omega arith) (λ h. let e = past_end len p h in omega arith) (cases_lt p len)

pub within_from_past : (len p : ℕ) → past len p ≡ 0 → p < len
within_from_past len p h = ⊎_elim (λ k. k) (λ k. let e = past_end len p k in absurd (omega arith)) (cases_lt p len)

pub past_push : (len p : ℕ) → past (len + 1) p + once p len ≡ past len p
past_push len p =
    elim (cases_order p len) [
      | inl same ↦ let a = once_same p len same in let b = past_end len p (omega arith) in let d = past_within (len + 1) p (omega arith) in omega arith
      | inr (inl below) ↦ let a = once_other p len (omega arith) in let b = past_within len p below in let d = past_within (len + 1) p (omega arith) in omega arith
      | inr (inr above) ↦ let a = once_other p len (omega arith) in let b = past_end len p (omega arith) in let d = past_end (len + 1) p (omega arith) in omega arith
    ]

-- the node at a place after a push and after a write
pub push_elsewhere : (ns : List Node) (v : Node) (p : ℕ) → p ≢ length ns → node_at (ns ++ v ∷ []) p ≡ node_at ns p
push_elsewhere ns v p h =
    elim (cases_order p (length ns)) [
      | inl same ↦ absurd (h same)
      | inr (inl below) ↦ get_or_append_left ns (v ∷ []) (record { state = 0; next = 0 }) p below
      | inr (inr above) ↦ get_or_past (ns ++ v ∷ []) p (record { state = 0; next = 0 }) (omega (arith, length_push ns v)) ∙ sym (get_or_past ns p (record { state = 0; next = 0 }) (omega arith))
    ]

pub push_here : (ns : List Node) (v : Node) → node_at (ns ++ v ∷ []) (length ns) ≡ v
push_here ns v = get_or_push ns v (record { state = 0; next = 0 }) (length ns) refl

pub set_here : (ns : List Node) (i : ℕ) (v : Node) → i < length ns → node_at (set ns i v) i ≡ v
set_here ns i v h = get_or-set_same ns i v (record { state = 0; next = 0 }) h

pub set_elsewhere : (ns : List Node) (i : ℕ) (v : Node) (p : ℕ) → p ≢ i → node_at (set ns i v) p ≡ node_at ns p
set_elsewhere ns i v p h = get_or-set_other ns i p v (record { state = 0; next = 0 }) h

-- a chain none of whose nodes changed
pub run_same : (f g : ℕ → Node) (n s : ℕ) → ((p : ℕ) → 0 < times p (run f n s) → g p ≡ f p) → run g n s ≡ run f n s
run_same f g zero s h = refl
run_same f g (suc n) s h =
    let e : g s ≡ f s = h s (let o = once_self s in omega arith) in
    ap (λ (x : Node). s ∷ run g n x.next) e ∙ ap (λ (ps : List ℕ). s ∷ ps) (run_same f g n (f s).next (λ p q. h p (omega arith)))

pub states_same : (f g : ℕ → Node) (n s : ℕ) → ((p : ℕ) → 0 < times p (run f n s) → g p ≡ f p) → states g n s ≡ states f n s
states_same f g zero s h = refl
states_same f g (suc n) s h =
    let e : g s ≡ f s = h s (let o = once_self s in omega arith) in
    ap (λ (x : Node). x.state ∷ states g n x.next) e ∙ ap (λ (ps : List ℕ). (f s).state ∷ ps) (states_same f g n (f s).next (λ p q. h p (omega arith)))

pub later_same : (f g : ℕ → Node) (n s : ℕ) → ((p : ℕ) → 0 < times p (run f (suc n) s) → g p ≡ f p) → later g n s ≡ later f n s
later_same f g zero s h = refl
later_same f g (suc n) s h =
    let e : g s ≡ f s = h s (let o = once_self s in omega arith) in
    ap (λ (x : Node). later g n x.next) e ∙ later_same f g n (f s).next (λ p q. h p (omega arith))

-- the free nodes after one was put to use
pub spare_taken : (ns : List Node) (free spare : ℕ) (v : Node) → spare ≢ 0 → ((p : ℕ) → times p (run (node_at ns) spare free) + past (length ns) p ≤ 1) → (p : ℕ) → times p (run (node_at (set ns free v)) (spare - 1) (node_at ns free).next) + past (length (set ns free v)) p + once p free ≡ times p (run (node_at ns) spare free) + past (length ns) p
spare_taken ns free zero v h apart p = absurd (h refl)
spare_taken ns free (suc k) v h apart p =
    let same : run (node_at (set ns free v)) k (node_at ns free).next ≡ run (node_at ns) k (node_at ns free).next =
    run_same (node_at ns) (node_at (set ns free v)) k (node_at ns free).next (λ q held. set_elsewhere ns free v q (λ e. let o = once_same q free e in let a = apart q in absurd (omega arith))) in
    let less : suc k - 1 ≡ k = omega arith in
    rw (less, length-set ns free v, same) (omega arith)

-- the free nodes after one was pushed and put to use
pub pushed_taken : (ns : List Node) (free spare : ℕ) (v : Node) → spare ≡ 0 → (p : ℕ) → times p (run (node_at (ns ++ v ∷ [])) spare free) + past (length (ns ++ v ∷ [])) p + once p (length ns) ≡ times p (run (node_at ns) spare free) + past (length ns) p
pushed_taken ns free zero v h p = let e = past_push (length ns) p in rw (length_push ns v) (omega arith)
pushed_taken ns free (suc k) v h p = absurd (omega arith)

-- the free nodes after a write of a node that is not free
pub free_kept : (ns : List Node) (free spare at : ℕ) (v : Node) → times at (run (node_at ns) spare free) ≡ 0 → (p : ℕ) → times p (run (node_at (set ns at v)) spare free) + past (length (set ns at v)) p ≡ times p (run (node_at ns) spare free) + past (length ns) p
free_kept ns free spare at v h p =
    let same : run (node_at (set ns at v)) spare free ≡ run (node_at ns) spare free =
    run_same (node_at ns) (node_at (set ns at v)) spare free (λ q held. set_elsewhere ns at v q (λ e. let o : times q (run (node_at ns) spare free) ≡ times at (run (node_at ns) spare free) = ap (λ (x : ℕ). times x (run (node_at ns) spare free)) e in absurd (omega arith))) in
    rw (length-set ns at v, same)

-- the free nodes after one more was let go
pub spare_given : (ns : List Node) (free spare at : ℕ) (v : Node) → at < length ns → times at (run (node_at ns) spare free) ≡ 0 → v.next ≡ free → (p : ℕ) → times p (run (node_at (set ns at v)) (spare + 1) at) + past (length (set ns at v)) p ≡ times p (run (node_at ns) spare free) + past (length ns) p + once p at
spare_given ns free spare at v within h links p =
    let kept = free_kept ns free spare at v h p in
    let next : (node_at (set ns at v) at).next ≡ free = ap (λ (x : Node). x.next) (set_here ns at v within) ∙ links in
    let more : spare + 1 ≡ suc spare = omega arith in
    rw (more, next) (omega arith)

pub free_within : (f : ℕ → Node) (spare free len : ℕ) → spare ≢ 0 → times free (run f spare free) + past len free ≤ 1 → free < len
free_within f zero free len h apart = absurd (h refl)
free_within f (suc k) free len h apart = let o = once_self free in within_from_past len free (omega arith)
