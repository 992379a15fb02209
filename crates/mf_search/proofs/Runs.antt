-- Greedy runs over states: one more member, and where a run begins.
use Rattle.std.proofs.Common.{◌≡◌, ℕ, ◌<◌, ◌≤◌, ◌⊎◌, ◌++◌, List, [], ◌∷◌, Contains, length, get_or, take, inl, inr, subst, arith}
use Rattle.std.proofs.lemmas.Bool.{cases_lt}
use Rattle.std.proofs.lemmas.List.{length_push, get_or_push, get_or_append_left, take-append-le, take_at}
use Rattle.mf_search.specs.Space.{Space, Leads}
use Rattle.mf_search.specs.Greedy.{Follows, AllExpanded, Greedy}
use Rattle.mf_search.proofs.Members.{not_in_nil, in_first}

pub greedy_nil : {S : Type 0} (sp : Space S) → Greedy sp []
greedy_nil sp k h = absurd (omega arith)

pub greedy_push : {S : Type 0} (sp : Space S) (run : List S) (x : S) (u : ℕ) → Greedy sp run → AllExpanded sp run → Follows sp run x u → Greedy sp (run ++ x ∷ [])
greedy_push {S} sp run x u greedy expanded follows k h = go (cases_lt k (length run))
  where
    go : (k < length run) ⊎ (length run ≤ k) → ((t : ℕ) × Follows sp (take k (run ++ x ∷ [])) (get_or (run ++ x ∷ []) k sp.start) t) × AllExpanded sp (take k (run ++ x ∷ []))
    go (inl l) = let low : k ≤ length run = omega arith in rw (take-append-le k run (x ∷ []) low, get_or_append_left run (x ∷ []) sp.start k l) (greedy k l)
    go (inr l) = let size = length_push run x in let e : length run ≡ k = omega arith in rw (take_at run (x ∷ []) k e, get_or_push run x sp.start k e) ((u, follows), expanded)

-- A run that has a member has the start.
pub starts : {S : Type 0} (sp : Space S) (run : List S) (x : S) → Greedy sp run → Contains run x → Contains run sp.start
starts sp [] x greedy h = absurd (not_in_nil x h)
starts {S} sp (y ∷ ys) x greedy h = go (greedy 0 (omega arith)).0.1.is_open.reached
  where
    go : (y ≡ sp.start) ⊎ ((z : S) × Contains [] z × Leads sp z y) → Contains (y ∷ ys) sp.start
    go (inl e) = subst (λ t. Contains (y ∷ ys) t) e (in_first y ys)
    go (inr r) = absurd (not_in_nil r.0 r.1)
