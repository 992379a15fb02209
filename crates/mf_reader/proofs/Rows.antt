-- Faults between two places, and parts in a row.
use Rattle.std.proofs.Common.{ℕ, ◌+◌, ◌<◌, ◌≤◌, List, [], ◌∷◌, ◌++◌, arith}
use Rattle.std.specs.List.{AllByRecursion}
use Rattle.mf_reader.specs.declared.fault.FormFault.{FormFault}
use Rattle.mf_reader.specs.Faces.{span_of}
use Rattle.mf_reader.specs.Order.{start_of, AreInOrder}
use Rattle.mf_reader.specs.Places.{Seen}
use Rattle.mf_reader.specs.Said.{Said, each}

-- the faults stand one behind the other, from a place up to another
abbrev pub Within : ℕ → List FormFault → ℕ → Type 0
Within from [] to = from ≤ to
Within from (f ∷ fs) to = (from ≤ start_of f) × (start_of f < to) × Within (start_of f + 1) fs to

pub order_of : (from : ℕ) (fs : List FormFault) (to : ℕ) → Within from fs to → from ≤ to
order_of from [] to h = h
order_of from (f ∷ fs) to h = let a = h.0 in let b = h.1 in omega arith

pub wider : (from less : ℕ) (fs : List FormFault) (to more : ℕ) → less ≤ from → to ≤ more → Within from fs to → Within less fs more
wider from less [] to more below above h = omega arith
wider from less (f ∷ fs) to more below above h =
    let a = h.0 in let b = h.1 in
    (omega arith, omega arith, wider (start_of f + 1) (start_of f + 1) fs to more (omega arith) above h.2)

pub joined : (from : ℕ) (fs : List FormFault) (middle : ℕ) (gs : List FormFault) (to : ℕ) → Within from fs middle → Within middle gs to → Within from (fs ++ gs) to
joined from [] middle gs to h k = wider middle from gs to to h (omega arith) k
joined from (f ∷ fs) middle gs to h k =
    let a = h.0 in let b = h.1 in let c = order_of middle gs to k in
    (a, omega arith, joined (start_of f + 1) fs middle gs to h.2 k)

pub single : (from : ℕ) (f : FormFault) (to : ℕ) → from ≤ start_of f → start_of f < to → Within from (f ∷ []) to
single from f to a b = (a, b, omega arith)

behind_all : (place from : ℕ) (fs : List FormFault) (to : ℕ) → place < from → Within from fs to → AllByRecursion (λ later. place < start_of later) fs
behind_all place from [] to below h = tt
behind_all place from (f ∷ fs) to below h =
    let a = h.0 in (omega arith, behind_all place (start_of f + 1) fs to (omega arith) h.2)

pub in_order : (from : ℕ) (fs : List FormFault) (to : ℕ) → Within from fs to → AreInOrder fs
in_order from [] to h = tt
in_order from (f ∷ fs) to h = (behind_all (start_of f) (start_of f + 1) fs to (omega arith) h.2, in_order (start_of f + 1) fs to h.2)

-- What is said of a tree between two places

pub record Ordered (s : Seen) (from to : ℕ) : Type 0 where
  pub first : from ≤ (span_of s.face).start
  pub some : (span_of s.face).start < to
  pub types : Within from s.types.faults to
  pub parent : Within from s.parent.faults to
  pub variables : Within from s.variables.faults to
  pub atom : Within from s.atom.faults to
  pub call : Within from s.call.faults to
  pub expr : Within from s.expr.faults to
  pub metric : Within from s.metric.faults to
  pub cond : Within from s.cond.faults to
  pub effect : Within from s.effect.faults to
  pub inner : Within from s.inner.faults to

abbrev pub Row : ℕ → List Seen → ℕ → Type 0
Row from [] to = from ≤ to
Row from (s ∷ ss) to = (begin : ℕ) × (end : ℕ) × (from ≤ begin) × Ordered s begin end × Row end ss to

pub row_wider : (from less : ℕ) (ss : List Seen) (to more : ℕ) → less ≤ from → to ≤ more → Row from ss to → Row less ss more
row_wider from less [] to more below above h = omega arith
row_wider from less (s ∷ ss) to more below above h =
    let a = h.2 in (h.0, h.1, omega arith, h.3, row_wider h.1 h.1 ss to more (omega arith) above h.4)

pub row_tail : (from : ℕ) (s : Seen) (ss : List Seen) (to : ℕ) → Row from (s ∷ ss) to → Row from ss to
row_tail from s ss to h =
    let a = h.2 in let o = h.3 in let first = o.first in let some = o.some in
    row_wider h.1 from ss to to (omega arith) (omega arith) h.4

-- what is said of a tree stands within it
abbrev pub Keeps : (Seen → List FormFault) → Type 0
Keeps f = (s : Seen) (from to : ℕ) → Ordered s from to → Within from (f s) to

pub one_within : (f : Seen → List FormFault) → Keeps f → (from : ℕ) (s : Seen) (to : ℕ) → Row from (s ∷ []) to → Within from (f s) to
one_within f keeps from s to h =
    let a = h.2 in let b = h.4 in wider h.0 from (f s) h.1 to (omega arith) (omega arith) (keeps s h.0 h.1 h.3)

pub two_within : (f g : Seen → List FormFault) → Keeps f → Keeps g → (from : ℕ) (s t : Seen) (to : ℕ) → Row from (s ∷ t ∷ []) to → Within from (f s ++ g t) to
two_within f g kf kg from s t to h =
    let a = h.2 in
    joined from (f s) h.1 (g t) to (wider h.0 from (f s) h.1 h.1 (omega arith) (omega arith) (kf s h.0 h.1 h.3)) (one_within g kg h.1 t to h.4)

pub each_within : {A : Type 0} (f : Seen → Said A) → Keeps (λ s. (f s).faults) → (from : ℕ) (ss : List Seen) (to : ℕ) → Row from ss to → Within from (each f ss).faults to
each_within f keeps from [] to h = h
each_within f keeps from (s ∷ ss) to h =
    let a = h.2 in
    joined from (f s).faults h.1 (each f ss).faults to (wider h.0 from (f s).faults h.1 h.1 (omega arith) (omega arith) (keeps s h.0 h.1 h.3)) (each_within f keeps h.1 ss to h.4)
