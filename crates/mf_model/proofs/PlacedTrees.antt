-- What the definition of trees whose spans are nested and in a row gives one layer down.
use Rattle.std.proofs.Common.{◌≡◌, ℕ, ◌+◌, ◌-◌, ◌<◌, ◌≤◌, List, [], ◌∷◌, map, refl}
use Rattle.mf_model.specs.declared.tree.Tree.{Tree, roll-Tree, map-Tree}
use Rattle.mf_model.specs.declared.tree.Tree.TheOpen.{Tree-F}
use Rattle.mf_model.specs.declared.tree.Tree.TheFolds.{rec-roll-Tree}
use Rattle.mf_model.specs.Trees.{span_of, InRow, placed_form, IsPlaced}

row_natural : (X : Type 0) (v : X → Tree) (k : Tree → Type 0) (from : ℕ) (xs : List X) (to : ℕ) → InRow X (λ x. span_of (v x)) (λ p. k (v p)) from xs to ≡ InRow Tree span_of k from (map v xs) to
row_natural X v k from [] to = refl
row_natural X v k from (x ∷ xs) to =
    let rest = row_natural X v k (span_of (v x)).end xs to in
    λ i. (from ≤ (span_of (v x)).start) × k (v x) × rest i

natural : (X : Type 0) (v : X → Tree) (k : Tree → Type 0) (x : Tree-F X) → placed_form X v (λ p. k (v p)) x ≡ placed_form Tree (λ y. y) k (map-Tree X Tree v x)
natural X v k (Tree-F.Leaf kind text span) = refl
natural X v k (Tree-F.Branch items span) =
    let row = row_natural X v k (span.start + 1) items (span.end - 1) in
    λ i. (span.start < span.end) × row i

pub placed_roll : (x : Tree-F Tree) → IsPlaced (roll-Tree x) ≡ placed_form Tree (λ y. y) IsPlaced x
placed_roll x = rec-roll-Tree (Type 0) placed_form natural x
