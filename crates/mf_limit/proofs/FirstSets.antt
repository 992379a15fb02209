-- The sets that are made from a row have what is so there.
use Rattle.std.proofs.Common.{◌≡◌, ◌∙◌, refl, sym, ap, ℕ, Bool, true, false, not, ◌≤◌, nat_lt, List, length, map, get_or, None, arith}
use Rattle.std.specs.List.{range_with_len}
use Rattle.std.proofs.Math.ListN.{get_or-map}
use Rattle.std.proofs.lemmas.Bool.{ltb-false, ltb-true}
use Rattle.std.proofs.lemmas.List.{get_or_past, length-map}
use Rattle.std.proofs.lemmas.List.FromFn.{get_or-map-range_with_len, length-map-range_with_len}
use Rattle.mf_store.specs.Rows.{RowLists}
use Rattle.mf_task.specs.declared.task.Task.{Task}
use Rattle.mf_task.specs.Rows.{IsRowOf, sight_of}
use Rattle.mf_limit.specs.declared.sets.AtomChance.{AtomChance}
use Rattle.mf_limit.specs.declared.sets.TermChance.{TermChance}
use Rattle.mf_limit.specs.declared.sets.LimitSets.{LimitSets}
use Rattle.mf_limit.specs.Sets.{HasSizesOf, IsFirst, first_atom, first_term, other_atom, other_term}

-- sets that were made from a row
pub record IsMadeFrom (task : Task) (row : RowLists) (sets : LimitSets) : Type 0 where
  pub atoms : sets.atoms.items ≡ map (first_atom (sight_of row)) (range_with_len 0 (length task.atoms))
  pub terms : sets.terms.items ≡ map first_term row.values

module _ (task : Task) (row : RowLists) (sets : LimitSets) (shape : IsRowOf task row) (made : IsMadeFrom task row sets) where
  pub first-sizes : HasSizesOf task sets
  first-sizes = record {
    atoms = ap length made.atoms ∙ length-map-range_with_len (first_atom (sight_of row)) 0 (length task.atoms);
    terms = ap length made.terms ∙ length-map row.values first_term ∙ shape.values;
  }

  atom-at : (n : ℕ) → get_or sets.atoms.items n other_atom ≡ first_atom (sight_of row) n
  atom-at n = by (nat_lt n (length task.atoms)) refl
    where
      by : (b : Bool) → nat_lt n (length task.atoms) ≡ b → get_or sets.atoms.items n other_atom ≡ first_atom (sight_of row) n
      by true e =
          ap (λ (xs : List AtomChance). get_or xs n other_atom) made.atoms
          ∙ get_or-map-range_with_len (first_atom (sight_of row)) 0 (length task.atoms) n n other_atom (ltb-true n (length task.atoms) e) (omega arith)
      by false e =
          let few : length sets.atoms.items ≤ n = omega (arith, first-sizes.atoms, ltb-false n (length task.atoms) e) in
          get_or_past sets.atoms.items n other_atom few
          ∙ sym (ap (λ b. record { may_be_true = b; may_be_false = not b }) (shape.clear n (ltb-false n (length task.atoms) e)))

  term-at : (n : ℕ) → get_or sets.terms.items n other_term ≡ first_term ((sight_of row).value n)
  term-at n = ap (λ (xs : List TermChance). get_or xs n other_term) made.terms ∙ get_or-map first_term row.values n None

  pub first-sets : IsFirst (sight_of row) sets
  first-sets = record {
    all = record {
      yes = λ n e. ap (λ a. a.may_be_true) (atom-at n) ∙ e;
      no = λ n e. ap (λ a. a.may_be_false) (atom-at n) ∙ e;
      up = λ n e. ap (λ a. a.may_rise) (term-at n) ∙ e;
      down = λ n e. ap (λ a. a.may_fall) (term-at n) ∙ e;
      defined = λ n e. ap (λ a. a.may_be_defined) (term-at n) ∙ e;
    };
    only = record {
      yes = λ n e. sym (ap (λ a. a.may_be_true) (atom-at n)) ∙ e;
      no = λ n e. sym (ap (λ a. a.may_be_false) (atom-at n)) ∙ e;
      up = λ n e. sym (ap (λ a. a.may_rise) (term-at n)) ∙ e;
      down = λ n e. sym (ap (λ a. a.may_fall) (term-at n)) ∙ e;
      defined = λ n e. sym (ap (λ a. a.may_be_defined) (term-at n)) ∙ e;
    };
  }
