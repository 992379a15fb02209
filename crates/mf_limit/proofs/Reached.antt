-- What a family of a sight says of another sight that actions reach.
use Rattle.std.proofs.Common.{◌≡◌, ℕ, Bool, true, false, not, is_some, Option, Some, sym, ap, ◌∙◌, true≢false}
use Rattle.mf_fraction.specs.Exact.{Number, Proper}
use Rattle.mf_task.specs.LimitClosure.{Family, IsWithin, first_family}
use Rattle.mf_task.specs.Rows.{Sight}
use Rattle.mf_task.specs.NumberedTasks.{IsProperSight}
use Rattle.mf_limit.proofs.Fractions.{before, before-self}

-- the terms that may move in a direction
abbrev pub moves : Bool → Family → ℕ → Bool
moves true f = f.up
moves false f = f.down

-- a value of a term that starts with another
pub record IsReached (f : Family) (term : ℕ) (old value : Option Number) : Type 0 where
  pub defined : (b : Number) → value ≡ Some b → f.defined term ≡ true
  pub moved : (d : Bool) (a b : Number) → old ≡ Some a → value ≡ Some b → before d a b ≡ true → moves d f term ≡ true
  pub proper : (b : Number) → value ≡ Some b → Proper b

-- each atom and each term is as the family says that it may be
pub record Reaches (f : Family) (start sight : Sight) : Type 0 where
  pub yes : (atom : ℕ) → sight.bit atom ≡ true → f.yes atom ≡ true
  pub no : (atom : ℕ) → sight.bit atom ≡ false → f.no atom ≡ true
  pub values : (term : ℕ) → IsReached f term (start.value term) (sight.value term)

-- the sight itself
pub reaches-start : (f : Family) (sight : Sight) → IsProperSight sight → IsWithin (first_family sight) f → Reaches f sight sight
reaches-start f sight proper within = record {
  yes = within.yes;
  no = λ atom e. within.no atom (ap (not) e);
  values = λ term. record {
    defined = λ b e. within.defined term (ap is_some e);
    moved = λ d a b old value h. absurd (true≢false (sym h ∙ ap (before d a) (same (sym value ∙ old)) ∙ before-self d a));
    proper = λ b e. proper.values term b e;
  };
}
  where
    same : {a b : Number} → Some b ≡ Some a → b ≡ a
    same e = cc
