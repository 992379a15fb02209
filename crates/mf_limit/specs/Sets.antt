-- The sets of the limit closure as the program keeps them.
use Rattle.std.specs.Prelude.{◌≡◌, ℕ, true, false, not, length, get_or, Option, is_some}
use Rattle.mf_fraction.specs.Exact.{Number}
use Rattle.mf_task.specs.declared.task.Task.{Task}
use Rattle.mf_task.specs.LimitClosure.{Family, IsWithin, first_family, limit_closure}
use Rattle.mf_task.specs.Rows.{Sight}
use Rattle.mf_limit.specs.declared.sets.AtomChance.{AtomChance}
use Rattle.mf_limit.specs.declared.sets.TermChance.{TermChance}
use Rattle.mf_limit.specs.declared.sets.LimitSets.{LimitSets}

-- of an atom that is not one of the task's
abbrev pub other_atom : AtomChance
other_atom = record { may_be_true = false; may_be_false = true }

abbrev pub other_term : TermChance
other_term = record { may_rise = false; may_fall = false; may_be_defined = false }

abbrev pub family_of : LimitSets → Family
family_of sets = record {
  yes = λ n. (get_or sets.atoms.items n other_atom).may_be_true;
  no = λ n. (get_or sets.atoms.items n other_atom).may_be_false;
  up = λ n. (get_or sets.terms.items n other_term).may_rise;
  down = λ n. (get_or sets.terms.items n other_term).may_fall;
  defined = λ n. (get_or sets.terms.items n other_term).may_be_defined;
}

-- one chance for each atom and each term of the task
pub record HasSizesOf (task : Task) (sets : LimitSets) : Type 0 where
  pub atoms : length sets.atoms.items ≡ length task.atoms
  pub terms : length sets.terms.items ≡ length task.terms

-- what is so at the sight
abbrev pub first_atom : Sight → ℕ → AtomChance
first_atom sight atom = record { may_be_true = sight.bit atom; may_be_false = not (sight.bit atom) }

abbrev pub first_term : Option Number → TermChance
first_term value = record { may_rise = false; may_fall = false; may_be_defined = is_some value }

-- the sets have the members of the family, and no others
pub record IsFamily (f : Family) (sets : LimitSets) : Type 0 where
  pub all : IsWithin f (family_of sets)
  pub only : IsWithin (family_of sets) f

abbrev pub IsFirst : Sight → LimitSets → Type 0
IsFirst sight sets = IsFamily (first_family sight) sets

abbrev pub IsLimit : Task → Sight → LimitSets → Type 0
IsLimit task sight sets = IsFamily (limit_closure task sight) sets
