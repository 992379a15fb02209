-- What it means that sets grow by what effects give.
use Rattle.std.specs.Prelude.{◌≡◌, ℕ, ◌<◌, Bool, true, false, List, ◌++◌, length}
use Rattle.std.specs.List.{list_all}
use Rattle.mf_task.specs.LimitClosure.{Family, Gain, MayBeTrue, MayBeFalse, MayRise, MayFall, MayBeDefined, IsWithin, gain_if}
use Rattle.mf_limit.specs.declared.sets.Gain.{Gain as Kind}
use Rattle.mf_limit.specs.declared.sets.Gain.TheVariants as kind
use Rattle.mf_limit.specs.declared.sets.TermChance.{TermChance}
use Rattle.mf_limit.specs.declared.sets.LimitSets.{LimitSets}
use Rattle.mf_limit.specs.Sets.{family_of}

-- the family has a gain
abbrev pub has : Family → Gain → Bool
has f (MayBeTrue atom) = f.yes atom
has f (MayBeFalse atom) = f.no atom
has f (MayRise term) = f.up term
has f (MayFall term) = f.down term
has f (MayBeDefined term) = f.defined term

abbrev pub gain_of : Kind → Gain
gain_of (kind.MayBeTrue atom) = MayBeTrue atom
gain_of (kind.MayBeFalse atom) = MayBeFalse atom
gain_of (kind.MayRise term) = MayRise term
gain_of (kind.MayFall term) = MayFall term
gain_of (kind.MayBeDefined term) = MayBeDefined term

-- what a chance of a term gives
abbrev pub term_gains : ℕ → TermChance → List Gain
term_gains term chance = gain_if chance.may_be_defined (MayBeDefined term) ++ (gain_if chance.may_rise (MayRise term) ++ gain_if chance.may_fall (MayFall term))

-- it is a gain of one of the sets' atoms or terms
abbrev pub Fits : LimitSets → Kind → Type 0
Fits sets (kind.MayBeTrue atom) = atom < length sets.atoms.items
Fits sets (kind.MayBeFalse atom) = atom < length sets.atoms.items
Fits sets (kind.MayRise term) = term < length sets.terms.items
Fits sets (kind.MayFall term) = term < length sets.terms.items
Fits sets (kind.MayBeDefined term) = term < length sets.terms.items

pub record HasSameSizes (old new : LimitSets) : Type 0 where
  pub atoms : length new.atoms.items ≡ length old.atoms.items
  pub terms : length new.terms.items ≡ length old.terms.items

-- from the old sets to the new ones the gains at the old sets are added, and no more than each larger family has that has
-- its own gains; the answer says whether something is new
pub record Grows (old new : LimitSets) (gains : Family → List Gain) (is_new : Bool) : Type 0 where
  pub sizes : HasSameSizes old new
  pub kept : IsWithin (family_of old) (family_of new)
  pub given : list_all (has (family_of new)) (gains (family_of old)) ≡ true
  pub least : (g : Family) → IsWithin (family_of old) g → list_all (has g) (gains g) ≡ true → IsWithin (family_of new) g
  pub steady : is_new ≡ false → IsWithin (family_of new) (family_of old)
