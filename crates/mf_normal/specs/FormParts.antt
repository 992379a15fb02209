-- The parts of forms: in strict order of their terms, and with coefficients that fit.
use Rattle.std.specs.Prelude.{◌≡◌, ℕ, ◌<◌, ◌≤◌, Bool, true, false, ◌&&◌, not, nat_eq, List, [], ◌∷◌, length, insert, slice_set, Result, Ok, Err}
use Rattle.std.specs.List.{AllByRecursion, list_all, list_any, slice_index_or}
use Rattle.mf_fraction.specs.Exact.{fits, sum_of}
use Rattle.mf_task.specs.declared.form.Part.{Part}
use Rattle.mf_task.specs.LinearForms.{with_part}
use Rattle.mf_normal.specs.declared.fault.FormFault.{FormFault}
use Rattle.mf_normal.specs.declared.fault.FormFault.TheVariants.{Wide, Memory}
use Rattle.mf_normal.specs.declared.parts.PartPlace.{PartPlace}
use Rattle.mf_normal.specs.declared.parts.PartPlace.TheVariants.{There, New}

-- each term comes before those that follow
abbrev pub IsRising : List Part → Type 0
IsRising [] = Unit {0}
IsRising (p ∷ ps) = AllByRecursion (λ q. p.term < q.term) ps × IsRising ps

abbrev pub part_fits : Part → Bool
part_fits p = fits p.coefficient

-- each coefficient fits
abbrev pub are_narrow : List Part → Bool
are_narrow = list_all part_fits

-- some part of this term has a coefficient that does not fit
abbrev pub is_wide_at : ℕ → List Part → Bool
is_wide_at term = list_any (λ q. nat_eq q.term term && not (part_fits q))

-- one part for two of the same term
abbrev pub merged : Part → Part → Part
merged q p = record { coefficient = sum_of q.coefficient p.coefficient; term = q.term }

-- where a part has its place, and what the list becomes there
abbrev pub IsPartPlace : List Part → Part → PartPlace → Type 0
IsPartPlace parts part (There at) =
    (at < length parts) × ((slice_index_or parts at part).term ≡ part.term)
    × (with_part parts part ≡ slice_set parts at (merged (slice_index_or parts at part) part))
IsPartPlace parts part (New at) = (at ≤ length parts) × (with_part parts part ≡ insert parts at part)

-- a part was put in, or the coefficient of its term became too wide
abbrev pub PutsPart : Part → List Part → List Part → Result (Unit {0}) FormFault → Type 0
PutsPart part old new (Ok done) = (new ≡ with_part old part) × (part_fits part ≡ true → are_narrow old ≡ true → are_narrow new ≡ true)
PutsPart part old new (Err Wide) = is_wide_at part.term (with_part old part) ≡ true
PutsPart part old new (Err Memory) = Unit {0}

-- these parts were made, or one of them is too wide
abbrev pub MakesParts : {A : Type 0} → List Part → List Part → Result A FormFault → Type 0
MakesParts parts made (Ok done) = (made ≡ parts) × IsRising parts × (are_narrow parts ≡ true)
MakesParts parts made (Err Wide) = are_narrow parts ≡ false
MakesParts parts made (Err Memory) = Unit {0}

abbrev pub MakesList : List Part → Result (List Part) FormFault → Type 0
MakesList parts (Ok made) = (made ≡ parts) × IsRising parts × (are_narrow parts ≡ true)
MakesList parts (Err Wide) = are_narrow parts ≡ false
MakesList parts (Err Memory) = Unit {0}
