-- What `==` answers at parts and at forms, which is whether their numbers are equal.
use Rattle.std.specs.Prelude.{◌≡◌, refl, ℕ, List, ◌++◌}
use Rattle.std.proofs.Common.{ap}
use Rattle.std.specs.Bool.{Decides}
use Rattle.std.specs.Cmp.{IsEquivalence, decided, unsigned_Decides}
use Rattle.std.specs.Hash as fed
use Rattle.std.proofs.lemmas.Bool.Decides.{Decides-and, Decides-like}
use Rattle.std.proofs.lemmas.Slice.Eq.{slice_eq-Decides}
use Rattle.mf_fraction.specs.Exact.{Number}
use Rattle.mf_store.specs.SameRows.{same_number-Decides}
use Rattle.mf_task.specs.declared.form.Form.{Form}
use Rattle.mf_task.specs.declared.form.Part.{Part}
use Rattle.mf_task.specs.Grounding.{same_form, same_part}

-- what `hash` feeds a hasher at a part and at a form

abbrev pub number_writes : Number → List (List ℕ)
number_writes a = fed.i64 a.num ++ fed.u64 a.den

abbrev pub part_writes : Part → List (List ℕ)
part_writes p = number_writes p.coefficient ++ fed.u32 p.term

abbrev pub form_writes : Form → List (List ℕ)
form_writes a = number_writes a.constant ++ fed.slice part_writes a.parts

pub same_part-Decides : (p q : Part) → Decides (same_part p q) (p ≡ q)
same_part-Decides p q =
    Decides-like (same_part p q) (λ (e : (p.coefficient ≡ q.coefficient) × (p.term ≡ q.term)). λ i. record { coefficient = e.0 i; term = e.1 i }) (λ e. (ap (λ r. r.coefficient) e, ap (λ r. r.term) e))
    (Decides-and _ _ (same_number-Decides p.coefficient q.coefficient) (unsigned_Decides p.term q.term))

pub same_form-Decides : (a b : Form) → Decides (same_form a b) (a ≡ b)
same_form-Decides a b =
    Decides-like (same_form a b) (λ (e : (a.constant ≡ b.constant) × (a.parts ≡ b.parts)). λ i. record { constant = e.0 i; parts = e.1 i }) (λ e. (ap (λ r. r.constant) e, ap (λ r. r.parts) e))
    (Decides-and _ _ (same_number-Decides a.constant b.constant) (slice_eq-Decides same_part-Decides a.parts b.parts _ refl))

pub same_part_equiv : IsEquivalence same_part
same_part_equiv = decided same_part same_part-Decides

pub same_form_equiv : IsEquivalence same_form
same_form_equiv = decided same_form same_form-Decides
