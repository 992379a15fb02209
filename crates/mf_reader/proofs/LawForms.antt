-- The laws of readings, from what is shown of each tree.
use Rattle.std.proofs.Common.{◌≡◌, ◌↔◌, List, [], ap, sym, ◌∙◌}
use Rattle.mf_model.specs.declared.tree.Tree.{Tree}
use Rattle.mf_reader.specs.Laws.{IsReadingOf, ReadsAt, ReadsLists}
use Rattle.mf_reader.specs.Places.{Seen}
use Rattle.mf_reader.specs.Said.{Said}
use Rattle.mf_reader.proofs.Readings.{Reads}
use Rattle.mf_reader.proofs.TypedReadings.{ReadsAll}

pub read_at : {V : Type 0} (read : Seen → Said V) (Form : V → Tree → Type 0) → ((t : Tree) → Reads read Form t) → ReadsAt read Form
read_at read Form r = record { sound = λ t. (r t).sound; complete = λ t. (r t).complete }

pub read_lists : {V : Type 0} (read : List Seen → Said V) (Form : V → List Tree → Type 0) → ReadsAll read Form → ReadsLists read Form
read_lists read Form r = record { sound = r.sound; complete = r.complete }

-- a form that is read is that of one value at most
pub one_value : {T V : Type 0} (read : T → Said V) (Form : V → T → Type 0) → IsReadingOf read Form → (t : T) (v w : V) → Form v t → Form w t → v ≡ w
one_value {V = V} read Form r t v w a b = ap (λ (x : Said V). x.value) (sym (r.complete t v a) ∙ r.complete t w b)

-- and of one exactly where no fault stands
pub no_fault : {T V : Type 0} (read : T → Said V) (Form : V → T → Type 0) → IsReadingOf read Form → (t : T) → ((v : V) × Form v t) ↔ ((read t).faults ≡ [])
no_fault {V = V} read Form r t = (λ h. ap (λ (x : Said V). x.faults) (r.complete t h.0 h.1), λ e. ((read t).value, r.sound t e))
