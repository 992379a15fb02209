-- A type from which the way up leads to a marked one is on no cycle where it isn't marked itself.
use Rattle.std.proofs.Common.{◌≡◌, ℕ, zero, suc, ◌+◌, ◌-◌, Bool, true, false, List, refl, sym, ap, ◌∙◌, arith}
use Rattle.mf_types.specs.declared.places.Place.{Place}
use Rattle.mf_types.specs.Ascent.{parent_at, up, IsOnCycle}
use Rattle.mf_types.specs.Marks.{is_marked, AreClosedAbove, LeadsToMark}
use Rattle.mf_types.specs.Places.{IsPlace}
use Rattle.mf_types.proofs.Ascent.{in_round, up_further}
use Rattle.mf_types.proofs.Depths.{depth_above}

marked_above : (parents : List ℕ) (marks : List Bool) → AreClosedAbove parents marks → (n t : ℕ) → is_marked marks t ≡ true → is_marked marks (up parents n t) ≡ true
marked_above parents marks closed zero t m = m
marked_above parents marks closed (suc n) t m = marked_above parents marks closed n (parent_at parents t) (closed t m)

pub on_no_cycle : (parents : List ℕ) (marks : List Bool) (t : ℕ) → AreClosedAbove parents marks → is_marked marks t ≡ false → LeadsToMark parents marks t → IsOnCycle parents t → ⊥
on_no_cycle parents marks t closed unmarked way on =
    let round = in_round parents t on.steps on.some on.back way.steps in
    let within = round.within in
    let left = on.steps - round.place in
    let met : is_marked marks (up parents round.place t) ≡ true = ap (is_marked marks) round.there ∙ way.there in
    let back : up parents left (up parents round.place t) ≡ t = sym (up_further parents on.steps round.place left t (omega (arith, within))) ∙ on.back in
    let marked : is_marked marks t ≡ true = ap (is_marked marks) (sym back) ∙ marked_above parents marks closed left (up parents round.place t) met in
    let no : ⊥ = cc in no

-- Roots that are marked

root_is : (parents : List ℕ) (t : ℕ) (place : Place) → IsPlace parents t place → up parents place.depth t ≡ place.root
root_is parents t place own = depth_above parents place.root place.depth place.depth 0 t (omega arith) own.depth

pub leads_to_root : (parents : List ℕ) (marks : List Bool) (t : ℕ) (place : Place) → IsPlace parents t place → is_marked marks place.root ≡ true → LeadsToMark parents marks t
leads_to_root parents marks t place own m = record { steps = place.depth; there = ap (is_marked marks) (root_is parents t place own) ∙ m }

pub leads_past_root : (parents : List ℕ) (marks : List Bool) (t last : ℕ) (place above : Place) → IsPlace parents t place → last ≡ parent_at parents place.root → IsPlace parents last above → is_marked marks above.root ≡ true → LeadsToMark parents marks t
leads_past_root parents marks t last place above own is other m = record {
  steps = place.depth + suc above.depth;
  there =
      ap (is_marked marks)
      (up_further parents (place.depth + suc above.depth) place.depth (suc above.depth) t refl
      ∙ (ap (up parents (suc above.depth)) (root_is parents t place own)
      ∙ (ap (up parents above.depth) (sym is) ∙ root_is parents last above other)))
      ∙ m;
}
