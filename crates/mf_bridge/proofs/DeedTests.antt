-- Whether changes read defined values and agree on each term, told by what they do.
use Rattle.std.proofs.Common.{◌≡◌, ℕ, suc, Bool, true, false, not, ◌&&◌, ◌||◌, cond, nat_eq, List, [], ◌∷◌, map, length, get_or, Option, Some, None, refl, sym, ap, ap₂, ◌∙◌}
use Rattle.std.specs.Prelude.{if◌then◌else◌, is_some}
use Rattle.std.specs.List.{AllByRecursion, filter, flat_map, list_all, list_any}
use Rattle.std.proofs.lemmas.Bool.{and_from, eq-eqb, false≢true, ne_eqb}
use Rattle.mf_fraction.specs.Exact.{Number}
use Rattle.mf_model.specs.declared.task.Cell.{Cell}
use Rattle.mf_model.specs.declared.task.Op.{Op}
use Rattle.mf_model.specs.declared.task.Op.TheVariants.{Assign, Increase, Decrease, ScaleUp, ScaleDown}
use Rattle.mf_model.specs.Application.{Change, Added, Deleted, Changed, agree, changes_cell, divides_by_zero, is_apart, is_defined, is_sum, is_sum_change, reads_old}
use Rattle.mf_model.specs.Functions.{is_cost}
use Rattle.mf_model.specs.States.{same_numbers}
use Rattle.mf_model.specs.Views.{Look}
use Rattle.mf_meaning.proofs.NumberOrder.{same_key-number, same_key-objects, same_key-self}
use Rattle.mf_task.specs.declared.ground.GroundChange.{GroundChange}
use Rattle.mf_task.specs.declared.ground.GroundChange.TheVariants as change
use Rattle.mf_task.specs.declared.task.Task.{Task}
use Rattle.mf_task.specs.GroundMeaning.{changes_term, ground_agree, is_ground_apart, is_ground_defined, is_ground_sum, right_side}
use Rattle.mf_task.specs.Grounding.{Numbering, cell_of, is_same_cell, term_number}
use Rattle.mf_task.specs.Rows.{Sight}
use Rattle.mf_bridge.specs.Deeds.{Deed, AddsAtom, DeletesAtom, ChangesTerm, ChangesCost, deed_of, ground_deeds}
use Rattle.mf_bridge.proofs.ListedForms.{found_place}

-- the tests of deeds

abbrev deed_defined : Sight → Deed → Bool
deed_defined sight (AddsAtom atom) = true
deed_defined sight (DeletesAtom atom) = true
deed_defined sight (ChangesTerm op term value) = is_some value && not (divides_by_zero op value) && (not (reads_old op) || is_some (sight.value term))
deed_defined sight (ChangesCost value) = is_some value

abbrev deed_at : ℕ → Deed → Bool
deed_at term (AddsAtom atom) = false
deed_at term (DeletesAtom atom) = false
deed_at term (ChangesTerm op changed value) = nat_eq term changed
deed_at term (ChangesCost value) = false

abbrev deed_sum : Deed → Bool
deed_sum (AddsAtom atom) = true
deed_sum (DeletesAtom atom) = true
deed_sum (ChangesTerm op term value) = is_sum op
deed_sum (ChangesCost value) = true

abbrev deeds_agree : List Deed → Bool
deeds_agree ds = list_all deed_sum ds || nat_eq (length ds) 1

abbrev deed_apart : List Deed → Deed → Bool
deed_apart ds (AddsAtom atom) = true
deed_apart ds (DeletesAtom atom) = true
deed_apart ds (ChangesTerm op term value) = deeds_agree (filter (deed_at term) ds)
deed_apart ds (ChangesCost value) = true

-- of ground changes

module _ (packed : Task) (sight : Sight) where
  ground_defined : (gs : List GroundChange) → list_all (is_ground_defined packed sight) gs ≡ list_all (deed_defined sight) (flat_map (ground_deeds packed sight) gs)
  ground_defined [] = refl
  ground_defined (change.Add atom ∷ gs) = ground_defined gs
  ground_defined (change.Delete atom ∷ gs) = ground_defined gs
  ground_defined (change.Number op term value ∷ gs) = ap (λ b. is_ground_defined packed sight (change.Number op term value) && b) (ground_defined gs)
  ground_defined (change.Cost value ∷ gs) = ap (λ b. is_ground_defined packed sight (change.Cost value) && b) (ground_defined gs)
  ground_defined (change.Nothing ∷ gs) = ground_defined gs

  ground_sums : (term : ℕ) (gs : List GroundChange) → list_all is_ground_sum (filter (changes_term term) gs) ≡ list_all deed_sum (filter (deed_at term) (flat_map (ground_deeds packed sight) gs))
  ground_sums term [] = refl
  ground_sums term (change.Add atom ∷ gs) = ground_sums term gs
  ground_sums term (change.Delete atom ∷ gs) = ground_sums term gs
  ground_sums term (change.Number op changed value ∷ gs) = by (nat_eq term changed) (ground_sums term gs)
    where
      by : (here : Bool) → (list_all is_ground_sum (filter (changes_term term) gs) ≡ list_all deed_sum (filter (deed_at term) (flat_map (ground_deeds packed sight) gs))) →
          list_all is_ground_sum (cond here (change.Number op changed value ∷ filter (changes_term term) gs) (filter (changes_term term) gs))
          ≡ list_all deed_sum (cond here (ChangesTerm op changed (right_side packed sight value) ∷ filter (deed_at term) (flat_map (ground_deeds packed sight) gs)) (filter (deed_at term) (flat_map (ground_deeds packed sight) gs)))
      by true rest = ap (λ b. is_sum op && b) rest
      by false rest = rest
  ground_sums term (change.Cost value ∷ gs) = ground_sums term gs
  ground_sums term (change.Nothing ∷ gs) = ground_sums term gs

  ground_count : (term : ℕ) (gs : List GroundChange) → length (filter (changes_term term) gs) ≡ length (filter (deed_at term) (flat_map (ground_deeds packed sight) gs))
  ground_count term [] = refl
  ground_count term (change.Add atom ∷ gs) = ground_count term gs
  ground_count term (change.Delete atom ∷ gs) = ground_count term gs
  ground_count term (change.Number op changed value ∷ gs) = by (nat_eq term changed) (ground_count term gs)
    where
      by : (here : Bool) → (length (filter (changes_term term) gs) ≡ length (filter (deed_at term) (flat_map (ground_deeds packed sight) gs))) →
          length (cond here (change.Number op changed value ∷ filter (changes_term term) gs) (filter (changes_term term) gs))
          ≡ length (cond here (ChangesTerm op changed (right_side packed sight value) ∷ filter (deed_at term) (flat_map (ground_deeds packed sight) gs)) (filter (deed_at term) (flat_map (ground_deeds packed sight) gs)))
      by true rest = ap suc rest
      by false rest = rest
  ground_count term (change.Cost value ∷ gs) = ground_count term gs
  ground_count term (change.Nothing ∷ gs) = ground_count term gs

  ground_agrees : (term : ℕ) (gs : List GroundChange) → ground_agree (filter (changes_term term) gs) ≡ deeds_agree (filter (deed_at term) (flat_map (ground_deeds packed sight) gs))
  ground_agrees term gs = ap₂ (λ (b : Bool) (n : ℕ). b || nat_eq n 1) (ground_sums term gs) (ground_count term gs)

  ground_apart : (all gs : List GroundChange) → list_all (is_ground_apart all) gs ≡ list_all (deed_apart (flat_map (ground_deeds packed sight) all)) (flat_map (ground_deeds packed sight) gs)
  ground_apart all [] = refl
  ground_apart all (change.Add atom ∷ gs) = ground_apart all gs
  ground_apart all (change.Delete atom ∷ gs) = ground_apart all gs
  ground_apart all (change.Number op term value ∷ gs) = ap₂ (λ (a b : Bool). a && b) (ground_agrees term all) (ground_apart all gs)
  ground_apart all (change.Cost value ∷ gs) = ground_apart all gs
  ground_apart all (change.Nothing ∷ gs) = ground_apart all gs

-- of typed changes

module _ (numbering : Numbering) (look : Look) (sight : Sight) where
  -- a cost is increased or decreased where it is defined; another term is one of the task's, with the value that the row has
  pub record IsNumbered (op : Op) (function : ℕ) (objects : List ℕ) : Type 0 where
    pub cost : is_cost numbering.task function ≡ true → (is_sum op ≡ true) × (is_some (look.value function objects) ≡ true)
    pub value : is_cost numbering.task function ≡ false → look.value function objects ≡ sight.value (term_number numbering.terms function objects)
    pub term : is_cost numbering.task function ≡ false → list_any (is_same_cell function objects) numbering.terms ≡ true

  abbrev pub IsNumberedChange : Change → Type 0
  IsNumberedChange (Added predicate objects) = Unit {0}
  IsNumberedChange (Deleted predicate objects) = Unit {0}
  IsNumberedChange (Changed op function objects value) = IsNumbered op function objects

  -- a sum of a defined value is defined where its right side is
  defined_sum : (op : Op) (value old : Option Number) → is_sum op ≡ true → is_some old ≡ true → (is_some value && not (divides_by_zero op value) && (not (reads_old op) || is_some old)) ≡ is_some value
  defined_sum Increase (Some v) old sum some = some
  defined_sum Increase None old sum some = refl
  defined_sum Decrease (Some v) old sum some = some
  defined_sum Decrease None old sum some = refl
  defined_sum Assign value old sum some = absurd (false≢true sum)
  defined_sum ScaleUp value old sum some = absurd (false≢true sum)
  defined_sum ScaleDown value old sum some = absurd (false≢true sum)

  one_defined : (op : Op) (function : ℕ) (objects : List ℕ) (value : Option Number) → IsNumbered op function objects → is_defined look (Changed op function objects value) ≡ deed_defined sight (deed_of numbering (Changed op function objects value))
  one_defined op function objects value numbered = by (is_cost numbering.task function) refl
    where
      by : (cost : Bool) → is_cost numbering.task function ≡ cost → is_defined look (Changed op function objects value) ≡ deed_defined sight (if cost then ChangesCost value else ChangesTerm op (term_number numbering.terms function objects) value)
      by true e = defined_sum op value (look.value function objects) (numbered.cost e).0 (numbered.cost e).1
      by false e = ap (λ old. is_some value && not (divides_by_zero op value) && (not (reads_old op) || is_some old)) (numbered.value e)

  typed_defined : (cs : List Change) → AllByRecursion IsNumberedChange cs → list_all (is_defined look) cs ≡ list_all (deed_defined sight) (map (deed_of numbering) cs)
  typed_defined [] all = refl
  typed_defined (Added predicate objects ∷ cs) all = typed_defined cs all.1
  typed_defined (Deleted predicate objects ∷ cs) all = typed_defined cs all.1
  typed_defined (Changed op function objects value ∷ cs) all = ap₂ (λ (a b : Bool). a && b) (one_defined op function objects value all.0) (typed_defined cs all.1)

  -- two terms of the task have one number where they are the same

  same_from_number : (f : ℕ) (os : List ℕ) (g : ℕ) (ps : List ℕ) → list_any (is_same_cell f os) numbering.terms ≡ true → list_any (is_same_cell g ps) numbering.terms ≡ true → term_number numbering.terms f os ≡ term_number numbering.terms g ps → (f ≡ g) × (os ≡ ps)
  same_from_number f os g ps one other same =
      let none : Cell = cell_of 0 [] in
      let here = found_place (is_same_cell f os) numbering.terms none one in
      let there = ap (λ n. is_same_cell g ps (get_or numbering.terms n none)) same ∙ found_place (is_same_cell g ps) numbering.terms none other in
      let at = get_or numbering.terms (term_number numbering.terms f os) none in
      (same_key-number f os at.function at.objects here ∙ sym (same_key-number g ps at.function at.objects there), same_key-objects f os at.function at.objects here ∙ sym (same_key-objects g ps at.function at.objects there))

  same_number : (f : ℕ) (os : List ℕ) (g : ℕ) (ps : List ℕ) → list_any (is_same_cell f os) numbering.terms ≡ true → list_any (is_same_cell g ps) numbering.terms ≡ true → (nat_eq f g && same_numbers os ps) ≡ nat_eq (term_number numbering.terms f os) (term_number numbering.terms g ps)
  same_number f os g ps one other = by (nat_eq f g && same_numbers os ps) refl
    where
      by : (same : Bool) → (nat_eq f g && same_numbers os ps) ≡ same → same ≡ nat_eq (term_number numbering.terms f os) (term_number numbering.terms g ps)
      by true e = sym (eq-eqb _ _ (ap₂ (term_number numbering.terms) (same_key-number f os g ps e) (same_key-objects f os g ps e)))
      by false e = sym (ne_eqb _ _ (λ same.
          let both = same_from_number f os g ps one other same in
          let own : (nat_eq f g && same_numbers os ps) ≡ true = sym (ap₂ (λ n ns. nat_eq f n && same_numbers os ns) both.0 both.1) ∙ same_key-self f os in
          false≢true (sym e ∙ own)))

  -- which changes are of a term

  module _ (f : ℕ) (os : List ℕ) (other : is_cost numbering.task f ≡ false) (listed : list_any (is_same_cell f os) numbering.terms ≡ true) where
    one_at : (op : Op) (g : ℕ) (ps : List ℕ) (value : Option Number) → IsNumbered op g ps → (nat_eq f g && same_numbers os ps) ≡ deed_at (term_number numbering.terms f os) (deed_of numbering (Changed op g ps value))
    one_at op g ps value numbered = by (is_cost numbering.task g) refl
      where
        apart : is_cost numbering.task g ≡ true → (same : Bool) → (nat_eq f g && same_numbers os ps) ≡ same → same ≡ false
        apart cost true e = absurd (false≢true (sym other ∙ ap (is_cost numbering.task) (same_key-number f os g ps e) ∙ cost))
        apart cost false e = refl

        by : (cost : Bool) → is_cost numbering.task g ≡ cost → (nat_eq f g && same_numbers os ps) ≡ deed_at (term_number numbering.terms f os) (if cost then ChangesCost value else ChangesTerm op (term_number numbering.terms g ps) value)
        by true e = apart e (nat_eq f g && same_numbers os ps) refl
        by false e = same_number f os g ps listed (numbered.term e)

    one_sum : (op : Op) (g : ℕ) (ps : List ℕ) (value : Option Number) → IsNumbered op g ps → is_sum op ≡ deed_sum (deed_of numbering (Changed op g ps value))
    one_sum op g ps value numbered = by (is_cost numbering.task g) refl
      where
        by : (cost : Bool) → is_cost numbering.task g ≡ cost → is_sum op ≡ deed_sum (if cost then ChangesCost value else ChangesTerm op (term_number numbering.terms g ps) value)
        by true e = (numbered.cost e).0
        by false e = refl

    typed_sums : (cs : List Change) → AllByRecursion IsNumberedChange cs → list_all is_sum_change (filter (changes_cell f os) cs) ≡ list_all deed_sum (filter (deed_at (term_number numbering.terms f os)) (map (deed_of numbering) cs))
    typed_sums [] all = refl
    typed_sums (Added predicate objects ∷ cs) all = typed_sums cs all.1
    typed_sums (Deleted predicate objects ∷ cs) all = typed_sums cs all.1
    typed_sums (Changed op g ps value ∷ cs) all =
        let d = deed_of numbering (Changed op g ps value) in
        let ds = filter (deed_at (term_number numbering.terms f os)) (map (deed_of numbering) cs) in
        by (nat_eq f g && same_numbers os ps) (typed_sums cs all.1) ∙ ap (λ (here : Bool). list_all deed_sum (cond here (d ∷ ds) ds)) (one_at op g ps value all.0)
      where
        by : (here : Bool) → (list_all is_sum_change (filter (changes_cell f os) cs) ≡ list_all deed_sum (filter (deed_at (term_number numbering.terms f os)) (map (deed_of numbering) cs))) →
            list_all is_sum_change (cond here (Changed op g ps value ∷ filter (changes_cell f os) cs) (filter (changes_cell f os) cs))
            ≡ list_all deed_sum (cond here (deed_of numbering (Changed op g ps value) ∷ filter (deed_at (term_number numbering.terms f os)) (map (deed_of numbering) cs)) (filter (deed_at (term_number numbering.terms f os)) (map (deed_of numbering) cs)))
        by true rest = ap₂ (λ (a b : Bool). a && b) (one_sum op g ps value all.0) rest
        by false rest = rest

    typed_count : (cs : List Change) → AllByRecursion IsNumberedChange cs → length (filter (changes_cell f os) cs) ≡ length (filter (deed_at (term_number numbering.terms f os)) (map (deed_of numbering) cs))
    typed_count [] all = refl
    typed_count (Added predicate objects ∷ cs) all = typed_count cs all.1
    typed_count (Deleted predicate objects ∷ cs) all = typed_count cs all.1
    typed_count (Changed op g ps value ∷ cs) all =
        let d = deed_of numbering (Changed op g ps value) in
        let ds = filter (deed_at (term_number numbering.terms f os)) (map (deed_of numbering) cs) in
        by (nat_eq f g && same_numbers os ps) (typed_count cs all.1) ∙ ap (λ (here : Bool). length (cond here (d ∷ ds) ds)) (one_at op g ps value all.0)
      where
        by : (here : Bool) → (length (filter (changes_cell f os) cs) ≡ length (filter (deed_at (term_number numbering.terms f os)) (map (deed_of numbering) cs))) →
            length (cond here (Changed op g ps value ∷ filter (changes_cell f os) cs) (filter (changes_cell f os) cs))
            ≡ length (cond here (deed_of numbering (Changed op g ps value) ∷ filter (deed_at (term_number numbering.terms f os)) (map (deed_of numbering) cs)) (filter (deed_at (term_number numbering.terms f os)) (map (deed_of numbering) cs)))
        by true rest = ap suc rest
        by false rest = rest

    typed_agrees : (cs : List Change) → AllByRecursion IsNumberedChange cs → agree (filter (changes_cell f os) cs) ≡ deeds_agree (filter (deed_at (term_number numbering.terms f os)) (map (deed_of numbering) cs))
    typed_agrees cs all = ap₂ (λ (b : Bool) (n : ℕ). b || nat_eq n 1) (typed_sums cs all) (typed_count cs all)

  -- the changes of a cost are sums
  cost_sums : (f : ℕ) (os : List ℕ) → is_cost numbering.task f ≡ true → (cs : List Change) → AllByRecursion IsNumberedChange cs → list_all is_sum_change (filter (changes_cell f os) cs) ≡ true
  cost_sums f os cost [] all = refl
  cost_sums f os cost (Added predicate objects ∷ cs) all = cost_sums f os cost cs all.1
  cost_sums f os cost (Deleted predicate objects ∷ cs) all = cost_sums f os cost cs all.1
  cost_sums f os cost (Changed op g ps value ∷ cs) all = by (nat_eq f g && same_numbers os ps) refl (cost_sums f os cost cs all.1)
    where
      by : (here : Bool) → (nat_eq f g && same_numbers os ps) ≡ here → list_all is_sum_change (filter (changes_cell f os) cs) ≡ true → list_all is_sum_change (cond here (Changed op g ps value ∷ filter (changes_cell f os) cs) (filter (changes_cell f os) cs)) ≡ true
      by true e rest = and_from (is_sum op) (list_all is_sum_change (filter (changes_cell f os) cs)) (all.0.cost (ap (is_cost numbering.task) (sym (same_key-number f os g ps e)) ∙ cost)).0 rest
      by false e rest = rest

  one_apart : (cs : List Change) → AllByRecursion IsNumberedChange cs → (op : Op) (f : ℕ) (os : List ℕ) (value : Option Number) → IsNumbered op f os → agree (filter (changes_cell f os) cs) ≡ deed_apart (map (deed_of numbering) cs) (deed_of numbering (Changed op f os value))
  one_apart cs all op f os value numbered = by (is_cost numbering.task f) refl
    where
      by : (cost : Bool) → is_cost numbering.task f ≡ cost → agree (filter (changes_cell f os) cs) ≡ deed_apart (map (deed_of numbering) cs) (if cost then ChangesCost value else ChangesTerm op (term_number numbering.terms f os) value)
      by true e = ap (λ (b : Bool). b || nat_eq (length (filter (changes_cell f os) cs)) 1) (cost_sums f os e cs all)
      by false e = typed_agrees f os e (numbered.term e) cs all

  typed_apart : (cs : List Change) → AllByRecursion IsNumberedChange cs → (part : List Change) → AllByRecursion IsNumberedChange part → list_all (is_apart cs) part ≡ list_all (deed_apart (map (deed_of numbering) cs)) (map (deed_of numbering) part)
  typed_apart cs all [] each = refl
  typed_apart cs all (Added predicate objects ∷ part) each = typed_apart cs all part each.1
  typed_apart cs all (Deleted predicate objects ∷ part) each = typed_apart cs all part each.1
  typed_apart cs all (Changed op f os value ∷ part) each = ap₂ (λ (a b : Bool). a && b) (one_apart cs all op f os value each.0) (typed_apart cs all part each.1)

  -- both tests, from one list of changes to the other

  module _ (packed : Task) (cs : List Change) (gs : List GroundChange) (all : AllByRecursion IsNumberedChange cs) (same : map (deed_of numbering) cs ≡ flat_map (ground_deeds packed sight) gs) where
    pub defined_alike : list_all (is_defined look) cs ≡ list_all (is_ground_defined packed sight) gs
    defined_alike = typed_defined cs all ∙ ap (list_all (deed_defined sight)) same ∙ sym (ground_defined packed sight gs)

    pub apart_alike : list_all (is_apart cs) cs ≡ list_all (is_ground_apart gs) gs
    apart_alike = typed_apart cs all cs all ∙ ap (λ (ds : List Deed). list_all (deed_apart ds) ds) same ∙ sym (ground_apart packed sight gs gs)
