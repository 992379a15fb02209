-- Changes that do the same, and are of listed atoms and terms, are the same.
use Rattle.std.proofs.Common.{◌≡◌, ℕ, Bool, true, false, cond, List, [], ◌∷◌, map, length, Option, Some, refl, sym, ap, ◌∙◌}
use Rattle.std.specs.List.{AllByRecursion, flat_map, list_any, position}
use Rattle.mf_fraction.specs.Exact.{Number}
use Rattle.mf_model.specs.declared.task.Op.{Op}
use Rattle.mf_model.specs.declared.task.TypedTask.{TypedTask}
use Rattle.mf_model.specs.declared.state.Instance.{Instance}
use Rattle.mf_model.specs.Application.{Change, Added, Deleted, Changed}
use Rattle.mf_model.specs.Functions.{is_cost}
use Rattle.mf_model.specs.States.{is_atom}
use Rattle.mf_task.specs.declared.ground.GroundChange.{GroundChange}
use Rattle.mf_task.specs.declared.ground.GroundChange.TheVariants as change
use Rattle.mf_task.specs.GroundMeaning.{right_side}
use Rattle.mf_task.specs.Grounding.{ground_of, is_same_cell, numbering_of, place_or_end, term_number}
use Rattle.mf_task.specs.Rows.{Sight}
use Rattle.mf_bridge.specs.Corresponds.{AreSameChanges, IsSameChange}
use Rattle.mf_bridge.specs.Deeds.{Deed, AddsAtom, DeletesAtom, ChangesTerm, ChangesCost, deed_of, ground_deeds}
use Rattle.mf_bridge.specs.ListedChanges.{IsListedChange}
use Rattle.mf_bridge.proofs.ListTests.{place_is, position_of}

number_found : {X : Type 0} (t : X → Bool) (xs : List X) (n : ℕ) → list_any t xs ≡ true → place_or_end (position t xs) (length xs) ≡ n → position t xs ≡ Some n
number_found t xs n listed is = position_of t xs listed ∙ ap Some (sym (place_is t xs) ∙ is)

-- what a change of a value does

record DoesTerm (cost : Bool) (op : Op) (n : ℕ) (value : Option Number) (o : Op) (term : ℕ) (side : Option Number) : Type 0 where
  costless : cost ≡ false
  op_is : o ≡ op
  term_is : n ≡ term
  side_is : side ≡ value

does_term : (cost : Bool) (op : Op) (n : ℕ) (value : Option Number) (o : Op) (term : ℕ) (side : Option Number) → cond cost (ChangesCost value) (ChangesTerm op n value) ≡ ChangesTerm o term side → DoesTerm cost op n value o term side
does_term true op n value o term side e = cc
does_term false op n value o term side e =
    let one : o ≡ op = cc in
    let two : n ≡ term = cc in
    let three : side ≡ value = cc in
    record { costless = refl; op_is = one; term_is = two; side_is = three }

record DoesCost (cost : Bool) (value side : Option Number) : Type 0 where
  costs : cost ≡ true
  side_is : side ≡ value

does_cost : (cost : Bool) (op : Op) (n : ℕ) (value side : Option Number) → cond cost (ChangesCost value) (ChangesTerm op n value) ≡ ChangesCost side → DoesCost cost value side
does_cost true op n value side e =
    let one : side ≡ value = cc in
    record { costs = refl; side_is = one }
does_cost false op n value side e = cc

adds_none : (cost : Bool) (op : Op) (n : ℕ) (value : Option Number) (atom : ℕ) → cond cost (ChangesCost value) (ChangesTerm op n value) ≡ AddsAtom atom → ⊥
adds_none true op n value atom e = cc
adds_none false op n value atom e = cc

deletes_none : (cost : Bool) (op : Op) (n : ℕ) (value : Option Number) (atom : ℕ) → cond cost (ChangesCost value) (ChangesTerm op n value) ≡ DeletesAtom atom → ⊥
deletes_none true op n value atom e = cc
deletes_none false op n value atom e = cc

record FirstAndRest (d e : Deed) (ds es : List Deed) : Type 0 where
  first : d ≡ e
  rest : ds ≡ es

first_and_rest : (d e : Deed) (ds es : List Deed) → (d ∷ ds) ≡ (e ∷ es) → FirstAndRest d e ds es
first_and_rest d e ds es same =
    let one : d ≡ e = cc in
    let two : ds ≡ es = cc in
    record { first = one; rest = two }

none_and_first : (e : Deed) (es : List Deed) → [] ≡ (e ∷ es) → ⊥
none_and_first e es same = cc

module _ (task : TypedTask) (instances : List Instance) (sight : Sight) where
  abbrev Same : GroundChange → Change → Type 0
  Same = IsSameChange task (ground_of task instances) sight

  abbrev Listed : Change → Type 0
  Listed = IsListedChange task (ground_of task instances)

  add_same : (n : ℕ) (c : Change) → Listed c → deed_of (numbering_of task instances) c ≡ AddsAtom n → Same (change.Add n) c
  add_same n (Added q qs) listed e =
      let is : place_or_end (position (is_atom q qs) (ground_of task instances).atoms) (length (ground_of task instances).atoms) ≡ n = cc in
      number_found (is_atom q qs) (ground_of task instances).atoms n listed is
  add_same n (Deleted q qs) listed e = cc
  add_same n (Changed op g qs value) listed e = adds_none (is_cost task g) op (term_number (ground_of task instances).terms g qs) value n e

  delete_same : (n : ℕ) (c : Change) → Listed c → deed_of (numbering_of task instances) c ≡ DeletesAtom n → Same (change.Delete n) c
  delete_same n (Added q qs) listed e = cc
  delete_same n (Deleted q qs) listed e =
      let is : place_or_end (position (is_atom q qs) (ground_of task instances).atoms) (length (ground_of task instances).atoms) ≡ n = cc in
      number_found (is_atom q qs) (ground_of task instances).atoms n listed is
  delete_same n (Changed op g qs value) listed e = deletes_none (is_cost task g) op (term_number (ground_of task instances).terms g qs) value n e

  number_same : (o : Op) (term : ℕ) (right : Option ℕ) (c : Change) → Listed c → deed_of (numbering_of task instances) c ≡ ChangesTerm o term (right_side (ground_of task instances) sight right) → Same (change.Number o term right) c
  number_same o term right (Added q qs) listed e = cc
  number_same o term right (Deleted q qs) listed e = cc
  number_same o term right (Changed op g qs value) listed e =
      let does = does_term (is_cost task g) op (term_number (ground_of task instances).terms g qs) value o term (right_side (ground_of task instances) sight right) e in
      (does.op_is, does.costless, number_found (is_same_cell g qs) (ground_of task instances).terms term (listed does.costless) does.term_is, does.side_is)

  cost_same : (right : Option ℕ) (c : Change) → Listed c → deed_of (numbering_of task instances) c ≡ ChangesCost (right_side (ground_of task instances) sight right) → Same (change.Cost right) c
  cost_same right (Added q qs) listed e = cc
  cost_same right (Deleted q qs) listed e = cc
  cost_same right (Changed op g qs value) listed e =
      let does = does_cost (is_cost task g) op (term_number (ground_of task instances).terms g qs) value (right_side (ground_of task instances) sight right) e in
      (does.costs, does.side_is)

  pub same_from_deeds : (gs : List GroundChange) (cs : List Change) → AllByRecursion (IsListedChange task (ground_of task instances)) cs → map (deed_of (numbering_of task instances)) cs ≡ flat_map (ground_deeds (ground_of task instances) sight) gs → AreSameChanges task (ground_of task instances) sight gs cs
  same_from_deeds [] [] listed e = refl
  same_from_deeds [] (c ∷ cs) listed e = absurd (none_and_first (deed_of (numbering_of task instances) c) (map (deed_of (numbering_of task instances)) cs) (sym e))
  same_from_deeds (change.Nothing ∷ gs) cs listed e = same_from_deeds gs cs listed e
  same_from_deeds (change.Add n ∷ gs) [] listed e = absurd (none_and_first _ _ e)
  same_from_deeds (change.Add n ∷ gs) (c ∷ cs) listed e =
      let both = first_and_rest _ _ _ _ e in
      (add_same n c listed.0 both.first, same_from_deeds gs cs listed.1 both.rest)
  same_from_deeds (change.Delete n ∷ gs) [] listed e = absurd (none_and_first _ _ e)
  same_from_deeds (change.Delete n ∷ gs) (c ∷ cs) listed e =
      let both = first_and_rest _ _ _ _ e in
      (delete_same n c listed.0 both.first, same_from_deeds gs cs listed.1 both.rest)
  same_from_deeds (change.Number o term right ∷ gs) [] listed e = absurd (none_and_first _ _ e)
  same_from_deeds (change.Number o term right ∷ gs) (c ∷ cs) listed e =
      let both = first_and_rest _ _ _ _ e in
      (number_same o term right c listed.0 both.first, same_from_deeds gs cs listed.1 both.rest)
  same_from_deeds (change.Cost right ∷ gs) [] listed e = absurd (none_and_first _ _ e)
  same_from_deeds (change.Cost right ∷ gs) (c ∷ cs) listed e =
      let both = first_and_rest _ _ _ _ e in
      (cost_same right c listed.0 both.first, same_from_deeds gs cs listed.1 both.rest)
