-- Sorted states that tell the same are the same.
use Rattle.std.proofs.Common.{◌≡◌, ℕ, Bool, true, false, not, ◌&&◌, ◌||◌, cond, List, [], ◌∷◌, Option, Some, None, refl, sym, ap, ◌∙◌}
use Rattle.std.specs.List.{AllByRecursion, list_any}
use Rattle.std.proofs.lemmas.Bool.{false≢true, or_from}
use Rattle.mf_fraction.specs.Exact.{Number}
use Rattle.mf_model.specs.declared.task.Atom.{Atom}
use Rattle.mf_model.specs.declared.task.Valued.{Valued}
use Rattle.mf_model.specs.declared.state.PlainState.{PlainState}
use Rattle.mf_model.specs.States.{is_atom, same_atom, atom_before, is_cell, same_cell, cell_before, value_at}
use Rattle.mf_meaning.specs.SortedStates.{IsSortedList, IsSortedState}
use Rattle.mf_meaning.proofs.Lookups.{value_at-none}
use Rattle.mf_meaning.proofs.NumberOrder.{same_key-number, same_key-objects, same_key-self, key_before-apart, key_before-other, key_before-trans}
use Rattle.mf_meaning.proofs.SortedLists.{all_weaker, cell_before-apart, cell_before-other, cell_before-trans}

-- atoms

none_after_atom : (a : Atom) (bs : List Atom) → AllByRecursion (λ b. atom_before a b ≡ true) bs → list_any (same_atom a) bs ≡ false
none_after_atom a [] all = refl
none_after_atom a (b ∷ bs) all = or_from (same_atom a b) (list_any (same_atom a) bs) (key_before-apart a.predicate a.objects b.predicate b.objects all.0) (none_after_atom a bs all.1)

-- a look-up in what follows the first
tail_lookup : (a : Atom) (cs : List Atom) (p : ℕ) (os : List ℕ) → AllByRecursion (λ b. atom_before a b ≡ true) cs → list_any (is_atom p os) cs ≡ (not (is_atom p os a) && list_any (is_atom p os) (a ∷ cs))
tail_lookup a cs p os all = by (is_atom p os a) refl
  where
    by : (here : Bool) → is_atom p os a ≡ here → list_any (is_atom p os) cs ≡ (not here && (here || list_any (is_atom p os) cs))
    by true e =
        ap (λ (n : ℕ). list_any (is_atom n os) cs) (same_key-number p os a.predicate a.objects e)
        ∙ ap (λ (ns : List ℕ). list_any (is_atom a.predicate ns) cs) (same_key-objects p os a.predicate a.objects e)
        ∙ none_after_atom a cs all
    by false e = refl

first_is_there : (a : Atom) (cs : List Atom) → list_any (same_atom a) (a ∷ cs) ≡ true
first_is_there a cs = ap (λ (b : Bool). b || list_any (same_atom a) cs) (same_key-self a.predicate a.objects)

-- an atom before all of a list is not in it
not_there : (a b : Atom) (bs : List Atom) → atom_before a b ≡ true → AllByRecursion (λ c. atom_before b c ≡ true) bs → list_any (same_atom a) (b ∷ bs) ≡ false
not_there a b bs before all = none_after_atom a (b ∷ bs) (before, all_weaker (λ c. atom_before b c ≡ true) (λ c. atom_before a c ≡ true) (λ c later. key_before-trans a.predicate a.objects b.predicate b.objects c.predicate c.objects before later) bs all)

same_first : (a b : Atom) (cs bs : List Atom) → IsSortedList atom_before (a ∷ cs) → IsSortedList atom_before (b ∷ bs) → ((p : ℕ) (os : List ℕ) → list_any (is_atom p os) (a ∷ cs) ≡ list_any (is_atom p os) (b ∷ bs)) → a ≡ b
same_first a b cs bs one other alike = by (same_atom a b) (atom_before a b) refl refl
  where
    by : (same before : Bool) → same_atom a b ≡ same → atom_before a b ≡ before → a ≡ b
    by true before s e =
        let n = same_key-number a.predicate a.objects b.predicate b.objects s in
        let ns = same_key-objects a.predicate a.objects b.predicate b.objects s in
        λ i. record { predicate = n i; objects = ns i }
    by false true s e = absurd (false≢true (sym (not_there a b bs e other.0) ∙ sym (alike a.predicate a.objects) ∙ first_is_there a cs))
    by false false s e =
        let later = key_before-other a.predicate a.objects b.predicate b.objects s e in
        absurd (false≢true (sym (not_there b a cs later one.0) ∙ alike b.predicate b.objects ∙ first_is_there b bs))

pub same_atoms : (cs bs : List Atom) → IsSortedList atom_before cs → IsSortedList atom_before bs → ((p : ℕ) (os : List ℕ) → list_any (is_atom p os) cs ≡ list_any (is_atom p os) bs) → cs ≡ bs
same_atoms [] [] one other alike = refl
same_atoms [] (b ∷ bs) one other alike = absurd (false≢true (alike b.predicate b.objects ∙ first_is_there b bs))
same_atoms (a ∷ cs) [] one other alike = absurd (false≢true (sym (alike a.predicate a.objects) ∙ first_is_there a cs))
same_atoms (a ∷ cs) (b ∷ bs) one other alike =
    let first = same_first a b cs bs one other alike in
    let tails = λ (p : ℕ) (os : List ℕ).
    tail_lookup a cs p os one.0
    ∙ ap (λ (x : Bool). not (is_atom p os a) && x) (alike p os)
    ∙ ap (λ (c : Atom). not (is_atom p os c) && list_any (is_atom p os) (b ∷ bs)) first
    ∙ sym (tail_lookup b bs p os other.0) in
    let rest = same_atoms cs bs one.1 other.1 tails in
    λ i. first i ∷ rest i

-- values

none_after : (v : Valued) (ws : List Valued) → AllByRecursion (λ w. cell_before v w ≡ true) ws → value_at ws v.cell.function v.cell.objects ≡ None
none_after v ws all = value_at-none v ws (all_weaker (λ w. cell_before v w ≡ true) (λ w. same_cell v w ≡ false) (λ w before. cell_before-apart v w before) ws all)

tail_value : (v : Valued) (vs : List Valued) (f : ℕ) (os : List ℕ) → AllByRecursion (λ w. cell_before v w ≡ true) vs → value_at vs f os ≡ cond (is_cell f os v) None (value_at (v ∷ vs) f os)
tail_value v vs f os all = by (is_cell f os v) refl
  where
    by : (here : Bool) → is_cell f os v ≡ here → value_at vs f os ≡ cond here None (cond here (Some v.value) (value_at vs f os))
    by true e =
        ap (λ (n : ℕ). value_at vs n os) (same_key-number f os v.cell.function v.cell.objects e)
        ∙ ap (λ (ns : List ℕ). value_at vs v.cell.function ns) (same_key-objects f os v.cell.function v.cell.objects e)
        ∙ none_after v vs all
    by false e = refl

first_value : (v : Valued) (vs : List Valued) → value_at (v ∷ vs) v.cell.function v.cell.objects ≡ Some v.value
first_value v vs = ap (λ (b : Bool). cond b (Some v.value) (value_at vs v.cell.function v.cell.objects)) (same_key-self v.cell.function v.cell.objects)

not_valued : (v w : Valued) (ws : List Valued) → cell_before v w ≡ true → AllByRecursion (λ x. cell_before w x ≡ true) ws → value_at (w ∷ ws) v.cell.function v.cell.objects ≡ None
not_valued v w ws before all = none_after v (w ∷ ws) (before, all_weaker (λ x. cell_before w x ≡ true) (λ x. cell_before v x ≡ true) (λ x later. cell_before-trans v w x before later) ws all)

some_is_none : (n : Number) → Some n ≡ None → ⊥
some_is_none n e = cc

same_first_value : (v w : Valued) (vs ws : List Valued) → IsSortedList cell_before (v ∷ vs) → IsSortedList cell_before (w ∷ ws) → ((f : ℕ) (os : List ℕ) → value_at (v ∷ vs) f os ≡ value_at (w ∷ ws) f os) → v ≡ w
same_first_value v w vs ws one other alike = by (same_cell v w) (cell_before v w) refl refl
  where
    by : (same before : Bool) → same_cell v w ≡ same → cell_before v w ≡ before → v ≡ w
    by true before s e =
        let n = same_key-number v.cell.function v.cell.objects w.cell.function w.cell.objects s in
        let ns = same_key-objects v.cell.function v.cell.objects w.cell.function w.cell.objects s in
        let found : Some v.value ≡ Some w.value = sym (first_value v vs) ∙ alike v.cell.function v.cell.objects ∙ ap (λ (k : ℕ). value_at (w ∷ ws) k v.cell.objects) n ∙ ap (λ (ks : List ℕ). value_at (w ∷ ws) w.cell.function ks) ns ∙ first_value w ws in
        let value : v.value ≡ w.value = cc in
        λ i. record { cell = record { function = n i; objects = ns i }; value = value i }
    by false true s e = absurd (some_is_none v.value (sym (first_value v vs) ∙ alike v.cell.function v.cell.objects ∙ not_valued v w ws e other.0))
    by false false s e = absurd (some_is_none w.value (sym (first_value w ws) ∙ sym (alike w.cell.function w.cell.objects) ∙ not_valued w v vs (cell_before-other v w s e) one.0))

pub same_values : (vs ws : List Valued) → IsSortedList cell_before vs → IsSortedList cell_before ws → ((f : ℕ) (os : List ℕ) → value_at vs f os ≡ value_at ws f os) → vs ≡ ws
same_values [] [] one other alike = refl
same_values [] (w ∷ ws) one other alike = absurd (some_is_none w.value (sym (first_value w ws) ∙ sym (alike w.cell.function w.cell.objects)))
same_values (v ∷ vs) [] one other alike = absurd (some_is_none v.value (sym (first_value v vs) ∙ alike v.cell.function v.cell.objects))
same_values (v ∷ vs) (w ∷ ws) one other alike =
    let first = same_first_value v w vs ws one other alike in
    let tails = λ (f : ℕ) (os : List ℕ).
    tail_value v vs f os one.0
    ∙ ap (λ (x : Option Number). cond (is_cell f os v) None x) (alike f os)
    ∙ ap (λ (u : Valued). cond (is_cell f os u) None (value_at (w ∷ ws) f os)) first
    ∙ sym (tail_value w ws f os other.0) in
    let rest = same_values vs ws one.1 other.1 tails in
    λ i. first i ∷ rest i

pub same_states : (one other : PlainState) → IsSortedState one → IsSortedState other → ((p : ℕ) (os : List ℕ) → list_any (is_atom p os) one.atoms ≡ list_any (is_atom p os) other.atoms) → ((f : ℕ) (os : List ℕ) → value_at one.values f os ≡ value_at other.values f os) → one ≡ other
same_states one other first second atoms values =
    let cs = same_atoms one.atoms other.atoms first.atoms second.atoms atoms in
    let vs = same_values one.values other.values first.values second.values values in
    λ i. record { atoms = cs i; values = vs i }
