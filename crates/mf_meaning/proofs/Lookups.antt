-- What is found in a list of values, and in a list of atoms, after a change.
use Rattle.std.proofs.Common.{◌≡◌, ℕ, Bool, true, false, not, ◌||◌, ◌&&◌, cond, if◌then◌else◌, List, [], ◌∷◌, ◌++◌, Some, None, refl, sym, ap, ◌∙◌}
use Rattle.std.specs.List.{AllByRecursion, filter, fold, list_any}
use Rattle.std.specs.Option.{option_or}
use Rattle.std.proofs.lemmas.Bool.{false≢true}
use Rattle.mf_model.specs.declared.task.Atom.{Atom}
use Rattle.mf_model.specs.declared.task.Valued.{Valued}
use Rattle.mf_model.specs.States.{is_atom, same_atom, atom_before, with_atom, without_atom, is_cell, same_cell, cell_before, with_value, value_at}
use Rattle.mf_meaning.specs.SortedStates.{IsSortedList}
use Rattle.mf_meaning.proofs.NumberOrder.{same_key, same_key-number, same_key-objects}
use Rattle.mf_meaning.proofs.SortedLists.{all_weaker, cell_before-apart}

-- values

-- the value of a term that is put in is the new one, and that of each other term is the old one
pub value_at-with_value : (ws : List Valued) (v : Valued) (function : ℕ) (objects : List ℕ) → value_at (with_value ws v) function objects ≡ (if is_cell function objects v then Some v.value else value_at ws function objects)
value_at-with_value [] v function objects = refl
value_at-with_value (w ∷ ws) v function objects = put (value_at-with_value ws v function objects) (same_cell v w) (cell_before v w) (is_cell function objects v) (is_cell function objects w) refl refl refl
  where
    -- a term that is both is one that the two share
    both : is_cell function objects v ≡ true → is_cell function objects w ≡ true → same_cell v w ≡ true
    both x y =
        ap (λ (n : ℕ). same_key n v.cell.objects w.cell.function w.cell.objects) (sym (same_key-number function objects v.cell.function v.cell.objects x))
        ∙ ap (λ (ns : List ℕ). same_key function ns w.cell.function w.cell.objects) (sym (same_key-objects function objects v.cell.function v.cell.objects x))
        ∙ y

    shared : same_cell v w ≡ true → is_cell function objects v ≡ is_cell function objects w
    shared s =
        ap (λ (n : ℕ). same_key function objects n v.cell.objects) (same_key-number v.cell.function v.cell.objects w.cell.function w.cell.objects s)
        ∙ ap (λ (ns : List ℕ). same_key function objects w.cell.function ns) (same_key-objects v.cell.function v.cell.objects w.cell.function w.cell.objects s)

    put : (value_at (with_value ws v) function objects ≡ (if is_cell function objects v then Some v.value else value_at ws function objects)) → (same before here there : Bool) → same_cell v w ≡ same → is_cell function objects v ≡ here → is_cell function objects w ≡ there →
        value_at (cond same (v ∷ ws) (cond before (v ∷ w ∷ ws) (w ∷ with_value ws v))) function objects ≡ (cond (is_cell function objects v) (Some v.value) (cond (is_cell function objects w) (Some w.value) (value_at ws function objects)))
    put rest true before true there s h t = rw h refl
    put rest true before false there s h t = rw (h, sym (shared s) ∙ h) refl
    put rest false true here there s h t = refl
    put rest false false true true s h t = absurd (false≢true (sym s ∙ both h t))
    put rest false false true false s h t = rw t (rest ∙ ap (λ (b : Bool). cond b (Some v.value) (value_at ws function objects)) h ∙ sym (ap (λ (b : Bool). cond b (Some v.value) (value_at ws function objects)) h))
    put rest false false false true s h t = rw (h, t) refl
    put rest false false false false s h t = rw (t) rest

pub value_at-append : (vs ws : List Valued) (function : ℕ) (objects : List ℕ) → value_at (vs ++ ws) function objects ≡ option_or (value_at vs function objects) (value_at ws function objects)
value_at-append [] ws function objects = refl
value_at-append (v ∷ vs) ws function objects = by (value_at-append vs ws function objects) (is_cell function objects v)
  where
    by : (value_at (vs ++ ws) function objects ≡ option_or (value_at vs function objects) (value_at ws function objects)) → (here : Bool) →
        cond here (Some v.value) (value_at (vs ++ ws) function objects) ≡ option_or (cond here (Some v.value) (value_at vs function objects)) (value_at ws function objects)
    by rest true = refl
    by rest false = rest

-- a filter by function
pub value_at-filter : (test : ℕ → Bool) (vs : List Valued) (function : ℕ) (objects : List ℕ) → value_at (filter (λ v. test v.cell.function) vs) function objects ≡ (if test function then value_at vs function objects else None)
value_at-filter test [] function objects = none (test function)
  where
    none : (b : Bool) → value_at [] function objects ≡ (if b then value_at [] function objects else None)
    none true = refl
    none false = refl
value_at-filter test (v ∷ vs) function objects = kept (value_at-filter test vs function objects) (test v.cell.function) (is_cell function objects v) refl refl
  where
    kept : (value_at (filter (λ v. test v.cell.function) vs) function objects ≡ (if test function then value_at vs function objects else None)) → (b here : Bool) → test v.cell.function ≡ b → is_cell function objects v ≡ here →
        value_at (cond b (v ∷ filter (λ v. test v.cell.function) vs) (filter (λ v. test v.cell.function) vs)) function objects ≡ cond (test function) (cond (is_cell function objects v) (Some v.value) (value_at vs function objects)) None
    kept rest true true b h =
        let own : test function ≡ true = ap test (same_key-number function objects v.cell.function v.cell.objects h) ∙ b in
        rw (own, h) refl
    kept rest false true b h =
        let own : test function ≡ false = ap test (same_key-number function objects v.cell.function v.cell.objects h) ∙ b in
        rw own (rest ∙ ap (λ (x : Bool). cond x (value_at vs function objects) None) own)
    kept rest true false b h = rw h rest
    kept rest false false b h = rw h rest

-- nothing is found where each value is of another term
pub value_at-none : (v : Valued) (ws : List Valued) → AllByRecursion (λ w. same_cell v w ≡ false) ws → value_at ws v.cell.function v.cell.objects ≡ None
value_at-none v [] all = refl
value_at-none v (w ∷ ws) all = rw all.0 (value_at-none v ws all.1)

-- the values of a sorted list that are put in hide the older ones
pub value_at-fold : (ws vs : List Valued) (function : ℕ) (objects : List ℕ) → IsSortedList cell_before vs → value_at (fold with_value ws vs) function objects ≡ option_or (value_at vs function objects) (value_at ws function objects)
value_at-fold ws [] function objects sorted = refl
value_at-fold ws (v ∷ vs) function objects sorted = value_at-fold (with_value ws v) vs function objects sorted.1 ∙ put (is_cell function objects v) refl
  where
    none : is_cell function objects v ≡ true → value_at vs function objects ≡ None
    none here =
        ap (λ (n : ℕ). value_at vs n objects) (same_key-number function objects v.cell.function v.cell.objects here)
        ∙ ap (λ (ns : List ℕ). value_at vs v.cell.function ns) (same_key-objects function objects v.cell.function v.cell.objects here)
        ∙ value_at-none v vs (all_weaker (λ w. cell_before v w ≡ true) (λ w. same_cell v w ≡ false) (λ w before. cell_before-apart v w before) vs sorted.0)

    put : (here : Bool) → is_cell function objects v ≡ here → option_or (value_at vs function objects) (value_at (with_value ws v) function objects) ≡ option_or (cond (is_cell function objects v) (Some v.value) (value_at vs function objects)) (value_at ws function objects)
    put true h = rw (none h, value_at-with_value ws v function objects, h) refl
    put false h = rw (value_at-with_value ws v function objects, h) refl

-- atoms

-- an atom that is put in is there, and each other is as before
pub is_there-with_atom : (bs : List Atom) (a : Atom) (predicate : ℕ) (objects : List ℕ) → list_any (is_atom predicate objects) (with_atom bs a) ≡ (is_atom predicate objects a || list_any (is_atom predicate objects) bs)
is_there-with_atom [] a predicate objects = refl
is_there-with_atom (b ∷ bs) a predicate objects = put (is_there-with_atom bs a predicate objects) (same_atom a b) (atom_before a b) refl
  where
    shared : same_atom a b ≡ true → is_atom predicate objects a ≡ is_atom predicate objects b
    shared s =
        ap (λ (n : ℕ). same_key predicate objects n a.objects) (same_key-number a.predicate a.objects b.predicate b.objects s)
        ∙ ap (λ (ns : List ℕ). same_key predicate objects b.predicate ns) (same_key-objects a.predicate a.objects b.predicate b.objects s)

    twice : (x y : Bool) → (x || y) ≡ (x || (x || y))
    twice true y = refl
    twice false y = refl

    turned : (x y z : Bool) → (x || (y || z)) ≡ (y || (x || z))
    turned true true z = refl
    turned true false z = refl
    turned false y z = refl

    put : (list_any (is_atom predicate objects) (with_atom bs a) ≡ (is_atom predicate objects a || list_any (is_atom predicate objects) bs)) → (same before : Bool) → same_atom a b ≡ same →
        list_any (is_atom predicate objects) (cond same (b ∷ bs) (cond before (a ∷ b ∷ bs) (b ∷ with_atom bs a))) ≡ (is_atom predicate objects a || (is_atom predicate objects b || list_any (is_atom predicate objects) bs))
    put rest true before s = rw (shared s) (twice (is_atom predicate objects b) (list_any (is_atom predicate objects) bs))
    put rest false true s = refl
    put rest false false s = ap (λ (x : Bool). is_atom predicate objects b || x) rest ∙ turned (is_atom predicate objects b) (is_atom predicate objects a) (list_any (is_atom predicate objects) bs)

-- an atom that is taken out is not there, and each other is as before
pub is_there-without_atom : (bs : List Atom) (a : Atom) (predicate : ℕ) (objects : List ℕ) → list_any (is_atom predicate objects) (without_atom bs a) ≡ (not (is_atom predicate objects a) && list_any (is_atom predicate objects) bs)
is_there-without_atom [] a predicate objects = none (is_atom predicate objects a)
  where
    none : (x : Bool) → false ≡ (not x && false)
    none true = refl
    none false = refl
is_there-without_atom (b ∷ bs) a predicate objects = take (is_there-without_atom bs a predicate objects) (same_atom a b) (is_atom predicate objects a) (is_atom predicate objects b) refl refl refl
  where
    both : is_atom predicate objects a ≡ true → is_atom predicate objects b ≡ true → same_atom a b ≡ true
    both x y =
        ap (λ (n : ℕ). same_key n a.objects b.predicate b.objects) (sym (same_key-number predicate objects a.predicate a.objects x))
        ∙ ap (λ (ns : List ℕ). same_key predicate ns b.predicate b.objects) (sym (same_key-objects predicate objects a.predicate a.objects x))
        ∙ y

    shared : same_atom a b ≡ true → is_atom predicate objects a ≡ is_atom predicate objects b
    shared s =
        ap (λ (n : ℕ). same_key predicate objects n a.objects) (same_key-number a.predicate a.objects b.predicate b.objects s)
        ∙ ap (λ (ns : List ℕ). same_key predicate objects b.predicate ns) (same_key-objects a.predicate a.objects b.predicate b.objects s)

    take : (list_any (is_atom predicate objects) (without_atom bs a) ≡ (not (is_atom predicate objects a) && list_any (is_atom predicate objects) bs)) → (same here there : Bool) → same_atom a b ≡ same → is_atom predicate objects a ≡ here → is_atom predicate objects b ≡ there →
        list_any (is_atom predicate objects) (cond (not same) (b ∷ without_atom bs a) (without_atom bs a)) ≡ (not (is_atom predicate objects a) && (is_atom predicate objects b || list_any (is_atom predicate objects) bs))
    take rest true true there s h t = rest ∙ rw h refl
    take rest true false there s h t = rest ∙ rw (h, sym (shared s) ∙ h) refl
    take rest false true true s h t = absurd (false≢true (sym s ∙ both h t))
    take rest false true false s h t = rw (t, h) (rest ∙ rw h refl)
    take rest false false there s h t =
        let apart : (is_atom predicate objects b || (not (is_atom predicate objects a) && list_any (is_atom predicate objects) bs)) ≡ (not (is_atom predicate objects a) && (is_atom predicate objects b || list_any (is_atom predicate objects) bs)) = rw h refl in
        ap (λ (x : Bool). is_atom predicate objects b || x) rest ∙ apart
