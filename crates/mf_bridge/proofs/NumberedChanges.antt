-- What the same changes do to an atom and to a term, by their names and by their numbers.
use Rattle.std.proofs.Common.{◌≡◌, ℕ, Bool, true, false, not, ◌&&◌, ◌||◌, cond, nat_eq, ℤ, pos, ◌*ℤ◌, List, [], ◌∷◌, length, Option, Some, None, refl, sym, ap, ap₂, ◌∙◌, arith}
use Rattle.std.specs.Prelude.{get_or}
use Rattle.std.specs.List.{flat_map, fold, list_all, list_any, position, position_or_len}
use Rattle.std.specs.Option.{is_some}
use Rattle.std.specs.Ordering.{int_eq}
use Rattle.std.proofs.lemmas.Bool.{and_parts, eq-eqb, eqb-true, false≢true, le-ltb, lt-ltb}
use Rattle.std.proofs.lemmas.List.Folds.{list_any-append}
use Rattle.std.proofs.lemmas.List.Sums.{passes_at_first}
use Rattle.mf_fraction.specs.Exact.{Number, is_same, quotient_of, whole}
use Rattle.mf_fraction.proofs.Algebra.{quotient_of-none}
use Rattle.mf_fraction.proofs.Signed.{equal_by, natural, times}
use Rattle.mf_model.specs.declared.task.Op.{Op}
use Rattle.mf_model.specs.declared.task.Op.TheVariants.{Assign, Increase, Decrease, ScaleUp, ScaleDown}
use Rattle.mf_model.specs.declared.task.Atom.{Atom}
use Rattle.mf_model.specs.declared.task.Cell.{Cell}
use Rattle.mf_model.specs.declared.task.Valued.{Valued}
use Rattle.mf_model.specs.declared.task.TypedTask.{TypedTask}
use Rattle.mf_model.specs.Application.{Change, Added, Deleted, Changed, added, deleted, divides_by_zero, is_defined, new_value, reads_old, with_change, with_some_value}
use Rattle.mf_model.specs.Functions.{is_cost}
use Rattle.mf_model.specs.States.{is_atom, value_at, without_atom}
use Rattle.mf_model.specs.Views.{Look}
use Rattle.mf_meaning.proofs.Lookups.{is_there-without_atom, value_at-with_value}
use Rattle.mf_meaning.proofs.NumberOrder.{same_key, same_key-number, same_key-objects}
use Rattle.mf_task.specs.declared.ground.GroundChange.{GroundChange}
use Rattle.mf_task.specs.declared.ground.GroundChange.TheVariants as change
use Rattle.mf_task.specs.declared.task.Task.{Task}
use Rattle.mf_task.specs.GroundMeaning.{adds_atom, deletes_atom, right_side, value_after}
use Rattle.mf_task.specs.Grounding.{is_same_cell}
use Rattle.mf_task.specs.Rows.{Sight}
use Rattle.mf_bridge.specs.Corresponds.{AreSameChanges, IsSameChange}
use Rattle.mf_bridge.proofs.ListTests.{place_past, place_within}
use Rattle.mf_bridge.proofs.MatchedChanges.{holds_of_changes, holds_of_same}

-- numbers tell names apart

record IsAt {X : Type 0} (u : X → Bool) (xs : List X) (m : ℕ) : Type 0 where
  listed : list_any u xs ≡ true
  place : position_or_len u xs ≡ m

is_at : {X : Type 0} (u : X → Bool) (xs : List X) (m : ℕ) → position u xs ≡ Some m → IsAt u xs m
is_at {X} u xs m found = by (list_any u xs) refl
  where
    by : (b : Bool) → list_any u xs ≡ b → IsAt u xs m
    by true e =
        let within = lt-ltb (position_or_len u xs) (length xs) (place_within u xs e) in
        let some : Some (position_or_len u xs) ≡ Some m = sym (ap (λ (c : Bool). cond c (Some (position_or_len u xs)) None) within) ∙ found in
        let here : position_or_len u xs ≡ m = cc in
        record { listed = e; place = here }
    by false e =
        let past = place_past u xs e in
        let out = le-ltb (position_or_len u xs) (length xs) (omega (arith, past)) in
        let none : None ≡ Some m = sym (ap (λ (c : Bool). cond c (Some (position_or_len u xs)) None) out) ∙ found in
        cc

-- whether two tests are one, where the number of the second is known
number_tells : {X : Type 0} (t u : X → Bool) (xs : List X) (m : ℕ) (d : X) (same : Bool) → (same ≡ true → t ≡ u) → ((x : X) → t x ≡ true → u x ≡ true → same ≡ true) → IsAt u xs m →
    same ≡ (list_any t xs && nat_eq (position_or_len t xs) m)
number_tells t u xs m d true one both at =
    let is : t ≡ u = one refl in
    sym (ap (λ (s : _ → Bool). list_any s xs && nat_eq (position_or_len s xs) m) is
    ∙ ap (λ (b : Bool). b && nat_eq (position_or_len u xs) m) at.listed
    ∙ eq-eqb (position_or_len u xs) m at.place)
number_tells {X} t u xs m d false one both at = by (list_any t xs) (nat_eq (position_or_len t xs) m) refl refl
  where
    by : (listed here : Bool) → list_any t xs ≡ listed → nat_eq (position_or_len t xs) m ≡ here → false ≡ (listed && here)
    by false here l h = refl
    by true false l h = refl
    by true true l h =
        let place : position_or_len t xs ≡ position_or_len u xs = eqb-true (position_or_len t xs) m h ∙ sym at.place in
        let first = passes_at_first t xs d (place_within t xs l) in
        let second = passes_at_first u xs d (place_within u xs at.listed) in
        both (get_or xs (position_or_len u xs) d) (ap (λ (n : ℕ). t (get_or xs n d)) (sym place) ∙ first) second

atom_tells : (p : ℕ) (os : List ℕ) (q : ℕ) (qs : List ℕ) (atoms : List Atom) (m : ℕ) → position (is_atom q qs) atoms ≡ Some m →
    same_key p os q qs ≡ (list_any (is_atom p os) atoms && nat_eq (position_or_len (is_atom p os) atoms) m)
atom_tells p os q qs atoms m found =
    number_tells (is_atom p os) (is_atom q qs) atoms m (record { predicate = q; objects = qs }) (same_key p os q qs)
    (λ e. ap (λ (n : ℕ). is_atom n os) (same_key-number p os q qs e) ∙ ap (λ (ns : List ℕ). is_atom q ns) (same_key-objects p os q qs e))
    (λ a first second.
    ap (λ (n : ℕ). same_key p os n qs) (same_key-number q qs a.predicate a.objects second)
    ∙ ap (λ (ns : List ℕ). same_key p os a.predicate ns) (same_key-objects q qs a.predicate a.objects second) ∙ first)
    (is_at (is_atom q qs) atoms m found)

cell_tells : (f : ℕ) (os : List ℕ) (g : ℕ) (qs : List ℕ) (cells : List Cell) (m : ℕ) → position (is_same_cell g qs) cells ≡ Some m →
    same_key f os g qs ≡ (list_any (is_same_cell f os) cells && nat_eq (position_or_len (is_same_cell f os) cells) m)
cell_tells f os g qs cells m found =
    number_tells (is_same_cell f os) (is_same_cell g qs) cells m (record { function = g; objects = qs }) (same_key f os g qs)
    (λ e. ap (λ (n : ℕ). is_same_cell n os) (same_key-number f os g qs e) ∙ ap (λ (ns : List ℕ). is_same_cell g ns) (same_key-objects f os g qs e))
    (λ c first second.
    ap (λ (n : ℕ). same_key f os n qs) (same_key-number g qs c.function c.objects second)
    ∙ ap (λ (ns : List ℕ). same_key f os c.function ns) (same_key-objects g qs c.function c.objects second) ∙ first)
    (is_at (is_same_cell g qs) cells m found)

-- atoms

shared_or : (among a b c d : Bool) → a ≡ (among && b) → c ≡ (among && d) → (a || c) ≡ (among && (b || d))
shared_or among a b c d e g = ap (λ (x : Bool). x || c) e ∙ ap (λ (x : Bool). (among && b) || x) g ∙ by among
  where
    by : (x : Bool) → ((x && b) || (x && d)) ≡ (x && (b || d))
    by true = refl
    by false = refl

module _ (task : TypedTask) (packed : Task) (sight : Sight) (p : ℕ) (os : List ℕ) where
  abbrev among_atoms : Bool
  among_atoms = list_any (is_atom p os) packed.atoms

  abbrev atom_place : ℕ
  atom_place = position_or_len (is_atom p os) packed.atoms

  nothing : (b : Bool) → false ≡ (b && false)
  nothing true = refl
  nothing false = refl

  alone : (b : Bool) → (b || false) ≡ b
  alone true = refl
  alone false = refl

  abbrev IsAlike : (Change → List Atom) → (GroundChange → Bool) → GroundChange → Change → Type 0
  IsAlike named numbered g c = list_any (is_atom p os) (named c) ≡ (among_atoms && numbered g)

  add_step : (g : GroundChange) (c : Change) → IsSameChange task packed sight g c → IsAlike added (adds_atom atom_place) g c
  add_step = holds_of_same task packed sight (IsAlike added (adds_atom atom_place)) (record {
    add = λ n q qs same. alone (same_key p os q qs) ∙ atom_tells p os q qs packed.atoms n same;
    delete = λ n q qs same. nothing among_atoms;
    number = λ o term right op g qs value same. nothing among_atoms;
    cost = λ right op g qs value same. nothing among_atoms;
  })

  delete_step : (g : GroundChange) (c : Change) → IsSameChange task packed sight g c → IsAlike deleted (deletes_atom atom_place) g c
  delete_step = holds_of_same task packed sight (IsAlike deleted (deletes_atom atom_place)) (record {
    add = λ n q qs same. nothing among_atoms;
    delete = λ n q qs same. alone (same_key p os q qs) ∙ atom_tells p os q qs packed.atoms n same;
    number = λ o term right op g qs value same. nothing among_atoms;
    cost = λ right op g qs value same. nothing among_atoms;
  })

  all_steps : (named : Change → List Atom) (numbered : GroundChange → Bool) → ((g : GroundChange) (c : Change) → IsSameChange task packed sight g c → IsAlike named numbered g c) → numbered change.Nothing ≡ false →
      (gs : List GroundChange) (cs : List Change) → AreSameChanges task packed sight gs cs → list_any (is_atom p os) (flat_map named cs) ≡ (among_atoms && list_any numbered gs)
  all_steps named numbered step skipped = holds_of_changes task packed sight (λ gs cs. list_any (is_atom p os) (flat_map named cs) ≡ (among_atoms && list_any numbered gs)) (record {
    none = nothing among_atoms;
    nothing = λ gs cs rest. rest ∙ ap (λ (b : Bool). among_atoms && (b || list_any numbered gs)) (sym skipped);
    more = λ g gs c cs same rest.
        list_any-append (is_atom p os) (named c) (flat_map named cs)
        ∙ shared_or among_atoms (list_any (is_atom p os) (named c)) (numbered g) (list_any (is_atom p os) (flat_map named cs)) (list_any numbered gs) (step g c same) rest;
  })

  pub adds_alike : (gs : List GroundChange) (cs : List Change) → AreSameChanges task packed sight gs cs → list_any (is_atom p os) (flat_map added cs) ≡ (among_atoms && list_any (adds_atom atom_place) gs)
  adds_alike = all_steps added (adds_atom atom_place) add_step refl

  pub deletes_alike : (gs : List GroundChange) (cs : List Change) → AreSameChanges task packed sight gs cs → list_any (is_atom p os) (flat_map deleted cs) ≡ (among_atoms && list_any (deletes_atom atom_place) gs)
  deletes_alike = all_steps deleted (deletes_atom atom_place) delete_step refl

pub any_taken_out : (p : ℕ) (os : List ℕ) (bs xs : List Atom) → list_any (is_atom p os) (fold without_atom bs xs) ≡ (not (list_any (is_atom p os) xs) && list_any (is_atom p os) bs)
any_taken_out p os bs [] = refl
any_taken_out p os bs (x ∷ xs) =
    any_taken_out p os (without_atom bs x) xs
    ∙ ap (λ (b : Bool). not (list_any (is_atom p os) xs) && b) (is_there-without_atom bs x p os)
    ∙ by (is_atom p os x) (list_any (is_atom p os) xs) (list_any (is_atom p os) bs)
  where
    by : (a b c : Bool) → (not b && (not a && c)) ≡ (not (a || b) && c)
    by true true c = refl
    by true false c = refl
    by false b c = refl

-- values

zero_divides : (b : Number) → b.num ≡ pos 0 → is_same b (whole (pos 0)) ≡ true
unfolding is_same
zero_divides b zero_num =
    let left : b.num *ℤ pos 1 ≡ pos 0 = ap (λ (z : ℤ). z *ℤ pos 1) zero_num ∙ equal_by (times (natural 0) (natural 1)) (natural 0) (omega arith) in
    let right : pos 0 *ℤ pos b.den ≡ pos 0 = equal_by (times (natural 0) (natural b.den)) (natural 0) (omega arith) in
    ap₂ int_eq left right

quotient_some : (a b : Number) → not (is_same b (whole (pos 0))) ≡ true → is_some (quotient_of a b) ≡ true
quotient_some a b apart = by (quotient_of a b) refl
  where
    by : (q : Option Number) → quotient_of a b ≡ q → is_some q ≡ true
    by (Some q) e = refl
    by None e = absurd (false≢true (sym (ap (λ (c : Bool). not c) (zero_divides b ((quotient_of-none a b).0 e))) ∙ apart))

-- a change that reads only defined values gives one
new_is_some : (op : Op) (old value : Option Number) → is_some value ≡ true → not (divides_by_zero op value) ≡ true → (reads_old op ≡ true → is_some old ≡ true) → is_some (new_value op old value) ≡ true
new_is_some Assign old value some apart before = some
new_is_some Increase (Some a) (Some b) some apart before = refl
new_is_some Increase None value some apart before = absurd (false≢true (before refl))
new_is_some Increase (Some a) None some apart before = absurd (false≢true some)
new_is_some Decrease (Some a) (Some b) some apart before = refl
new_is_some Decrease None value some apart before = absurd (false≢true (before refl))
new_is_some Decrease (Some a) None some apart before = absurd (false≢true some)
new_is_some ScaleUp (Some a) (Some b) some apart before = refl
new_is_some ScaleUp None value some apart before = absurd (false≢true (before refl))
new_is_some ScaleUp (Some a) None some apart before = absurd (false≢true some)
new_is_some ScaleDown (Some a) (Some b) some apart before = quotient_some a b apart
new_is_some ScaleDown None value some apart before = absurd (false≢true (before refl))
new_is_some ScaleDown (Some a) None some apart before = absurd (false≢true some)

-- a value that is put in
put_value : (values : List Valued) (g : ℕ) (qs : List ℕ) (new : Option Number) (f : ℕ) (os : List ℕ) → is_some new ≡ true → value_at (with_some_value values g qs new) f os ≡ cond (same_key f os g qs) new (value_at values f os)
put_value values g qs (Some x) f os some = value_at-with_value values (record { cell = record { function = g; objects = qs }; value = x }) f os
put_value values g qs None f os some = absurd (false≢true some)

module _ (task : TypedTask) (packed : Task) (sight : Sight) (look : Look) (f : ℕ) (os : List ℕ) (costless : is_cost task f ≡ false) where
  abbrev among_terms : Bool
  among_terms = list_any (is_same_cell f os) packed.terms

  abbrev term_place : ℕ
  term_place = position_or_len (is_same_cell f os) packed.terms

  -- each term that was defined still is
  abbrev StaysDefined : List Valued → Type 0
  StaysDefined values = (g : ℕ) (qs : List ℕ) → is_some (look.value g qs) ≡ true → is_some (value_at values g qs) ≡ true

  record IsNew (values : List Valued) (op : Op) (g : ℕ) (qs : List ℕ) (value : Option Number) : Type 0 where
    some : is_some (new_value op (value_at values g qs) value) ≡ true

  defined_is_new : (values : List Valued) (op : Op) (g : ℕ) (qs : List ℕ) (value : Option Number) → StaysDefined values → is_defined look (Changed op g qs value) ≡ true → IsNew values op g qs value
  defined_is_new values op g qs value stays defined =
      let outer = and_parts (is_some value && not (divides_by_zero op value)) (not (reads_old op) || is_some (look.value g qs)) defined in
      let inner = and_parts (is_some value) (not (divides_by_zero op value)) outer.0 in
      record { some = new_is_some op (value_at values g qs) value inner.0 inner.1 (λ reads. stays g qs (read (reads_old op) reads outer.1)) }
    where
      read : (b : Bool) → b ≡ true → (not b || is_some (look.value g qs)) ≡ true → is_some (look.value g qs) ≡ true
      read true e h = h
      read false e h = absurd (false≢true e)

  step_stays : (values : List Valued) (c : Change) → is_defined look c ≡ true → StaysDefined values → StaysDefined (with_change values c)
  step_stays values (Added q qs) defined stays = stays
  step_stays values (Deleted q qs) defined stays = stays
  step_stays values (Changed op g qs value) defined stays = λ h hs some.
      let new = (defined_is_new values op g qs value stays defined).some in
      ap (λ (x : Option Number). is_some x) (put_value values g qs (new_value op (value_at values g qs) value) h hs new)
      ∙ by (same_key h hs g qs) (new_value op (value_at values g qs) value) (value_at values h hs) new (stays h hs some)
    where
      by : (b : Bool) (x y : Option Number) → is_some x ≡ true → is_some y ≡ true → is_some (cond b x y) ≡ true
      by true x y a c = a
      by false x y a c = c

  same_number_change : (values : List Valued) (op : Op) (g : ℕ) (qs : List ℕ) (value : Option Number) (o : Op) (m : ℕ) (right : Option ℕ) → IsNew values op g qs value →
      o ≡ op → position (is_same_cell g qs) packed.terms ≡ Some m → right_side packed sight right ≡ value →
      value_at (with_change values (Changed op g qs value)) f os ≡ cond among_terms (value_after packed sight term_place (value_at values f os) (change.Number o m right)) (value_at values f os)
  same_number_change values op g qs value o m right new is found side =
      put_value values g qs (new_value op (value_at values g qs) value) f os new.some
      ∙ by (same_key f os g qs) refl
      ∙ ap (λ (b : Bool). cond b (new_value op (value_at values f os) value) (value_at values f os)) (cell_tells f os g qs packed.terms m found)
      ∙ split among_terms (nat_eq term_place m)
      ∙ ap (λ (x : Op). cond among_terms (cond (nat_eq term_place m) (new_value x (value_at values f os) value) (value_at values f os)) (value_at values f os)) (sym is)
      ∙ ap (λ (y : Option Number). cond among_terms (cond (nat_eq term_place m) (new_value o (value_at values f os) y) (value_at values f os)) (value_at values f os)) (sym side)
    where
      by : (b : Bool) → same_key f os g qs ≡ b → cond b (new_value op (value_at values g qs) value) (value_at values f os) ≡ cond b (new_value op (value_at values f os) value) (value_at values f os)
      by true e =
          ap (λ (n : ℕ). new_value op (value_at values n qs) value) (sym (same_key-number f os g qs e))
          ∙ ap (λ (ns : List ℕ). new_value op (value_at values f ns) value) (sym (same_key-objects f os g qs e))
      by false e = refl

      split : (a b : Bool) → cond (a && b) (new_value op (value_at values f os) value) (value_at values f os) ≡ cond a (cond b (new_value op (value_at values f os) value) (value_at values f os)) (value_at values f os)
      split true b = refl
      split false b = refl

  unchanged : (b : Bool) (x : Option Number) → x ≡ cond b x x
  unchanged true x = refl
  unchanged false x = refl

  -- a cost function is another one
  cost_change : (values : List Valued) (op : Op) (g : ℕ) (qs : List ℕ) (value : Option Number) → IsNew values op g qs value → is_cost task g ≡ true → value_at (with_change values (Changed op g qs value)) f os ≡ value_at values f os
  cost_change values op g qs value new cost = put_value values g qs (new_value op (value_at values g qs) value) f os new.some ∙ by (same_key f os g qs) refl
    where
      by : (b : Bool) → same_key f os g qs ≡ b → cond b (new_value op (value_at values g qs) value) (value_at values f os) ≡ value_at values f os
      by true e = absurd (false≢true (sym costless ∙ ap (is_cost task) (same_key-number f os g qs e) ∙ cost))
      by false e = refl

  abbrev IsOneAfter : List Valued → GroundChange → Change → Type 0
  IsOneAfter values g c = is_defined look c ≡ true → value_at (with_change values c) f os ≡ cond among_terms (value_after packed sight term_place (value_at values f os) g) (value_at values f os)

  value_step : (values : List Valued) → StaysDefined values → (g : GroundChange) (c : Change) → IsSameChange task packed sight g c → IsOneAfter values g c
  value_step values stays = holds_of_same task packed sight (IsOneAfter values) (record {
    add = λ n q qs same defined. unchanged among_terms (value_at values f os);
    delete = λ n q qs same defined. unchanged among_terms (value_at values f os);
    number = λ o m right op g qs value same defined. same_number_change values op g qs value o m right (defined_is_new values op g qs value stays defined) same.0 same.2 same.3;
    cost = λ right op g qs value same defined. cost_change values op g qs value (defined_is_new values op g qs value stays defined) same.0 ∙ unchanged among_terms (value_at values f os);
  })

  abbrev IsAfter : List Valued → List GroundChange → List Change → Type 0
  IsAfter values gs cs = value_at (fold with_change values cs) f os ≡ cond among_terms (fold (value_after packed sight term_place) (value_at values f os) gs) (value_at values f os)

  joined : (values : List Valued) (g : GroundChange) (gs : List GroundChange) (c : Change) (cs : List Change) →
      value_at (with_change values c) f os ≡ cond among_terms (value_after packed sight term_place (value_at values f os) g) (value_at values f os) → IsAfter (with_change values c) gs cs →
      value_at (fold with_change (with_change values c) cs) f os ≡ cond among_terms (fold (value_after packed sight term_place) (value_after packed sight term_place (value_at values f os) g) gs) (value_at values f os)
  joined values g gs c cs one rest =
      rest
      ∙ ap (λ (x : Option Number). cond among_terms (fold (value_after packed sight term_place) x gs) x) one
      ∙ by among_terms (value_after packed sight term_place (value_at values f os) g) (value_at values f os)
    where
      by : (b : Bool) (x y : Option Number) → cond b (fold (value_after packed sight term_place) (cond b x y) gs) (cond b x y) ≡ cond b (fold (value_after packed sight term_place) x gs) y
      by true x y = refl
      by false x y = refl

  abbrev AreAfter : List GroundChange → List Change → Type 0
  AreAfter gs cs = (values : List Valued) → list_all (is_defined look) cs ≡ true → StaysDefined values → IsAfter values gs cs

  pub values_alike : (gs : List GroundChange) (cs : List Change) → AreSameChanges task packed sight gs cs → AreAfter gs cs
  values_alike = holds_of_changes task packed sight AreAfter (record {
    none = λ values defined stays. unchanged among_terms (value_at values f os);
    nothing = λ gs cs rest. rest;
    more = λ g gs c cs same rest values defined stays.
        let both = and_parts (is_defined look c) (list_all (is_defined look) cs) defined in
        joined values g gs c cs (value_step values stays g c same both.0) (rest (with_change values c) both.1 (step_stays values c both.0 stays));
  })
