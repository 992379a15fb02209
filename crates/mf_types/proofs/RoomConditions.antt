-- Conditions that are read have at most 64 variables in scope at one place.
use Rattle.std.proofs.Common.{◌≡◌, ℕ, ◌+◌, ◌≤◌, max, Option, Some, None, List, [], ◌∷◌, map, length, refl, subst, sym, ap, ◌∙◌, arith}
use Rattle.std.proofs.lemmas.List.{length-map}
use Rattle.mf_model.specs.declared.form.Typed.{Typed}
use Rattle.mf_model.specs.declared.form.RawCond.{RawCond}
use Rattle.mf_model.specs.declared.form.RawCond.TheOpen.{RawCond-F}
use Rattle.mf_model.specs.declared.form.RawCond.TheFolds.{ind-RawCond, fold-roll-RawCond, map-RawCond}
use Rattle.mf_model.specs.declared.task.Cond.{Cond}
use Rattle.mf_model.specs.declared.task.Cond.TheVariants as c
use Rattle.mf_model.specs.declared.task.Cond.TheOpen.{Cond-F}
use Rattle.mf_model.specs.declared.task.Cond.TheViews.{roll-Cond}
use Rattle.mf_model.specs.declared.task.Cond.TheFolds.{fold-roll-Cond, map-Cond}
use Rattle.mf_model.specs.Options.{all_some}
use Rattle.mf_types.specs.Names.{Declared, item_types}
use Rattle.mf_types.specs.Typing.{Binders, inside, within, types_in, predicate_of, term_of, terms_of, expr_of, cond_step, cond_of}
use Rattle.mf_types.proofs.Given.{IfGiven, anything, then_given, made_given, both_given}
use Rattle.mf_types.proofs.TaskReadings.{at_most}
use Rattle.mf_types.proofs.ValidConditions.{HasRoom, inside_valid}
use Rattle.mf_model.specs.Trees.{greatest}
use Rattle.mf_model.specs.VariableScopes.{scope_step, scope_of}

-- numbers of variables

pub fits_zero : (n scope : ℕ) → n ≤ 64 → scope ≡ 0 → n + scope ≤ 64
fits_zero n scope room e = omega (arith, room, e)

pub fits_same : (n scope other : ℕ) → scope ≡ other → n + other ≤ 64 → n + scope ≤ 64
fits_same n scope other e h = omega (arith, e, h)

pub fits_max : (n left right : ℕ) → n + left ≤ 64 → n + right ≤ 64 → n + max left right ≤ 64
fits_max n left right h k = omega (arith, h, k)

-- parts

pub parts_fit : {X Y A : Type 0} (scope : A → ℕ) (read : Y → Binders → Option A) (view : X → Y) (binders : Binders) → length binders ≤ 64 →
    ((x : X) → IfGiven (λ a. length binders + scope a ≤ 64) (read (view x) binders)) → (xs : List X) →
    IfGiven (λ values. length binders + greatest (map scope values) ≤ 64) (all_some (map (λ part. part binders) (map read (map view xs))))
parts_fit scope read view binders room h [] = fits_zero (length binders) 0 room refl
parts_fit {A = A} scope read view binders room h (x ∷ xs) =
    let Fit : A → Type 0 = λ a. length binders + scope a ≤ 64 in
    let Fits : List A → Type 0 = λ values. length binders + greatest (map scope values) ≤ 64 in
    then_given Fit Fits (read (view x) binders) _ (h x) (λ a here.
    made_given Fits Fits (λ values. a ∷ values) _ (parts_fit scope read view binders room h xs) (λ values rest.
    fits_max (length binders) (scope a) (greatest (map scope values)) here rest))

-- a part inside a list of variables

moved : {A : Type 0} (scope : A → ℕ) (inner binders items : ℕ) → inner ≡ binders + items → (o : Option A) → IfGiven (λ a. inner + scope a ≤ 64) o → IfGiven (λ a. binders + (items + scope a) ≤ 64) o
moved scope inner binders items e None h = tt
moved scope inner binders items e (Some a) h = omega (arith, e, h)

pub within_fits : {A : Type 0} (scope : A → ℕ) (items : List Typed) (read : Binders → Option A) (binders : Binders) →
    ((inner : Binders) → length inner ≤ 64 → IfGiven (λ a. length inner + scope a ≤ 64) (read inner)) →
    IfGiven (λ a. length binders + (length items + scope a) ≤ 64) (within items read binders)
within_fits {A = A} scope items read binders h =
    let Fit : A → Type 0 = λ a. length binders + (length items + scope a) ≤ 64 in
    then_given (HasRoom binders items) Fit (inside binders items) read (inside_valid binders items) (λ inner has.
    let count = has.count in
    let limit = at_most _ _ has.room in
    moved scope (length inner) (length binders) (length items) count (read inner) (h inner (omega (arith, count, limit))))

pub types_count : (declared : Declared) (items : List Typed) (n : ℕ) → length (types_in declared items) + n ≡ length items + n
types_count declared items n = ap (λ (count : ℕ). count + n) (length-map items (item_types declared.types))

-- conditions

rolled : (whole : Cond) (y : Cond-F Cond) → roll-Cond y ≡ whole → scope_of whole ≡ scope_step (map-Cond Cond ℕ scope_of y)
rolled whole y e = ap scope_of (sym e) ∙ fold-roll-Cond ℕ scope_step y

module _ (declared : Declared) where
  abbrev pub Claim : RawCond → Type 0
  Claim e = (binders : Binders) → length binders ≤ 64 → IfGiven (λ a. length binders + scope_of a ≤ 64) (cond_of declared e binders)

  abbrev Piece : Type 0
  Piece = (e : RawCond) × Claim e

  abbrev raw_of : Piece → RawCond
  raw_of p = p.0

  Layer : RawCond-F RawCond → Type 0
  Layer y = (binders : Binders) → length binders ≤ 64 → IfGiven (λ a. length binders + scope_of a ≤ 64) (cond_step declared (map-RawCond RawCond (Binders → Option Cond) (cond_of declared) y) binders)

  level : (y : RawCond-F Piece) → Layer (map-RawCond Piece RawCond raw_of y)
  unfolding Layer
  level (RawCond-F.Atom predicate terms span) binders room =
      let Fit : Cond → Type 0 = λ a. length binders + scope_of a ≤ 64 in
      then_given (λ _. Unit {0}) Fit (predicate_of declared predicate.text (length terms)) _ (anything (predicate_of declared predicate.text (length terms))) (λ n _.
      made_given (λ _. Unit {0}) Fit (λ ts. c.Atom n ts) (terms_of declared binders terms) (anything (terms_of declared binders terms)) (λ ts _.
      fits_zero (length binders) (scope_of (c.Atom n ts)) room (rolled (c.Atom n ts) (Cond-F.Atom n ts) (c.rolls-Atom n ts))))
  level (RawCond-F.Same left right span) binders room =
      both_given (λ _. Unit {0}) (λ _. Unit {0}) (λ a. length binders + scope_of a ≤ 64) c.Same (term_of declared binders left) (term_of declared binders right)
      (anything (term_of declared binders left)) (anything (term_of declared binders right)) (λ a b _ _.
      fits_zero (length binders) (scope_of (c.Same a b)) room (rolled (c.Same a b) (Cond-F.Same a b) (c.rolls-Same a b)))
  level (RawCond-F.Compare relation left right span) binders room =
      both_given (λ _. Unit {0}) (λ _. Unit {0}) (λ a. length binders + scope_of a ≤ 64) (c.Compare relation) (expr_of declared left binders) (expr_of declared right binders)
      (anything (expr_of declared left binders)) (anything (expr_of declared right binders)) (λ a b _ _.
      fits_zero (length binders) (scope_of (c.Compare relation a b)) room (rolled (c.Compare relation a b) (Cond-F.Compare relation a b) (c.rolls-Compare relation a b)))
  level (RawCond-F.Not part span) binders room =
      let Fit : Cond → Type 0 = λ a. length binders + scope_of a ≤ 64 in
      made_given Fit Fit c.Not (cond_of declared part.0 binders) (part.1 binders room) (λ a h.
      fits_same (length binders) (scope_of (c.Not a)) (scope_of a) (rolled (c.Not a) (Cond-F.Not a) (c.rolls-Not a)) h)
  level (RawCond-F.And parts span) binders room =
      made_given (λ found. length binders + greatest (map scope_of found) ≤ 64) (λ a. length binders + scope_of a ≤ 64) c.And _
      (parts_fit scope_of (cond_of declared) raw_of binders room (λ p. p.1 binders room) parts) (λ found h.
      fits_same (length binders) (scope_of (c.And found)) (greatest (map scope_of found)) (rolled (c.And found) (Cond-F.And found) (c.rolls-And found)) h)
  level (RawCond-F.Or parts span) binders room =
      made_given (λ found. length binders + greatest (map scope_of found) ≤ 64) (λ a. length binders + scope_of a ≤ 64) c.Or _
      (parts_fit scope_of (cond_of declared) raw_of binders room (λ p. p.1 binders room) parts) (λ found h.
      fits_same (length binders) (scope_of (c.Or found)) (greatest (map scope_of found)) (rolled (c.Or found) (Cond-F.Or found) (c.rolls-Or found)) h)
  level (RawCond-F.Imply left right span) binders room =
      let Fit : Cond → Type 0 = λ a. length binders + scope_of a ≤ 64 in
      both_given Fit Fit Fit c.Imply (cond_of declared left.0 binders) (cond_of declared right.0 binders) (left.1 binders room) (right.1 binders room) (λ a b h k.
      fits_same (length binders) (scope_of (c.Imply a b)) (max (scope_of a) (scope_of b)) (rolled (c.Imply a b) (Cond-F.Imply a b) (c.rolls-Imply a b)) (fits_max (length binders) (scope_of a) (scope_of b) h k))
  level (RawCond-F.All variables part span) binders room =
      let types = types_in declared variables in
      made_given (λ a. length binders + (length variables + scope_of a) ≤ 64) (λ a. length binders + scope_of a ≤ 64) (λ a. c.All types a) (within variables (cond_of declared part.0) binders)
      (within_fits scope_of variables (cond_of declared part.0) binders part.1) (λ a h.
      fits_same (length binders) (scope_of (c.All types a)) (length variables + scope_of a)
      (rolled (c.All types a) (Cond-F.All types a) (c.rolls-All types a) ∙ types_count declared variables (scope_of a)) h)
  level (RawCond-F.Any variables part span) binders room =
      let types = types_in declared variables in
      made_given (λ a. length binders + (length variables + scope_of a) ≤ 64) (λ a. length binders + scope_of a ≤ 64) (λ a. c.Any types a) (within variables (cond_of declared part.0) binders)
      (within_fits scope_of variables (cond_of declared part.0) binders part.1) (λ a h.
      fits_same (length binders) (scope_of (c.Any types a)) (length variables + scope_of a)
      (rolled (c.Any types a) (Cond-F.Any types a) (c.rolls-Any types a) ∙ types_count declared variables (scope_of a)) h)

  pub cond_fits : (e : RawCond) → Claim e
  unfolding Layer
  cond_fits = ind-RawCond Claim (λ y z is binders room.
      let at_layer = subst (λ v. Layer v) is (level z) binders in
      let by_reading = ap (λ (f : Binders → Option Cond). f binders) (fold-roll-RawCond (Binders → Option Cond) (cond_step declared) y) in
      subst (λ o. IfGiven (λ a. length binders + scope_of a ≤ 64) o) (sym by_reading) (at_layer room))
