-- What holds of each expression that is read holds of both sides of each comparison of a condition that is read.
use Rattle.std.proofs.Common.{◌≡◌, Bool, true, false, Option, List, [], ◌∷◌, map, length, refl, subst, sym, ap, ◌∙◌}
use Rattle.std.specs.List.{list_all}
use Rattle.mf_model.proofs.Choices.{and_true}
use Rattle.mf_model.specs.declared.form.Typed.{Typed}
use Rattle.mf_model.specs.declared.form.RawExpr.{RawExpr}
use Rattle.mf_model.specs.declared.form.RawCond.{RawCond}
use Rattle.mf_model.specs.declared.form.RawCond.TheOpen.{RawCond-F}
use Rattle.mf_model.specs.declared.form.RawCond.TheFolds.{ind-RawCond, fold-roll-RawCond, map-RawCond}
use Rattle.mf_model.specs.declared.task.Expr.{Expr}
use Rattle.mf_model.specs.declared.task.Cond.{Cond}
use Rattle.mf_model.specs.declared.task.Cond.TheVariants as c
use Rattle.mf_model.specs.declared.task.Cond.TheOpen.{Cond-F}
use Rattle.mf_model.specs.declared.task.Cond.TheViews.{roll-Cond}
use Rattle.mf_model.specs.declared.task.Cond.TheFolds.{fold-roll-Cond, map-Cond}
use Rattle.mf_model.specs.Expressions.{every_side_step, every_side}
use Rattle.mf_model.specs.Options.{all_some}
use Rattle.mf_model.specs.Plain.{all_true}
use Rattle.mf_types.specs.declared.least.Fault.{Fault}
use Rattle.mf_types.specs.Conditions as faults
use Rattle.mf_types.specs.Conditions.{all_faults, cond_faults}
use Rattle.mf_types.specs.Expressions.{expr_faults}
use Rattle.mf_types.specs.Quantified as quantified
use Rattle.mf_types.specs.Scopes.{Scope}
use Rattle.mf_types.specs.Sites.{Site}
use Rattle.mf_types.specs.Typing.{Binders, inside, within, types_in, predicate_of, term_of, terms_of, expr_of, cond_step, cond_of}
use Rattle.mf_types.specs.Written as written
use Rattle.mf_types.specs.Written.{is_written_expr, is_written_cond}
use Rattle.mf_types.proofs.Given.{IfGiven, anything, then_given, made_given, both_given, first_true, second_true}
use Rattle.mf_types.proofs.There.{first_empty, second_empty}

-- parts, and a part inside a list of variables

pub parts_pass : {X Y A : Type 0} (test : A → Bool) (is_written : Y → Bool) (part_faults : Y → Scope → List Fault) (read : Y → Binders → Option A) (view : X → Y) (scope : Scope) (binders : Binders) →
    ((x : X) → is_written (view x) ≡ true → part_faults (view x) scope ≡ [] → IfGiven (λ a. test a ≡ true) (read (view x) binders)) → (xs : List X) →
    all_true (map is_written (map view xs)) ≡ true → all_faults (map part_faults (map view xs)) scope ≡ [] →
    IfGiven (λ found. list_all (λ part. part) (map test found) ≡ true) (all_some (map (λ part. part binders) (map read (map view xs))))
parts_pass test is_written part_faults read view scope binders h [] w e = refl
parts_pass {A = A} test is_written part_faults read view scope binders h (x ∷ xs) w e =
    let others = all_true (map is_written (map view xs)) in
    let One : A → Type 0 = λ a. test a ≡ true in
    let Each : List A → Type 0 = λ found. list_all (λ part. part) (map test found) ≡ true in
    then_given One Each (read (view x) binders) _ (h x (first_true (is_written (view x)) others w) (first_empty (part_faults (view x) scope) _ e)) (λ a here.
    made_given Each Each (λ found. a ∷ found) _
    (parts_pass test is_written part_faults read view scope binders h xs (second_true (is_written (view x)) others w) (second_empty (part_faults (view x) scope) _ e)) (λ found rest.
    and_true (test a) (list_all (λ part. part) (map test found)) here rest))

pub within_pass : {A : Type 0} (test : A → Bool) (items : List Typed) (read : Binders → Option A) (binders : Binders) → ((inner : Binders) → IfGiven (λ a. test a ≡ true) (read inner)) → IfGiven (λ a. test a ≡ true) (within items read binders)
within_pass test items read binders h = then_given (λ _. Unit {0}) (λ a. test a ≡ true) (inside binders items) read (anything (inside binders items)) (λ inner _. h inner)

-- conditions

rolled : (test : Expr → Bool) (whole : Cond) (y : Cond-F Cond) → roll-Cond y ≡ whole → every_side test whole ≡ every_side_step test (map-Cond Cond Bool (every_side test) y)
rolled test whole y is = ap (every_side test) (sym is) ∙ fold-roll-Cond Bool (every_side_step test) y

-- where no fault is found in an expression, what is read of it passes the test
abbrev pub EachPasses : Site → (Expr → Bool) → Type 0
EachPasses site test =
    (raw : RawExpr) (scope : Scope) → is_written_expr false raw ≡ true → expr_faults site raw scope ≡ [] → (binders : Binders) → IfGiven (λ a. test a ≡ true) (expr_of site.declared raw binders)

module _ (site : Site) (test : Expr → Bool) (passes : EachPasses site test) where
  abbrev Passes : Cond → Type 0
  Passes a = every_side test a ≡ true

  abbrev Claim : RawCond → Type 0
  Claim raw = (scope : Scope) → is_written_cond raw ≡ true → cond_faults site raw scope ≡ [] → (binders : Binders) → IfGiven Passes (cond_of site.declared raw binders)

  abbrev Piece : Type 0
  Piece = (raw : RawCond) × Claim raw

  abbrev raw_of : Piece → RawCond
  raw_of p = p.0

  row_passes : (ps : List Piece) (scope : Scope) → all_true (map is_written_cond (map raw_of ps)) ≡ true → all_faults (map (cond_faults site) (map raw_of ps)) scope ≡ [] → (binders : Binders) →
      IfGiven (λ found. list_all (λ part. part) (map (every_side test) found) ≡ true) (all_some (map (λ part. part binders) (map (cond_of site.declared) (map raw_of ps))))
  row_passes ps scope w e binders =
      parts_pass (every_side test) is_written_cond (cond_faults site) (cond_of site.declared) raw_of scope binders (λ p h k. p.1 scope h k binders) ps w e

  inside_passes : (part : Piece) (items : List Typed) (scope : Scope) → is_written_cond part.0 ≡ true → quantified.quantified site items (cond_faults site part.0) scope ≡ [] → (binders : Binders) →
      IfGiven Passes (within items (cond_of site.declared part.0) binders)
  inside_passes part items scope w e binders =
      within_pass (every_side test) items (cond_of site.declared part.0) binders
      (part.1 (quantified.inside site scope items) w (second_empty (quantified.variable_faults site (length scope) items) _ e))

  Layer : RawCond-F RawCond → Type 0
  Layer y =
      (scope : Scope) → written.cond_step (map-RawCond RawCond Bool is_written_cond y) ≡ true → faults.cond_step site (map-RawCond RawCond (Scope → List Fault) (cond_faults site) y) scope ≡ [] → (binders : Binders)
      → IfGiven Passes (cond_step site.declared (map-RawCond RawCond (Binders → Option Cond) (cond_of site.declared) y) binders)

  level : (y : RawCond-F Piece) → Layer (map-RawCond Piece RawCond raw_of y)
  unfolding Layer
  level (RawCond-F.Atom predicate terms span) scope w e binders =
      then_given (λ _. Unit {0}) Passes (predicate_of site.declared predicate.text (length terms)) _ (anything (predicate_of site.declared predicate.text (length terms))) (λ n _.
      made_given (λ _. Unit {0}) Passes (λ ts. c.Atom n ts) (terms_of site.declared binders terms) (anything (terms_of site.declared binders terms)) (λ ts _.
      rolled test (c.Atom n ts) (Cond-F.Atom n ts) (c.rolls-Atom n ts)))
  level (RawCond-F.Same left right span) scope w e binders =
      both_given (λ _. Unit {0}) (λ _. Unit {0}) Passes c.Same (term_of site.declared binders left) (term_of site.declared binders right)
      (anything (term_of site.declared binders left)) (anything (term_of site.declared binders right)) (λ a b _ _.
      rolled test (c.Same a b) (Cond-F.Same a b) (c.rolls-Same a b))
  level (RawCond-F.Compare relation left right span) scope w e binders =
      both_given (λ a. test a ≡ true) (λ a. test a ≡ true) Passes (c.Compare relation) (expr_of site.declared left binders) (expr_of site.declared right binders)
      (passes left scope (first_true (is_written_expr false left) (is_written_expr false right) w) (first_empty (expr_faults site left scope) _ e) binders)
      (passes right scope (second_true (is_written_expr false left) (is_written_expr false right) w) (second_empty (expr_faults site left scope) _ e) binders) (λ a b h k.
      rolled test (c.Compare relation a b) (Cond-F.Compare relation a b) (c.rolls-Compare relation a b) ∙ and_true (test a) (test b) h k)
  level (RawCond-F.Not part span) scope w e binders =
      made_given Passes Passes c.Not (cond_of site.declared part.0 binders) (part.1 scope w e binders) (λ a h.
      rolled test (c.Not a) (Cond-F.Not a) (c.rolls-Not a) ∙ h)
  level (RawCond-F.And parts span) scope w e binders =
      made_given (λ found. list_all (λ part. part) (map (every_side test) found) ≡ true) Passes c.And _ (row_passes parts scope w e binders) (λ found h.
      rolled test (c.And found) (Cond-F.And found) (c.rolls-And found) ∙ h)
  level (RawCond-F.Or parts span) scope w e binders =
      made_given (λ found. list_all (λ part. part) (map (every_side test) found) ≡ true) Passes c.Or _ (row_passes parts scope w e binders) (λ found h.
      rolled test (c.Or found) (Cond-F.Or found) (c.rolls-Or found) ∙ h)
  level (RawCond-F.Imply left right span) scope w e binders =
      both_given Passes Passes Passes c.Imply (cond_of site.declared left.0 binders) (cond_of site.declared right.0 binders)
      (left.1 scope (first_true (is_written_cond left.0) (is_written_cond right.0) w) (first_empty (cond_faults site left.0 scope) _ e) binders)
      (right.1 scope (second_true (is_written_cond left.0) (is_written_cond right.0) w) (second_empty (cond_faults site left.0 scope) _ e) binders) (λ a b h k.
      rolled test (c.Imply a b) (Cond-F.Imply a b) (c.rolls-Imply a b) ∙ and_true (every_side test a) (every_side test b) h k)
  level (RawCond-F.All variables part span) scope w e binders =
      let types = types_in site.declared variables in
      made_given Passes Passes (λ a. c.All types a) (within variables (cond_of site.declared part.0) binders) (inside_passes part variables scope w e binders) (λ a h.
      rolled test (c.All types a) (Cond-F.All types a) (c.rolls-All types a) ∙ h)
  level (RawCond-F.Any variables part span) scope w e binders =
      let types = types_in site.declared variables in
      made_given Passes Passes (λ a. c.Any types a) (within variables (cond_of site.declared part.0) binders) (inside_passes part variables scope w e binders) (λ a h.
      rolled test (c.Any types a) (Cond-F.Any types a) (c.rolls-Any types a) ∙ h)

  pub sides_pass : (raw : RawCond) → Claim raw
  unfolding Layer
  sides_pass = ind-RawCond Claim (λ y z is scope w e binders.
      let at_layer = subst (λ v. Layer v) is (level z) scope in
      let by_form = fold-roll-RawCond Bool written.cond_step y in
      let by_faults = ap (λ (f : Scope → List Fault). f scope) (fold-roll-RawCond (Scope → List Fault) (faults.cond_step site) y) in
      let by_reading = ap (λ (f : Binders → Option Cond). f binders) (fold-roll-RawCond (Binders → Option Cond) (cond_step site.declared) y) in
      subst (λ o. IfGiven Passes o) (sym by_reading) (at_layer (sym by_form ∙ w) (sym by_faults ∙ e) binders))
