-- Expressions in which no fault is found are linear: they change exactly where they read a function that an action changes.
use Rattle.std.proofs.Common.{◌≡◌, ℕ, ◌+◌, ◌≤◌, Bool, true, false, ◌&&◌, not, if◌then◌else◌, nat_eq, nat_le, Option, Some, List, [], ◌∷◌, ◌++◌, map, length, refl, subst, sym, ap, ◌∙◌, arith}
use Rattle.std.proofs.lemmas.Bool.Decides.{nat_tests}
use Rattle.mf_model.specs.declared.token.Span.{Span}
use Rattle.mf_model.specs.declared.form.RawExpr.{RawExpr}
use Rattle.mf_model.specs.declared.form.RawExpr.TheOpen.{RawExpr-F}
use Rattle.mf_model.specs.declared.form.RawExpr.TheFolds.{ind-RawExpr, fold-roll-RawExpr, map-RawExpr}
use Rattle.mf_model.specs.declared.form.RawExpr.TheViews.{roll-RawExpr}
use Rattle.mf_model.specs.declared.task.Expr.{Expr}
use Rattle.mf_model.specs.declared.task.Expr.TheVariants as x
use Rattle.mf_model.specs.declared.task.Expr.TheOpen.{Expr-F}
use Rattle.mf_model.specs.declared.task.Expr.TheViews.{roll-Expr}
use Rattle.mf_model.specs.declared.task.Expr.TheFolds.{fold-roll-Expr, map-Expr}
use Rattle.mf_model.specs.Linearity.{Degree, Constant, Linear, sum_degree, product_degree, quotient_degree, all_degrees, function_degree, degree_step, degree_of}
use Rattle.mf_model.specs.Options.{all_some}
use Rattle.mf_model.specs.Plain.{all_true}
use Rattle.mf_model.specs.Resolution.{number_of}
use Rattle.mf_types.specs.declared.least.FaultKind.TheVariants.{NotLinear}
use Rattle.mf_types.specs.Expressions as faults
use Rattle.mf_types.specs.Expressions.{Seen, seen, part_faults, changes, changing, linear_faults}
use Rattle.mf_types.specs.Faults.{at_span}
use Rattle.mf_types.specs.Names.{is_member}
use Rattle.mf_types.specs.Scopes.{Scope}
use Rattle.mf_types.specs.Sites.{Site, unless}
use Rattle.mf_types.specs.Typing.{Binders, number_in, function_of, terms_of, expr_step, expr_of}
use Rattle.mf_types.specs.Written as written
use Rattle.mf_types.specs.Written.{is_written_expr}
use Rattle.mf_types.proofs.ConstantFunctions.{numbered}
use Rattle.mf_types.proofs.Given.{IfGiven, anything, then_given, made_given, both_given, first_true, second_true}
use Rattle.mf_types.proofs.There.{first_empty, second_empty, passed}

-- degrees of sums and products

abbrev pub degrees_seen : List Seen → List Degree
degrees_seen parts = map (λ (part : Seen). function_degree part.constant) parts

some_change : (k : ℕ) → nat_eq (1 + k) 0 ≡ false
some_change k = grind (arith, nat_tests)

linear_sum : (b : Bool) → sum_degree Linear (function_degree b) ≡ Linear
linear_sum true = refl
linear_sum false = refl

sum_one : (constant : Bool) (k : ℕ) → sum_degree (function_degree constant) (function_degree (nat_eq k 0)) ≡ function_degree (nat_eq (changes constant + k) 0)
sum_one true k = ap (λ (n : ℕ). function_degree (nat_eq n 0)) (omega arith)
sum_one false k = linear_sum (nat_eq k 0) ∙ ap function_degree (sym (some_change k))

sum_all : (parts : List Seen) → all_degrees sum_degree (degrees_seen parts) ≡ function_degree (nat_eq (changing parts) 0)
sum_all [] = refl
sum_all (part ∷ parts) = ap (sum_degree (function_degree part.constant)) (sum_all parts) ∙ sum_one part.constant (changing parts)

product_one : (constant : Bool) (k : ℕ) → changes constant + k ≤ 1 → product_degree (function_degree constant) (function_degree (nat_eq k 0)) ≡ function_degree (nat_eq (changes constant + k) 0)
product_one true k h = ap (λ (n : ℕ). function_degree (nat_eq n 0)) (omega arith)
product_one false k h =
    let none : k ≡ 0 = omega arith in
    ap (λ (n : ℕ). product_degree Linear (function_degree (nat_eq n 0))) none ∙ ap function_degree (sym (some_change k))

product_all : (parts : List Seen) → changing parts ≤ 1 → all_degrees product_degree (degrees_seen parts) ≡ function_degree (nat_eq (changing parts) 0)
product_all [] h = refl
product_all (part ∷ parts) h = ap (product_degree (function_degree part.constant)) (product_all parts (omega (arith, h))) ∙ product_one part.constant (changing parts) h

difference_one : (left right : Bool) → sum_degree (function_degree left) (function_degree right) ≡ function_degree (left && right)
difference_one true right = refl
difference_one false true = refl
difference_one false false = refl

quotient_one : (left right : Bool) → right ≡ true → quotient_degree (function_degree left) (function_degree right) ≡ function_degree (left && right)
quotient_one true true h = refl
quotient_one false true h = refl
quotient_one left false h = let no : ⊥ = cc in absurd no

-- what the faults say

pub linear_passed : (site : Site) (span : Span) (b : Bool) → site.linear ≡ true → linear_faults site span b ≡ [] → b ≡ true
linear_passed site span b outside e =
    passed b _ (sym (ap (λ (linear : Bool). if linear then unless b (at_span NotLinear site.file span) else []) outside) ∙ e)

at_most_one : (n : ℕ) → nat_le n 1 ≡ true → n ≤ 1
at_most_one n h = grind (arith, nat_tests)

-- expressions

rolled : (constant : ℕ → Bool) (whole : Expr) (y : Expr-F Expr) → roll-Expr y ≡ whole → degree_of constant whole ≡ degree_step constant (map-Expr Expr Degree (degree_of constant) y)
rolled constant whole y is = ap (degree_of constant) (sym is) ∙ fold-roll-Expr Degree (degree_step constant) y

-- the functions that no action changes, by their names and by their numbers
abbrev pub IsKnown : Site → (ℕ → Bool) → Type 0
IsKnown site constant = (name : List ℕ) (n : ℕ) → number_of site.declared.functions name ≡ Some n → constant n ≡ not (is_member site.declared.changed name)

module _ (site : Site) (outside : site.linear ≡ true) (constant : ℕ → Bool) (known : IsKnown site constant) where
  abbrev HasDegree : Seen → Expr → Type 0
  HasDegree s a = degree_of constant a ≡ function_degree s.constant

  abbrev Claim : RawExpr → Type 0
  Claim raw = (scope : Scope) → is_written_expr false raw ≡ true → (seen site raw).faults scope ≡ [] → (binders : Binders) → IfGiven (HasDegree (seen site raw)) (expr_of site.declared raw binders)

  abbrev Piece : Type 0
  Piece = (raw : RawExpr) × Claim raw

  abbrev raw_of : Piece → RawExpr
  raw_of p = p.0

  abbrev seen_all : List Piece → List Seen
  seen_all ps = map (seen site) (map raw_of ps)

  parts_linear : (ps : List Piece) (scope : Scope) → all_true (map (is_written_expr false) (map raw_of ps)) ≡ true → part_faults (seen_all ps) scope ≡ [] → (binders : Binders) →
      IfGiven (λ found. map (degree_of constant) found ≡ degrees_seen (seen_all ps)) (all_some (map (λ part. part binders) (map (expr_of site.declared) (map raw_of ps))))
  parts_linear [] scope w e binders = refl
  parts_linear (p ∷ ps) scope w e binders =
      let others = all_true (map (is_written_expr false) (map raw_of ps)) in
      let Rest : List Expr → Type 0 = λ found. map (degree_of constant) found ≡ degrees_seen (seen_all ps) in
      let Whole : List Expr → Type 0 = λ found. map (degree_of constant) found ≡ degrees_seen (seen_all (p ∷ ps)) in
      then_given (HasDegree (seen site p.0)) Whole (expr_of site.declared p.0 binders) _
      (p.1 scope (first_true (is_written_expr false p.0) others w) (first_empty ((seen site p.0).faults scope) _ e) binders) (λ a here.
      made_given Rest Whole (λ found. a ∷ found) _
      (parts_linear ps scope (second_true (is_written_expr false p.0) others w) (second_empty ((seen site p.0).faults scope) _ e) binders) (λ found rest.
      ap (λ (d : Degree). d ∷ map (degree_of constant) found) here ∙ ap (λ (ds : List Degree). function_degree (seen site p.0).constant ∷ ds) rest))

  Layer : RawExpr-F RawExpr → Type 0
  Layer y =
      (scope : Scope) → written.expr_step false (map-RawExpr RawExpr Bool (is_written_expr false) y) ≡ true
      → (faults.expr_step site (map-RawExpr RawExpr Seen (seen site) y)).faults scope ≡ [] → (binders : Binders)
      → IfGiven (HasDegree (faults.expr_step site (map-RawExpr RawExpr Seen (seen site) y))) (expr_step site.declared (map-RawExpr RawExpr (Binders → Option Expr) (expr_of site.declared) y) binders)

  level : (y : RawExpr-F Piece) → Layer (map-RawExpr Piece RawExpr raw_of y)
  unfolding Layer
  level (RawExpr-F.Number word span) scope w e binders =
      made_given (λ _. Unit {0}) (λ a. degree_of constant a ≡ Constant) x.Number (number_in word) (anything (number_in word)) (λ n _.
      rolled constant (x.Number n) (Expr-F.Number n) (x.rolls-Number n))
  level (RawExpr-F.Function function terms span) scope w e binders =
      let Q : Expr → Type 0 = λ a. degree_of constant a ≡ function_degree (not (is_member site.declared.changed function.text)) in
      then_given (λ n. number_of site.declared.functions function.text ≡ Some n) Q (function_of site.declared function.text (length terms)) _
      (numbered site.declared.functions site.declared.function_types function.text (length terms)) (λ n is.
      made_given (λ _. Unit {0}) Q (λ ts. x.Function n ts) (terms_of site.declared binders terms) (anything (terms_of site.declared binders terms)) (λ ts _.
      rolled constant (x.Function n ts) (Expr-F.Function n ts) (x.rolls-Function n ts) ∙ ap function_degree (known function.text n is)))
  level (RawExpr-F.Sum parts span) scope w e binders =
      let wholes = map (is_written_expr false) (map raw_of parts) in
      made_given (λ found. map (degree_of constant) found ≡ degrees_seen (seen_all parts)) (λ a. degree_of constant a ≡ function_degree (nat_eq (changing (seen_all parts)) 0)) x.Sum _
      (parts_linear parts scope (second_true (nat_le 2 (length wholes)) (all_true wholes) w) e binders) (λ found h.
      rolled constant (x.Sum found) (Expr-F.Sum found) (x.rolls-Sum found) ∙ (ap (all_degrees sum_degree) h ∙ sum_all (seen_all parts)))
  level (RawExpr-F.Difference left right span) scope w e binders =
      let s = seen site left.0 in
      let t = seen site right.0 in
      both_given (HasDegree s) (HasDegree t) (λ a. degree_of constant a ≡ function_degree (s.constant && t.constant)) x.Difference (expr_of site.declared left.0 binders) (expr_of site.declared right.0 binders)
      (left.1 scope (first_true (is_written_expr false left.0) (is_written_expr false right.0) w) (first_empty (s.faults scope) _ e) binders)
      (right.1 scope (second_true (is_written_expr false left.0) (is_written_expr false right.0) w) (second_empty (s.faults scope) _ e) binders) (λ a b h k.
      rolled constant (x.Difference a b) (Expr-F.Difference a b) (x.rolls-Difference a b)
      ∙ (ap (λ (d : Degree). sum_degree d (degree_of constant b)) h ∙ (ap (sum_degree (function_degree s.constant)) k ∙ difference_one s.constant t.constant)))
  level (RawExpr-F.Negative part span) scope w e binders =
      made_given (HasDegree (seen site part.0)) (HasDegree (seen site part.0)) x.Negative (expr_of site.declared part.0 binders) (part.1 scope w e binders) (λ a h.
      rolled constant (x.Negative a) (Expr-F.Negative a) (x.rolls-Negative a) ∙ h)
  level (RawExpr-F.Product parts span) scope w e binders =
      let wholes = map (is_written_expr false) (map raw_of parts) in
      let own = part_faults (seen_all parts) scope in
      let one = at_most_one (changing (seen_all parts)) (linear_passed site span (nat_le (changing (seen_all parts)) 1) outside (second_empty own _ e)) in
      made_given (λ found. map (degree_of constant) found ≡ degrees_seen (seen_all parts)) (λ a. degree_of constant a ≡ function_degree (nat_eq (changing (seen_all parts)) 0)) x.Product _
      (parts_linear parts scope (second_true (nat_le 2 (length wholes)) (all_true wholes) w) (first_empty own _ e) binders) (λ found h.
      rolled constant (x.Product found) (Expr-F.Product found) (x.rolls-Product found) ∙ (ap (all_degrees product_degree) h ∙ product_all (seen_all parts) one))
  level (RawExpr-F.Quotient left right span) scope w e binders =
      let s = seen site left.0 in
      let t = seen site right.0 in
      let sides = first_empty (s.faults scope ++ t.faults scope) _ e in
      let divisor = linear_passed site span t.constant outside (second_empty (s.faults scope ++ t.faults scope) _ e) in
      both_given (HasDegree s) (HasDegree t) (λ a. degree_of constant a ≡ function_degree (s.constant && t.constant)) x.Quotient (expr_of site.declared left.0 binders) (expr_of site.declared right.0 binders)
      (left.1 scope (first_true (is_written_expr false left.0) (is_written_expr false right.0) w) (first_empty (s.faults scope) _ sides) binders)
      (right.1 scope (second_true (is_written_expr false left.0) (is_written_expr false right.0) w) (second_empty (s.faults scope) _ sides) binders) (λ a b h k.
      rolled constant (x.Quotient a b) (Expr-F.Quotient a b) (x.rolls-Quotient a b)
      ∙ (ap (λ (d : Degree). quotient_degree d (degree_of constant b)) h ∙ (ap (quotient_degree (function_degree s.constant)) k ∙ quotient_one s.constant t.constant divisor)))
  level (RawExpr-F.TotalTime span) scope w e binders = let no : ⊥ = cc in absurd no

  pub expr_degree : (raw : RawExpr) → Claim raw
  unfolding Layer
  expr_degree = ind-RawExpr Claim (λ y z is scope w e binders.
      let at_layer = subst (λ v. Layer v) is (level z) scope in
      let by_form = fold-roll-RawExpr Bool (written.expr_step false) y in
      let by_seen = fold-roll-RawExpr Seen (faults.expr_step site) y in
      let by_reading = ap (λ (f : Binders → Option Expr). f binders) (fold-roll-RawExpr (Binders → Option Expr) (expr_step site.declared) y) in
      subst (λ o. IfGiven (HasDegree (seen site (roll-RawExpr y))) o) (sym by_reading)
      (subst (λ (s : Seen). IfGiven (HasDegree s) (expr_step site.declared (map-RawExpr RawExpr (Binders → Option Expr) (expr_of site.declared) y) binders)) (sym by_seen)
      (at_layer (sym by_form ∙ w) (sym (ap (λ (s : Seen). s.faults scope) by_seen) ∙ e) binders)))
