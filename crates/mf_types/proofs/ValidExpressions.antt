-- Expressions that are read are valid.
use Rattle.std.proofs.Common.{◌≡◌, ℕ, ◌<◌, Bool, true, nat_eq, nat_le, nat_lt, Option, Some, None, List, [], ◌∷◌, map, length, slice_get, slice_index_or, codes, refl, subst, sym, ap, ◌∙◌, arith}
use Rattle.std.proofs.lemmas.List.{length-map}
use Rattle.mf_model.proofs.Choices.{and_true}
use Rattle.mf_model.specs.declared.form.RawExpr.{RawExpr}
use Rattle.mf_model.specs.declared.form.RawExpr.TheOpen.{RawExpr-F}
use Rattle.mf_model.specs.declared.form.RawExpr.TheFolds.{ind-RawExpr, fold-roll-RawExpr, map-RawExpr}
use Rattle.mf_model.specs.declared.task.Expr.{Expr}
use Rattle.mf_model.specs.declared.task.Expr.TheVariants as x
use Rattle.mf_model.specs.declared.task.Expr.TheOpen.{Expr-F}
use Rattle.mf_model.specs.declared.task.Expr.TheViews.{roll-Expr}
use Rattle.mf_model.specs.declared.task.Expr.TheFolds.{fold-roll-Expr, map-Expr}
use Rattle.mf_model.specs.Options.{all_some}
use Rattle.mf_model.specs.Plain.{all_true}
use Rattle.mf_model.specs.Resolution.{number_of, takes}
use Rattle.mf_types.specs.Names.{Declared}
use Rattle.mf_types.specs.Typing.{Binders, number_in, function_of, terms_of, time_by, without_parameters, expr_step, expr_of}
use Rattle.mf_model.specs.ValidTasks as valid
use Rattle.mf_model.specs.ValidTasks.{Counts, is_valid_term, is_valid_expr}
use Rattle.mf_types.specs.Written as written
use Rattle.mf_types.specs.Written.{is_written_expr}
use Rattle.mf_types.proofs.Given.{IfGiven, Read, anything, then_given, made_given, both_given, parts_given, all_map, first_true, second_true}
use Rattle.mf_types.proofs.ValidTerms.{counted, AreEven, terms_valid, symbol_valid, use_valid, number_below, counts_at, lt_of}

pub rolled : (counts : Counts) (timed : Bool) (variables : ℕ) (whole : Expr) (y : Expr-F Expr) → roll-Expr y ≡ whole → is_valid_expr counts timed variables whole ≡ valid.expr_step counts timed variables (map-Expr Expr Bool (is_valid_expr counts timed variables) y)
rolled counts timed variables whole y e = ap (is_valid_expr counts timed variables) (sym e) ∙ fold-roll-Expr Bool (valid.expr_step counts timed variables) y

-- the number of steps, or the function of its name

without_valid : (types : List (List (List ℕ))) (counts : Counts) (timed : Bool) (variables n : ℕ) (own : List (List ℕ)) → counts.functions ≡ map length types → n < length types → slice_index_or types n [] ≡ own → IfGiven (λ e. is_valid_expr counts timed variables e ≡ true) (without_parameters own n)
without_valid types counts timed variables n (parameter ∷ parameters) same within is = tt
without_valid types counts timed variables n [] same within is =
    let count = counts_at types n 0 within (ap (λ (own : List (List ℕ)). nat_eq (length own) 0) is) in
    rolled counts timed variables (x.Function n []) (Expr-F.Function n []) (x.rolls-Function n [])
    ∙ and_true (takes (slice_get counts.functions n) 0) true (ap (λ (own : List ℕ). takes (slice_get own n) 0) same ∙ count) refl

time_valid : (types : List (List (List ℕ))) (counts : Counts) (timed : Bool) (variables most : ℕ) (number : Option ℕ) → counts.functions ≡ map length types → most ≡ length types → timed ≡ true → IfGiven (λ n. nat_lt n most ≡ true) number → IfGiven (λ e. is_valid_expr counts timed variables e ≡ true) (time_by types number)
time_valid types counts timed variables most None same even is h = rolled counts timed variables x.TotalTime Expr-F.TotalTime x.rolls-TotalTime ∙ is
time_valid types counts timed variables most (Some n) same even is h =
    let within = lt_of n most h in
    without_valid types counts timed variables n (slice_index_or types n []) same (omega (arith, within, even)) refl

-- expressions

module _ (declared : Declared) (even : AreEven declared) (timed : Bool) where
  abbrev Valid : ℕ → Expr → Type 0
  Valid variables e = is_valid_expr (counted declared) timed variables e ≡ true

  abbrev Claim : RawExpr → Type 0
  Claim e = (binders : Binders) → is_written_expr timed e ≡ true → IfGiven (Valid (length binders)) (expr_of declared e binders)

  abbrev Piece : Type 0
  Piece = (e : RawExpr) × Claim e

  abbrev raw_of : Piece → RawExpr
  raw_of p = p.0

  parts_valid : (ps : List Piece) (binders : Binders) → all_true (map (is_written_expr timed) (map raw_of ps)) ≡ true → IfGiven (Read (is_valid_expr (counted declared) timed (length binders)) ps) (all_some (map (λ part. part binders) (map (expr_of declared) (map raw_of ps))))
  parts_valid ps binders e = parts_given (is_valid_expr (counted declared) timed (length binders)) (is_written_expr timed) (expr_of declared) raw_of binders (λ p w. p.1 binders w) ps e

  enough : (ps : List Piece) (variables : ℕ) (es : List Expr) → Read (is_valid_expr (counted declared) timed variables) ps es → nat_le 2 (length (map (is_written_expr timed) (map raw_of ps))) ≡ true → nat_le 2 (length (map (is_valid_expr (counted declared) timed variables) es)) ≡ true
  enough ps variables es read e =
      let raws_are : length (map (is_written_expr timed) (map raw_of ps)) ≡ length ps = length-map (map raw_of ps) (is_written_expr timed) ∙ length-map ps raw_of in
      ap (nat_le 2) (length-map es (is_valid_expr (counted declared) timed variables) ∙ (read.count ∙ sym raws_are)) ∙ e

  Layer : RawExpr-F RawExpr → Type 0
  Layer y = (binders : Binders) → written.expr_step timed (map-RawExpr RawExpr Bool (is_written_expr timed) y) ≡ true → IfGiven (Valid (length binders)) (expr_step declared (map-RawExpr RawExpr (Binders → Option Expr) (expr_of declared) y) binders)

  level : (y : RawExpr-F Piece) → Layer (map-RawExpr Piece RawExpr raw_of y)
  unfolding Layer
  level (RawExpr-F.Number word span) binders e =
      made_given (λ _. Unit {0}) (Valid (length binders)) x.Number (number_in word) (anything (number_in word)) (λ n _.
      rolled (counted declared) timed (length binders) (x.Number n) (Expr-F.Number n) (x.rolls-Number n))
  level (RawExpr-F.Function function terms span) binders e =
      let counts = counted declared in
      then_given (λ n. takes (slice_get counts.functions n) (length terms) ≡ true) (Valid (length binders)) (function_of declared function.text (length terms)) _
      (symbol_valid declared.functions declared.function_types function.text (length terms) even.functions) (λ n count.
      made_given (Read (is_valid_term counts (length binders)) terms) (Valid (length binders)) (λ ts. x.Function n ts) (terms_of declared binders terms) (terms_valid declared binders terms) (λ ts read.
      rolled counts timed (length binders) (x.Function n ts) (Expr-F.Function n ts) (x.rolls-Function n ts) ∙ use_valid counts.functions counts (length binders) n terms ts count read))
  level (RawExpr-F.Sum parts span) binders e =
      let test = is_valid_expr (counted declared) timed (length binders) in
      let wholes = map (is_written_expr timed) (map raw_of parts) in
      made_given (Read test parts) (Valid (length binders)) x.Sum _ (parts_valid parts binders (second_true (nat_le 2 (length wholes)) (all_true wholes) e)) (λ es read.
      rolled (counted declared) timed (length binders) (x.Sum es) (Expr-F.Sum es) (x.rolls-Sum es)
      ∙ and_true (nat_le 2 (length (map test es))) (all_true (map test es)) (enough parts (length binders) es read (first_true (nat_le 2 (length wholes)) (all_true wholes) e)) (all_map test es ∙ read.passes))
  level (RawExpr-F.Difference left right span) binders e =
      let test = is_valid_expr (counted declared) timed (length binders) in
      both_given (Valid (length binders)) (Valid (length binders)) (Valid (length binders)) x.Difference (expr_of declared left.0 binders) (expr_of declared right.0 binders)
      (left.1 binders (first_true (is_written_expr timed left.0) (is_written_expr timed right.0) e))
      (right.1 binders (second_true (is_written_expr timed left.0) (is_written_expr timed right.0) e)) (λ a b h k.
      rolled (counted declared) timed (length binders) (x.Difference a b) (Expr-F.Difference a b) (x.rolls-Difference a b) ∙ and_true (test a) (test b) h k)
  level (RawExpr-F.Negative part span) binders e =
      made_given (Valid (length binders)) (Valid (length binders)) x.Negative (expr_of declared part.0 binders) (part.1 binders e) (λ a h.
      rolled (counted declared) timed (length binders) (x.Negative a) (Expr-F.Negative a) (x.rolls-Negative a) ∙ h)
  level (RawExpr-F.Product parts span) binders e =
      let test = is_valid_expr (counted declared) timed (length binders) in
      let wholes = map (is_written_expr timed) (map raw_of parts) in
      made_given (Read test parts) (Valid (length binders)) x.Product _ (parts_valid parts binders (second_true (nat_le 2 (length wholes)) (all_true wholes) e)) (λ es read.
      rolled (counted declared) timed (length binders) (x.Product es) (Expr-F.Product es) (x.rolls-Product es)
      ∙ and_true (nat_le 2 (length (map test es))) (all_true (map test es)) (enough parts (length binders) es read (first_true (nat_le 2 (length wholes)) (all_true wholes) e)) (all_map test es ∙ read.passes))
  level (RawExpr-F.Quotient left right span) binders e =
      let test = is_valid_expr (counted declared) timed (length binders) in
      both_given (Valid (length binders)) (Valid (length binders)) (Valid (length binders)) x.Quotient (expr_of declared left.0 binders) (expr_of declared right.0 binders)
      (left.1 binders (first_true (is_written_expr timed left.0) (is_written_expr timed right.0) e))
      (right.1 binders (second_true (is_written_expr timed left.0) (is_written_expr timed right.0) e)) (λ a b h k.
      rolled (counted declared) timed (length binders) (x.Quotient a b) (Expr-F.Quotient a b) (x.rolls-Quotient a b) ∙ and_true (test a) (test b) h k)
  level (RawExpr-F.TotalTime span) binders e =
      time_valid declared.function_types (counted declared) timed (length binders) (length declared.functions) (number_of declared.functions (codes "total-time")) refl even.functions e (number_below declared.functions (codes "total-time"))

  pub expr_valid : (e : RawExpr) → Claim e
  unfolding Layer
  expr_valid = ind-RawExpr Claim (λ y z is binders e.
      let at_layer = subst (λ v. Layer v) is (level z) binders in
      let by_form = fold-roll-RawExpr Bool (written.expr_step timed) y in
      let by_reading = ap (λ (f : Binders → Option Expr). f binders) (fold-roll-RawExpr (Binders → Option Expr) (expr_step declared) y) in
      subst (λ o. IfGiven (Valid (length binders)) o) (sym by_reading) (at_layer (sym by_form ∙ e)))
