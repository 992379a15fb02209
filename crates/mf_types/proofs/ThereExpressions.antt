-- Where no fault stands in an expression, it is read.
use Rattle.std.proofs.Common.{◌≡◌, ℕ, false, Option, Some, None, Result, Ok, Err, List, [], ◌∷◌, ◌++◌, map, length, subst, sym, ap, ◌∙◌, slice_index_or, codes}
use Rattle.std.specs.List.{flat_map}
use Rattle.mf_fraction.specs.Exact.{Number}
use Rattle.mf_fraction.specs.Decimal.{read_of}
use Rattle.mf_fraction.specs.declared.faults.NumberFault.{NumberFault}
use Rattle.mf_fraction.specs.declared.faults.NumberFault.TheVariants.{NotANumber, Wide}
use Rattle.mf_model.specs.declared.token.Span.{Span}
use Rattle.mf_model.specs.Resolution.{number_of}
use Rattle.mf_model.specs.declared.form.Word.{Word}
use Rattle.mf_model.specs.declared.form.RawExpr.{RawExpr}
use Rattle.mf_model.specs.declared.form.RawExpr.TheOpen.{RawExpr-F}
use Rattle.mf_model.specs.declared.form.RawExpr.TheFolds.{ind-RawExpr, fold-roll-RawExpr, map-RawExpr}
use Rattle.mf_model.specs.declared.task.Expr.{Expr}
use Rattle.mf_model.specs.declared.task.Expr.TheVariants as x
use Rattle.mf_model.specs.Options.{all_some}
use Rattle.mf_types.specs.Arguments.{entry, symbol_faults, function_parameters, function_faults, term_faults}
use Rattle.mf_types.specs.Expressions as faults
use Rattle.mf_types.specs.Expressions.{Seen, is_wide, part_faults, seen, steps_faults}
use Rattle.mf_types.specs.Scopes.{Scope}
use Rattle.mf_types.specs.Sites.{Site}
use Rattle.mf_types.specs.Typing.{Binders, exact_of, number_in, time_by, without_parameters, function_of, terms_of, term_expr, expr_step, expr_of}
use Rattle.mf_types.proofs.There.{IsThere, then_there, made_there, both_there, cons_there, first_empty, second_empty, never, not_met}
use Rattle.mf_types.proofs.ThereTerms.{names_in, terms_there, symbol_there}

-- numbers

narrow : (r : Result Number NumberFault) → is_wide r ≡ false → IsThere (exact_of r)
narrow (Ok number) e = tt
narrow (Err NotANumber) e = tt
narrow (Err Wide) e = let h : ⊥ = cc in absurd h

pub number_there : (w : Word) → is_wide (read_of w.text) ≡ false → IsThere (number_in w)
number_there w e = narrow (read_of w.text) e

-- function terms

pub function_there : (site : Site) (scope : Scope) (function : Word) (ws : List Word) → function_faults site scope function ws ≡ [] → IsThere (function_of site.declared function.text (length ws))
function_there site scope function ws e =
    symbol_there site scope site.declared.functions site.declared.function_types function ws (first_empty _ (flat_map (term_faults site scope) ws) e)

pub arguments_there : (site : Site) (scope : Scope) (function : Word) (ws : List Word) → function_faults site scope function ws ≡ [] → IsThere (terms_of site.declared (names_in scope) ws)
arguments_there site scope function ws e =
    terms_there site scope ws (second_empty (symbol_faults site scope function ws (function_parameters site.declared function.text)) _ e)

term_there : (site : Site) (scope : Scope) (function : Word) (ws : List Word) → function_faults site scope function ws ≡ [] → IsThere (term_expr site.declared function ws (names_in scope))
term_there site scope function ws e =
    then_there (function_of site.declared function.text (length ws)) _ (function_there site scope function ws e) (λ n.
    made_there (λ ts. x.Function n ts) (terms_of site.declared (names_in scope) ws) (arguments_there site scope function ws e))

-- the number of steps

without_there : (site : Site) (span : Span) (n : ℕ) (own : List (List ℕ)) → steps_faults site span (Some own) ≡ [] → IsThere (without_parameters own n)
without_there site span n [] e = tt
without_there site span n (types ∷ others) e = never _ _ _ e

time_there : (site : Site) (span : Span) (number : Option ℕ) (types : List (List (List ℕ))) → steps_faults site span (entry types number) ≡ [] → IsThere (time_by types number)
time_there site span None types e = tt
time_there site span (Some n) types e = without_there site span n (slice_index_or types n []) e

-- expressions

abbrev Claim : Site → RawExpr → Type 0
Claim site e = (scope : Scope) → (seen site e).faults scope ≡ [] → IsThere (expr_of site.declared e (names_in scope))

abbrev Piece : Site → Type 0
Piece site = (e : RawExpr) × Claim site e

module _ (site : Site) where
  parts_there : (ps : List (Piece site)) (scope : Scope) → part_faults (map (seen site) (map (λ p. p.0) ps)) scope ≡ [] → IsThere (all_some (map (λ part. part (names_in scope)) (map (expr_of site.declared) (map (λ p. p.0) ps))))
  parts_there [] scope e = tt
  parts_there (p ∷ ps) scope e =
      cons_there (expr_of site.declared p.0 (names_in scope)) _
      (p.1 scope (first_empty ((seen site p.0).faults scope) _ e))
      (parts_there ps scope (second_empty ((seen site p.0).faults scope) _ e))

  Layer : RawExpr-F RawExpr → Type 0
  Layer y = (scope : Scope) → (faults.expr_step site (map-RawExpr RawExpr Seen (seen site) y)).faults scope ≡ [] → IsThere (expr_step site.declared (map-RawExpr RawExpr (Binders → Option Expr) (expr_of site.declared) y) (names_in scope))

  level : (y : RawExpr-F (Piece site)) → Layer (map-RawExpr (Piece site) RawExpr (λ p. p.0) y)
  unfolding Layer
  level (RawExpr-F.Number word span) scope e = made_there x.Number (number_in word) (number_there word (not_met (is_wide (read_of word.text)) _ e))
  level (RawExpr-F.Function function terms span) scope e = term_there site scope function terms e
  level (RawExpr-F.Sum parts span) scope e = made_there x.Sum _ (parts_there parts scope e)
  level (RawExpr-F.Difference left right span) scope e =
      both_there x.Difference _ _ (left.1 scope (first_empty ((seen site left.0).faults scope) _ e)) (right.1 scope (second_empty ((seen site left.0).faults scope) _ e))
  level (RawExpr-F.Negative part span) scope e = made_there x.Negative _ (part.1 scope e)
  level (RawExpr-F.Product parts span) scope e = made_there x.Product _ (parts_there parts scope (first_empty _ _ e))
  level (RawExpr-F.Quotient left right span) scope e =
      let sides = first_empty ((seen site left.0).faults scope ++ (seen site right.0).faults scope) _ e in
      both_there x.Quotient _ _ (left.1 scope (first_empty ((seen site left.0).faults scope) _ sides)) (right.1 scope (second_empty ((seen site left.0).faults scope) _ sides))
  level (RawExpr-F.TotalTime span) scope e = time_there site span (number_of site.declared.functions (codes "total-time")) site.declared.function_types e

  pub expr_there : (e : RawExpr) → Claim site e
  unfolding Layer
  expr_there = ind-RawExpr (Claim site) (λ y z is scope e.
      let at_layer = subst (λ v. Layer v) is (level z) scope in
      let by_faults = ap (λ (s : Seen). s.faults scope) (fold-roll-RawExpr Seen (faults.expr_step site) y) in
      let by_reading = ap (λ (f : Binders → Option Expr). f (names_in scope)) (fold-roll-RawExpr (Binders → Option Expr) (expr_step site.declared) y) in
      subst (λ o. IsThere o) (sym by_reading) (at_layer (sym by_faults ∙ e)))
