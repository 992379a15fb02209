-- Where no fault stands in a condition, it is read.
use Rattle.std.proofs.Common.{◌≡◌, ℕ, ◌≤◌, Option, Some, List, [], ◌∷◌, ◌++◌, map, length, subst, sym, ap, ◌∙◌, arith}
use Rattle.std.specs.List.{flat_map}
use Rattle.mf_model.specs.declared.form.Word.{Word}
use Rattle.mf_model.specs.declared.form.Typed.{Typed}
use Rattle.mf_model.specs.declared.form.RawCond.{RawCond}
use Rattle.mf_model.specs.declared.form.RawCond.TheOpen.{RawCond-F}
use Rattle.mf_model.specs.declared.form.RawCond.TheFolds.{ind-RawCond, fold-roll-RawCond, map-RawCond}
use Rattle.mf_model.specs.declared.task.Term.{Term}
use Rattle.mf_model.specs.declared.task.Cond.{Cond}
use Rattle.mf_model.specs.declared.task.Cond.TheVariants as c
use Rattle.mf_model.specs.Options.{◌>>=◌, all_some}
use Rattle.mf_types.specs.declared.least.Fault.{Fault}
use Rattle.mf_types.specs.Arguments.{symbol_faults, predicate_parameters, atom_faults, term_faults}
use Rattle.mf_types.specs.Conditions as faults
use Rattle.mf_types.specs.Conditions.{all_faults, cond_faults}
use Rattle.mf_types.specs.Declarations.{beyond_behind, item_words, repeats}
use Rattle.mf_types.specs.Expressions.{expr_faults}
use Rattle.mf_types.specs.Quantified as quantified
use Rattle.mf_types.specs.Scopes.{Scope}
use Rattle.mf_types.specs.Sites.{Site}
use Rattle.mf_types.specs.Typing.{Binders, predicate_of, terms_of, within, cond_step, cond_of}
use Rattle.mf_types.proofs.There.{IsThere, then_there, made_there, both_there, cons_there, first_empty, second_empty}
use Rattle.mf_types.proofs.ThereTerms.{names_in, term_there, terms_there, symbol_there}
use Rattle.mf_types.proofs.ThereExpressions.{expr_there}
use Rattle.mf_types.proofs.ThereScopes.{few, length_inside, within_there}

-- atoms

pub predicate_there : (site : Site) (scope : Scope) (predicate : Word) (ws : List Word) → atom_faults site scope predicate ws ≡ [] → IsThere (predicate_of site.declared predicate.text (length ws))
predicate_there site scope predicate ws e =
    symbol_there site scope site.declared.predicates site.declared.predicate_types predicate ws (first_empty _ (flat_map (term_faults site scope) ws) e)

pub arguments_empty : (site : Site) (scope : Scope) (predicate : Word) (ws : List Word) → atom_faults site scope predicate ws ≡ [] → flat_map (term_faults site scope) ws ≡ []
arguments_empty site scope predicate ws e = second_empty (symbol_faults site scope predicate ws (predicate_parameters site.declared predicate.text)) _ e

pub atom_there : {A : Type 0} (make : ℕ → List Term → A) (site : Site) (scope : Scope) (predicate : Word) (ws : List Word) → atom_faults site scope predicate ws ≡ [] → IsThere (predicate_of site.declared predicate.text (length ws) >>= (λ n. terms_of site.declared (names_in scope) ws >>= (λ ts. Some (make n ts))))
atom_there make site scope predicate ws e =
    then_there (predicate_of site.declared predicate.text (length ws)) _ (predicate_there site scope predicate ws e) (λ n.
    made_there (λ ts. make n ts) (terms_of site.declared (names_in scope) ws) (terms_there site scope ws (arguments_empty site scope predicate ws e)))

-- inside a list of variables

abbrev pub Holds : {A : Type 0} → (Scope → List Fault) → (Binders → Option A) → Type 0
Holds faults read = (scope : Scope) → length scope ≤ 64 → faults scope ≡ [] → IsThere (read (names_in scope))

pub quantified_there : {A : Type 0} (site : Site) (items : List Typed) (faults : Scope → List Fault) (read : Binders → Option A) → Holds faults read → Holds (quantified.quantified site items faults) (within items read)
quantified_there site items faults read h scope room e =
    let again = repeats site.file [] (item_words items) in
    let own = quantified.variable_faults site (length scope) items in
    let list = first_empty own _ e in
    let here = first_empty (again ++ beyond_behind site.file 64 (length scope) (item_words items)) _ list in
    let beyond = second_empty again _ here in
    let count = few site (length scope) items room beyond in
    let same = length_inside site scope items in
    within_there site scope items read room beyond (h (quantified.inside site scope items) (omega (arith, count, same)) (second_empty own _ e))

-- conditions

abbrev Claim : Site → RawCond → Type 0
Claim site e = Holds (cond_faults site e) (cond_of site.declared e)

abbrev Piece : Site → Type 0
Piece site = (e : RawCond) × Claim site e

module _ (site : Site) where
  parts_there : (ps : List (Piece site)) (scope : Scope) → length scope ≤ 64 → all_faults (map (cond_faults site) (map (λ p. p.0) ps)) scope ≡ [] → IsThere (all_some (map (λ part. part (names_in scope)) (map (cond_of site.declared) (map (λ p. p.0) ps))))
  parts_there [] scope room e = tt
  parts_there (p ∷ ps) scope room e =
      cons_there (cond_of site.declared p.0 (names_in scope)) _
      (p.1 scope room (first_empty (cond_faults site p.0 scope) _ e))
      (parts_there ps scope room (second_empty (cond_faults site p.0 scope) _ e))

  Layer : RawCond-F RawCond → Type 0
  Layer y = Holds (faults.cond_step site (map-RawCond RawCond (Scope → List Fault) (cond_faults site) y)) (cond_step site.declared (map-RawCond RawCond (Binders → Option Cond) (cond_of site.declared) y))

  level : (y : RawCond-F (Piece site)) → Layer (map-RawCond (Piece site) RawCond (λ p. p.0) y)
  unfolding Layer
  level (RawCond-F.Atom predicate terms span) scope room e = atom_there c.Atom site scope predicate terms e
  level (RawCond-F.Same left right span) scope room e =
      both_there c.Same _ _ (term_there site scope left (first_empty (term_faults site scope left) _ e)) (term_there site scope right (second_empty (term_faults site scope left) _ e))
  level (RawCond-F.Compare relation left right span) scope room e =
      both_there (c.Compare relation) _ _ (expr_there site left scope (first_empty (expr_faults site left scope) _ e)) (expr_there site right scope (second_empty (expr_faults site left scope) _ e))
  level (RawCond-F.Not part span) scope room e = made_there c.Not _ (part.1 scope room e)
  level (RawCond-F.And parts span) scope room e = made_there c.And _ (parts_there parts scope room e)
  level (RawCond-F.Or parts span) scope room e = made_there c.Or _ (parts_there parts scope room e)
  level (RawCond-F.Imply left right span) scope room e =
      both_there c.Imply _ _ (left.1 scope room (first_empty (cond_faults site left.0 scope) _ e)) (right.1 scope room (second_empty (cond_faults site left.0 scope) _ e))
  level (RawCond-F.All variables part span) scope room e = made_there _ _ (quantified_there site variables (cond_faults site part.0) (cond_of site.declared part.0) part.1 scope room e)
  level (RawCond-F.Any variables part span) scope room e = made_there _ _ (quantified_there site variables (cond_faults site part.0) (cond_of site.declared part.0) part.1 scope room e)

  pub cond_there : (e : RawCond) → Claim site e
  unfolding Layer
  cond_there = ind-RawCond (Claim site) (λ y z is scope room e.
      let at_layer = subst (λ v. Layer v) is (level z) scope room in
      let by_faults = ap (λ (f : Scope → List Fault). f scope) (fold-roll-RawCond (Scope → List Fault) (faults.cond_step site) y) in
      let by_reading = ap (λ (f : Binders → Option Cond). f (names_in scope)) (fold-roll-RawCond (Binders → Option Cond) (cond_step site.declared) y) in
      subst (λ o. IsThere o) (sym by_reading) (at_layer (sym by_faults ∙ e)))
