-- The truth of ground conditions, by how they are put together: facts may be left out.
use Rattle.std.proofs.Common.{◌≡◌, ℕ, Bool, true, false, not, ◌&&◌, cond, List, [], ◌∷◌, map, Option, Some, None, refl, sym, ap, ◌∙◌, rules}
use Rattle.std.specs.List.{filter, list_all}
use Rattle.mf_model.specs.declared.task.Relation.{Relation}
use Rattle.mf_model.specs.declared.truth.Truth.{Truth}
use Rattle.mf_model.specs.declared.truth.Truth.TheVariants.{Yes, No, Neither}
use Rattle.mf_model.specs.Meaning.{all_of, and_of, any_of, is_yes, not_of, or_of, truth_of}
use Rattle.mf_task.specs.declared.ground.GroundCond.{GroundCond, the_lemmas}
use Rattle.mf_task.specs.declared.ground.GroundCond.TheOpen.{GroundCond-F}
use Rattle.mf_task.specs.declared.ground.GroundCond.TheFolds.{ind-GroundCond, fold-roll-GroundCond, map-GroundCond}
use Rattle.mf_task.specs.declared.ground.GroundCond.TheVariants as node
use Rattle.mf_task.specs.declared.task.Task.{Task}
use Rattle.mf_task.specs.GroundMeaning.{form_at, ground_holds, ground_truth, ground_truth_step, truth_at}
use Rattle.mf_task.specs.Grounding.{both_hold, conjunction, disjunction, fact_of, fact_step, is_fact, negation, negation_by}
use Rattle.mf_task.specs.LinearForms.{form_value}
use Rattle.mf_task.specs.Rows.{Sight}

-- truths

truth-not : (b : Bool) → truth_of (not b) ≡ not_of (truth_of b)
truth-not true = refl
truth-not false = refl

not-twice : (t : Truth) → not_of (not_of t) ≡ t
not-twice Yes = refl
not-twice No = refl
not-twice Neither = refl

and-yes : (t : Truth) → and_of t Yes ≡ t
and-yes Yes = refl
and-yes No = refl
and-yes Neither = refl

pub or-no : (t : Truth) → or_of t No ≡ t
or-no t = ap not_of (and-yes (not_of t)) ∙ not-twice t

pub is_yes-and : (t u : Truth) → is_yes (and_of t u) ≡ (is_yes t && is_yes u)
is_yes-and Yes u = refl
is_yes-and No u = refl
is_yes-and Neither Yes = refl
is_yes-and Neither No = refl
is_yes-and Neither Neither = refl

pub is_yes-all : (ts : List Truth) → is_yes (all_of ts) ≡ list_all is_yes ts
is_yes-all [] = refl
is_yes-all (t ∷ ts) = is_yes-and t (all_of ts) ∙ ap (λ (b : Bool). is_yes t && b) (is_yes-all ts)

module _ (task : Task) (sight : Sight) where
  pub of_fact : (holds : Bool) → ground_truth task sight (node.Fact holds) ≡ truth_of holds
  of_fact holds = search (rules, the_lemmas)

  pub of_neither : ground_truth task sight node.Neither ≡ Neither
  of_neither = search (rules, the_lemmas)

  pub of_atom : (atom : ℕ) → ground_truth task sight (node.Atom atom) ≡ truth_of (sight.bit atom)
  of_atom atom = search (rules, the_lemmas)

  pub of_compare : (r : Relation) (form : ℕ) → ground_truth task sight (node.Compare r form) ≡ truth_at r (form_value sight.value (form_at task form))
  of_compare r form = search (rules, the_lemmas)

  of_not : (part : GroundCond) → ground_truth task sight (node.Not part) ≡ not_of (ground_truth task sight part)
  of_not part = search (rules, the_lemmas)

  of_and : (parts : List GroundCond) → ground_truth task sight (node.And parts) ≡ all_of (map (ground_truth task sight) parts)
  of_and parts = search (rules, the_lemmas)

  of_or : (parts : List GroundCond) → ground_truth task sight (node.Or parts) ≡ any_of (map (ground_truth task sight) parts)
  of_or parts = search (rules, the_lemmas)

  -- a fact holds or fails as it says

  FactLayer : GroundCond-F GroundCond → Type 0
  FactLayer x = (holds : Bool) → fact_step (map-GroundCond GroundCond (Option Bool) fact_of x) ≡ Some holds → ground_truth_step task sight (map-GroundCond GroundCond Truth (ground_truth task sight) x) ≡ truth_of holds

  fact_level : (x : GroundCond-F GroundCond) → FactLayer x
  unfolding FactLayer
  fact_level (GroundCond-F.Fact holds) h e = ap truth_of (same e)
    where
      same : Some holds ≡ Some h → holds ≡ h
      same e = cc
  fact_level GroundCond-F.Neither h e = cc
  fact_level (GroundCond-F.Atom atom) h e = cc
  fact_level (GroundCond-F.Compare relation form) h e = cc
  fact_level (GroundCond-F.Not part) h e = cc
  fact_level (GroundCond-F.And parts) h e = cc
  fact_level (GroundCond-F.Or parts) h e = cc

  fact_truth : (g : GroundCond) (holds : Bool) → fact_of g ≡ Some holds → ground_truth task sight g ≡ truth_of holds
  unfolding FactLayer
  fact_truth = ind-GroundCond (λ g. (holds : Bool) → fact_of g ≡ Some holds → ground_truth task sight g ≡ truth_of holds) (λ x y is holds e.
      fold-roll-GroundCond Truth (ground_truth_step task sight) x ∙ fact_level x holds (sym (fold-roll-GroundCond (Option Bool) fact_step x) ∙ e))

  pub of_negation : (g : GroundCond) → ground_truth task sight (negation g) ≡ not_of (ground_truth task sight g)
  of_negation g = by (fact_of g) refl
    where
      by : (fact : Option Bool) → fact_of g ≡ fact → ground_truth task sight (negation_by fact g) ≡ not_of (ground_truth task sight g)
      by (Some holds) e = of_fact (not holds) ∙ truth-not holds ∙ ap not_of (sym (fact_truth g holds e))
      by None e = of_not g

  all_kept : (gs : List GroundCond) → all_of (map (ground_truth task sight) (filter (λ g. not (is_fact true (fact_of g))) gs)) ≡ all_of (map (ground_truth task sight) gs)
  all_kept [] = refl
  all_kept (g ∷ gs) = by (all_kept gs) (fact_of g) refl
    where
      by : (all_of (map (ground_truth task sight) (filter (λ g. not (is_fact true (fact_of g))) gs)) ≡ all_of (map (ground_truth task sight) gs)) → (fact : Option Bool) → fact_of g ≡ fact →
          all_of (map (ground_truth task sight) (cond (not (is_fact true fact)) (g ∷ filter (λ g. not (is_fact true (fact_of g))) gs) (filter (λ g. not (is_fact true (fact_of g))) gs))) ≡ and_of (ground_truth task sight g) (all_of (map (ground_truth task sight) gs))
      by rest (Some true) e = rest ∙ sym (ap (λ (t : Truth). and_of t (all_of (map (ground_truth task sight) gs))) (fact_truth g true e))
      by rest (Some false) e = ap (and_of (ground_truth task sight g)) rest
      by rest None e = ap (and_of (ground_truth task sight g)) rest

  any_kept : (gs : List GroundCond) → any_of (map (ground_truth task sight) (filter (λ g. not (is_fact false (fact_of g))) gs)) ≡ any_of (map (ground_truth task sight) gs)
  any_kept [] = refl
  any_kept (g ∷ gs) = by (any_kept gs) (fact_of g) refl
    where
      by : (any_of (map (ground_truth task sight) (filter (λ g. not (is_fact false (fact_of g))) gs)) ≡ any_of (map (ground_truth task sight) gs)) → (fact : Option Bool) → fact_of g ≡ fact →
          any_of (map (ground_truth task sight) (cond (not (is_fact false fact)) (g ∷ filter (λ g. not (is_fact false (fact_of g))) gs) (filter (λ g. not (is_fact false (fact_of g))) gs))) ≡ or_of (ground_truth task sight g) (any_of (map (ground_truth task sight) gs))
      by rest (Some false) e = rest ∙ sym (ap (λ (t : Truth). or_of t (any_of (map (ground_truth task sight) gs))) (fact_truth g false e) ∙ not-twice (any_of (map (ground_truth task sight) gs)))
      by rest (Some true) e = ap (or_of (ground_truth task sight g)) rest
      by rest None e = ap (or_of (ground_truth task sight g)) rest

  pub of_conjunction : (gs : List GroundCond) → ground_truth task sight (conjunction gs) ≡ all_of (map (ground_truth task sight) gs)
  of_conjunction gs = of_and (filter (λ g. not (is_fact true (fact_of g))) gs) ∙ all_kept gs

  pub of_disjunction : (gs : List GroundCond) → ground_truth task sight (disjunction gs) ≡ any_of (map (ground_truth task sight) gs)
  of_disjunction gs = of_or (filter (λ g. not (is_fact false (fact_of g))) gs) ∙ any_kept gs

  pub of_both : (outer inner : GroundCond) → ground_holds task sight (both_hold outer inner) ≡ (ground_holds task sight outer && ground_holds task sight inner)
  of_both outer inner = by (fact_of inner) refl
    where
      and_true : (b : Bool) → b ≡ (b && true)
      and_true true = refl
      and_true false = refl

      joined : is_yes (ground_truth task sight (conjunction (outer ∷ inner ∷ []))) ≡ (is_yes (ground_truth task sight outer) && is_yes (ground_truth task sight inner))
      joined =
          ap is_yes (of_conjunction (outer ∷ inner ∷ []) ∙ ap (and_of (ground_truth task sight outer)) (and-yes (ground_truth task sight inner)))
          ∙ is_yes-and (ground_truth task sight outer) (ground_truth task sight inner)

      by : (fact : Option Bool) → fact_of inner ≡ fact → is_yes (ground_truth task sight (cond (is_fact true fact) outer (conjunction (outer ∷ inner ∷ [])))) ≡ (is_yes (ground_truth task sight outer) && is_yes (ground_truth task sight inner))
      by (Some true) e = and_true (is_yes (ground_truth task sight outer)) ∙ ap (λ (t : Truth). is_yes (ground_truth task sight outer) && is_yes t) (sym (fact_truth inner true e))
      by (Some false) e = joined
      by None e = joined
