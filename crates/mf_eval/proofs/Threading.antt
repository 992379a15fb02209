-- One more effect fired after a front of changes.
use Rattle.std.proofs.Common.{◌≡◌, ℕ, ◌+◌, ◌<◌, List, ◌∷◌, length, get_or, drop, Result, Ok, sym, ap, ◌∙◌, subst}
use Rattle.std.proofs.lemmas.List.{drop_more}
use Rattle.mf_fraction.specs.declared.faults.Wide.{Wide}
use Rattle.mf_model.specs.declared.task.Effect.{Effect}
use Rattle.mf_model.specs.Application.{Change}
use Rattle.mf_model.specs.Views.{Look}
use Rattle.mf_eval.specs.declared.fault.ApplyFault.{ApplyFault}
use Rattle.mf_eval.specs.declared.fault.ApplyFault.TheVariants as fault
use Rattle.mf_eval.specs.Answers.{◌>>=◌}
use Rattle.mf_eval.specs.Fired.{fired, fired_parts, threaded}
use Rattle.mf_eval.specs.Outcome.{Fails}

pub Fails-bind : {A B : Type 0} (r : Result A Wide) (k : A → Result B Wide) (e : ApplyFault) → Fails r e → Fails (r >>= k) e
Fails-bind r k fault.Wide h = ap (λ q. q >>= k) h
Fails-bind r k (fault.NotApplicable why) h = absurd h
Fails-bind r k fault.Memory h = tt

module _ (objects : List (List ℕ)) (look : Look) (parts : List Effect) (i : ℕ) (part : Effect) (b os : List ℕ) (front : List Change) (total : Result (List Change) Wide) (within : i < length parts) (is : part ≡ get_or parts i part) (same : os ≡ b) (rest : threaded (fired_parts objects look (drop i parts) b) front ≡ total) where
  opened : (fired objects look part os front >>= λ next. threaded (fired_parts objects look (drop (i + 1) parts) b) next) ≡ total
  opened =
      ap (λ (x : List ℕ). fired objects look part x front >>= λ next. threaded (fired_parts objects look (drop (i + 1) parts) b) next) same
      ∙ sym (ap (λ (l : List Effect). threaded (fired_parts objects look l b) front) (drop_more parts i part within)
      ∙ ap (λ (p : Effect). threaded (fired_parts objects look (p ∷ drop (i + 1) parts) b) front) (sym is))
      ∙ rest

  pub threaded_more : (next : List Change) → fired objects look part os front ≡ Ok next → threaded (fired_parts objects look (drop (i + 1) parts) b) next ≡ total
  threaded_more next e =
      sym (ap (λ (r : Result (List Change) Wide). r >>= λ new. threaded (fired_parts objects look (drop (i + 1) parts) b) new) e) ∙ opened

  pub threaded_fails : (e : ApplyFault) → Fails (fired objects look part os front) e → Fails total e
  threaded_fails e h =
      subst (λ (r : Result (List Change) Wide). Fails r e) opened (Fails-bind (fired objects look part os front) (λ next. threaded (fired_parts objects look (drop (i + 1) parts) b) next) e h)
