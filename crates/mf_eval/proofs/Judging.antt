-- Facts on the walks over conditions and effects.
use Rattle.std.proofs.Common.{◌≡◌, ℕ, suc, zero, ◌<◌, ◌≤◌, List, [], ◌∷◌, length, map, get_or, Ok, sym, ap, ◌∙◌, arith, rules}
use Rattle.mf_model.specs.declared.task.Cond.{Cond, the_lemmas}
use Rattle.mf_model.specs.declared.task.Cond.TheVariants.{Atom}
use Rattle.mf_model.specs.declared.task.Term.{Term}
use Rattle.mf_model.specs.declared.truth.Truth.{Truth}
use Rattle.mf_model.specs.Meaning.{truth_of}
use Rattle.mf_model.specs.Views.{Look, objects_of}
use Rattle.mf_eval.specs.Judged.{judged}
use Rattle.mf_model.specs.Trees.{greatest}

pub within_greatest : {A : Type 0} (f : A → ℕ) (parts : List A) (i : ℕ) (d : A) → i < length parts → f (get_or parts i d) ≤ greatest (map f parts)
within_greatest f [] i d h = absurd (omega arith)
within_greatest f (part ∷ parts) zero d h = omega arith
within_greatest f (part ∷ parts) (suc i) d h = omega (arith, within_greatest f parts i d (omega arith))

judged-atom : (objects : List (List ℕ)) (look : Look) (p : ℕ) (terms : List Term) (b : List ℕ) → judged objects look (Atom p terms) b ≡ Ok (truth_of (look.atom p (objects_of b terms)))
judged-atom objects look p terms b = search (rules, the_lemmas)

pub judged-atom_arm : (objects : List (List ℕ)) (look : Look) (condition : Cond) (p : ℕ) (terms : List Term) (b os : List ℕ) (truth : Truth) → condition ≡ Atom p terms → os ≡ b → truth ≡ truth_of (look.atom p (objects_of os terms)) → Ok truth ≡ judged objects look condition b
judged-atom_arm objects look condition p terms b os truth e f g =
    ap Ok (g ∙ ap (λ (x : List ℕ). truth_of (look.atom p (objects_of x terms))) f)
    ∙ sym (ap (λ (x : Cond). judged objects look x b) e ∙ judged-atom objects look p terms b)
